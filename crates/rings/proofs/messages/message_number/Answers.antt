-- `message_number` is right because it asks the definition's tests in the definition's order, and stops at the first that fails.
use Rattle.std.proofs.Common.{◌∙◌, sym}
use borrow.Author.Tests.{lt-ltb, le-ltb, le-leb, lt-leb}
use Rattle.rings.proofs.RingLaws.{message_9, message_10, message_11, message_15, message_12, message_0}
use Rattle.rings.proofs.messages.message_number.Goals as goal

pub returns-then-from-m : goal.returns-then-from-m
returns-then-from-m c =
    sym (message_9 c.args.ring.now c.args.m (le-ltb _ _ (rw c.from.ensures at c.if-from-m.true)))

pub returns-then-not-fits : goal.returns-then-not-fits
returns-then-not-fits c =
    let known = lt-ltb _ _ (rw c.from.ensures at c.if-from-m.false) in
    sym (message_10 c.args.ring.now c.args.m known (rw c.from-2.ensures at c.if-not-fits.true))

pub returns-then-not-free : goal.returns-then-not-free
returns-then-not-free c =
    let known = lt-ltb _ _ (rw c.from.ensures at c.if-from-m.false) in
    sym (message_11 c.args.ring.now c.args.m known (rw c.from-2.ensures at c.if-not-fits.false) c.if-not-free.true)

pub returns-then-ring-m : goal.returns-then-ring-m
returns-then-ring-m c =
    let known = lt-ltb _ _ (rw c.from.ensures at c.if-from-m.false) in
    sym (message_15 c.args.ring.now c.args.m known (rw c.from-2.ensures at c.if-not-fits.false) c.if-not-free.false (lt-leb _ _ c.if-ring-m.true))

pub returns-then-not-arrival_allowed : goal.returns-then-not-arrival_allowed
returns-then-not-arrival_allowed c =
    let known = lt-ltb _ _ (rw c.from.ensures at c.if-from-m.false) in
    sym
    (message_12 c.args.ring.now c.args.m known (rw c.from-2.ensures at c.if-not-fits.false) c.if-not-free.false (le-leb _ _ c.if-ring-m.false)
    (sym c.arrival_allowed.ensures ∙ c.if-not-arrival_allowed.true))

pub returns : goal.returns
returns c =
    let known = lt-ltb _ _ (rw c.from.ensures at c.if-from-m.false) in
    sym
    (message_0 c.args.ring.now c.args.m known (rw c.from-2.ensures at c.if-not-fits.false) c.if-not-free.false (le-leb _ _ c.if-ring-m.false)
    (sym c.arrival_allowed.ensures ∙ c.if-not-arrival_allowed.false))
