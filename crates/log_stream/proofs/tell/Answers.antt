-- `tell` is right because it asks for the tags in the definition's order.
use mathlib.Core.Path.{◌≡◌, refl, sym, ◌∙◌}
use mathlib.Core.Bool.{Bool, true, ◌||◌}
use borrow.Author.Tests.{eq-eqb, ne_eqb}
use lib.Dec.{eqb}
use Rattle.logs.specs.Records.{is_record}
use Rattle.log_stream.specs.Pieces.{told}
use Rattle.log_stream.proofs.tell.Goals as goal

-- what the two tests say together
either : (a b c d : Bool) → a ≡ c → b ≡ d → (a || b) ≡ (c || d)
either a b c d p q = rw (p, q) refl

pub returns-then-v-ne3 : goal.returns-then-v-ne3
unfolding told
returns-then-v-ne3 c =
    rw (ne_eqb _ 3 c.if-v-ne3.true)

pub returns-then-visit-mark : goal.returns-then-visit-mark
unfolding told
returns-then-visit-mark c =
    let three : eqb c.args.v.count 3 ≡ true = eq-eqb _ 3 c.if-v-ne3.false in
    let is_record_lem : (c.begins_with-visit.result || c.begins_with-mark.result) ≡ is_record c.args.v.bytes 0 = either _ _ _ _ c.begins_with-visit.ensures c.begins_with-mark.ensures in
    rw (three, sym is_record_lem ∙ c.if-visit-mark.true)

pub returns-then-begins_with : goal.returns-then-begins_with
unfolding told
returns-then-begins_with c =
    let three : eqb c.args.v.count 3 ≡ true = eq-eqb _ 3 c.if-v-ne3.false in
    let is_record_lem : (c.begins_with-visit.result || c.begins_with-mark.result) ≡ is_record c.args.v.bytes 0 = either _ _ _ _ c.begins_with-visit.ensures c.begins_with-mark.ensures in
    rw (three, sym is_record_lem ∙ c.if-visit-mark.false, sym c.begins_with.ensures ∙ c.if-begins_with.true)

pub returns : goal.returns
unfolding told
returns c =
    let three : eqb c.args.v.count 3 ≡ true = eq-eqb _ 3 c.if-v-ne3.false in
    let is_record_lem : (c.begins_with-visit.result || c.begins_with-mark.result) ≡ is_record c.args.v.bytes 0 = either _ _ _ _ c.begins_with-visit.ensures c.begins_with-mark.ensures in
    rw (three, sym is_record_lem ∙ c.if-visit-mark.false, sym c.begins_with.ensures ∙ c.if-begins_with.false)
    c.with_fault.ensures
