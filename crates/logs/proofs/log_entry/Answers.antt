-- `log_entry` is right because it hands out the visit or the mark where a whole one stands, and else the blank entry.
use Rattle.std.proofs.Common.{◌≡◌, ◌+◌, ◌≤◌, true, false, length, sym, refl, ◌∙◌, arith, le-leb}
use Rattle.log_records.specs.Visit.{visit_or_blank, visit_stands}
use Rattle.log_records.specs.Mark.{mark_or_blank, mark_stands}
use Rattle.log_records.specs.Entry.{next_entry}
use Rattle.log_records.proofs.VisitLaws.{visit_there}
use Rattle.log_records.proofs.MarkLaws.{mark_there}
use Rattle.logs.proofs.log_entry.Goals as goal

pub overflow_add-result : goal.overflow_add-result
overflow_add-result c =
    let visit_inside : let args = c.args in
    (visit_stands args.log.now args.at ≡ true) × (args.at + 20 ≤ length args.log.now) = let args = c.args in
    let stands = sym c.visit_stands.ensures ∙ c.if-visit_stands.true in
    (stands, (visit_there args.log.now args.at stands).inside) in
    let inside = visit_inside.1 in omega arith

pub returns-then-visit_stands : goal.returns-then-visit_stands
unfolding next_entry visit_or_blank
returns-then-visit_stands c =
    let visit_inside : let args = c.args in
    (visit_stands args.log.now args.at ≡ true) × (args.at + 20 ≤ length args.log.now) = let args = c.args in
    let stands = sym c.visit_stands.ensures ∙ c.if-visit_stands.true in
    (stands, (visit_there args.log.now args.at stands).inside) in
    let there = visit_inside in rw (c.visit_at.ensures, le-leb _ _ there.1, there.0) refl

pub overflow_add-result-then-mark_stands : goal.overflow_add-result-then-mark_stands
overflow_add-result-then-mark_stands c =
    let mark_inside : let args = c.args in
    (mark_stands args.log.now args.at ≡ true) × (args.at + 5 ≤ length args.log.now) = let args = c.args in
    let stands = sym c.mark_stands.ensures ∙ c.if-mark_stands.true in
    (stands, (mark_there args.log.now args.at stands).inside) in
    let inside = mark_inside.1 in omega arith

pub returns-then-mark_stands : goal.returns-then-mark_stands
unfolding next_entry mark_or_blank
returns-then-mark_stands c =
    let mark_inside : let args = c.args in
    (mark_stands args.log.now args.at ≡ true) × (args.at + 5 ≤ length args.log.now) = let args = c.args in
    let stands = sym c.mark_stands.ensures ∙ c.if-mark_stands.true in
    (stands, (mark_there args.log.now args.at stands).inside) in
    let no_visit : let args = c.args in visit_stands args.log.now args.at ≡ false = sym c.visit_stands.ensures ∙ c.if-visit_stands.false in
    let there = mark_inside in
    rw (c.mark_at.ensures, le-leb _ _ there.1, no_visit, there.0) refl

pub returns : goal.returns
unfolding next_entry
returns c =
    let no_visit : let args = c.args in visit_stands args.log.now args.at ≡ false = sym c.visit_stands.ensures ∙ c.if-visit_stands.false in
    rw (c.blank_visit.ensures, no_visit, sym c.mark_stands.ensures ∙ c.if-mark_stands.false) refl
