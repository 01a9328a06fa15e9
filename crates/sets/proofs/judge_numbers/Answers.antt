-- `judge_numbers` is right because its two tests are the definition's, in the definition's order.
use mathlib.Core.Path.{◌≡◌, refl, sym, ◌∙◌}
use mathlib.Core.Bool.{◌&&◌}
use Rattle.units.proofs.JudgingLaws.{held, failed}
use Rattle.sets.specs.declared.Set.{Set}
use Rattle.sets.specs.Lent.{set_of}
use Rattle.sets.specs.Rules.{CountAllowed, numbers_allowed}
use Rattle.sets.proofs.SetLaws.{decides_count}
use Rattle.sets.proofs.judge_numbers.Goals as goal

pub returns-then-not-within : goal.returns-then-not-within
returns-then-not-within c = sym (failed _ _ _ (sym c.within.ensures ∙ c.if-not-within.true))

pub stations_in_range-requires : goal.stations_in_range-requires
stations_in_range-requires c =
    let lent : Set = let args = c.args in set_of args.h args.n args.w.now args.c.now args.d.now args.p.now in
    let count_allowed_lem : CountAllowed lent = (decides_count lent).0 (sym c.within.ensures ∙ c.if-not-within.false) in
    count_allowed_lem.1

pub returns-then-not-numbers_fit : goal.returns-then-not-numbers_fit
returns-then-not-numbers_fit c =
    let lent : Set = let args = c.args in set_of args.h args.n args.w.now args.c.now args.d.now args.p.now in
    let numbers_said : (c.head_in_range.result && c.stations_in_range.result) ≡ numbers_allowed lent = rw (c.head_in_range.ensures, c.stations_in_range.ensures) refl in
    sym (held _ _ _ (sym c.within.ensures ∙ c.if-not-within.false) ∙ failed _ _ _ (sym numbers_said ∙ c.if-not-numbers_fit.true))

pub returns : goal.returns
returns c =
    let lent : Set = let args = c.args in set_of args.h args.n args.w.now args.c.now args.d.now args.p.now in
    let numbers_said : (c.head_in_range.result && c.stations_in_range.result) ≡ numbers_allowed lent = rw (c.head_in_range.ensures, c.stations_in_range.ensures) refl in
    sym (held _ _ _ (sym c.within.ensures ∙ c.if-not-within.false) ∙ held _ _ _ (sym numbers_said ∙ c.if-not-numbers_fit.false))
