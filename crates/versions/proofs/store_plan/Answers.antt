-- `store_plan` is right because it keeps the first refusal; else there is room, and the version is laid behind those that stay.
use Prim.Native.Nat.{ℕ, ◌+◌, ◌<◌}
use mathlib.Core.Path.{◌≡◌, sym, ap, ◌∙◌}
use native.Mathlib.Omega.{arith}
use Rattle.sheets.specs.Reading.{read_plan}
use Rattle.versions.specs.Layout.{last_version}
use Rattle.versions.specs.Area.{newest_in}
use Rattle.versions.proofs.AreaLaws.{is_plan_lem, plan_short, store_here}
use Rattle.versions.proofs.AnswerLaws.{area_refused, area_accepted, stored_refused, number_area, number_sheet, number_used, stored_all, version_put, next_short}
use Rattle.versions.proofs.store_plan.Goals as goal

pub returns-in_default : goal.returns-in_default
returns-in_default c =
    let two = area_refused _ c.in_default.ensures in
    rw c.refused.ensures (stored_refused _ _ 2 (omega arith) (number_area _ _ (λ e. absurd (omega (arith, two, e))) ∙ two))

pub returns-then-number-ne-ACCEPTED : goal.returns-then-number-ne-ACCEPTED
returns-then-number-ne-ACCEPTED c =
    let held = c.in-Some.ensures in
    let same = c.plan_number-number.ensures in
    rw c.refused-then-number-ne-ACCEPTED.ensures
    (stored_refused _ _ _ c.if-number-ne-ACCEPTED.true (number_sheet _ _ (area_accepted _ held.store) (λ e. c.if-number-ne-ACCEPTED.true (same ∙ e)) ∙ sym same))

pub returns-then-newest : goal.returns-then-newest
returns-then-newest c =
    let held = c.in-Some.ensures in
    let read : (read_plan c.args.sheet.now).number ≡ 0 = sym c.plan_number-number.ensures ∙ c.if-number-ne-ACCEPTED.false in
    let newest : c.in-Some.held.before + c.in-Some.held.count ≡ newest_in c.args.area.now = omega (arith, held.before, held.count) in
    rw c.refused-then-newest.ensures (stored_refused _ _ 18 (omega arith) (number_used _ _ (area_accepted _ held.store) read (sym newest ∙ c.if-newest.true)))

pub put_version-requires : goal.put_version-requires
put_version-requires c =
    let read : (read_plan c.args.sheet.now).number ≡ 0 = sym c.plan_number-number.ensures ∙ c.if-number-ne-ACCEPTED.false in
    let held = c.in-Some.ensures in
    let args = c.args in
    let short = plan_short args.sheet.now (is_plan_lem args.sheet.now read) in
    let long = (store_here args.area.now held.store).long in
    let place = c.make_room-at.ensures.place in
    let next = next_short args.area.now in
    record { short = short; inside = omega arith }

pub returns : goal.returns
returns c =
    let held = c.in-Some.ensures in
    let newest : c.in-Some.held.before + c.in-Some.held.count ≡ newest_in c.args.area.now = omega (arith, held.before, held.count) in
    let read : (read_plan c.args.sheet.now).number ≡ 0 = sym c.plan_number-number.ensures ∙ c.if-number-ne-ACCEPTED.false in
    let args = c.args in
    let fresh : newest_in args.area.now < last_version = omega (arith, c.in-Some.ensures.newest, c.if-newest.false, newest) in
    rw newest
    (stored_all _ _ (area_accepted _ held.store) read fresh _
    (version_put _ _ c.make_room-at.ensures.area c.make_room-at.ensures.place (ap (λ (k : ℕ). k + 1) newest) c.put_version.ensures))
