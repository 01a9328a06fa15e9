-- `make_room` is right because it lets the oldest go exactly where sixteen are kept.
use Prim.Native.Nat.{ℕ, ◌+◌, ◌≤◌}
use mathlib.Core.Path.{◌≡◌, ap}
use native.Mathlib.Omega.{arith}
use lib.ListN.{length}
use Rattle.versions.specs.Area.{place_of}
use Rattle.versions.proofs.AnswerLaws.{room_enough, oldest_field, behind_oldest, end_inside, oldest_before, room_made}
use Rattle.versions.proofs.storing.make_room.Goals as goal

pub returns-then-count-ne-MOST_KEPT : goal.returns-then-count-ne-MOST_KEPT
returns-then-count-ne-MOST_KEPT c =
    room_enough c.requires c.if-count-ne-MOST_KEPT.true

pub size_at-by-requires : goal.size_at-by-requires
size_at-by-requires c =
    let l : 3 ≤ length c.args.area.now = omega (arith, (oldest_field c.requires c.if-count-ne-MOST_KEPT.false).start) in
    l

pub drop_oldest-requires : goal.drop_oldest-requires
drop_oldest-requires c =
    let by_is : c.size_at-by.result + 3 ≡ place_of c.args.area.now 1 = behind_oldest c.requires c.if-count-ne-MOST_KEPT.false _ (ap (λ (k : ℕ). k + 3) c.size_at-by.ensures.is) in
    let pre = c.requires in
    record { order = omega (arith, by_is, oldest_before pre c.if-count-ne-MOST_KEPT.false); inside = end_inside pre c.if-count-ne-MOST_KEPT.false }

pub overflow_sub-result : goal.overflow_sub-result
overflow_sub-result c =
    let by_is : c.size_at-by.result + 3 ≡ place_of c.args.area.now 1 = behind_oldest c.requires c.if-count-ne-MOST_KEPT.false _ (ap (λ (k : ℕ). k + 3) c.size_at-by.ensures.is) in
    omega (arith, by_is, oldest_before c.requires c.if-count-ne-MOST_KEPT.false)

pub returns : goal.returns
returns c =
    let by_is : c.size_at-by.result + 3 ≡ place_of c.args.area.now 1 = behind_oldest c.requires c.if-count-ne-MOST_KEPT.false _ (ap (λ (k : ℕ). k + 3) c.size_at-by.ensures.is) in
    room_made c.requires c.if-count-ne-MOST_KEPT.false _ by_is _ c.drop_oldest.ensures
