-- A visit that ends within its line is drawn as it is.
use Rattle.std.proofs.Common.{◌≡◌, ℕ, ◌+◌, ◌-◌, ◌*◌, ◌≤◌, Bool, true, false, cond, [], ◌∷◌, refl, arith, le-ltb}
use Rattle.units.specs.Places.{at}
use Rattle.log_records.specs.declared.VisitEntry.{VisitEntry}
use Rattle.tallies.specs.declared.Lap.{Lap}
use Rattle.text.specs.Phrases.{phrase}
use Rattle.pictures.specs.Parts.{placed, synchronous_at, asynchronous_at, walk_at, end_at, limit_at, drawn_to, bar_of, line_of, cut_mark}
use Rattle.pictures.specs.Promised.{DrawnWhole}
use Rattle.pictures.specs.declared.Shape.{Shape}
use Rattle.pictures.specs.declared.Shape.TheVariants as shape
use Rattle.pictures.specs.declared.Scene.{Scene}

bar_whole : (s : Shape) (c : Scene) (from ticks : ℕ) → from + ticks ≤ c.bound
    → bar_of s c from ticks ≡ phrase s (100 * from ∷ c.bound ∷ 100 * ticks ∷ 2 * c.bound ∷ 0 ∷ 0 ∷ [])
bar_whole s c from ticks h =
    let wide : placed c (from + ticks) - placed c from ≡ 100 * ticks = omega arith in
    let begin : placed c from ≡ 100 * from = omega arith in
    rw (wide, begin) refl

line_whole : (s : Shape) (c : Scene) (height from ticks end : ℕ) → from + ticks ≡ end → end ≤ c.bound
    → line_of s c height from ticks
    ≡ phrase s (100 * from ∷ height * c.bound ∷ 100 * end ∷ height * c.bound ∷ 0 ∷ 0 ∷ [])
line_whole s c height from ticks end e h =
    let ends : placed c (from + ticks) ≡ 100 * end = omega arith in
    let begin : placed c from ≡ 100 * from = omega arith in
    rw (ends, begin) refl

-- of two parts, each ends before the walk does, in either order
second_ends : (b : Bool) (from x y w : ℕ) → cond b (from + y) from + x ≤ from + (x + y + w)
second_ends true from x y w = omega arith
second_ends false from x y w = omega arith

first_ends : (b : Bool) (from x y w : ℕ) → cond b from (from + x) + y ≤ from + (x + y + w)
first_ends true from x y w = omega arith
first_ends false from x y w = omega arith

module _ (c : Scene) (l : Lap) (v : VisitEntry) where
  synchronous_ends : synchronous_at c l v + v.synchronous ≤ end_at c l v
  unfolding synchronous_at
  synchronous_ends = second_ends c.earlier l.elapsed v.synchronous v.asynchronous (at c.w v.station)

  asynchronous_ends : asynchronous_at c l v + v.asynchronous ≤ end_at c l v
  unfolding asynchronous_at
  asynchronous_ends = first_ends c.earlier l.elapsed v.synchronous v.asynchronous (at c.w v.station)

  pub whole : end_at c l v ≤ c.bound → DrawnWhole c l v
  unfolding cut_mark
  whole h =
      record {
        synchronous = bar_whole shape.Synchronous c _ _ (omega (arith, synchronous_ends));
        asynchronous = bar_whole shape.Asynchronous c _ _ (omega (arith, asynchronous_ends));
        walk = line_whole shape.Walk c 2 (walk_at l v) _ (end_at c l v) (omega arith) h;
        limit = λ ends. line_whole shape.Limit c 3 (asynchronous_at c l v) _ (limit_at c l v) refl ends;
        not_cut = λ ends.
            let all : drawn_to c l v ≤ c.bound = omega arith in
            rw (le-ltb _ _ all) refl;
      }
