-- 4: each number with its range, by its place: the header's by their tags (1 TTRT, 4 the mode, 5 F, 6 g), a station's in their order (0 w, 1 C, 2 D, 3 P, 4 S).
use Rattle.std.specs.Prelude.{ℕ, ◌<◌, ◌≡◌, false, true, cond, not, ◌⊎◌, eqb}
use Rattle.units.specs.Numbers.{most_ttrt, last_mode, most_frame, most_grid, most_walk, most_c, most_d, most_p, most_s}
use Rattle.units.specs.Judging.{between}
use Rattle.units.specs.Places.{at}
use Rattle.fields.specs.Fields.{head_tag, mode_tag, frame_tag}
use Rattle.sets.specs.declared.Head.{Head}
use Rattle.sets.specs.declared.Set.{Set}
use Rattle.plans.specs.declared.Alloc.{Alloc}
use Rattle.differences.specs.Views.{HeaderTag, nth_of, header_of}
use Rattle.faults.specs.declared.Ranged.{Ranged}

-- a number, the range that it is held to, and whether it is out of it
abbrev pub ranged : ℕ → ℕ → ℕ → Ranged
ranged low high x = record { value = x; low = low; high = high; out = not (between low high x) }

-- the largest that a number of the header may be; the least is 1
unfoldable pub header_high : ℕ → ℕ
header_high tag =
    cond (eqb tag head_tag) most_ttrt (cond (eqb tag mode_tag) last_mode (cond (eqb tag frame_tag) most_frame most_grid))

-- the number of a header's field
abbrev pub header_range : Head → ℕ → Ranged
header_range h tag = ranged 1 (header_high tag) (header_of h tag)

-- number j of a station with these five; P is at least D
abbrev pub station_range : ℕ → ℕ → ℕ → ℕ → ℕ → ℕ → Ranged
station_range w c d p s j = ranged (nth_of 0 0 1 d 0 j) (nth_of most_walk most_c most_d most_p most_s j) (nth_of w c d p s j)

-- of station i of a set and an allocation
abbrev pub range_at : Set → Alloc → ℕ → ℕ → Ranged
range_at t a i j = station_range (at t.w i) (at t.c i) (at t.d i) (at t.p i) (at a.s i) j

-- no number of the header is out of its range, and none of the first k of a station: 4 of a request, 5 of a plan
pub record NoneOut (t : Set) (a : Alloc) (k : ℕ) : Type 0 where
  pub header : (tag : ℕ) → HeaderTag tag → (header_range t.head tag).out ≡ false
  pub stations : (i j : ℕ) → i < t.n → j < k → (range_at t a i j).out ≡ false

-- some number is
abbrev pub SomeOut : Set → Alloc → ℕ → Type 0
SomeOut t a k =
    ((tag : ℕ) × (HeaderTag tag × ((header_range t.head tag).out ≡ true)))
    ⊎ ((i : ℕ) × ((j : ℕ) × ((i < t.n) × ((j < k) × ((range_at t a i j).out ≡ true)))))
