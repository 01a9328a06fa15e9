-- Where reading stops for a record that is drawn, and what is left.
use Rattle.std.proofs.Common.{◌≡◌, ℕ, ◌+◌, true, false, List, [], ◌∷◌, Some, sym, refl, ap, ⊎_elim, true≢false, arith}
use Rattle.units.proofs.JudgingLaws.{true_or_false}
use Rattle.picture_stream.specs.Watching.{step_watched, stops_at, drawn_at, watched_from, watch_over, drawn_over}
use Rattle.picture_stream.specs.Promised.{GoesOn}
use Rattle.picture_stream.specs.declared.Window.{Window}
use Rattle.picture_stream.specs.declared.Watching.{Watching}
use Rattle.picture_stream.specs.declared.Watched.{Watched}

module _ (x : Window) (k : Watching) (at : ℕ) (b : ℕ) (bs : List ℕ) where
  -- it stops behind this byte
  stops_here : stops_at x k b ≡ true → GoesOn x k at (b ∷ bs) (record { watching = step_watched k b; at = at + 1; drawn = Some (drawn_at k b) })
  unfolding watch_over drawn_over
  stops_here h =
      record {
        rest = bs;
        passed = b ∷ [];
        cut = refl;
        place = refl;
        read = refl;
        drawn = rw h refl;
        all = λ e. absurd (true≢false e);
        moved = λ e. omega arith;
      }

  -- or goes on
  passes_here : (r : Watched) → stops_at x k b ≡ false → GoesOn x (step_watched k b) (at + 1) bs r → GoesOn x k at (b ∷ bs) r
  unfolding watch_over drawn_over
  passes_here r h g =
      record {
        rest = g.rest;
        passed = b ∷ g.passed;
        cut = ap (λ (xs : List ℕ). b ∷ xs) g.cut;
        place = omega (arith, g.place);
        read = g.read;
        drawn = rw h g.drawn;
        all = g.all;
        moved = λ e. omega arith;
      }

  one_byte : GoesOn x (step_watched k b) (at + 1) bs (watched_from x (step_watched k b) (at + 1) bs) → GoesOn x k at (b ∷ bs) (watched_from x k at (b ∷ bs))
  unfolding watched_from
  one_byte g =
      ⊎_elim (λ (h : stops_at x k b ≡ true). rw h (stops_here h)) (λ (h : stops_at x k b ≡ false). rw h (passes_here (watched_from x (step_watched k b) (at + 1) bs) h g))
      (true_or_false (stops_at x k b))

pub goes_on : (x : Window) (k : Watching) (at : ℕ) (bs : List ℕ) → GoesOn x k at bs (watched_from x k at bs)
unfolding watched_from watch_over drawn_over
goes_on x k at [] =
    record {
      rest = [];
      passed = [];
      cut = refl;
      place = omega arith;
      read = refl;
      drawn = refl;
      all = λ e. refl;
      moved = λ e. absurd (true≢false (sym e));
    }
goes_on x k at (b ∷ bs) = one_byte x k at b bs (goes_on x (step_watched k b) (at + 1) bs)
