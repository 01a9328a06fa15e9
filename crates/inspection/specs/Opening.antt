-- An inspection before its first record: the silent first rotation has ended, and the token is at station 0.
use Rattle.std.specs.Prelude.{◌≡◌, ℕ, ◌%◌, ◌^◌, true, List, length}
use Rattle.units.specs.Places.{at, sum_below, fill}
use Rattle.sets.specs.Rules.{tau}
use Rattle.sets.specs.Judged.{zeros}
use Rattle.sets.specs.Lent.{set_of}
use Rattle.sets.specs.declared.Head.{Head}
use Rattle.sets.specs.declared.Set.{Set}
use Rattle.plans.specs.Lent.{alloc_of}
use Rattle.plans.specs.declared.Alloc.{Alloc}
use Rattle.inspection.specs.declared.Inspection.{Inspection}

-- when the silent first rotation passed each of n stations, counted from its beginning: at the sum of w before the station
unfoldable pub passing_times : ℕ → List ℕ → List ℕ
passing_times n w = fill n (λ i. sum_below i (at w) % 2 ^ 32) zeros

-- τ has passed, nothing was sent, no station is marked, and u is the sum of S
unfoldable pub begun : Set → Alloc → Inspection
begun t a =
    record {
      base = passing_times t.n t.w;
      sent = zeros;
      mark = zeros;
      course =
          record {
            token = 0;
            clock = tau t % 2 ^ 32;
            unused = sum_below t.n (at a.s) % 2 ^ 32;
            first = true;
            start = 0;
            span = 0;
          };
      records = 0;
      rule = 0;
    }

-- r is the one of a plan with these w and S, of 128 places each: the header, C, D and P have no part in it
abbrev pub BegunLent : ℕ → List ℕ → List ℕ → Inspection → Type 0
BegunLent n w s r =
    length w ≡ 128 → length s ≡ 128 → (head : Head) (c d p : List ℕ) → r ≡ begun (set_of head n w c d p) (alloc_of s)
