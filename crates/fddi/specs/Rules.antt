-- 02, No. 1: FDDI's X, over the whole vector. The rules themselves, with F of No. 4 and the grid of No. 8, are those of every mode (`Vectors` of `units`). A vector is any S at each station.
use Rattle.std.specs.Prelude.{ℕ, zero, suc, ◌+◌, ◌-◌, ◌*◌, ◌<◌, min, ◌≡◌, Bool}
use Rattle.units.specs.Places.{at, sum_below, sum_from}
use Rattle.units.specs.Vectors.{whole_rotations, Terms, RulesKept, token_kept}
use Rattle.fddi.specs.declared.Load.{Load}

-- ---- the rules

-- N, and no more stations than there are places
abbrev pub stations : Load → ℕ
stations l = min l.n 128

-- r, the rest: D − q·TTRT
abbrev pub rest : ℕ → ℕ → ℕ
rest ttrt d = d - whole_rotations ttrt d * ttrt

-- (q − 1)·S plus what is over, held between 0 and S; for q = 0 it is 0. A difference of whole numbers is held at 0 already
unfoldable pub time_with : ℕ → ℕ → ℕ → ℕ
time_with zero over s = 0
time_with (suc k) over s = k * s + min over s

-- X, where `away` ticks of a rotation are not the station's own
abbrev pub least_time : ℕ → ℕ → ℕ → ℕ → ℕ
least_time ttrt d away s = time_with (whole_rotations ttrt d) (rest ttrt d - away) s

-- the other stations' S: those before station i, and those after it
abbrev pub others : ℕ → (ℕ → ℕ) → ℕ → ℕ
others n s i = sum_below i s + sum_from (i + 1) n s

-- X at station i (003, Theorem 2): what is over is r − τ − the other stations' S, with τ grown by F − 1 (No. 4)
abbrev pub time_at : Load → (ℕ → ℕ) → ℕ → ℕ
time_at l s i = least_time l.ttrt (at l.d i) (l.lost + others (stations l) s i) (s i)

-- what a vector is held to
abbrev pub terms_of : Load → Terms
terms_of l =
    record { n = stations l; ttrt = l.ttrt; lost = l.lost; grid = l.grid; longest = at l.c; time = time_at l }

-- the rules, of any vector of numbers whatever
abbrev pub MeetsFddi : Load → (ℕ → ℕ) → Type 0
MeetsFddi l = RulesKept (terms_of l)

-- the token rule, as a test
abbrev pub token_fits : Load → (ℕ → ℕ) → Bool
token_fits l = token_kept l.ttrt l.lost (stations l)

-- two loads agree in all that is ever looked at
pub record SameLoad (a b : Load) : Type 0 where
  pub count : a.n ≡ b.n
  pub ttrt : a.ttrt ≡ b.ttrt
  pub lost : a.lost ≡ b.lost
  pub grid : a.grid ≡ b.grid
  pub longest : (i : ℕ) → i < stations a → at a.c i ≡ at b.c i
  pub deadline : (i : ℕ) → i < stations a → at a.d i ≡ at b.d i
