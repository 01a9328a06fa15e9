-- 01, "Allocations", and 02, No. 1, 4 and 8, of a set: X by the mode, what a vector is held to, the spare time, and the smallest S. The rules themselves are those of `units`, said once for every mode (`Vectors`), with their tests. An allocation is any vector of numbers, S at each station.
use Rattle.std.specs.Prelude.{ℕ, ◌+◌, ◌-◌, ◌*◌, ◌≤◌, ◌<◌, ◌≡◌, Bool, cond, not, leb, eqb}
use Rattle.units.specs.Numbers.{timely, fddi, most_s}
use Rattle.units.specs.Grid.{MultipleOf}
use Rattle.units.specs.Places.{at, sum_below, all_below}
use Rattle.units.specs.Vectors.{whole_rotations, lost_time, Terms, DeadlinesKept, TokenKept, RulesKept, token_kept, rules_kept}
use Rattle.sets.specs.Rules.{tau, NumbersAllowed}
use Rattle.sets.specs.declared.Set.{Set}
use Rattle.fddi.specs.Rules as fddi-rules
use Rattle.fddi.specs.declared.Load.{Load}
use Rattle.plans.specs.declared.Alloc.{Alloc}

-- what no station of the set may plan with
abbrev pub lost : Set → ℕ
lost t = lost_time (tau t) t.head.frame

-- α = (m + 1)·TTRT − D, with m = D / TTRT rounded down
abbrev pub alpha : ℕ → ℕ → ℕ
alpha ttrt d = (whole_rotations ttrt d + 1) * ttrt - d

-- m·S + the larger of S − α and 0
abbrev pub time_with : ℕ → ℕ → ℕ → ℕ
time_with m α s = m * s + (s - α)

-- X, the least synchronous time in any interval D (000, Theorem 3)
abbrev pub least_time : ℕ → ℕ → ℕ → ℕ
least_time ttrt d s = time_with (whole_rotations ttrt d) (alpha ttrt d) s

-- the deadline rule at one station: X at least C
abbrev pub MeetsDeadline : ℕ → ℕ → ℕ → ℕ → Type 0
MeetsDeadline ttrt c d s = c ≤ least_time ttrt d s

-- s is the smallest multiple of the grid that meets the deadline rule
pub record IsSmallest (grid ttrt c d s : ℕ) : Type 0 where
  pub multiple : MultipleOf grid s
  pub meets : MeetsDeadline ttrt c d s
  pub least : (other : ℕ) → MultipleOf grid other → MeetsDeadline ttrt c d other → s ≤ other

-- the set goes by FDDI's rules
abbrev pub is_fddi : Set → Bool
is_fddi t = eqb t.head.mode fddi

-- nothing new is planned or opened in this mode (02, No. 14); what is there is still judged by its rules
abbrev pub Retired : Set → Type 0
Retired t = t.head.mode ≡ fddi

-- the mode is still planned and opened
abbrev pub in_use : Set → Bool
in_use t = not (is_fddi t)

-- the same set by the timely-token rules of 2003: what an FDDI set becomes
abbrev pub timely_of : Set → Set
timely_of t =
    record {
      head = record { ttrt = t.head.ttrt; mode = timely; frame = t.head.frame; grid = t.head.grid };
      n = t.n;
      w = t.w;
      c = t.c;
      d = t.d;
      p = t.p;
    }

-- what FDDI's rules look at
abbrev pub load_of : Set → Load
load_of t = record { n = t.n; ttrt = t.head.ttrt; grid = t.head.grid; lost = lost t; c = t.c; d = t.d }

-- X at station i of a whole vector, by the mode: FDDI's looks at the other stations' S too (003, Theorem 2)
unfoldable pub time_at : Set → (ℕ → ℕ) → ℕ → ℕ
time_at t s i = cond (is_fddi t) (fddi-rules.time_at (load_of t) s i) (least_time t.head.ttrt (at t.d i) (s i))

-- what a vector is held to, in every mode
abbrev pub terms_of : Set → Terms
terms_of t =
    record { n = t.n; ttrt = t.head.ttrt; lost = lost t; grid = t.head.grid; longest = at t.c; time = time_at t }

-- the rules, of any vector of numbers whatever
abbrev pub MeetsRules : Set → (ℕ → ℕ) → Type 0
MeetsRules t = RulesKept (terms_of t)

-- the deadline rule alone
abbrev pub MeetsDeadlines : Set → (ℕ → ℕ) → Type 0
MeetsDeadlines t = DeadlinesKept (terms_of t)

-- the token rule alone
abbrev pub MeetsToken : Set → (ℕ → ℕ) → Type 0
MeetsToken t = TokenKept t.head.ttrt (lost t) t.n

-- what the token rule leaves of TTRT: TTRT − τ − (F − 1) − the sum of S
abbrev pub left_over : Set → (ℕ → ℕ) → ℕ
left_over t s = t.head.ttrt - lost t - sum_below t.n s

-- A*, the spare time: of an FDDI set TTRT − τ − the sum of S; timely-token, both editions, subtracts F − 1 in it
unfoldable pub spare_time : Set → (ℕ → ℕ) → ℕ
spare_time t s = cond (is_fddi t) (t.head.ttrt - tau t - sum_below t.n s) (left_over t s)

-- every S of a plan is 0 to 1,000,000
abbrev pub AllocInRange : Set → (ℕ → ℕ) → Type 0
AllocInRange t s = (i : ℕ) → i < t.n → s i ≤ most_s

-- of a set with a given allocation: every number of the set and every S is in its range
abbrev pub InRange : Set → Alloc → Type 0
InRange t a = NumbersAllowed t × AllocInRange t (at a.s)

-- and the allocation keeps the rules
abbrev pub KeepsRules : Set → Alloc → Type 0
KeepsRules t a = MeetsRules t (at a.s)

-- ---- the rules as tests

abbrev pub token_fits : Set → (ℕ → ℕ) → Bool
token_fits t = token_kept t.head.ttrt (lost t) t.n

abbrev pub rules_fit : Set → (ℕ → ℕ) → Bool
rules_fit t = rules_kept (terms_of t)

-- the deadline rule of a timely-token set, by the stations' own S
abbrev pub timely_fits_at : Set → (ℕ → ℕ) → ℕ → Bool
timely_fits_at t s i = leb (at t.c i) (least_time t.head.ttrt (at t.d i) (s i))

abbrev pub in_range_s : (ℕ → ℕ) → ℕ → Bool
in_range_s s i = leb (s i) most_s

abbrev pub alloc_in_range : Set → (ℕ → ℕ) → Bool
alloc_in_range t s = all_below t.n (in_range_s s)
