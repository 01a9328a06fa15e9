-- The asynchronous time of the latest visits: one visit more, and longer windows.
use Prim.Native.Nat.{ℕ, zero, suc, ◌+◌, ◌-◌, ◌≤◌}
use mathlib.Core.Path.{◌≡◌, refl}
use mathlib.Core.List.{List, [], ◌∷◌}
use mathlib.Core.Logic.{⊎_elim}
use native.Mathlib.Nat.{add-suc}
use native.Mathlib.Numerals.{add-one}
use native.Mathlib.Omega.{arith}
use Rattle.sets.specs.declared.Set.{Set}
use Rattle.rings.specs.Timers.{Earlier, lead}
use Rattle.rings.proofs.TimerLaws.{lead_all, lead_none, lead_within, earlier_or_not}
use Rattle.rings.specs.declared.VisitRecord.{VisitRecord}
use Rattle.promises.specs.History.{async_of}
use Rattle.promises.specs.Valid.{Timely}

-- a visit more, in a window of one more
pub async_step : (n : ℕ) (v : VisitRecord) (before : List VisitRecord) → async_of (n + 1) (v ∷ before) ≡ v.asynchronous.0 + async_of n before
unfolding async_of
async_step n v before = rw add-one

-- the same, of a window that is m longer
pub async_past : (m n : ℕ) (v : VisitRecord) (before : List VisitRecord) → async_of (m + suc n) (v ∷ before) ≡ v.asynchronous.0 + async_of (m + n) before
unfolding async_of
async_past m n v before = rw add-suc

-- no visit in an empty window
pub async_none : (before : List VisitRecord) → async_of 0 before ≡ 0
unfolding async_of
async_none [] = refl
async_none (v ∷ before) = refl

-- a longer window holds no less
pub async_grows : (k n : ℕ) (before : List VisitRecord) → k ≤ n → async_of k before ≤ async_of n before
unfolding async_of
async_grows k n [] l = omega arith
async_grows zero n (v ∷ before) l = omega arith
async_grows (suc k) zero (v ∷ before) l = absurd (omega arith)
async_grows (suc k) (suc n) (v ∷ before) l = omega (arith, async_grows k n before (omega arith))

-- ---- what a station's own visit sent may not be in its timer: then its window is one visit shorter

-- by so many visits: 1 in the 2002 edition, else 0
abbrev pub own : Set → ℕ
own t = lead t 1

-- on so many visits the limit looks back
abbrev pub look_back : Set → ℕ
look_back t = t.n - own t

pub look_back_all : (t : Set) → Timely t → look_back t ≡ t.n
look_back_all t m = let none = lead_none t (λ e. omega arith) 1 in omega arith

pub look_back_less : (t : Set) → Earlier t → look_back t ≡ t.n - 1
look_back_less t e = rw (lead_all t e 1)

pub own_small : (t : Set) → own t ≤ 1
own_small t = lead_within t 1

-- a visit more, in a window of one more
pub async_shorter : (t : Set) (n : ℕ) (v : VisitRecord) (before : List VisitRecord) → 1 ≤ n
    → async_of (n + 1 - own t) (v ∷ before) ≡ v.asynchronous.0 + async_of (n - own t) before
async_shorter t n v before l =
    let small = own_small t in
    let d : n + 1 - own t ≡ n - own t + 1 = omega arith in
    rw d (async_step (n - own t) v before)

-- the window of the visit itself, and what is not in it
pub async_own : (t : Set) (v : VisitRecord) (before : List VisitRecord) → async_of (1 - own t) (v ∷ before) + lead t v.asynchronous.0 ≡ v.asynchronous.0
unfolding async_of
async_own t v before =
    ⊎_elim (λ e. rw (lead_all t e 1, lead_all t e v.asynchronous.0) (omega arith))
    (λ n. rw (lead_none t n 1, lead_none t n v.asynchronous.0) (omega (arith, async_none before)))
    (earlier_or_not t)

-- a visit more, in the window of N visits: some other visit may have left it, and a whole rotation ago the station's own has
pub async_moves : (t : Set) (v : VisitRecord) (before : List VisitRecord) → 1 ≤ t.n → async_of t.n (v ∷ before) ≤ v.asynchronous.0 + async_of (look_back t) before
async_moves t v before some =
    let small = own_small t in
    let d : t.n - 1 + 1 ≡ t.n = omega arith in
    let step = rw d at (async_step (t.n - 1) v before) in
    omega (arith, async_grows (t.n - 1) (look_back t) before (omega arith))
