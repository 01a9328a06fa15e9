-- The laws of tests and judgements, once for all layers.
use Prim.Native.Nat.{ℕ, zero, suc, ◌≤◌}
use mathlib.Core.Path.{◌≡◌, refl, sym}
use mathlib.Core.Bool.{Bool, true, false, ◌&&◌, true≢false, false≢true}
use mathlib.Core.Logic.{◌⊎◌, inl, inr, ◌↔◌, ◌≢◌}
use mathlib.Core.List.{List, [], ◌∷◌}
use lib.ListN.{get_or}
use borrow.Author.Tests.{leb-true, le-leb}
use lib.Dec.{leb}
use Rattle.units.specs.Judging.{or_else, between, all_hold, Decides}

-- ---- tests

-- a test comes out one way or the other
pub true_or_false : (b : Bool) → (b ≡ true) ⊎ (b ≡ false)
true_or_false true = inl refl
true_or_false false = inr refl

pub and-true : (a b : Bool) → (a && b) ≡ true → (a ≡ true) × (b ≡ true)
and-true true b h = (refl, h)
and-true false b h = absurd (false≢true h)

pub true_and : (a b : Bool) → a ≡ true → b ≡ true → (a && b) ≡ true
true_and a b p q = rw (p, q)

pub decides_le : (a b : ℕ) → Decides (leb a b) (a ≤ b)
decides_le a b = (leb-true a b, le-leb a b)

pub decides_both : (a b : Bool) (P Q : Type 0) → Decides a P → Decides b Q → Decides (a && b) (P × Q)
decides_both a b P Q p q = (
  λ h. let w : (a ≡ true) × (b ≡ true) = and-true a b h in (p.0 w.0, q.0 w.1),
  λ h. true_and a b (p.1 h.0) (q.1 h.1),
)

pub decides_between : (low high x : ℕ) → Decides (between low high x) ((low ≤ x) × (x ≤ high))
decides_between low high x = decides_both (leb low x) (leb x high) (low ≤ x) (x ≤ high) (decides_le low x) (decides_le x high)

-- a test that fails says that what it decides does not hold, and the other way round
pub decides_not : (b : Bool) (P : Type 0) → Decides b P → (b ≡ false) ↔ ¬ P
decides_not true P d = (λ e. absurd (true≢false e), λ n. absurd (n (d.0 refl)))
decides_not false P d = (λ e p. false≢true (d.1 p), λ n. refl)

-- two tests that decide the same are the same
pub same_test : (a b : Bool) (P Q : Type 0) → Decides a P → Decides b Q → (P → Q) → (Q → P) → a ≡ b
same_test true b P Q p q there back = sym (q.1 (there (p.0 refl)))
same_test false b P Q p q there back = sym ((decides_not b Q q).1 (λ h. (decides_not false P p).0 refl (back h)))

-- of a list of tests that all hold, test k holds; past the end there is none
pub pick : (ts : List Bool) (k : ℕ) → all_hold ts ≡ true → get_or ts k true ≡ true
unfolding all_hold
pick [] k h = refl
pick (t ∷ ts) zero h = (and-true t (all_hold ts) h).0
pick (t ∷ ts) (suc k) h = pick ts k (and-true t (all_hold ts) h).1

-- and a list of tests all hold if each does
pub none_hold : all_hold [] ≡ true
unfolding all_hold
none_hold = refl

pub all_hold_lem : (t : Bool) (ts : List Bool) → t ≡ true → all_hold ts ≡ true → all_hold (t ∷ ts) ≡ true
unfolding all_hold
all_hold_lem t ts h hs = true_and t (all_hold ts) h hs

-- ---- judgements

pub held : (t : Bool) (number rest : ℕ) → t ≡ true → or_else t number rest ≡ rest
unfolding or_else
held t number rest h = rw h

pub failed : (t : Bool) (number rest : ℕ) → t ≡ false → or_else t number rest ≡ number
unfolding or_else
failed t number rest h = rw h

-- a number that neither the test nor the rest gives is not given
pub not_given : (t : Bool) (number rest k : ℕ) → number ≢ k → rest ≢ k → or_else t number rest ≢ k
unfolding or_else
not_given true number rest k n r = r
not_given false number rest k n r = n

-- where the rest never gives the number, it is given exactly if what the test decides does not hold
pub given : (t : Bool) (P : Type 0) (number rest : ℕ) → Decides t P → rest ≢ number → (or_else t number rest ≡ number) ↔ ¬ P
unfolding or_else
given true P number rest d r = (λ e. absurd (r e), λ n. absurd (n (d.0 refl)))
given false P number rest d r = (λ e. (decides_not false P d).0 refl, λ n. refl)

-- another number is given exactly if what the test decides holds and the rest gives it
pub given_later : (t : Bool) (P : Type 0) (number rest k : ℕ) → Decides t P → number ≢ k → (or_else t number rest ≡ k) ↔ (P × (rest ≡ k))
unfolding or_else
given_later true P number rest k d n = (λ e. (d.0 refl, e), λ h. h.1)
given_later false P number rest k d n = (λ e. absurd (n e), λ h. absurd (false≢true (d.1 h.0)))

-- a judgement that comes out as 0 has passed its first test, and the rest is 0
pub passed : (t : Bool) (number rest : ℕ) → number ≢ 0 → or_else t number rest ≡ 0 → (t ≡ true) × (rest ≡ 0)
passed t number rest n h = (given_later t (t ≡ true) number rest 0 (λ e. e, λ e. e) n).0 h

-- ---- "exactly if", step by step

pub iff_then : {A B C : Type 0} → A ↔ B → B ↔ C → A ↔ C
iff_then f g = (λ a. g.0 (f.0 a), λ c. f.1 (g.1 c))

pub iff_under : {A B P : Type 0} → A ↔ B → (P × A) ↔ (P × B)
iff_under f = (λ h. (h.0, f.0 h.1), λ h. (h.0, f.1 h.1))
