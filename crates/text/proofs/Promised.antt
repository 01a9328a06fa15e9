-- Everything that `specs/Promised.antt` lists, proved.
use Prim.Native.Nat.{ℕ, zero, suc, ◌+◌, ◌-◌, ◌*◌, ◌/◌, ◌%◌, ◌<◌, ◌≤◌, ◌^◌}
use mathlib.Core.Path.{◌≡◌, refl, sym, ap, ◌∙◌}
use mathlib.Core.List.{List, [], ◌∷◌, ◌++◌}
use mathlib.Core.Logic.{⊎_elim}
use native.Mathlib.Omega.{arith}
use native.Mathlib.Nat.{pow-suc, div-lt_iff_lt-mul}
use borrow.Author.Tests.{lt-ltb, le-ltb}
use Rattle.units.proofs.SmallLaws.{below_or_not}
use lib.ListN.{length}
use Rattle.text.specs.Text.{PutWithin, digit, decimal_within}
use Rattle.text.specs.Promised.{Promised, value_on}

-- ---- the digits of a number write it

value_snoc : (v : ℕ) (ds : List ℕ) (d : ℕ) → value_on v (ds ++ d ∷ []) ≡ value_on v ds * 10 + (d - 48)
unfolding value_on
value_snoc v [] d = refl
value_snoc v (x ∷ ds) d = value_snoc (v * 10 + (x - 48)) ds d

value_within : (k n : ℕ) → n < 10 ^ suc k → value_on 0 (decimal_within (suc k) n) ≡ n
unfolding decimal_within value_on
value_within zero n h = let b : n < 10 = h in rw (lt-ltb n 10 b) (omega arith)
value_within (suc j) n h =
    ⊎_elim (λ (b : n < 10). rw (lt-ltb n 10 b) (omega arith))
    (λ (b : 10 ≤ n).
    let l : n < 10 ^ suc j * 10 = rw (pow-suc 10 (suc j)) at h in
    let e : value_on 0 (decimal_within (suc j) (n / 10)) ≡ n / 10 = value_within j (n / 10) ((div-lt_iff_lt-mul (omega arith)).1 l) in
    let d : value_on 0 (decimal_within (suc j) (n / 10) ++ digit (n % 10) ∷ []) ≡ n / 10 * 10 + (digit (n % 10) - 48) =
    value_snoc 0 (decimal_within (suc j) (n / 10)) (digit (n % 10)) ∙ ap (λ (v : ℕ). v * 10 + (digit (n % 10) - 48)) e in
    rw (le-ltb n 10 b) (d ∙ omega arith))
    (below_or_not n 10)

-- ---- what is put is decided

put_decided : (most : ℕ) (before : List ℕ) (a : ℕ) (segment : List ℕ) (after after' : List ℕ) (r r' : ℕ)
    → PutWithin most before a segment after r → PutWithin most before a segment after' r' → (after ≡ after') × (r ≡ r')
put_decided most before a segment after after' r r' p q =
    ⊎_elim (λ (b : length before < a + most). ((p.full b).0 ∙ sym (q.full b).0, (p.full b).1 ∙ sym (q.full b).1))
    (λ (b : a + most ≤ length before).
    ⊎_elim (λ (l : most < length segment). ((p.long l).0 ∙ sym (q.long l).0, (p.long l).1 ∙ sym (q.long l).1))
    (λ (l : length segment ≤ most).
    let u = (p.put b l).put in
    let v = (q.put b l).put in
    (u.page ∙ sym v.page, u.next ∙ sym v.next))
    (below_or_not most (length segment)))
    (below_or_not (length before) (a + most))

pub promised : Promised
promised = record { decimal = λ n h. value_within 19 n (omega arith); put_decided = put_decided }
