-- How long rotations take. The station of the first visit of a list is visited again and again, each time at most TTRT after the time before, and any other visit starts at most TTRT after its latest; so the visits of k rotations start within k·TTRT of the first start.
use Prim.Native.Nat.{ℕ, suc, ◌+◌, ◌-◌, ◌*◌, ◌≤◌, ◌<◌}
use mathlib.Core.Path.{◌≡◌, refl, ◌∙◌}
use mathlib.Core.List.{List, [], ◌∷◌, ◌++◌}
use mathlib.Core.Logic.{◌⊎◌, inl, inr, ⊎_elim}
use mathlib.Core.Option.{some}
use native.Mathlib.Nat.{zero-mul, mul-le-mul_right, lt_of_mul-lt-mul_right}
use native.Mathlib.Omega.{arith}
use borrow.Author.Tests.{eq-eqb, ne_eqb}
use lib.ListN.{length}
use Rattle.units.specs.Places.{at}
use Rattle.units.proofs.SmallLaws.{below_or_not, one_more_lem}
use Rattle.sets.specs.declared.Set.{Set}
use Rattle.plans.specs.Rules.{spare_time}
use Rattle.plans.specs.declared.Alloc.{Alloc}
use Rattle.rings.specs.declared.VisitRecord.{VisitRecord}
use Rattle.promises.specs.History.{async_of, visit_of, latest_of, Each}
use Rattle.promises.specs.Valid.{InTurn}
use Rattle.promises.proofs.Course.{latest_here, latest_there}
use Rattle.promises.proofs.Timely.{TimelyVisit}
use Rattle.promises.proofs.Turns.{Ago, one_more_ago, own_now, rotation_now, not_own}

-- what is known of a visit, marked or not, of a run whose limits look back on N visits: it starts at most TTRT after every station's latest visit, and its limit is exact or nothing is sent
pub record Punctual (t : Set) (a : Alloc) (v : VisitRecord) (before : List VisitRecord) : Type 0 where
  pub since : (i : ℕ) → i < t.n → (u : VisitRecord) → latest_of i before ≡ some u → v.start.0 ≤ u.start.0 + t.head.ttrt
  pub exact : (v.limit.0 ≡ spare_time t (at a.s) - async_of t.n before) ⊎ (v.asynchronous.0 ≡ 0)
  pub shut : v.limit.0 ≡ 0 → v.asynchronous.0 ≡ 0

pub punctual : (t : Set) (a : Alloc) (mark : ℕ) (v : VisitRecord) (before : List VisitRecord) → TimelyVisit t a t.n mark v before → Punctual t a v before
punctual t a mark v before k =
    record {
      since = k.since;
      exact = ⊎_elim (λ (on : 0 < mark). inr (k.quiet on)) (λ (off : mark ≤ 0). inl (k.limit.exact (omega arith))) (below_or_not 0 mark);
      shut = k.limit.shut;
    }

-- and that its station has its turn
abbrev pub InOrder : Set → Alloc → VisitRecord → List VisitRecord → Type 0
InOrder t a v before = InTurn t v before × Punctual t a v before

module _ (t : Set) (a : Alloc) (first : VisitRecord) (old : List VisitRecord) where
  abbrev here : ℕ
  here = first.station.0

  abbrev all : List VisitRecord → List VisitRecord
  all newer = newer ++ first ∷ old

  -- so many whole rotations since the first visit, and its station's latest visit
  record Rotations (newer : List VisitRecord) : Type 0 where
    whole : ℕ
    since : ℕ
    last : VisitRecord
    known : here < t.n
    count : length newer + 1 ≡ whole * t.n + since
    low : 1 ≤ since
    high : since ≤ t.n
    ago : Ago t.n here since (all newer)
    latest : latest_of here (all newer) ≡ some last
    start : last.start.0 ≤ first.start.0 + whole * t.head.ttrt

  -- the first visit alone
  begun : Each (InOrder t a) (all []) → Rotations []
  begun E =
      let T = E.0.0 in
      record {
        whole = 0;
        since = 1;
        last = first;
        known = T.station;
        count = rw zero-mul (omega arith);
        low = omega arith;
        high = omega (arith, T.station);
        ago = one_more_ago t here T.station first old T 0 (omega (arith, T.station)) (inl (omega (arith, T.turn)));
        latest = latest_here (visit_of here) first old (eq-eqb here here refl);
        start = omega arith;
      }

  module _ (v : VisitRecord) (newer : List VisitRecord) (E : Each (InOrder t a) (all (v ∷ newer))) (R : Rotations newer) where
    known : here < t.n
    known = R.known

    -- another station's visit
    other_more : R.since < t.n → Rotations (v ∷ newer)
    other_more l =
        let not = not_own t here known v (all newer) E.0.0 R.since R.low l R.ago in
        record {
          whole = R.whole;
          since = suc R.since;
          last = R.last;
          known = known;
          count = omega (arith, R.count);
          low = omega arith;
          high = omega arith;
          ago = one_more_ago t here known v (all newer) E.0.0 R.since l R.ago;
          latest = latest_there (visit_of here) v (all newer) (ne_eqb v.station.0 here not) ∙ R.latest;
          start = R.start;
        }

    -- its own visit again
    own_more : R.since ≡ t.n → Rotations (v ∷ newer)
    own_more e =
        let now = rotation_now t here known v (all newer) E.0.0 (rw e at R.ago) in
        let own = own_now t here known v (all newer) E.0.0 now in
        record {
          whole = R.whole + 1;
          since = 1;
          last = v;
          known = known;
          count = omega (arith, R.count, one_more_lem R.whole t.n);
          low = omega arith;
          high = omega (arith, R.high);
          ago = one_more_ago t here known v (all newer) E.0.0 0 (omega arith) now;
          latest = latest_here (visit_of here) v (all newer) (eq-eqb v.station.0 here own);
          start = omega (arith, one_more_lem R.whole t.head.ttrt, E.0.1.since here known R.last R.latest, R.start);
        }

  rotations : (newer : List VisitRecord) → Each (InOrder t a) (all newer) → Rotations newer
  rotations [] E = begun E
  rotations (v ∷ newer) E =
      let R = rotations newer E.1 in
      ⊎_elim (λ (b : R.since < t.n). other_more v newer E R b)
      (λ (b : t.n ≤ R.since). own_more v newer E R (omega (arith, R.high)))
      (below_or_not R.since t.n)

  -- this moment is at most TTRT after the start of each station's latest visit
  abbrev Within : ℕ → List VisitRecord → Type 0
  Within moment h = (i : ℕ) → i < t.n → (u : VisitRecord) → latest_of i h ≡ some u → moment ≤ u.start.0 + t.head.ttrt

  -- within k rotations: the next start is at most k·TTRT after the first
  pub soon : (k : ℕ) (newer : List VisitRecord)
      → length newer + 1 ≤ k * t.n → Each (InOrder t a) (all newer)
      → (next : ℕ) → Within next (all newer) → next ≤ first.start.0 + k * t.head.ttrt
  soon k newer few E next late =
      let R = rotations newer E in
      let l : R.whole < k = lt_of_mul-lt-mul_right t.n (omega (arith, R.count, R.low)) in
      omega (arith, late here R.known R.last R.latest, R.start, one_more_lem R.whole t.head.ttrt, mul-le-mul_right {m = R.whole + 1} {n = k} t.head.ttrt (omega arith))

  -- and so is each start among them
  abbrev pub Soon : ℕ → VisitRecord → List VisitRecord → Type 0
  Soon k v before = v.start.0 ≤ first.start.0 + k * t.head.ttrt

  pub each_soon : (k : ℕ) (newer : List VisitRecord) → length newer ≤ k * t.n → Each (InOrder t a) (all newer) → Each (Soon k) (newer ++ first ∷ [])
  each_soon k [] few E = (omega arith, tt)
  each_soon k (v ∷ newer) few E = (soon k newer (omega arith) E.1 v.start.0 E.0.1.since, each_soon k newer (omega arith) E.1)
