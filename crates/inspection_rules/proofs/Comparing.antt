-- The numbers that are compared at the record that stops an inspection differ, rule by rule.
use Prim.Native.Nat.{ℕ, zero, suc, ◌+◌, ◌-◌, ◌≤◌, ◌<◌}
use mathlib.Core.Path.{◌≡◌, refl, sym, ap, ◌∙◌}
use mathlib.Core.Bool.{Bool, true, false, ◌||◌, true≢false}
use mathlib.Core.Logic.{◌⊎◌, inl, inr, ◌≢◌, ⊎_elim}
use native.Mathlib.Nat.{dvd_of_mod-eq-zero}
use native.Mathlib.Omega.{arith}
use borrow.Author.Tests.{eqb-false, lt-ltb}
use lib.Dec.{eqb, leb}
use lib.ListN.{length, get_or}
use Rattle.units.proofs.SmallLaws.{below_or_not}
use Rattle.units.proofs.JudgingLaws.{true_and, decides_not, decides_le}
use Rattle.sets.specs.declared.Set.{Set}
use Rattle.plans.specs.declared.Alloc.{Alloc}
use Rattle.log_records.specs.declared.VisitEntry.{VisitEntry}
use Rattle.log_records.specs.declared.MarkEntry.{MarkEntry}
use Rattle.log_records.specs.declared.Entry.{Entry}
use Rattle.log_records.specs.declared.Entry.TheVariants.{Visit, Mark}
use Rattle.promises.proofs.Course.{same_or_not}
use Rattle.inspection.specs.Counter.{ticks_between}
use Rattle.inspection.specs.Frames.{frames_fit}
use Rattle.inspection.specs.Rules.{expected, rules_kept, broken_rule}
use Rattle.inspection.specs.Records.{visited_on, switched_on, moved_on, inspected}
use Rattle.inspection.specs.Findings.{visit_compared, compared_by, compared}
use Rattle.inspection.specs.declared.Inspection.{Inspection}
use Rattle.inspection.specs.declared.Expected.{Expected}
use Rattle.inspection.proofs.RecordLaws.{inspected_stops, inspected_moves}
use Rattle.inspection_rules.specs.Promised.{WholeFrames, Differ}
use Rattle.inspection_rules.proofs.Judging.{fails_first}
use Rattle.inspection_rules.proofs.Amounts.{frames_whole}

-- ---- by each rule

above : (a b : ℕ) → leb a b ≡ false → b < a
above a b h = ⊎_elim (λ (l : b < a). l) (λ (l : a ≤ b). absurd ((decides_not _ _ (decides_le a b)).0 h l)) (below_or_not b a)

-- a start that breaks its rule is no first one, and the difference is another one
start_differs : (first : Bool) (ticks span : ℕ) → (first || eqb ticks span) ≡ false → span ≢ ticks
start_differs true ticks span h same = true≢false h
start_differs false ticks span h same = eqb-false ticks span h (sym same)

-- an amount up to the limit is whole frames of 1 tick
frames_above : (limit longest amount : ℕ) → 1 ≤ longest → frames_fit limit longest amount ≡ false → limit < amount
frames_above limit longest amount some h =
    let ticks : amount ≤ limit → WholeFrames limit longest amount = λ l. record { length = 1; low = omega arith; high = some; whole = dvd_of_mod-eq-zero 1 (omega arith); begun = omega arith } in
    ⊎_elim (λ (l : limit < amount). l) (λ (l : amount ≤ limit). absurd ((decides_not _ _ (frames_whole limit longest amount)).0 h (inr (ticks l)))) (below_or_not limit amount)

-- ---- by the rule that is broken

module _ (x : Expected) (v : VisitEntry) (some : 1 ≤ x.longest) where
  by_rule : (k : ℕ) → 1 ≤ k → k < 6 → get_or (rules_kept x (Visit v)) (k - 1) true ≡ false → Differ k (Visit v) (visit_compared k x v)
  unfolding visit_compared
  by_rule zero low high h = absurd (omega arith)
  by_rule (suc zero) low high h = (λ _ same. eqb-false v.station x.station h (sym same), λ l. absurd (omega arith))
  by_rule (suc (suc zero)) low high h = (λ _. start_differs x.first (ticks_between x.last v.start) x.span h, λ l. absurd (omega arith))
  by_rule (suc (suc (suc zero))) low high h = (λ _ same. eqb-false v.limit x.limit h (sym same), λ l. absurd (omega arith))
  by_rule (suc (suc (suc (suc zero)))) low high h = (λ l. absurd (omega arith), λ _. above v.synchronous x.share h)
  by_rule (suc (suc (suc (suc (suc zero))))) low high h = (λ l. absurd (omega arith), λ _. frames_above x.limit x.longest v.asynchronous some h)
  by_rule (suc (suc (suc (suc (suc (suc k)))))) low high h = absurd (omega arith)

-- a mark that breaks its rule is of no station below N, or is neither 1 nor 0
by_mark : (x : Expected) (m : MarkEntry) (k : ℕ) → 1 ≤ k → k < 2 → get_or (rules_kept x (Mark m)) (k - 1) true ≡ false → (x.count ≤ m.station) ⊎ (2 ≤ m.mark)
by_mark x m zero low high h = absurd (omega arith)
by_mark x m (suc zero) low high h =
    ⊎_elim (λ (l : m.station < x.count).
    ⊎_elim (λ (b : m.mark < 2). absurd (true≢false (sym (true_and _ _ (lt-ltb _ _ l) (lt-ltb _ _ b)) ∙ h))) (λ (b : 2 ≤ m.mark). inr b) (below_or_not m.mark 2))
    (λ (l : x.count ≤ m.station). inl l)
    (below_or_not m.station x.count)
by_mark x m (suc (suc k)) low high h = absurd (omega arith)

-- by either
by_kind : (x : Expected) (e : Entry) → 1 ≤ x.longest → (k : ℕ) → 1 ≤ k → k < 1 + length (rules_kept x e) → get_or (rules_kept x e) (k - 1) true ≡ false → Differ k e (compared_by k x e)
by_kind x (Visit v) some k low high h = by_rule x v some k low high h
by_kind x (Mark m) some k low high h = by_mark x m k low high h

moved_goes : (s : Inspection) (t : Set) (a : Alloc) (e : Entry) → (moved_on s t a e).rule ≡ s.rule
unfolding visited_on switched_on
moved_goes s t a (Visit v) = refl
moved_goes s t a (Mark m) = refl

pub differs : (s : Inspection) (t : Set) (a : Alloc) (e : Entry) → s.rule ≡ 0 → 1 ≤ t.head.frame → (inspected s t a e).rule ≢ 0
    → Differ (inspected s t a e).rule e (compared (inspected s t a e) t a e)
differs s t a e go some stops =
    let x = expected s t a in
    let k = broken_rule x e in
    ⊎_elim (λ (none : k ≡ 0). absurd (stops (ap (λ (y : Inspection). y.rule) (inspected_moves s t a e go none) ∙ (moved_goes s t a e ∙ go))))
    (λ (n : k ≢ 0).
    let F = fails_first 1 (rules_kept x e) k (omega arith) n refl in
    rw (inspected_stops s t a e go k refl n) (by_kind x e some k F.from F.below F.here))
    (same_or_not k 0)
