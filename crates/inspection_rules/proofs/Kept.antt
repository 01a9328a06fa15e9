-- What a recorder leaves of a run: behind a visit that does not fit no other one does, so what it keeps are the first records and then marks alone.
use Prim.Native.Nat.{ℕ, zero, suc, ◌+◌, ◌≤◌, ◌<◌}
use mathlib.Core.Path.{◌≡◌, refl, sym, ap, ◌∙◌}
use mathlib.Core.List.{List, [], ◌∷◌, map, reverse}
use mathlib.Core.Logic.{⊎_elim}
use native.Mathlib.Omega.{arith}
use lib.ListN.{length, length-map, take}
use lib.Seq.{take_at}
use Rattle.units.proofs.SmallLaws.{below_or_not}
use Rattle.sets.specs.declared.Set.{Set}
use Rattle.plans.specs.Planned.{judged_plan}
use Rattle.plans.specs.declared.Alloc.{Alloc}
use Rattle.fields.proofs.RowLaws.{laid_length}
use Rattle.log_records.specs.Mark.{mark_bytes}
use Rattle.log_records.specs.declared.Entry.{Entry}
use Rattle.log_records.proofs.MarkLaws.{mark_length_lem}
use Rattle.sheets.specs.declared.Written.{Written}
use Rattle.sheet_rules.specs.Promised.{plan_length}
use Rattle.rings.specs.State.{count}
use Rattle.rings.specs.Opening.{opened_ring}
use Rattle.rings.specs.declared.Ring.{Ring}
use Rattle.promises.specs.Run.{Call, noted, events_of}
use Rattle.promises.proofs.Runs.{not_noted}
use Rattle.logs.specs.Layout.{log_of, AllFit}
use Rattle.logs.specs.declared.Recorder.{Recorder}
use Rattle.log_rules.specs.Recorded.{Told, a_visit, a_mark, Recording, beginning, one_more, recorded, kept_of, end_answer, end_buffer, entry_for, says, told_in}
use Rattle.log_rules.proofs.Promised.{promised as logs-promised}
use Rattle.log_rules.proofs.RunLaws.{run_entries, run_fits}
use Rattle.inspection_rules.specs.Gives.{ring_with, GivesFrom}
use Rattle.inspection_rules.proofs.Following.{set_with}
use Rattle.inspection_rules.proofs.Model.{model_gives}

noted_first : (k : ℕ) (x : Told) (xs : List Told) → k ≡ 0 → noted k x xs ≡ x ∷ xs
unfolding noted
noted_first k x xs z = rw z refl

module _ (counter : ℕ) where
  abbrev said : List Told → List Entry
  said = map (says counter)

  -- ---- what is kept could be given

  count_with : (r : Ring) (e : Entry) → count (ring_with r e) ≡ count r
  count_with r e = ap (λ (x : Set). x.n) (set_with r e)

  -- where a visit does not fit, marks alone are kept, and a ring with as many stations could give these
  marks_kept : (xs : List Told) (s : Recording) (r q : Ring) → length s.buffer < s.recorder.at + 23 → count q ≡ count r → GivesFrom counter r (said xs)
      → GivesFrom counter q (said (kept_of s xs))
  unfolding kept_of
  marks_kept [] s r q full same g = tt
  marks_kept (a_visit v ∷ xs) s r q full same g =
      let x : Told = a_visit v in
      let next = logs-promised.add_unchanged s.recorder v s.buffer full in
      let number : (one_more s x).recorder.number ≡ 14 = ap (λ (w : Recorder). w.number) next.0 in
      let place : (one_more s x).recorder.at ≡ s.recorder.at = ap (λ (w : Recorder). w.at) next.0 in
      let long : length (one_more s x).buffer ≡ length s.buffer = ap length next.1 in
      rw (not_noted (one_more s x).recorder.number x (kept_of (one_more s x) xs) (λ z. omega (arith, number, z)))
      (marks_kept xs (one_more s x) (ring_with r (says counter x)) q (omega (arith, full, place, long)) (same ∙ sym (count_with r (says counter x))) g.1)
  marks_kept (a_mark m ∷ xs) s r q full same g =
      let x : Told = a_mark m in
      let e = says counter x in
      ⊎_elim (λ (short : length s.buffer < s.recorder.at + 8).
      let next = logs-promised.mark_unchanged s.recorder m s.buffer short in
      let number : (one_more s x).recorder.number ≡ 14 = ap (λ (w : Recorder). w.number) next.0 in
      let place : (one_more s x).recorder.at ≡ s.recorder.at = ap (λ (w : Recorder). w.at) next.0 in
      let long : length (one_more s x).buffer ≡ length s.buffer = ap length next.1 in
      rw (not_noted (one_more s x).recorder.number x (kept_of (one_more s x) xs) (λ z. omega (arith, number, z)))
      (marks_kept xs (one_more s x) (ring_with r e) q (omega (arith, full, place, long)) (same ∙ sym (count_with r e)) g.1))
      (λ (fits : s.recorder.at + 8 ≤ length s.buffer).
      let next = logs-promised.mark_laid s.recorder m s.buffer fits in
      let number : (one_more s x).recorder.number ≡ 0 = ap (λ (w : Recorder). w.number) next.0 in
      let place : (one_more s x).recorder.at ≡ s.recorder.at + 5 = ap (λ (w : Recorder). w.at) next.0 in
      let long : length (one_more s x).buffer ≡ length s.buffer = ap length next.1 ∙ laid_length s.buffer s.recorder.at (mark_bytes m) (omega (arith, fits, mark_length_lem m)) in
      let inside : m.station < count q = omega (arith, same, g.0.0) in
      rw (noted_first (one_more s x).recorder.number x (kept_of (one_more s x) xs) number)
      ((inside, g.0.1), marks_kept xs (one_more s x) (ring_with r e) (ring_with q e) (omega (arith, full, place, long)) (count_with q e ∙ same ∙ sym (count_with r e)) g.1))
      (below_or_not (length s.buffer) (s.recorder.at + 8))

  some_kept : (xs : List Told) (s : Recording) (r : Ring) → GivesFrom counter r (said xs) → GivesFrom counter r (said (kept_of s xs))
  unfolding kept_of
  some_kept [] s r g = tt
  some_kept (a_visit v ∷ xs) s r g =
      let x : Told = a_visit v in
      ⊎_elim (λ (full : length s.buffer < s.recorder.at + 23). marks_kept (x ∷ xs) s r r full refl g)
      (λ (fits : s.recorder.at + 23 ≤ length s.buffer).
      rw (noted_first (one_more s x).recorder.number x (kept_of (one_more s x) xs) ((logs-promised.add_accepted s.recorder v s.buffer).1 fits))
      (g.0, some_kept xs (one_more s x) (ring_with r (says counter x)) g.1))
      (below_or_not (length s.buffer) (s.recorder.at + 23))
  some_kept (a_mark m ∷ xs) s r g =
      let x : Told = a_mark m in
      ⊎_elim (λ (short : length s.buffer < s.recorder.at + 8). marks_kept (x ∷ xs) s r r (omega arith) refl g)
      (λ (fits : s.recorder.at + 8 ≤ length s.buffer).
      rw (noted_first (one_more s x).recorder.number x (kept_of (one_more s x) xs) ((logs-promised.mark_accepted s.recorder s.buffer).1 fits))
      (g.0, some_kept xs (one_more s x) (ring_with r (says counter x)) g.1))
      (below_or_not (length s.buffer) (s.recorder.at + 8))

  -- ---- and is written as it is said

  abbrev Written-so : List Told → Type 0
  Written-so xs = (map (entry_for counter 0) xs ≡ said xs) × AllFit (said xs)

  noted_so : (k : ℕ) (x : Told) (xs : List Told) → Written-so xs → Written-so (x ∷ xs) → Written-so (noted k x xs)
  unfolding noted
  noted_so zero x xs without with_it = with_it
  noted_so (suc k) x xs without with_it = without

  kept_so : (xs : List Told) (s : Recording) → Written-so xs → Written-so (kept_of s xs)
  unfolding kept_of
  kept_so [] s w = w
  kept_so (x ∷ xs) s w =
      let both = w.0 in
      let one : entry_for counter 0 x ≡ says counter x = cc both in
      let rest : map (entry_for counter 0) xs ≡ said xs = cc both in
      let later = kept_so xs (one_more s x) (rest, w.1.1) in
      noted_so (one_more s x).recorder.number x (kept_of (one_more s x) xs) later (rw (one, later.0) refl, (w.1.0, later.1))

-- ---- of a run

module _ (t : Set) (a : Alloc) (h : judged_plan t a ≡ 0) (counter : ℕ) (calls : List Call) (out : List ℕ) (room : plan_length t ≤ length out) where
  abbrev begins : Recording
  begins = beginning t a counter 0 out

  abbrev told : List Told
  told = reverse (told_in (events_of t a calls))

  abbrev kept : List Told
  kept = kept_of begins told

  -- their entries
  abbrev pub kept_entries : List Entry
  kept_entries = map (entry_for counter 0) kept

  pub kept_length : length kept_entries ≡ length kept
  kept_length = length-map kept (entry_for counter 0)

  so : Written-so counter (kept_of (beginning t a counter 0 out) (reverse (told_in (events_of t a calls))))
  so = kept_so counter told begins (run_entries t a counter calls, run_fits t a counter calls)

  pub kept_fit : AllFit kept_entries
  kept_fit = rw so.0 so.1

  pub kept_gives : GivesFrom counter (opened_ring t a) kept_entries
  kept_gives = rw so.0 (some_kept counter told begins (opened_ring t a) (model_gives t a counter calls h))

  -- the buffer begins with their log
  pub kept_log : let s = recorded begins told in take (end_answer s).length (end_buffer s) ≡ log_of t a kept_entries
  kept_log =
      let s = recorded begins told in
      let L = logs-promised.recorded_log t a counter 0 out told h room in
      let long : length (log_of t a kept_entries) ≡ (end_answer s).length = logs-promised.long t a kept_entries ∙ sym (ap (λ (x : Written). x.length) L.answer) in
      ap (take (end_answer s).length) L.buffer ∙ take_at (log_of t a kept_entries) _ (end_answer s).length long
