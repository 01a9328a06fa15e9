-- The laws of the walk over a sheet: where it stops, where it goes on, and that it comes by every place up to which the sheet is well-formed.
use Prim.Native.Nat.{ℕ, zero, suc, ◌+◌, ◌≤◌, ◌<◌}
use mathlib.Core.Path.{◌≡◌, refl, sym, ap, subst, ◌∙◌}
use mathlib.Core.Bool.{Bool, true, false, not, ◌||◌, true≢false}
use mathlib.Core.List.{List}
use mathlib.Core.Logic.{◌⊎◌, inl, inr, ⊎_elim, ◌≢◌}
use native.Mathlib.Omega.{arith}
use lib.Dec.{leb, eqb}
use lib.ListN.{length}
use borrow.Author.Tests.{eq-eqb, ne_eqb, eqb-true, eqb-false, leb-true, leb-false, le-leb, lt-leb}
use Rattle.units.specs.Judging.{or_else}
use Rattle.units.proofs.JudgingLaws.{true_or_false, held, failed}
use Rattle.units.proofs.SmallLaws.{below_or_not}
use Rattle.fields.specs.Fields.{station_tag, allocation_tag, end_tag, left, tag_at, size_at, behind, allowed_at, field_number, field_at, FieldWhole}
use Rattle.fields.proofs.FieldLaws.{field_short, field_wrong, field_cut, field_whole, field_says, field_handed, handed_number}
use Rattle.fields.specs.declared.Field.{Field}
use Rattle.fields.specs.declared.Passed.{Passed}
use Rattle.field_reader.specs.Cursor.{cursor_after}
use Rattle.field_reader.specs.Scanned.{with_field, stops_at, stop_number, scan_from, scanned}
use Rattle.field_reader.specs.FirstFault.{WellFormed, start, more, Fault, no_start, not_allowed, cut_body, follows, FirstFault, WholeSheet}
use Rattle.field_reader.specs.declared.Scanned.{Scanned}

pub zero_or_not : (k : ℕ) → (k ≡ 0) ⊎ (k ≢ 0)
zero_or_not zero = inl refl
zero_or_not (suc k) = inr (λ e. omega arith)

neither : (a b : Bool) → (not a || b) ≡ false → (a ≡ true) × (b ≡ false)
neither true b h = (refl, h)
neither false b h = absurd (true≢false h)

-- ---- one field

-- a field with these numbers stops the walk, and why
stops_with : (size : ℕ) (field : Field) (k : ℕ) → field.number ≡ k → k ≢ 0 → (stops_at field ≡ true) × (stop_number size field ≡ k)
unfolding stops_at stop_number
stops_with size field k e some = (rw (e, ne_eqb _ _ some) refl, rw (e, ne_eqb _ _ some) refl)

module _ (bs : List ℕ) (a : ℕ) (p : Passed) where
  -- what is known of a whole field that may stand there
  module _ (w : FieldWhole bs a p) where
    -- the cursor goes behind it
    pub cursor_behind : cursor_after a (field_at bs a p) ≡ behind bs a
    unfolding cursor_after
    cursor_behind = rw (field_handed bs a p w) refl

    pub has_tag : (field_at bs a p).tag ≡ tag_at bs a
    has_tag = ap (λ (f : Field). f.tag) (field_handed bs a p w)

    -- the walk goes on behind it, if it is not the end
    goes_on : tag_at bs a ≢ end_tag → stops_at (field_at bs a p) ≡ false
    unfolding stops_at
    goes_on other = rw (field_handed bs a p w, ne_eqb _ _ other) refl

    -- and stops there, if it is
    ends : tag_at bs a ≡ end_tag → (stops_at (field_at bs a p) ≡ true) × (stop_number (length bs) (field_at bs a p) ≡ or_else (leb (length bs) (behind bs a)) 3 0)
    unfolding stops_at stop_number
    ends e = (rw (field_handed bs a p w, eq-eqb _ _ e) refl, rw (field_handed bs a p w) refl)

  -- a field that does not stop the walk is whole, and not the end
  pub passes : stops_at (field_at bs a p) ≡ false → FieldWhole bs a p × (tag_at bs a ≢ end_tag)
  unfolding stops_at
  passes h =
      let both = neither _ _ h in
      let w = field_says bs a p (sym (handed_number _ _ _ _) ∙ eqb-true _ _ both.0) in
      (w, λ e. eqb-false _ _ both.1 (has_tag w ∙ e))

  -- a number that is not 0 is a fault
  fault_of : (k : ℕ) → field_number bs a p ≡ k → k ≢ 0 → Fault bs a p k
  fault_of k e some =
      ⊎_elim (λ (short : left bs a < 3). subst (Fault bs a p) (sym (field_short bs a p short) ∙ e) (no_start short))
      (λ (three : 3 ≤ left bs a).
      ⊎_elim (λ (may : allowed_at bs a p ≡ true).
      ⊎_elim (λ (cut : left bs (a + 3) < size_at bs a). subst (Fault bs a p) (sym (field_cut bs a p three may cut) ∙ e) (cut_body three may cut))
      (λ (whole : size_at bs a ≤ left bs (a + 3)). absurd (some (sym e ∙ field_whole bs a p three may whole)))
      (below_or_not (left bs (a + 3)) (size_at bs a)))
      (λ (wrong : allowed_at bs a p ≡ false). subst (Fault bs a p) (sym (field_wrong bs a p three wrong) ∙ e) (not_allowed three wrong))
      (true_or_false (allowed_at bs a p)))
      (below_or_not (left bs a) 3)

  -- a fault stops the walk, with its number
  fault_stops : (k : ℕ) → Fault bs a p k → (stops_at (field_at bs a p) ≡ true) × (stop_number (length bs) (field_at bs a p) ≡ k)
  fault_stops _ (no_start short) = stops_with _ _ 1 (handed_number _ _ _ _ ∙ field_short bs a p short) (omega arith)
  fault_stops _ (not_allowed three wrong) = stops_with _ _ 2 (handed_number _ _ _ _ ∙ field_wrong bs a p three wrong) (omega arith)
  fault_stops _ (cut_body three may cut) = stops_with _ _ 1 (handed_number _ _ _ _ ∙ field_cut bs a p three may cut) (omega arith)
  fault_stops _ (follows w e runs) = ((ends w e).0, (ends w e).1 ∙ failed _ _ _ (lt-leb _ _ runs))

  -- the end field, with nothing behind it, stops it with 0
  end_stops : FieldWhole bs a p → tag_at bs a ≡ end_tag → length bs ≡ behind bs a → (stops_at (field_at bs a p) ≡ true) × (stop_number (length bs) (field_at bs a p) ≡ 0)
  end_stops w e last =
      let done : length bs ≤ behind bs a = omega arith in
      ((ends w e).0, (ends w e).1 ∙ held _ _ _ (le-leb _ _ done))

  -- why the walk stops at a field: a fault, or the end with nothing behind it
  pub record AtEnd : Type 0 where
    pub whole : FieldWhole bs a p
    pub is_end_lem : tag_at bs a ≡ end_tag
    pub last : length bs ≡ behind bs a

  stop_said : (k : ℕ) → stop_number (length bs) (field_at bs a p) ≡ k → stops_at (field_at bs a p) ≡ true → ((k ≢ 0) × Fault bs a p k) ⊎ ((k ≡ 0) × AtEnd)
  stop_said k e h =
      ⊎_elim at_whole
      (λ (some : field_number bs a p ≢ 0).
      let is : field_number bs a p ≡ k = sym (stops_with (length bs) (field_at bs a p) (field_number bs a p) (handed_number _ _ _ _) some).1 ∙ e in
      let k-some : k ≢ 0 = λ z. some (is ∙ z) in
      inl (k-some, fault_of k is k-some))
      (zero_or_not (field_number bs a p))
    where
      at_whole : field_number bs a p ≡ 0 → ((k ≢ 0) × Fault bs a p k) ⊎ ((k ≡ 0) × AtEnd)
      at_whole z =
          let w = field_says bs a p z in
          ⊎_elim (λ (y : eqb (tag_at bs a) end_tag ≡ true).
          let is_end_lem : tag_at bs a ≡ end_tag = eqb-true _ _ y in
          let said : or_else (leb (length bs) (behind bs a)) 3 0 ≡ k = sym (ends w is_end_lem).1 ∙ e in
          ⊎_elim (λ (t : leb (length bs) (behind bs a) ≡ true).
          let l : length bs ≤ behind bs a = leb-true _ _ t in
          inr (sym said ∙ held _ _ _ t, record { whole = w; is_end_lem = is_end_lem; last = omega (arith, w.inside) }))
          (λ (t : leb (length bs) (behind bs a) ≡ false).
          let three : 3 ≡ k = sym (failed _ _ _ t) ∙ said in
          inl (λ z. absurd (omega (arith, three, z)), subst (Fault bs a p) three (follows w is_end_lem (leb-false _ _ t))))
          (true_or_false (leb (length bs) (behind bs a))))
          (λ (y : eqb (tag_at bs a) end_tag ≡ false). absurd (true≢false (sym h ∙ goes_on w (eqb-false _ _ y))))
          (true_or_false (eqb (tag_at bs a) end_tag))

  -- ---- a turn of the walk

  pub scan_stops : (k : ℕ) → 0 < k → stops_at (field_at bs a p) ≡ true → scan_from k bs p a ≡ record { number = stop_number (length bs) (field_at bs a p); passed = p; at = a }
  unfolding scan_from
  scan_stops zero l h = absurd (omega arith)
  scan_stops (suc k) l h = rw h refl

  scan_turn : (k : ℕ) (w : FieldWhole bs a p) → tag_at bs a ≢ end_tag → scan_from (suc k) bs p a ≡ scan_from k bs (with_field p (tag_at bs a) (behind bs a)) (behind bs a)
  unfolding scan_from
  scan_turn k w other =
      let t = has_tag w in
      let b = cursor_behind w in
      rw (goes_on w other) (cc)

  -- what is left of a walk over a field is the walk from behind it
  pub scan_more : (k : ℕ) (all : Scanned) → left bs a < k → FieldWhole bs a p → tag_at bs a ≢ end_tag → scan_from k bs p a ≡ all
      → (q : Passed) (b : ℕ) → q ≡ with_field p (tag_at bs a) (behind bs a) → b ≡ behind bs a
      → (j : ℕ) × ((left bs b < j) × (scan_from j bs q b ≡ all))
  scan_more zero all l w other e q b n m = absurd (omega arith)
  scan_more (suc k) all l w other e q b n m = (k, (omega (arith, w.inside, m), rw (n, m) (sym (scan_turn k w other) ∙ e)))

-- a field more is one station more or one allocation more, or neither
pub counts_one : (p : Passed) (tag next : ℕ) → (with_field p tag next).stations + (with_field p tag next).allocations ≤ p.stations + p.allocations + 1
unfolding with_field
counts_one p tag next =
    ⊎_elim (λ (h : eqb tag station_tag ≡ true). rw h (omega arith))
    (λ (h : eqb tag station_tag ≡ false).
    ⊎_elim (λ (s : eqb tag allocation_tag ≡ true). rw (h, s) (omega arith))
    (λ (s : eqb tag allocation_tag ≡ false). rw (h, s) (omega arith))
    (true_or_false (eqb tag allocation_tag)))
    (true_or_false (eqb tag station_tag))

-- ---- the whole walk

module _ (plan : Bool) (bs : List ℕ) where
  -- it comes by every place up to which the sheet is well-formed
  comes_by : (p : Passed) (a : ℕ) → WellFormed plan bs p a → (k : ℕ) × ((left bs a < k) × (scan_from k bs p a ≡ scanned plan bs))
  unfolding scanned
  comes_by _ _ start = (suc (length bs), (omega arith, refl))
  comes_by _ _ (more {p} {a} before w other) =
      let rest = comes_by p a before in
      scan_more bs a p rest.0 (scanned plan bs) rest.1.0 w other rest.1.1 _ _ refl refl

  -- and ends at a place where it stops
  ends_there : (p : Passed) (a k : ℕ) → WellFormed plan bs p a
      → (stops_at (field_at bs a p) ≡ true) × (stop_number (length bs) (field_at bs a p) ≡ k) → scanned plan bs ≡ record { number = k; passed = p; at = a }
  ends_there p a k before stop =
      let by = comes_by p a before in
      let some : 0 < by.0 = omega (arith, by.1.0) in
      sym by.1.1 ∙ scan_stops bs a p by.0 some stop.0 ∙ ap (λ (n : ℕ). record { number = n; passed = p; at = a }) stop.1

  pub fault_there : (k : ℕ) (f : FirstFault plan bs k) → scanned plan bs ≡ record { number = k; passed = f.passed; at = f.place }
  fault_there k f = ends_there f.passed f.place k f.before (fault_stops bs f.place f.passed k f.fault)

  pub end_there : (w : WholeSheet plan bs) → scanned plan bs ≡ record { number = 0; passed = w.passed; at = w.place }
  end_there w = ends_there w.passed w.place 0 w.before (end_stops bs w.place w.passed w.end_whole w.end_tag_lem w.nothing_follows)

  -- what is known where it has stopped
  pub record Stopped (r : Scanned) : Type 0 where
    pub before : WellFormed plan bs r.passed r.at
    pub why : ((r.number ≢ 0) × Fault bs r.at r.passed r.number) ⊎ ((r.number ≡ 0) × AtEnd bs r.at r.passed)

  stops_somewhere : (k : ℕ) (p : Passed) (a : ℕ) → left bs a < k → WellFormed plan bs p a → Stopped (scan_from k bs p a)
  stops_somewhere zero p a l before = absurd (omega arith)
  stops_somewhere (suc k) p a l before =
      ⊎_elim (λ (h : stops_at (field_at bs a p) ≡ true).
      subst Stopped (sym (scan_stops bs a p (suc k) (omega arith) h)) (record { before = before; why = stop_said bs a p _ refl h }))
      (λ (h : stops_at (field_at bs a p) ≡ false).
      let w = passes bs a p h in
      subst Stopped (sym (scan_turn bs a p k w.0 w.1))
      (stops_somewhere k _ (behind bs a) (omega (arith, w.0.inside)) (more before w.0 w.1)))
      (true_or_false (stops_at (field_at bs a p)))

  pub stopped : Stopped (scanned plan bs)
  unfolding scanned
  stopped = stops_somewhere (suc (length bs)) _ 0 (omega arith) start

  pub shape_fault : (k : ℕ) → k ≢ 0 → (scanned plan bs).number ≡ k → FirstFault plan bs k
  shape_fault k some e =
      record {
        passed = (scanned plan bs).passed;
        place = (scanned plan bs).at;
        before = stopped.before;
        fault = ⊎_elim (λ f. subst (Fault bs (scanned plan bs).at (scanned plan bs).passed) e f.1) (λ z. absurd (some (sym e ∙ z.0))) stopped.why;
      }

  pub shape_whole : (scanned plan bs).number ≡ 0 → WholeSheet plan bs
  shape_whole e = ⊎_elim (λ f. absurd (f.0 e)) (λ z. whole z.1) stopped.why
    where
      whole : AtEnd bs (scanned plan bs).at (scanned plan bs).passed → WholeSheet plan bs
      whole z = record { passed = (scanned plan bs).passed; place = (scanned plan bs).at; before = stopped.before; end_whole = z.whole; end_tag_lem = z.is_end_lem; nothing_follows = z.last }
