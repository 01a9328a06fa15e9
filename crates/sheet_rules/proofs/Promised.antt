-- The promises hold because a sheet's parts stand one behind the other, are counted where they stand, and hold the numbers that were written.
use Prim.Native.Nat.{ℕ, zero, suc, ◌+◌, ◌^◌, ◌≤◌, ◌<◌}
use native.Mathlib.Nat.{add_assoc}
use mathlib.Core.Path.{◌≡◌, refl, sym, ap, ◌∙◌}
use mathlib.Core.Bool.{Bool, true, false, cond}
use mathlib.Core.List.{List, [], ◌∷◌, ◌++◌, append-nil}
use mathlib.Core.Logic.{⊎_elim, ◌↔◌, ◌≢◌}
use native.Mathlib.Omega.{arith}
use lib.Dec.{eqb}
use lib.ListN.{length, take, drop, get_or-replicate, get_or-eq_default}
use lib.Seq.{take_at}
use borrow.Author.Tests.{leb-true}
use Rattle.units.specs.Numbers.{timely, fddi}
use Rattle.units.specs.Places.{at, fill}
use Rattle.units.proofs.PlaceLaws.{fill_outside}
use Rattle.units.proofs.SmallLaws.{below_or_not}
use Rattle.units.proofs.JudgingLaws.{held, not_given, passed}
use Rattle.sets.specs.Header.{head_number}
use Rattle.sets.specs.Rules.{SameSet, CountAllowed}
use Rattle.sets.specs.Judged.{judged, judged_then, blank_set, zeros}
use Rattle.sets.proofs.SetLaws.{decides_count, judged_same}
use Rattle.sets.specs.declared.Head.{Head}
use Rattle.sets.specs.declared.Set.{Set}
use Rattle.plans.specs.Planned.{judged_plan, blank_alloc}
use Rattle.plans.proofs.SameLaws.{judged_plan_same}
use Rattle.plans.specs.declared.Alloc.{Alloc}
use Rattle.fields.specs.Rows.{rows}
use Rattle.fields.specs.Bytes.{bytes_of, body_at, body_of, AllBytes}
use Rattle.fields.specs.Fields.{mode_tag, further_size, allocations_for}
use Rattle.fields.specs.Header.{further_count, behind_tag, further_place, place_of}
use Rattle.fields.proofs.HeaderLaws.{behind_there, behind_not}
use Rattle.fields.proofs.SegmentLaws.{rows_same}
use Rattle.fields.specs.declared.Passed.{Passed}
use Rattle.field_reader.specs.Scanned.{scanned}
use Rattle.field_reader.specs.FirstFault.{Fault, no_start, not_allowed, cut_body, follows, FirstFault, WholeSheet}
use Rattle.field_reader.specs.declared.Scanned.{Scanned}
use Rattle.field_reader.proofs.ScannedLaws.{zero_or_not, fault_there, end_there, stopped, shape_fault, shape_whole}
use Rattle.field_reader.proofs.PassedLaws.{whole_ended, scanned_ended, through, plan_no_request}
use Rattle.sheets.specs.Layout.{mark, most_of, further_bytes, further_length, head_up_to, head_length, station_with, station_bytes, allocation_bytes, end_bytes, fields_of, sheet_of, request_sheet, plan_sheet, sheet_length}
use Rattle.sheets.specs.Reading.{then_number, set_in, alloc_in, judged_sheet, read_sheet, read_request, read_plan, given_sheet}
use Rattle.sheets.specs.Writing.{written_answer, written_buffer, request_written, plan_written}
use Rattle.sheet_rules.specs.Promised.{Promised, ZeroPast, GivenRequest, GivenPlan, first_places, first_allocations, request_length, plan_length, ByTag, There, said, small_set, Numbers32}
use Rattle.sheets.proofs.ReadLaws.{then_rest, then_keeps, then_none, read_refused, read_accepted, read_number_lem, sheet_accepted}
use Rattle.sheets.proofs.ReadingLaws.{head_out, given_misshapen, given_read as given-held, given_number, sheet_given}
use Rattle.sheets.proofs.FirstLaws.{reads_enough}
use Rattle.sheets.proofs.WritingLaws.{further_none, up_to_more, length_none, length_some, head_fields, head_lengths, sheet_long, answer_accepted, answer_number, buffer_accepted, buffer_refused, number_none, number_short, number_judged as written-judged}
use Rattle.sheet_rules.proofs.BackLaws.{read_back, laid_number, first_same, first_allocations_lem}
use Rattle.sheet_rules.proofs.HeaderLaws.{reads_absent, reads_number, reads_out}
use Rattle.sheet_rules.proofs.StandingLaws.{may_stand_lem}
use Rattle.sheet_rules.proofs.AgainLaws.{read_again}
use Rattle.sheets.specs.declared.ReadPlan.{ReadPlan}
use Rattle.sheets.specs.declared.Written.{Written}

-- ---- writing, then reading

-- an accepted writing of what is judged 0
module _ (plan : Bool) (t : Set) (a : Alloc) (out : List ℕ) (judged_0 : judged_sheet plan t a ≡ 0) (fits : sheet_length plan t ≤ length out) where
  answered : written_answer plan t a out ≡ record { length = sheet_length plan t; number = 0 }
  answered = answer_accepted _ (sheet_length plan t) (number_none plan t a out judged_0 fits)

  written : written_buffer plan t a out ≡ sheet_of plan t a ++ drop (length (sheet_of plan t a)) out
  written = buffer_accepted _ (sheet_of plan t a) out (number_none plan t a out judged_0 fits)

  -- the first n bytes are the sheet
  first_bytes : take (sheet_length plan t) (written_buffer plan t a out) ≡ sheet_of plan t a
  first_bytes = rw written (take_at (sheet_of plan t a) _ (sheet_length plan t) (sheet_long plan t a))

-- what was accepted was judged 0, and fitted
accepted_says : (plan : Bool) (t : Set) (a : Alloc) (out : List ℕ) → (written_answer plan t a out).number ≡ 0 → (judged_sheet plan t a ≡ 0) × (sheet_length plan t ≤ length out)
accepted_says plan t a out h =
    let both = then_none _ _ (sym (answer_number _ _) ∙ h) in
    (both.0, leb-true _ _ (passed _ 14 _ (omega arith) both.1).0)

-- bytes that writing gave are read back
given_read : (plan : Bool) (t : Set) (a : Alloc) (out bs : List ℕ) → (written_answer plan t a out).number ≡ 0
    → bs ≡ take (written_answer plan t a out).length (written_buffer plan t a out) → (read_sheet plan bs).number ≡ 0
given_read plan t a out bs h e =
    let said = accepted_says plan t a out h in
    let long : (written_answer plan t a out).length ≡ sheet_length plan t = ap (λ (r : Written). r.length) (answered plan t a out said.0 said.1) in
    let is : bs ≡ sheet_of plan t a = e ∙ rw long (first_bytes plan t a out said.0 said.1) in
    rw (is, read_back plan t a said.0)

-- ---- reading, then writing

-- a sheet written into a buffer that is long enough
same_bytes_lem : (plan : Bool) (t : Set) (a : Alloc) (bs out : List ℕ) → judged_sheet plan t a ≡ 0 → bs ≡ sheet_of plan t a → length bs ≤ length out
    → (written_answer plan t a out ≡ record { length = length bs; number = 0 }) × (written_buffer plan t a out ≡ bs ++ drop (length bs) out)
same_bytes_lem plan t a bs out judged_0 e fits =
    let long : length bs ≡ sheet_length plan t = ap length e ∙ sheet_long plan t a in
    let fit : sheet_length plan t ≤ length out = omega arith in
    (rw long (answered plan t a out judged_0 fit), rw e (written plan t a out judged_0 fit))

-- a request's bytes do not depend on an allocation
no_allocation_lem : (t : Set) (a b : Alloc) → sheet_of false t a ≡ sheet_of false t b
unfolding sheet_of rows
no_allocation_lem t a b = refl

module _ (bs : List ℕ) (bytes : AllBytes bs) where
  request_same : (out : List ℕ) → (read_request bs).number ≡ 0 → length bs ≤ length out
      → ((request_written (read_request bs).set out).answer ≡ record { length = length bs; number = 0 })
      × ((request_written (read_request bs).set out).buffer ≡ bs ++ drop (length bs) out)
  unfolding judged_sheet
  request_same out h fits =
      let said = read_again false bs bytes h in
      rw (sheet_accepted false bs said.1.1 said.0)
      (same_bytes_lem false (set_in false bs) blank_alloc bs out said.0 (said.1.0 ∙ no_allocation_lem (set_in false bs) (alloc_in false bs) blank_alloc) fits)

  plan_same : (out : List ℕ) → (read_plan bs).number ≡ 0 → length bs ≤ length out
      → ((plan_written (read_plan bs).set (read_plan bs).alloc out).answer ≡ record { length = length bs; number = 0 })
      × ((plan_written (read_plan bs).set (read_plan bs).alloc out).buffer ≡ bs ++ drop (length bs) out)
  plan_same out h fits =
      let said = read_again true bs bytes h in
      rw (sheet_accepted true bs said.1.1 said.0)
      (same_bytes_lem true (set_in true bs) (alloc_in true bs) bs out said.0 said.1.0 fits)

-- bytes that stand at the start are the first of them
first_of : (bs out : List ℕ) → take (length bs) (bs ++ drop (length bs) out) ≡ bs
first_of bs out = take_at bs _ (length bs) refl

request_given : (bs : List ℕ) → AllBytes bs → ((read_request bs).number ≡ 0) ↔ GivenRequest bs
request_given bs bytes = (
  λ h.
      let w = request_same bs bytes bs h (omega arith) in
      let t = (read_request bs).set in
      (t, bs, (ap (λ (r : Written). r.number) w.0, sym (rw (w.0, w.1) (first_of bs bs)))),
  λ g. given_read false g.0 blank_alloc g.1 bs g.2.0 g.2.1,
)

plan_given : (bs : List ℕ) → AllBytes bs → ((read_plan bs).number ≡ 0) ↔ GivenPlan bs
plan_given bs bytes = (
  λ h.
      let w = plan_same bs bytes bs h (omega arith) in
      ((read_plan bs).set, (read_plan bs).alloc, bs, (ap (λ (r : Written). r.number) w.0, sym (rw (w.0, w.1) (first_of bs bs)))),
  λ g. given_read true g.0 g.1 g.2 bs g.3.0 g.3.1,
)

-- ---- the first fault

-- a judgement is never 1 or 3, and 2 for the count alone
pub not_low : (plan : Bool) (t : Set) (a : Alloc) (k : ℕ) → CountAllowed t → 1 ≤ k → k ≤ 3 → judged_sheet plan t a ≢ k
unfolding judged_sheet judged_plan judged_then
not_low true t a k count low high h =
    not_given _ 4 _ k (omega arith) (not_given _ 5 _ k (omega arith) (not_given _ 7 0 k (omega arith) (omega arith)))
    (sym (held _ 2 _ ((decides_count t).1 count)) ∙ h)
not_low false t a k count low high h =
    not_given _ 4 _ k (omega arith) (not_given _ 5 0 k (omega arith) (omega arith)) (sym (held _ 2 _ ((decides_count t).1 count)) ∙ h)

count_read : (plan : Bool) (bs : List ℕ) → (scanned plan bs).number ≡ 0 → CountAllowed (set_in plan bs)
count_read plan bs h = let e = (scanned_ended plan bs h).before in (e.some, e.few)

-- the number that is read
number_read : (plan : Bool) (bs : List ℕ) → (scanned plan bs).number ≢ 0 → (read_sheet plan bs).number ≡ (scanned plan bs).number
unfolding read_sheet
number_read plan bs h = read_number_lem _ _ _ ∙ then_keeps _ _ h

number_judged : (plan : Bool) (bs : List ℕ) → (scanned plan bs).number ≡ 0 → (read_sheet plan bs).number ≡ judged_sheet plan (set_in plan bs) (alloc_in plan bs)
unfolding read_sheet
number_judged plan bs h = read_number_lem _ _ _ ∙ then_rest _ _ h

fault_given : (plan : Bool) (bs : List ℕ) (k : ℕ) → 1 ≤ k → k ≤ 3 → ((read_sheet plan bs).number ≡ k) ↔ FirstFault plan bs k
fault_given plan bs k low high = (
  λ h.
      ⊎_elim (λ (z : (scanned plan bs).number ≡ 0). absurd (not_low plan (set_in plan bs) (alloc_in plan bs) k (count_read plan bs z) low high (sym (number_judged plan bs z) ∙ h)))
      (λ (z : (scanned plan bs).number ≢ 0). shape_fault plan bs k (omega arith) (sym (number_read plan bs z) ∙ h))
      (zero_or_not (scanned plan bs).number),
  λ f.
      let e : (scanned plan bs).number ≡ k = ap (λ (r : Scanned). r.number) (fault_there plan bs k f) in
      let some : (scanned plan bs).number ≢ 0 = λ z. absurd (omega arith) in
      number_read plan bs some ∙ e,
)

-- no fault has a number above 3
fault_low : (bs : List ℕ) (a : ℕ) (p : Passed) (k : ℕ) → Fault bs a p k → k ≤ 3
fault_low bs a p _ (no_start short) = omega arith
fault_low bs a p _ (not_allowed three wrong) = omega arith
fault_low bs a p _ (cut_body three may cut) = omega arith
fault_low bs a p _ (follows e w m) = omega arith

whole_else : (plan : Bool) (bs : List ℕ) → ((k : ℕ) → 1 ≤ k → k ≤ 3 → (read_sheet plan bs).number ≢ k) → WholeSheet plan bs
whole_else plan bs h =
    ⊎_elim (λ (z : (scanned plan bs).number ≡ 0). shape_whole plan bs z)
    (λ (z : (scanned plan bs).number ≢ 0).
    let f = shape_fault plan bs (scanned plan bs).number z refl in
    let low : (scanned plan bs).number ≤ 3 = fault_low bs f.place _ (scanned plan bs).number f.fault in
    absurd (h (scanned plan bs).number (above (scanned plan bs).number z) low (number_read plan bs z)))
    (zero_or_not (scanned plan bs).number)
  where
    above : (k : ℕ) → k ≢ 0 → 1 ≤ k
    above zero z = absurd (z refl)
    above (suc k) z = omega arith

-- the sheet has no fault, both ways
whole_exactly : (plan : Bool) (bs : List ℕ) → ((k : ℕ) → 1 ≤ k → k ≤ 3 → (read_sheet plan bs).number ≢ k) ↔ WholeSheet plan bs
whole_exactly plan bs = (
  whole_else plan bs,
  λ w k low high h.
      let z : (scanned plan bs).number ≡ 0 = ap (λ (r : Scanned). r.number) (end_there plan bs w) in
      not_low plan (set_in plan bs) (alloc_in plan bs) k (count_read plan bs z) low high (sym (number_judged plan bs z) ∙ h),
)

counted : (plan : Bool) (bs : List ℕ) (w : WholeSheet plan bs) → ((set_in plan bs).n ≡ w.passed.stations) × CountAllowed (set_in plan bs)
counted plan bs w =
    let e = end_there plan bs w in
    (ap (λ (r : Scanned). r.passed.stations) e, count_read plan bs (ap (λ (r : Scanned). r.number) e))

-- ---- the numbers of writing

-- no judgement is 14
not_fourteen : (plan : Bool) (t : Set) (a : Alloc) → judged_sheet plan t a ≢ 14
unfolding judged_sheet judged_plan judged_then
not_fourteen true t a =
    not_given _ 2 _ 14 (omega arith) (not_given _ 4 _ 14 (omega arith) (not_given _ 5 _ 14 (omega arith) (not_given _ 7 0 14 (omega arith) (omega arith))))
not_fourteen false t a = not_given _ 2 _ 14 (omega arith) (not_given _ 4 _ 14 (omega arith) (not_given _ 5 0 14 (omega arith) (omega arith)))

module _ (plan : Bool) (t : Set) (a : Alloc) (out : List ℕ) where
  keeps_judgement : judged_sheet plan t a ≢ 0 → (written_answer plan t a out).number ≡ judged_sheet plan t a
  keeps_judgement h = answer_number _ _ ∙ written-judged plan t a out h

  fourteen : ((written_answer plan t a out).number ≡ 14) ↔ ((judged_sheet plan t a ≡ 0) × (length out < sheet_length plan t))
  fourteen = (
    λ h.
        ⊎_elim (λ (z : judged_sheet plan t a ≡ 0).
        ⊎_elim (λ (short : length out < sheet_length plan t). (z, short))
        (λ (fits : sheet_length plan t ≤ length out).
        let accepted : (written_answer plan t a out).number ≡ 0 = answer_number _ _ ∙ number_none plan t a out z fits in
        absurd (omega arith))
        (below_or_not (length out) (sheet_length plan t)))
        (λ (some : judged_sheet plan t a ≢ 0). absurd (not_fourteen plan t a (sym (keeps_judgement some) ∙ h)))
        (zero_or_not (judged_sheet plan t a)),
    λ h. answer_number _ _ ∙ number_short plan t a out h.0 h.1,
  )

-- ---- blank, and 0 past N

blank : (plan : Bool) (bs : List ℕ) → (read_sheet plan bs).number ≢ 0 → read_sheet plan bs ≡ record { set = blank_set; alloc = blank_alloc; number = (read_sheet plan bs).number }
unfolding read_sheet
blank plan bs h =
    let e = read_number_lem (then_number (scanned plan bs).number (judged_sheet plan (set_in plan bs) (alloc_in plan bs))) (set_in plan bs) (alloc_in plan bs) in
    let some : then_number (scanned plan bs).number (judged_sheet plan (set_in plan bs) (alloc_in plan bs)) ≢ 0 = λ z. h (e ∙ z) in
    read_refused _ (set_in plan bs) (alloc_in plan bs) some ∙ ap (λ (k : ℕ). record { set = blank_set; alloc = blank_alloc; number = k }) (sym e)

accepted : (plan : Bool) (bs : List ℕ) → (read_sheet plan bs).number ≡ 0 → read_sheet plan bs ≡ record { set = set_in plan bs; alloc = alloc_in plan bs; number = 0 }
unfolding read_sheet
accepted plan bs h = read_accepted _ (set_in plan bs) (alloc_in plan bs) (sym (read_number_lem _ _ _) ∙ h)

zeros_at : (i : ℕ) → at zeros i ≡ 0
zeros_at i = ⊎_elim (λ (b : i < 128). get_or-replicate 128 i 0 0 b) (λ (b : 128 ≤ i). get_or-eq_default zeros 0 b) (below_or_not i 128)

filled_past : (n : ℕ) (f : ℕ → ℕ) (i : ℕ) → n ≤ i → at (fill n f zeros) i ≡ 0
filled_past n f i l = fill_outside n f zeros i l ∙ zeros_at i

blank_past : ZeroPast blank_set
blank_past = record { walk = λ i l. zeros_at i; longest = λ i l. zeros_at i; deadline = λ i l. zeros_at i; gap = λ i l. zeros_at i }

read_past : (plan : Bool) (bs : List ℕ) → ZeroPast (set_in plan bs)
read_past plan bs =
    record {
      walk = λ i l. filled_past (scanned plan bs).passed.stations _ i l;
      longest = λ i l. filled_past (scanned plan bs).passed.stations _ i l;
      deadline = λ i l. filled_past (scanned plan bs).passed.stations _ i l;
      gap = λ i l. filled_past (scanned plan bs).passed.stations _ i l;
    }

past : (plan : Bool) (bs : List ℕ) → ZeroPast (read_sheet plan bs).set
past plan bs =
    ⊎_elim (λ (z : (read_sheet plan bs).number ≡ 0). rw (accepted plan bs z) (read_past plan bs))
    (λ (z : (read_sheet plan bs).number ≢ 0). rw (blank plan bs z) blank_past)
    (zero_or_not (read_sheet plan bs).number)

past_allocations : (bs : List ℕ) (i : ℕ) → (read_plan bs).set.n ≤ i → at (read_plan bs).alloc.s i ≡ 0
past_allocations bs i l =
    ⊎_elim (λ (z : (read_sheet true bs).number ≡ 0).
    let e = accepted true bs z in
    let n : (scanned true bs).passed.stations ≤ i = rw e at l in
    let most = (through true bs _ _ (stopped true bs).before).most in
    rw e (filled_past (scanned true bs).passed.allocations _ i (omega arith)))
    (λ (z : (read_sheet true bs).number ≢ 0). rw (blank true bs z) (zeros_at i))
    (zero_or_not (read_sheet true bs).number)

-- ---- the first N places alone are written

pub fields_same : (plan : Bool) (t u : Set) (a b : Alloc) → SameSet t u → ((i : ℕ) → i < allocations_for plan t.n → at a.s i ≡ at b.s i) → fields_of plan t a ≡ fields_of plan u b
fields_same plan t u a b same each =
    let stations : rows t.n (station_bytes t) ≡ rows t.n (station_bytes u) =
    rows_same t.n (station_bytes t) (station_bytes u) (λ i l. rw (same.walk i l, same.longest i l, same.deadline i l, same.gap i l)) in
    let allocations : rows (allocations_for plan t.n) (allocation_bytes a) ≡ rows (allocations_for plan t.n) (allocation_bytes b) =
    rows_same (allocations_for plan t.n) (allocation_bytes a) (allocation_bytes b) (λ i l. rw (each i l)) in
    rw (stations, allocations, same.header, same.count)

sheet_same : (plan : Bool) (t u : Set) (a b : Alloc) → SameSet t u → ((i : ℕ) → i < allocations_for plan t.n → at a.s i ≡ at b.s i) → sheet_of plan t a ≡ sheet_of plan u b
unfolding sheet_of
sheet_same plan t u a b same each = ap (λ (fields : List ℕ). fields ++ end_bytes) (fields_same plan t u a b same each)

written_same : (plan : Bool) (t u : Set) (a b : Alloc) (out : List ℕ) → SameSet t u
    → ((i : ℕ) → i < allocations_for plan t.n → at a.s i ≡ at b.s i) → judged_sheet plan t a ≡ judged_sheet plan u b
    → (written_answer plan t a out ≡ written_answer plan u b out) × (written_buffer plan t a out ≡ written_buffer plan u b out)
written_same plan t u a b out same each judged =
    (rw (judged, same.header, same.count), rw (judged, sheet_same plan t u a b same each, same.header, same.count))

request_places : (t u : Set) (out : List ℕ) → SameSet t u
    → ((request_written t out).answer ≡ (request_written u out).answer) × ((request_written t out).buffer ≡ (request_written u out).buffer)
unfolding judged_sheet
request_places t u out same = written_same false t u blank_alloc blank_alloc out same (λ i l. refl) (judged_same t u 0 same)

plan_places : (t u : Set) (a b : Alloc) (out : List ℕ) → SameSet t u → ((i : ℕ) → i < t.n → at a.s i ≡ at b.s i)
    → ((plan_written t a out).answer ≡ (plan_written u b out).answer) × ((plan_written t a out).buffer ≡ (plan_written u b out).buffer)
unfolding judged_sheet
plan_places t u a b out same each = written_same true t u a b out same each (judged_plan_same t u a b same each)

-- ---- the promises

request_written_lem : (t : Set) (out : List ℕ) → judged t ≡ 0 → request_length t ≤ length out
    → ((request_written t out).answer ≡ record { length = request_length t; number = 0 })
    × (read_request (take (request_length t) (request_written t out).buffer) ≡ record { set = first_places t; number = 0 })
unfolding judged_sheet
request_written_lem t out h fits =
    let e : request_length t ≡ sheet_length false t = omega arith in
    let fit : sheet_length false t ≤ length out = omega arith in
    let bytes : take (request_length t) (request_written t out).buffer ≡ request_sheet t = ap (λ (k : ℕ). take k (request_written t out).buffer) e ∙ first_bytes false t blank_alloc out h fit in
    let back = read_back false t blank_alloc h in (
      answered false t blank_alloc out h fit ∙ ap (λ (k : ℕ). record { length = k; number = 0 }) (sym e),
      ap read_request bytes ∙ ap (λ (r : ReadPlan). record { set = r.set; number = r.number }) back,
    )

plan_written_lem : (t : Set) (a : Alloc) (out : List ℕ) → judged_plan t a ≡ 0 → plan_length t ≤ length out
    → ((plan_written t a out).answer ≡ record { length = plan_length t; number = 0 })
    × (read_plan (take (plan_length t) (plan_written t a out).buffer) ≡ record { set = first_places t; alloc = first_allocations t.n a; number = 0 })
unfolding judged_sheet
plan_written_lem t a out h fits =
    let e : plan_length t ≡ sheet_length true t = omega arith in
    let fit : sheet_length true t ≤ length out = omega arith in
    let bytes : take (plan_length t) (plan_written t a out).buffer ≡ plan_sheet t a = ap (λ (k : ℕ). take k (plan_written t a out).buffer) e ∙ first_bytes true t a out h fit in
    (answered true t a out h fit ∙ ap (λ (k : ℕ). record { length = k; number = 0 }) (sym e), ap read_plan bytes ∙ read_back true t a h)

request_judgement : (bs : List ℕ) → WholeSheet false bs → (read_request bs).number ≡ judged (set_in false bs)
unfolding judged_sheet
request_judgement bs w = number_judged false bs (ap (λ (r : Scanned). r.number) (end_there false bs w))

plan_judgement : (bs : List ℕ) → WholeSheet true bs → (read_plan bs).number ≡ judged_plan (set_in true bs) (alloc_in true bs)
unfolding judged_sheet
plan_judgement bs w = number_judged true bs (ap (λ (r : Scanned). r.number) (end_there true bs w))

-- a plan that is accepted has no fault as a plan, so as a request it has one
no_request : (bs : List ℕ) → (read_plan bs).number ≡ 0 → (read_request bs).number ≡ 2
unfolding read_sheet
no_request bs h =
    let whole = shape_whole true bs (then_none _ _ (sym (read_number_lem _ _ _) ∙ h)).0 in
    (fault_given false bs 2 (omega arith) (omega arith)).1 (plan_no_request bs whole)

request_short : (t : Set) (out : List ℕ) → ((request_written t out).answer.number ≡ 14) ↔ ((judged t ≡ 0) × (length out < request_length t))
unfolding judged_sheet
request_short t out = (λ h. let said = (fourteen false t blank_alloc out).0 h in (said.0, omega (arith, said.1)), λ h. (fourteen false t blank_alloc out).1 (h.0, omega (arith, h.1)))

plan_short : (t : Set) (a : Alloc) (out : List ℕ) → ((plan_written t a out).answer.number ≡ 14) ↔ ((judged_plan t a ≡ 0) × (length out < plan_length t))
unfolding judged_sheet
plan_short t a out = (λ h. let said = (fourteen true t a out).0 h in (said.0, omega (arith, said.1)), λ h. (fourteen true t a out).1 (h.0, omega (arith, h.1)))

request_kept : (t : Set) (out : List ℕ) → judged t ≢ 0 → (request_written t out).answer.number ≡ judged t
unfolding judged_sheet
request_kept t out h = keeps_judgement false t blank_alloc out h

plan_kept : (t : Set) (a : Alloc) (out : List ℕ) → judged_plan t a ≢ 0 → (plan_written t a out).answer.number ≡ judged_plan t a
unfolding judged_sheet
plan_kept t a out h = keeps_judgement true t a out h

request_laid_out : (t : Set) → CountAllowed t → Numbers32 t → (read_request (request_sheet t)).number ≡ judged t
unfolding judged_sheet
request_laid_out t count small = laid_number false t blank_alloc count small (λ i l. absurd (omega arith))

plan_laid_out : (t : Set) (a : Alloc) → CountAllowed t → Numbers32 t → ((i : ℕ) → i < t.n → at a.s i < 2 ^ 32) → (read_plan (plan_sheet t a)).number ≡ judged_plan t a
unfolding judged_sheet
plan_laid_out t a count small shares = laid_number true t a count small shares

small_written : request_sheet (small_set timely 1 1) ≡ 1 ∷ 0 ∷ 4 ∷ 0 ∷ 0 ∷ 0 ∷ 1 ∷ 2 ∷ 0 ∷ 16 ∷ 0 ∷ 0 ∷ 0 ∷ 1 ∷ 0 ∷ 0 ∷ 0 ∷ 0 ∷ 0 ∷ 0 ∷ 0 ∷ 1 ∷ 0 ∷ 0 ∷ 0 ∷ 1 ∷ 255 ∷ 0 ∷ 0 ∷ []
unfolding sheet_of head_up_to head_number further_bytes body_of further_size station_with rows bytes_of fill
small_written = refl

fddi_written : request_sheet (small_set fddi 1 1)
    ≡ 1 ∷ 0 ∷ 4 ∷ 0 ∷ 0 ∷ 0 ∷ 1 ∷ 4 ∷ 0 ∷ 1 ∷ 2 ∷ 2 ∷ 0 ∷ 16 ∷ 0 ∷ 0 ∷ 0 ∷ 1 ∷ 0 ∷ 0 ∷ 0 ∷ 0 ∷ 0 ∷ 0 ∷ 0 ∷ 1 ∷ 0 ∷ 0 ∷ 0 ∷ 1 ∷ 255 ∷ 0 ∷ 0 ∷ []
unfolding sheet_of head_up_to head_number further_bytes body_of further_size station_with rows bytes_of fill
fddi_written = refl

frame_written : request_sheet (small_set timely 40 1)
    ≡ 1 ∷ 0 ∷ 4 ∷ 0 ∷ 0 ∷ 0 ∷ 1 ∷ 5 ∷ 0 ∷ 4 ∷ 0 ∷ 0 ∷ 0 ∷ 40 ∷ 2 ∷ 0 ∷ 16 ∷ 0 ∷ 0 ∷ 0 ∷ 1 ∷ 0 ∷ 0 ∷ 0 ∷ 0 ∷ 0 ∷ 0 ∷ 0 ∷ 1 ∷ 0 ∷ 0 ∷ 0 ∷ 1 ∷ 255 ∷ 0 ∷ 0 ∷ []
unfolding sheet_of head_up_to head_number further_bytes body_of further_size station_with rows bytes_of fill
frame_written = refl

grid_written : request_sheet (small_set timely 1 5)
    ≡ 1 ∷ 0 ∷ 4 ∷ 0 ∷ 0 ∷ 0 ∷ 1 ∷ 6 ∷ 0 ∷ 4 ∷ 0 ∷ 0 ∷ 0 ∷ 5 ∷ 2 ∷ 0 ∷ 16 ∷ 0 ∷ 0 ∷ 0 ∷ 1 ∷ 0 ∷ 0 ∷ 0 ∷ 0 ∷ 0 ∷ 0 ∷ 0 ∷ 1 ∷ 0 ∷ 0 ∷ 0 ∷ 1 ∷ 255 ∷ 0 ∷ 0 ∷ []
unfolding sheet_of head_up_to head_number further_bytes body_of further_size station_with rows bytes_of fill
grid_written = refl

all_written : request_sheet (small_set fddi 65_535 1_000)
    ≡ 1 ∷ 0 ∷ 4 ∷ 0 ∷ 0 ∷ 0 ∷ 1
    ∷ 4 ∷ 0 ∷ 1 ∷ 2
    ∷ 5 ∷ 0 ∷ 4 ∷ 0 ∷ 0 ∷ 255 ∷ 255
    ∷ 6 ∷ 0 ∷ 4 ∷ 0 ∷ 0 ∷ 3 ∷ 232
    ∷ 2 ∷ 0 ∷ 16 ∷ 0 ∷ 0 ∷ 0 ∷ 1 ∷ 0 ∷ 0 ∷ 0 ∷ 0 ∷ 0 ∷ 0 ∷ 0 ∷ 1 ∷ 0 ∷ 0 ∷ 0 ∷ 1
    ∷ 255 ∷ 0 ∷ 0 ∷ []
unfolding sheet_of head_up_to head_number further_bytes body_of further_size station_with rows bytes_of fill
all_written = refl

-- ---- the header

tags : ByTag
unfolding head_number most_of further_place behind_tag body_at further_size
tags =
    record {
      mode_number = λ h. refl;
      frame_number = λ h. refl;
      grid_number = λ h. refl;
      mode_most = refl;
      frame_most = refl;
      grid_most = refl;
      mode_place = λ bs. refl;
      frame_first = λ bs other. behind_not bs 4 7 other;
      frame_second = λ bs e. behind_there bs 4 7 e;
      grid_first = λ bs other. behind_not bs 5 (place_of bs 5) other;
      grid_second = λ bs e. behind_there bs 5 (place_of bs 5) e ∙ add_assoc (place_of bs 5) 3 4;
      mode_said = λ bs a. refl;
      frame_said = λ bs a. refl;
      grid_said = λ bs a. refl;
    }

-- what the header has behind TTRT
lengths : (h : Head) → head_length h ≡ cond (eqb h.mode 1) 0 4 + cond (eqb h.frame 1) 0 7 + cond (eqb h.grid 1) 0 7
unfolding further_length further_size
lengths h = head_lengths h

none_further : (h : Head) → h.mode ≡ 1 → h.frame ≡ 1 → h.grid ≡ 1 → head_length h ≡ 0
none_further h m f g = omega (arith, head_lengths h, length_none 4 h.mode m, length_none 5 h.frame f, length_none 6 h.grid g)

all_further : (h : Head) → h.mode ≢ 1 → h.frame ≢ 1 → h.grid ≢ 1 → head_length h ≡ 18
unfolding further_size
all_further h m f g = omega (arith, head_lengths h, length_some 4 h.mode m, length_some 5 h.frame f, length_some 6 h.grid g)

-- a number of 1 has no field: a header with 1 from the k-th further number on ends with the first k fields
first_fields : (h : Head) (k n : ℕ) → k ≤ n → ((j : ℕ) → k ≤ j → j < n → head_number h (mode_tag + j) ≡ 1) → head_up_to h n ≡ head_up_to h k
first_fields h k zero l ones = ap (head_up_to h) (omega arith)
first_fields h k (suc n) l ones =
    ⊎_elim (λ (b : k < suc n).
    up_to_more h n
    ∙ ap (λ (s : List ℕ). head_up_to h n ++ s) (further_none (mode_tag + n) (head_number h (mode_tag + n)) (ones n (omega arith) (omega arith)))
    ∙ append-nil (head_up_to h n)
    ∙ first_fields h k n (omega arith) (λ j m b. ones j m (omega arith)))
    (λ (b : suc n ≤ k). ap (head_up_to h) (omega arith))
    (below_or_not k (suc n))

bytes_before : (plan : Bool) (t : Set) (a : Alloc) (k : ℕ) → k ≤ further_count → ((j : ℕ) → k ≤ j → j < further_count → head_number t.head (mode_tag + j) ≡ 1)
    → sheet_of plan t a
    ≡ head_up_to t.head k ++ rows t.n (station_bytes t) ++ rows (allocations_for plan t.n) (allocation_bytes a) ++ mark 255 0
unfolding sheet_of
bytes_before plan t a k l ones =
    ap (λ (s : List ℕ). s ++ rows t.n (station_bytes t) ++ rows (allocations_for plan t.n) (allocation_bytes a) ++ mark 255 0)
    (first_fields t.head k further_count l ones)

-- a number of the header that is out of its range
other_number : (plan : Bool) (bs : List ℕ) → WholeSheet plan bs → (tag : ℕ) → 4 ≤ tag → tag ≤ 6 → There bs tag
    → ¬ ((2 ≤ said bs tag) × (said bs tag ≤ most_of tag)) → (read_sheet plan bs).number ≡ 4
other_number plan bs w tag low high e out =
    let z : (scanned plan bs).number ≡ 0 = ap (λ (r : Scanned). r.number) (end_there plan bs w) in
    number_judged plan bs z ∙ head_out plan (set_in plan bs) (alloc_in plan bs) tag (count_read plan bs z) (reads_out bs tag low high e out)

-- ---- what a sheet holds, whatever its numbers are

given_same : (plan : Bool) (bs : List ℕ) → (given_sheet plan bs).number ≡ (read_sheet plan bs).number
unfolding read_sheet
given_same plan bs = given_number plan bs ∙ sym (read_number_lem _ _ _)

given_fields : (plan : Bool) (bs : List ℕ) → WholeSheet plan bs → ((given_sheet plan bs).set ≡ set_in plan bs) × ((given_sheet plan bs).alloc ≡ alloc_in plan bs)
given_fields plan bs w =
    let z : (scanned plan bs).number ≡ 0 = ap (λ (r : Scanned). r.number) (end_there plan bs w) in
    let e = given-held plan bs z in
    (ap (λ (r : ReadPlan). r.set) e, ap (λ (r : ReadPlan). r.alloc) e)

given_none : (plan : Bool) (bs : List ℕ) → ¬ WholeSheet plan bs → ((given_sheet plan bs).set ≡ blank_set) × ((given_sheet plan bs).alloc ≡ blank_alloc)
given_none plan bs broken =
    let e = given_misshapen plan bs (λ z. broken (shape_whole plan bs z)) in
    (ap (λ (r : ReadPlan). r.set) e, ap (λ (r : ReadPlan). r.alloc) e)

pub promised : Promised
promised =
    record {
      may_stand_lem = may_stand_lem;
      header_length = lengths;
      request_length_lem = λ t. let e = sheet_long false t blank_alloc in omega arith;
      plan_length_lem = λ t a. let e = sheet_long true t a in omega arith;
      shortest = λ t one m f g. omega (arith, sheet_long false t blank_alloc, none_further t.head m f g);
      longest_timely = λ t one m f g. omega (arith, sheet_long false t blank_alloc, none_further t.head m f g);
      longest = λ t all m f g. omega (arith, sheet_long false t blank_alloc, all_further t.head m f g);
      longest_plan = λ t a all m f g. omega (arith, sheet_long true t a, all_further t.head m f g);
      request_read_lem = λ n l bs. ap (λ (r : ReadPlan). record { set = r.set; number = r.number }) (reads_enough false n (omega arith) bs);
      plan_read_lem = λ n l. reads_enough true n (omega arith);
      header_fields = head_fields;
      field_none = λ tag. further_none tag 1 refl;
      as_before = bytes_before;
      written_out = small_written;
      written_out_fddi = fddi_written;
      written_out_frame = frame_written;
      written_out_grid = grid_written;
      written_out_all = all_written;
      request_back = request_written_lem;
      plan_back = plan_written_lem;
      back_same = first_same;
      back_allocations = first_allocations_lem;
      request_laid = request_laid_out;
      plan_laid = plan_laid_out;
      request_again = λ bs out bytes h fits. request_same bs bytes out h fits;
      plan_again = λ bs out bytes h fits. plan_same bs bytes out h fits;
      request_exactly = request_given;
      plan_exactly = plan_given;
      request_fault = λ bs k low high. fault_given false bs k low high;
      plan_fault = λ bs k low high. fault_given true bs k low high;
      one_fault = λ plan bs j k f g.
          let e = sym (fault_there plan bs j f) ∙ fault_there plan bs k g in
          (ap (λ (r : Scanned). r.number) e, ap (λ (r : Scanned). r.at) e);
      request_whole = whole_exactly false;
      plan_whole = whole_exactly true;
      stations_passed = counted;
      allocations_passed = λ plan bs w. (whole_ended plan bs w).before.all;
      by_tag = tags;
      header_absent = λ plan bs. reads_absent bs;
      header_there = λ plan bs. reads_number bs;
      header_other = other_number;
      request_judged = request_judgement;
      plan_judged = plan_judgement;
      plan_no_request = no_request;
      given_number = given_same;
      given_accepted = λ plan bs h. sym (sheet_given plan bs (given_same plan bs ∙ h));
      given_whole = given_fields;
      given_blank = given_none;
      request_blank = λ bs h. ap (λ (r : ReadPlan). r.set) (blank false bs h);
      plan_blank = λ bs h. (ap (λ (r : ReadPlan). r.set) (blank true bs h), ap (λ (r : ReadPlan). r.alloc) (blank true bs h));
      request_past = past false;
      plan_past = past true;
      allocations_past = past_allocations;
      request_refused = request_kept;
      plan_refused_lem = plan_kept;
      request_fourteen = request_short;
      plan_fourteen = plan_short;
      request_unchanged = λ t out h. buffer_refused _ (request_sheet t) out (λ e. h (answer_number _ _ ∙ e));
      plan_unchanged = λ t a out h. buffer_refused _ (plan_sheet t a) out (λ e. h (answer_number _ _ ∙ e));
      request_first_places = request_places;
      plan_first_places = plan_places;
    }
