-- The laws of the walk over a log: where it stops and where it goes on, that it comes by every place up to which the log is well-formed, and that its number is that of the first fault.
use Rattle.std.proofs.lemmas.Bool.{or_cases}
use Rattle.std.proofs.Common.{◌≡◌, ℕ, zero, suc, ◌+◌, ◌<◌, ◌≤◌, Bool, true, false, ◌&&◌, ◌||◌, ◌≢◌, ◌⊎◌, List, length, sym, refl, ap, ◌∙◌, subst, inl, inr, ⊎_elim, true≢false, arith, eq-eqb, ne_eqb, eqb-true, le-leb}
use borrow.Author.Tests.{lt-leb}
use Rattle.units.proofs.JudgingLaws.{true_or_false, held, failed, and-true, true_and}
use Rattle.units.proofs.SmallLaws.{below_or_not}
use Rattle.fields.specs.Fields.{end_tag, end_size, allocations_for, is_allowed, left, tag_at, size_at, behind, allowed_at, FieldWhole}
use Rattle.fields.proofs.FieldLaws.{Kind, a_head, a_station, an_allocation, an_end, a_further, allowed_kind}
use Rattle.fields.specs.declared.Passed.{Passed}
use Rattle.field_reader.specs.Scanned.{scanned}
use Rattle.field_reader.specs.FirstFault.{WellFormed, Fault, no_start as no-start-in-plan, not_allowed as not-allowed-in-plan, cut_body as cut-body-in-plan, follows as follows-in-plan}
use Rattle.field_reader.specs.declared.Scanned.{Scanned}
use Rattle.field_reader.proofs.ScannedLaws.{zero_or_not, fault_there, end_there, stopped, AtEnd}
use Rattle.field_reader.proofs.PassedLaws.{through, end_short}
use Rattle.sheets.specs.Reading.{plan_passed}
use Rattle.logs.specs.Records.{is_record, record_size}
use Rattle.logs.specs.Walked.{log_allowed_at, is_end, stop_number, walk_from, walked, log_walked}
use Rattle.logs.specs.FirstFault.{LogFormed, in_plan, a_record, LogFault, no_start, not_allowed, cut_body, follows, FirstLogFault, WholeLog}
use Rattle.logs.specs.declared.Walked.{Walked}
use Rattle.logs.proofs.RecordLaws.{record_tag, record_there, whole_record, record_cut, no_record_lem}

-- ---- a turn of the walk

module _ (bs : List ℕ) (n a : ℕ) where
  pub walk_stops : (k : ℕ) → 0 < k → record_size bs a ≡ 0 → walk_from k bs n a ≡ record { number = stop_number bs a; records = n; at = a }
  unfolding walk_from
  walk_stops zero l h = absurd (omega arith)
  walk_stops (suc k) l h = rw (eq-eqb (record_size bs a) 0 h) refl

  pub walk_turn : (k : ℕ) → record_size bs a ≢ 0 → walk_from (suc k) bs n a ≡ walk_from k bs (n + 1) (a + record_size bs a)
  unfolding walk_from
  walk_turn k h = rw (ne_eqb (record_size bs a) 0 h) refl

  -- what is left of a walk over a record is the walk from behind it
  pub walk_more : (k : ℕ) (all : Walked) → left bs a < k → record_size bs a ≢ 0 → walk_from k bs n a ≡ all
      → (j : ℕ) × ((left bs (a + record_size bs a) < j) × (walk_from j bs (n + 1) (a + record_size bs a) ≡ all))
  walk_more zero all l h e = absurd (omega arith)
  walk_more (suc k) all l h e =
      let there = record_there bs a h in
      (k, (omega (arith, there.inside, there.some), sym (walk_turn k h) ∙ e))

-- ---- one field

or_false : (x y : Bool) → (x || y) ≡ false → (x ≡ false) × (y ≡ false)
or_false true y h = absurd (true≢false h)
or_false false y h = (refl, h)

not_both : (x y : Bool) → x ≡ true → (x && y) ≡ false → y ≡ false
not_both x y e h = rw e at h

-- a test that would be wrong fails
fails : (x : Bool) → (x ≡ true → ⊥) → x ≡ false
fails true h = absurd (h refl)
fails false h = refl

module _ (bs : List ℕ) (a : ℕ) where
  -- the tag and the length of the end
  end_says : is_end bs a ≡ true → (tag_at bs a ≡ 255) × (size_at bs a ≡ 0)
  end_says h = let w = and-true _ _ h in (eqb-true _ _ w.0, eqb-true _ _ w.1)

  -- the end is no record
  end_no_record : is_end bs a ≡ true → is_record bs a ≡ false
  end_no_record h = fails _ (λ v. absurd (omega (arith, (end_says h).0, (record_tag bs a v).1)))

  -- no record stands where too few bytes are left, or another field begins
  record_short : left bs a < 3 → record_size bs a ≡ 0
  record_short short = no_record_lem bs a (λ r. absurd (omega (arith, r.inside, r.some)))

  record_half : length bs < behind bs a → record_size bs a ≡ 0
  record_half cut = no_record_lem bs a (λ r. absurd (omega (arith, r.inside, r.next)))

  record_other : is_record bs a ≡ false → record_size bs a ≡ 0
  record_other other = no_record_lem bs a (λ r. true≢false (sym r.here ∙ other))

  -- ---- the number at a place where no whole record stands

  pub stop_short : left bs a < 3 → stop_number bs a ≡ 1
  unfolding stop_number
  stop_short h = failed _ _ _ (lt-leb 3 (left bs a) h)

  pub stop_cut : 3 ≤ left bs a → is_record bs a ≡ true → stop_number bs a ≡ 1
  unfolding stop_number
  stop_cut h v = held _ _ _ (le-leb 3 (left bs a) h) ∙ rw v refl

  pub stop_wrong : 3 ≤ left bs a → is_record bs a ≡ false → is_end bs a ≡ false → stop_number bs a ≡ 2
  unfolding stop_number
  stop_wrong h v e = held _ _ _ (le-leb 3 (left bs a) h) ∙ rw v (failed _ _ _ e)

  pub stop_runs : 3 ≤ left bs a → is_end bs a ≡ true → a + 3 < length bs → stop_number bs a ≡ 3
  unfolding stop_number
  stop_runs h e l = held _ _ _ (le-leb 3 (left bs a) h) ∙ rw (end_no_record e) (held _ _ _ e ∙ failed _ _ _ (lt-leb _ _ l))

  pub stop_none : 3 ≤ left bs a → is_end bs a ≡ true → length bs ≤ a + 3 → stop_number bs a ≡ 0
  unfolding stop_number
  stop_none h e l = held _ _ _ (le-leb 3 (left bs a) h) ∙ rw (end_no_record e) (held _ _ _ e ∙ held _ _ _ (le-leb _ _ l))

-- where a field with the end's tag may stand, all fields of the sheet have passed
pub end_may : (p : Passed) (tag size : ℕ) → is_allowed p tag size ≡ true → tag ≡ end_tag → plan_passed p ≡ true
end_may p tag size may e =
    let z : size ≡ end_size = end_short p tag size may e in
    rw (e, z) at may

-- ---- what may stand behind all fields of a plan: a record or the end

module _ (bs : List ℕ) (a : ℕ) (p : Passed) (kind : p.plan ≡ true) (all : plan_passed p ≡ true) where
  end_allowed : is_end bs a ≡ true → allowed_at bs a p ≡ true
  end_allowed h = let w = end_says bs a h in rw (w.0, w.1) all

  -- of the plan's fields the end alone
  allowed_end : allowed_at bs a p ≡ true → is_end bs a ≡ true
  allowed_end may = go (allowed_kind p end_tag end_size all) (allowed_kind p (tag_at bs a) (size_at bs a) may)
    where
      go : Kind p end_tag end_size → Kind p (tag_at bs a) (size_at bs a) → is_end bs a ≡ true
      go (a_head e z not-begun) k = absurd (omega arith)
      go (a_station e z begun few none) k = absurd (omega arith)
      go (an_allocation e z begun room) k = absurd (omega arith)
      go (a_further f begun above none) k = absurd (omega (arith, f.high))
      go (an_end e z begun some done) (a_head t s not-begun) = absurd (true≢false (sym begun ∙ not-begun))
      go (an_end e z begun some done) (a_station t s h few none) = absurd (omega (arith, some, none, done ∙ ap (λ (b : Bool). allocations_for b p.stations) kind))
      go (an_end e z begun some done) (an_allocation t s h room) = absurd (omega (arith, room, done))
      go (an_end e z begun some done) (a_further f h above none) = absurd (omega (arith, some, none))
      go (an_end e z begun some done) (an_end t s h some' done') = true_and _ _ (eq-eqb _ _ t) (eq-eqb _ _ s)

  -- no record
  pub record_not_allowed : is_record bs a ≡ true → allowed_at bs a p ≡ false
  record_not_allowed v = fails _ (λ may. absurd (omega (arith, (end_says bs a (allowed_end may)).0, (record_tag bs a v).1)))

  -- a record or what may stand in a plan sheet is all that may stand
  may_stand : log_allowed_at bs a p ≡ true → (is_record bs a ≡ true) ⊎ (allowed_at bs a p ≡ true)
  may_stand may =
      ⊎_elim (λ v. inl (and-true (plan_passed p) (is_record bs a) v).1) inr
      (or_cases (plan_passed p && is_record bs a) (allowed_at bs a p) may)

  -- a fault is where the walk over the records stops, with its number
  fault_stops : (k : ℕ) → LogFault bs a p k → (record_size bs a ≡ 0) × (stop_number bs a ≡ k)
  fault_stops _ (no_start short) = (record_short bs a short, stop_short bs a short)
  fault_stops _ (not_allowed three wrong) =
      let both = or_false _ _ wrong in
      let other : is_record bs a ≡ false = not_both _ _ all both.0 in
      (record_other bs a other, stop_wrong bs a three other (fails _ (λ e. true≢false (sym (end_allowed e) ∙ both.1))))
  fault_stops _ (cut_body three may cut) =
      ⊎_elim (λ is. (record_half bs a (omega arith), stop_cut bs a three is))
      (λ e. absurd (omega (arith, (end_says bs a (allowed_end e)).1)))
      (may_stand may)
  fault_stops _ (follows w e runs) =
      let is = allowed_end w.allowed in
      let inside = w.inside in
      let short = (end_says bs a is).1 in
      (record_other bs a (end_no_record bs a is), stop_runs bs a (omega arith) is (omega arith))

  -- the end with nothing behind it stops it with 0
  end_stops : FieldWhole bs a p → length bs ≡ behind bs a → (record_size bs a ≡ 0) × (stop_number bs a ≡ 0)
  end_stops w last =
      let is = allowed_end w.allowed in
      let short = (end_says bs a is).1 in
      (record_other bs a (end_no_record bs a is), stop_none bs a (omega arith) is (omega arith))

  -- why the walk stops: a fault, or the end with nothing behind it
  stop_said : (k : ℕ) → record_size bs a ≡ 0 → stop_number bs a ≡ k → ((k ≢ 0) × LogFault bs a p k) ⊎ ((k ≡ 0) × AtEnd bs a p)
  stop_said k none e =
      ⊎_elim (λ (short : left bs a < 3). fault 1 (stop_short bs a short) (omega arith) (no_start short))
      (λ (three : 3 ≤ left bs a).
      ⊎_elim (λ (v : is_record bs a ≡ true).
      fault 1 (stop_cut bs a three v) (omega arith) (cut_body three (rw (all, v) refl) (omega (arith, record_cut bs a none v))))
      (λ (other : is_record bs a ≡ false).
      ⊎_elim (at_end three)
      (λ (wrong : is_end bs a ≡ false).
      let may-not : allowed_at bs a p ≡ false = fails _ (λ may. true≢false (sym (allowed_end may) ∙ wrong)) in
      fault 2 (stop_wrong bs a three other wrong) (omega arith) (not_allowed three (rw (other, may-not, all) refl)))
      (true_or_false (is_end bs a)))
      (true_or_false (is_record bs a)))
      (below_or_not (left bs a) 3)
    where
      fault : (j : ℕ) → stop_number bs a ≡ j → j ≢ 0 → LogFault bs a p j → ((k ≢ 0) × LogFault bs a p k) ⊎ ((k ≡ 0) × AtEnd bs a p)
      fault j d some f = let same : j ≡ k = sym d ∙ e in inl (λ z. some (same ∙ z), subst (LogFault bs a p) same f)

      at_end : 3 ≤ left bs a → is_end bs a ≡ true → ((k ≢ 0) × LogFault bs a p k) ⊎ ((k ≡ 0) × AtEnd bs a p)
      at_end three is =
          let says = end_says bs a is in
          let short = says.1 in
          let w : FieldWhole bs a p = record { inside = omega arith; allowed = end_allowed is } in
          ⊎_elim (λ (runs : a + 3 < length bs). fault 3 (stop_runs bs a three is runs) (omega arith) (follows w says.0 (omega arith)))
          (λ (done : length bs ≤ a + 3).
          inr (sym e ∙ stop_none bs a three is done, record { whole = w; is_end_lem = says.0; last = omega arith }))
          (below_or_not (a + 3) (length bs))

-- ---- the plan's fields

module _ (bs : List ℕ) (p : Passed) where
  -- where all of them have passed, the walk over them stops
  module _ (all : plan_passed p ≡ true) where
    pub plan_stops : (a : ℕ) → WellFormed true bs p a → ((scanned true bs).passed ≡ p) × ((scanned true bs).at ≡ a)
    plan_stops a before =
        let kind = (through true bs p a before).kind in
        ⊎_elim (λ (short : left bs a < 3). at_fault 1 (no-start-in-plan short))
        (λ (three : 3 ≤ left bs a).
        ⊎_elim (λ (may : allowed_at bs a p ≡ true).
        let is = allowed_end bs a p kind all may in
        let says = end_says bs a is in
        let short = says.1 in
        let w : FieldWhole bs a p = record { inside = omega arith; allowed = may } in
        ⊎_elim (λ (runs : behind bs a < length bs). at_fault 3 (follows-in-plan w says.0 runs))
        (λ (done : length bs ≤ behind bs a).
        let e = end_there true bs (record { passed = p; place = a; before = before; end_whole = w; end_tag_lem = says.0; nothing_follows = omega arith }) in
        (ap (λ (r : Scanned). r.passed) e, ap (λ (r : Scanned). r.at) e))
        (below_or_not (behind bs a) (length bs)))
        (λ (wrong : allowed_at bs a p ≡ false). at_fault 2 (not-allowed-in-plan three wrong))
        (true_or_false (allowed_at bs a p)))
        (below_or_not (left bs a) 3)
      where
        at_fault : (k : ℕ) → Fault bs a p k → ((scanned true bs).passed ≡ p) × ((scanned true bs).at ≡ a)
        at_fault k f =
            let e = fault_there true bs k (record { passed = p; place = a; before = before; fault = f }) in
            (ap (λ (r : Scanned). r.passed) e, ap (λ (r : Scanned). r.at) e)

    -- behind records too
    pub log_stops : (n a : ℕ) → LogFormed bs p n a → (scanned true bs).passed ≡ p
    log_stops _ _ (in_plan before) = (plan_stops _ before).0
    log_stops _ _ (a_record {n} {a} before passed_all_lem v inside) = log_stops n a before

    -- and the walk over the records comes by
    pub comes_by : (n a : ℕ) → LogFormed bs p n a → (k : ℕ) × ((left bs a < k) × (walk_from k bs n a ≡ walked bs (scanned true bs).at))
    unfolding walked
    comes_by _ _ (in_plan {a} before) = (suc (length bs), (omega arith, ap (walk_from (suc (length bs)) bs 0) (sym (plan_stops a before).1)))
    comes_by _ _ (a_record {n} {a} before passed_all_lem v inside) =
        let rest = comes_by n a before in
        let some = whole_record bs a v inside in
        rw (record_there bs a some).next (walk_more bs n a rest.0 _ rest.1.0 some rest.1.1)

    -- what is known where it has stopped
    pub record WalkEnds (r : Walked) : Type 0 where
      pub before : LogFormed bs p r.records r.at
      pub no_more : record_size bs r.at ≡ 0
      pub number : r.number ≡ stop_number bs r.at

    pub walk_ends : (k n a : ℕ) → left bs a < k → LogFormed bs p n a → WalkEnds (walk_from k bs n a)
    walk_ends zero n a l before = absurd (omega arith)
    walk_ends (suc k) n a l before =
        ⊎_elim (λ (z : record_size bs a ≡ 0).
        subst WalkEnds (sym (walk_stops bs n a (suc k) (omega arith) z)) (record { before = before; no_more = z; number = refl }))
        (λ (h : record_size bs a ≢ 0).
        let there = record_there bs a h in
        let next = a_record before all there.here (omega (arith, there.next, there.inside)) in
        subst WalkEnds (sym (walk_turn bs n a k h))
        (walk_ends k (n + 1) (a + record_size bs a) (omega (arith, there.inside, there.some)) (subst (LogFormed bs p (n + 1)) there.next next)))
        (zero_or_not (record_size bs a))

  -- where some have not, a log is as a plan sheet
  module _ (some : plan_passed p ≡ false) where
    no_records : (n a : ℕ) → LogFormed bs p n a → (n ≡ 0) × WellFormed true bs p a
    no_records _ _ (in_plan before) = (refl, before)
    no_records _ _ (a_record before passed_all_lem v inside) = absurd (true≢false (sym passed_all_lem ∙ some))

    as_in_plan : (a : ℕ) → log_allowed_at bs a p ≡ allowed_at bs a p
    as_in_plan a = rw some refl

    plan_fault : (a k : ℕ) → LogFault bs a p k → Fault bs a p k
    plan_fault a _ (no_start short) = no-start-in-plan short
    plan_fault a _ (not_allowed three wrong) = not-allowed-in-plan three (sym (as_in_plan a) ∙ wrong)
    plan_fault a _ (cut_body three may cut) = cut-body-in-plan three (sym (as_in_plan a) ∙ may) cut
    plan_fault a _ (follows w e runs) = follows-in-plan w e runs

    log_fault : (a k : ℕ) → Fault bs a p k → LogFault bs a p k
    log_fault a _ (no-start-in-plan short) = no_start short
    log_fault a _ (not-allowed-in-plan three wrong) = not_allowed three (as_in_plan a ∙ wrong)
    log_fault a _ (cut-body-in-plan three may cut) = cut_body three (as_in_plan a ∙ may) cut
    log_fault a _ (follows-in-plan w e runs) = follows w e runs

-- ---- the whole walk

module _ (bs : List ℕ) where
  pub walked_on : plan_passed (scanned true bs).passed ≡ true → log_walked bs ≡ walked bs (scanned true bs).at
  unfolding log_walked
  walked_on h = rw h refl

  pub walked_not : plan_passed (scanned true bs).passed ≡ false → log_walked bs ≡ record { number = (scanned true bs).number; records = 0; at = (scanned true bs).at }
  unfolding log_walked
  walked_not h = rw h refl

  -- a plan whose fields have not all passed has a fault
  pub not_all_fault : plan_passed (scanned true bs).passed ≡ false → (scanned true bs).number ≢ 0
  not_all_fault h z = ⊎_elim (λ f. absurd (f.0 z)) (λ w. true≢false (sym (at_end w.1) ∙ h)) (stopped true bs).why
    where
      at_end : AtEnd bs (scanned true bs).at (scanned true bs).passed → plan_passed (scanned true bs).passed ≡ true
      at_end w = end_may (scanned true bs).passed _ _ w.whole.allowed w.is_end_lem

  -- the walk ends at every place where it stops
  ends_there : (p : Passed) (n a k : ℕ) → plan_passed p ≡ true → LogFormed bs p n a → (record_size bs a ≡ 0) × (stop_number bs a ≡ k)
      → log_walked bs ≡ record { number = k; records = n; at = a }
  ends_there p n a k all before stop =
      let by = comes_by bs p all n a before in
      let passed : plan_passed (scanned true bs).passed ≡ true = ap plan_passed (log_stops bs p all n a before) ∙ all in
      let some : 0 < by.0 = omega (arith, by.1.0) in
      walked_on passed ∙ sym by.1.1 ∙ walk_stops bs n a by.0 some stop.0 ∙ ap (λ (j : ℕ). record { number = j; records = n; at = a }) stop.1

  formed_kind : (p : Passed) (n a : ℕ) → LogFormed bs p n a → p.plan ≡ true
  formed_kind p _ _ (in_plan {a} before) = (through true bs p a before).kind
  formed_kind p _ _ (a_record {n} {a} before passed_all_lem v inside) = formed_kind p n a before

  pub log_fault_there : (k : ℕ) (f : FirstLogFault bs k) → log_walked bs ≡ record { number = k; records = f.records; at = f.place }
  log_fault_there k f =
      let p = f.passed in
      ⊎_elim (λ (all : plan_passed f.passed ≡ true).
      ends_there p f.records f.place k all f.before (fault_stops bs f.place p (formed_kind p _ _ f.before) all k f.fault))
      (λ (some : plan_passed f.passed ≡ false).
      let plain = no_records bs p some _ _ f.before in
      let e = fault_there true bs k (record { passed = p; place = f.place; before = plain.1; fault = plan_fault bs p some f.place k f.fault }) in
      let here : plan_passed (scanned true bs).passed ≡ false = ap (λ (r : Scanned). plan_passed r.passed) e ∙ some in
      walked_not here ∙ ap (λ (r : Scanned). record { number = r.number; records = 0; at = r.at }) e ∙ ap (λ (n : ℕ). record { number = k; records = n; at = f.place }) (sym plain.0))
      (true_or_false (plan_passed f.passed))

  pub log_end_there : (w : WholeLog bs) → log_walked bs ≡ record { number = 0; records = w.records; at = w.place }
  log_end_there w =
      let p = w.passed in
      let all : plan_passed w.passed ≡ true = end_may p _ _ w.end_whole.allowed w.end_tag_lem in
      ends_there p w.records w.place 0 all w.before (end_stops bs w.place p (formed_kind p _ _ w.before) all w.end_whole w.nothing_follows)

  -- what is known where it has stopped
  pub record LogStopped (r : Walked) : Type 0 where
    pub before : LogFormed bs (scanned true bs).passed r.records r.at
    pub why : ((r.number ≢ 0) × LogFault bs r.at (scanned true bs).passed r.number) ⊎ ((r.number ≡ 0) × AtEnd bs r.at (scanned true bs).passed)

  stopped_on : plan_passed (scanned true bs).passed ≡ true → LogStopped (walked bs (scanned true bs).at)
  unfolding walked
  stopped_on all =
      let p = (scanned true bs).passed in
      let e = walk_ends bs p all (suc (length bs)) 0 (scanned true bs).at (omega arith) (in_plan (stopped true bs).before) in
      record { before = e.before; why = stop_said bs _ p (formed_kind p _ _ e.before) all _ e.no_more (sym e.number) }

  pub log_stopped : LogStopped (log_walked bs)
  log_stopped =
      let p = (scanned true bs).passed in
      ⊎_elim (λ (all : plan_passed (scanned true bs).passed ≡ true). subst LogStopped (sym (walked_on all)) (stopped_on all))
      (λ (some : plan_passed (scanned true bs).passed ≡ false).
      let fault = ⊎_elim (λ f. f.1) (λ z. absurd (not_all_fault some z.0)) (stopped true bs).why in
      subst LogStopped (sym (walked_not some))
      (record { before = in_plan (stopped true bs).before; why = inl (not_all_fault some, log_fault bs p some _ _ fault) }))
      (true_or_false (plan_passed (scanned true bs).passed))

  pub log_shape_fault : (k : ℕ) → k ≢ 0 → (log_walked bs).number ≡ k → FirstLogFault bs k
  log_shape_fault k some e =
      record {
        passed = (scanned true bs).passed;
        records = (log_walked bs).records;
        place = (log_walked bs).at;
        before = log_stopped.before;
        fault = ⊎_elim (λ f. subst (LogFault bs (log_walked bs).at (scanned true bs).passed) e f.1) (λ z. absurd (some (sym e ∙ z.0))) log_stopped.why;
      }

  pub log_shape_whole : (log_walked bs).number ≡ 0 → WholeLog bs
  log_shape_whole e = ⊎_elim (λ f. absurd (f.0 e)) (λ z. whole z.1) log_stopped.why
    where
      whole : AtEnd bs (log_walked bs).at (scanned true bs).passed → WholeLog bs
      whole z =
          record {
            passed = (scanned true bs).passed;
            records = (log_walked bs).records;
            place = (log_walked bs).at;
            before = log_stopped.before;
            end_whole = z.whole;
            end_tag_lem = z.is_end_lem;
            nothing_follows = z.last;
          }
