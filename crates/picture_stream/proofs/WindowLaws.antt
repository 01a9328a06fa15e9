-- The window of a log that was read whole: at most 60 rotations, the first ones where no record is named, else the named record's with at most two behind it.
use Rattle.std.proofs.Common.{◌≡◌, ℕ, ◌+◌, ◌-◌, ◌^◌, ◌<◌, ◌≤◌, min, max, true, false, leb, ◌≢◌, List, [], ◌∷◌, ◌++◌, length, take, drop, sym, refl, ap, ◌∙◌, ⊎_elim, arith, length-append, lt-ltb, eq-eqb, ne_eqb, le-leb}
use lib.Seq.{take-append_seam}
use Rattle.units.proofs.JudgingLaws.{true_or_false, true_and}
use Rattle.sets.specs.declared.Set.{Set}
use Rattle.plans.specs.declared.Alloc.{Alloc}
use Rattle.sheets.specs.Reading.{plan_start}
use Rattle.log_records.specs.declared.Entry.{Entry}
use Rattle.log_records.specs.declared.Entry.TheVariants.{Visit, Mark}
use Rattle.field_reader.proofs.ScannedLaws.{zero_or_not}
use Rattle.logs.specs.Reading.{read_log, entries_in}
use Rattle.inspection.specs.Opening.{begun}
use Rattle.inspection.specs.Records.{inspected, inspected_all}
use Rattle.inspection.specs.Findings.{broken_record, found_in, finding_in}
use Rattle.inspection.specs.declared.Inspection.{Inspection}
use Rattle.inspection.specs.declared.Finding.{Finding}
use Rattle.inspection.proofs.RecordLaws.{all_stays}
use Rattle.inspection.proofs.FindingLaws.{handed_length, finding_read, none_named as not_named}
use Rattle.inspection_stream.specs.Inspecting.{inspect_start}
use Rattle.inspection_stream.specs.Promised.{Breaks}
use Rattle.inspection_stream.specs.declared.Inspecting.{Inspecting}
use Rattle.inspection_stream.proofs.WholeLaws.{rule_read, record_read, broken_read}
use Rattle.tallies.specs.Laps.{wrapped, no_lap, visit_lapped, lapped, lapped_all}
use Rattle.tallies.specs.Tallies.{nothing_seen}
use Rattle.tallies.specs.declared.Lap.{Lap}
use Rattle.tallies.proofs.LapLaws.{records_all}
use Rattle.picture_stream.specs.Watching.{is_drawn, watch_start, watch_all, lines_in, lines_of, last_line, window_of}
use Rattle.picture_stream.specs.Promised.{KeptSeen, rotation_of, WindowShown}
use Rattle.picture_stream.specs.declared.Window.{Window}
use Rattle.picture_stream.specs.declared.Watching.{Watching}
use Rattle.picture_stream.proofs.OverLaws.{inspects_over}
use Rattle.picture_stream.proofs.KeptLaws.{all_lap}

-- ---- there is one first record that breaks a rule

module _ (t : Set) (a : Alloc) where
  -- behind a broken rule none is kept
  broken_on : (s : Inspection) (es : List Entry) → s.rule ≢ 0 → (inspected_all s t a es).rule ≢ 0
  broken_on s es some z = some (ap (λ (i : Inspection). i.rule) (sym (all_stays s t a es some)) ∙ z)

  first_of : {e f : Entry} {es fs : List Entry} → ◌≡◌ {A = List Entry} (e ∷ es) (f ∷ fs) → e ≡ f
  first_of h = cc

  rest_of : {e f : Entry} {es fs : List Entry} → ◌≡◌ {A = List Entry} (e ∷ es) (f ∷ fs) → es ≡ fs
  rest_of h = cc

  pub one_first : (s : Inspection) (kept behind before : List Entry) (e : Entry) (more : List Entry) → kept ++ behind ≡ before ++ e ∷ more
      → (inspected_all s t a kept).rule ≡ 0 → ((f : Entry) (fs : List Entry) → behind ≡ f ∷ fs → (inspected_all s t a (kept ++ (f ∷ []))).rule ≢ 0)
      → (inspected_all s t a before).rule ≡ 0 → (inspected_all s t a (before ++ (e ∷ []))).rule ≢ 0 → kept ≡ before
  unfolding inspected_all
  one_first s [] behind [] e more same z next y broken = refl
  one_first s [] behind (g ∷ before) e more same z next y broken = absurd (broken_on (inspected s t a g) before (next g (before ++ e ∷ more) same) y)
  one_first s (g ∷ kept) behind [] e more same z next y broken =
      absurd (broken_on (inspected s t a g) kept (λ x. broken (ap (λ (f : Entry). (inspected s t a f).rule) (sym (first_of same)) ∙ x)) z)
  one_first s (g ∷ kept) behind (h ∷ before) e more same z next y broken =
      let here : g ≡ h = first_of same in
      let on : (xs : List Entry) → (inspected_all (inspected s t a g) t a xs).rule ≡ (inspected_all (inspected s t a h) t a xs).rule = λ xs. ap (λ (f : Entry). (inspected_all (inspected s t a f) t a xs).rule) here in
      let rest : kept ≡ before = one_first (inspected s t a g) kept behind before e more (rest_of same) z next (on before ∙ y) (λ x. broken (sym (on (before ++ (e ∷ []))) ∙ x)) in
      rw (here, rest) refl

-- ---- as many rotations as visits, at most

module _ (n : ℕ) (w : List ℕ) where
  one_few : (l : Lap) (e : Entry) → (lapped n w l e).rotation ≤ l.rotation + 1
  unfolding visit_lapped
  one_few l (Visit v) =
      ⊎_elim (λ (h : leb n (l.turn + 1) ≡ true). rw h (omega arith)) (λ (h : leb n (l.turn + 1) ≡ false). rw h (omega arith)) (true_or_false (leb n (l.turn + 1)))
  one_few l (Mark m) = omega arith

  pub rotation_few : (l : Lap) (es : List Entry) → (lapped_all n w l es).rotation ≤ l.rotation + length es
  unfolding lapped_all
  rotation_few l [] = omega arith
  rotation_few l (e ∷ es) = omega (arith, rotation_few (lapped n w l e) es, one_few l e)

-- ---- the window

module _ (k : Watching) where
  most_60 : last_line k ≤ last_line k - 60 + 60
  most_60 = omega arith

  none_named : k.inspecting.looked.inspection.rule ≡ 0 → last_line k ≡ min 60 (lines_in k.seen.course.all)
  unfolding last_line lines_of
  none_named none = rw (eq-eqb k.inspecting.looked.inspection.rule 0 none) refl

  -- the line of the named record is among them
  pub record Around (r : ℕ) : Type 0 where
    pub inside : r < last_line k
    pub behind : last_line k ≤ r + 3

  last_is : k.inspecting.looked.inspection.rule ≢ 0
      → last_line k ≡ min (wrapped (k.seen.course.kept.rotation + 3)) (max (lines_in k.seen.course.all) (wrapped (k.seen.course.kept.rotation + 1)))
  unfolding last_line lines_of
  last_is some = rw (ne_eqb k.inspecting.looked.inspection.rule 0 some) refl

  one_named_in : k.inspecting.looked.inspection.rule ≢ 0 → (r : ℕ) → k.seen.course.kept.rotation ≡ r → r + 3 < 2 ^ 64 → Around r
  one_named_in some r is few =
      let last = last_is some in
      record { inside = omega arith; behind = omega arith }

module _ (bs : List ℕ) (z : (read_log bs).number ≡ 0) where
  abbrev t : Set
  t = (read_log bs).set

  abbrev a : Alloc
  a = (read_log bs).alloc

  abbrev es : List Entry
  es = entries_in bs

  abbrev k : Watching
  k = watch_all bs

  abbrev x : Window
  x = window_of k

  abbrev rule : ℕ
  rule = k.inspecting.looked.inspection.rule

  same : (watch_all bs).inspecting ≡ inspect_start bs
  same = inspects_over (watch_start bs) (drop (plan_start bs).at bs)

  pub named_is : (window_of (watch_all bs)).named ≡ (finding_in bs).«record»
  named_is = ap (λ (i : Inspecting). broken_record i.looked.inspection) same ∙ record_read bs z

  module _ (few : (read_log bs).records + 2 < 2 ^ 64) (ks : KeptSeen (read_log bs).set (read_log bs).alloc (entries_in bs) (watch_all bs).seen) where
    long : length es ≡ (read_log bs).records
    long = handed_length (read_log bs).records bs (read_log bs).first

    counted : (finding_in bs).records ≡ (read_log bs).records
    counted = ap (λ (f : Finding). f.records) (finding_read (read_log bs).number (found_in bs) z)

    -- the records before the one with this number
    before_of_lem : (before : List Entry) (e : Entry) (behind : List Entry) → es ≡ before ++ e ∷ behind → x.named ≡ length before + 1 → take (x.named - 1) es ≡ before
    before_of_lem before e behind place number =
        let one : x.named - 1 ≡ length before = omega (arith, number) in
        ap (λ (i : ℕ). take i es) one ∙ ap (take (length before)) place ∙ take-append_seam before (e ∷ behind)

    fewer : (before : List Entry) (e : Entry) (behind : List Entry) → es ≡ before ++ e ∷ behind → length before + 1 ≤ (read_log bs).records
    fewer before e behind place = omega (arith, long, ap length place, length-append before (e ∷ behind))

    -- ---- a record is named

    module _ (some : rule ≢ 0) where
      breaks : Breaks t a es (finding_in bs).«record» (inspect_start bs).looked.before (inspect_start bs).looked.last
      breaks = broken_read bs z (omega (arith, counted)) (λ y. some (ap (λ (i : Inspecting). i.looked.inspection.rule) same ∙ rule_read bs z ∙ y))

      kept_is : ks.kept ≡ breaks.before
      kept_is = one_first t a (begun t a) ks.kept ks.behind breaks.before _ breaks.behind (sym ks.place ∙ breaks.place) ks.rule ks.named breaks.kept breaks.broken

      rotation_is : k.seen.course.kept.rotation ≡ rotation_of t es x.named
      rotation_is =
          ap (λ (l : Lap). l.rotation) (ks.lap ∙ all_lap t a nothing_seen ks.kept)
          ∙ ap (λ (xs : List Entry). (lapped_all t.n t.w no_lap xs).rotation)
          (kept_is ∙ sym (before_of_lem breaks.before _ breaks.behind breaks.place (named_is ∙ breaks.counted)))

      small : rotation_of t es x.named + 3 < 2 ^ 64
      small =
          let before = breaks.before in
          let place = before_of_lem before _ breaks.behind breaks.place (named_is ∙ breaks.counted) in
          omega (arith, ap (λ (xs : List Entry). (lapped_all t.n t.w no_lap xs).rotation) place, rotation_few t.n t.w no_lap before, fewer before _ breaks.behind breaks.place)

      around : Around k (rotation_of t es x.named)
      around = one_named_in k some (rotation_of t es x.named) rotation_is small

      number_some : x.named ≢ 0
      number_some y = omega (arith, named_is, breaks.counted)

    -- ---- either way

    broken_named : x.named ≢ 0 → rule ≢ 0
    broken_named some none = some (not_named k.inspecting.looked.inspection none)

    named_in : x.named ≢ 0 → (x.first ≤ rotation_of t es x.named) × (rotation_of t es x.named < x.end)
    named_in some =
        let r = around (broken_named some) in
        (omega (arith, r.inside, r.behind), r.inside)

    there : x.named ≢ 0 → x.end ≤ max (lines_in (lapped_all t.n t.w no_lap es)) (rotation_of t es x.named + 1)
    there some =
        let last = last_is k (broken_named some) in
        let r = rotation_is (broken_named some) in
        let all = ap lines_in (ks.all ∙ all_lap t a nothing_seen es) in
        omega (arith, last, r, all)

    first_lines : x.named ≡ 0 → (x.first ≡ 0) × (x.end ≡ min 60 (lines_in (lapped_all t.n t.w no_lap es)))
    first_lines none =
        let kept : rule ≡ 0 = ⊎_elim (λ y. y) (λ (some : rule ≢ 0). absurd (number_some some none)) (zero_or_not rule) in
        let lines = none_named k kept ∙ ap (λ (l : Lap). min 60 (lines_in l)) (ks.all ∙ all_lap t a nothing_seen es) in
        (omega (arith, lines), lines)

    named_drawn : (before : List Entry) (e : Entry) (behind : List Entry) → es ≡ before ++ e ∷ behind → x.named ≡ length before + 1
        → is_drawn x (lapped_all t.n t.w no_lap before) e ≡ true
    named_drawn before (Visit v) behind place number =
        let r = ap (λ (xs : List Entry). (lapped_all t.n t.w no_lap xs).rotation) (before_of_lem before (Visit v) behind place number) in
        let there = named_in (λ y. omega arith) in
        let l : ℕ = (lapped_all t.n t.w no_lap before).rotation in
        let low : x.first ≤ l = omega (arith, r, there.0) in
        let high : l < x.end = omega (arith, r, there.1) in
        true_and _ _ (le-leb _ _ low) (lt-ltb _ _ high)
    named_drawn before (Mark m) behind place number =
        let count = records_all t.n t.w no_lap before (omega arith) in
        let number_is : wrapped ((lapped_all t.n t.w no_lap before).records + 1) ≡ x.named = omega (arith, count, number, fewer before (Mark m) behind place) in
        eq-eqb _ _ number_is

    pub window_shown : WindowShown (read_log bs).set (entries_in bs) (window_of (watch_all bs))
    window_shown =
        record {
          most = most_60 k;
          first_lines = first_lines;
          named_in = named_in;
          two_behind = λ some. (around (broken_named some)).behind;
          there = there;
          named_drawn = named_drawn;
        }
