-- The lines of a log's picture: each rotation of the window begins one line and ends it, in their order.
use Rattle.std.proofs.Common.{◌≡◌, ℕ, ◌+◌, ◌-◌, ◌^◌, ◌<◌, ◌≤◌, min, Bool, true, false, cond, not, ◌&&◌, ◌||◌, eqb, leb, ◌≢◌, List, [], ◌∷◌, ◌++◌, length, take, sym, refl, ap, ◌∙◌, subst, ⊎_elim, true≢false, append_assoc, add-one, arith, length-append, le-ltb, lt-ltb, eq-eqb, eqb-true, le-leb}
use borrow.Author.Tests.{lt-leb}
use lib.Seq.{take-append_seam}
use Rattle.units.proofs.JudgingLaws.{true_or_false, true_and}
use Rattle.units.proofs.SmallLaws.{below_or_not}
use Rattle.sets.specs.declared.Set.{Set}
use Rattle.field_reader.proofs.ScannedLaws.{zero_or_not}
use Rattle.log_records.specs.declared.VisitEntry.{VisitEntry}
use Rattle.log_records.specs.declared.MarkEntry.{MarkEntry}
use Rattle.log_records.specs.declared.Entry.{Entry}
use Rattle.log_records.specs.declared.Entry.TheVariants.{Visit, Mark}
use Rattle.logs.specs.Reading.{read_log, entries_in}
use Rattle.inspection.specs.Records.{inspection_of}
use Rattle.inspection.specs.Findings.{found_in, finding_in}
use Rattle.inspection.specs.declared.Finding.{Finding}
use Rattle.inspection.proofs.FindingLaws.{none_named, handed_length, finding_read}
use Rattle.inspection_stream.specs.Inspecting.{inspect_start}
use Rattle.inspection_stream.proofs.Promised.{promised as of-inspection}
use Rattle.tallies.specs.Laps.{wrapped, no_lap, visit_lapped, mark_lapped, lapped_all}
use Rattle.tallies.specs.Tallies.{switched_by, nothing_seen}
use Rattle.tallies.proofs.LapLaws.{lap_append, records_all}
use Rattle.tallies.specs.declared.Lap.{Lap}
use Rattle.tallies.specs.declared.Drawn.{Drawn}
use Rattle.picture_stream.specs.Watching.{is_drawn, handed_out, watch_all, lines_in, window_of}
use Rattle.picture_stream.specs.Promised.{drawn_in, rotation_of, WindowShown}
use Rattle.picture_stream.proofs.Promised.{promised as of-stream}
use Rattle.picture_stream.specs.declared.Window.{Window}
use Rattle.text.specs.declared.phrases.Phrase.{Phrase}
use Rattle.pictures.specs.Parts.{no_pen}
use Rattle.pictures.specs.Picture.{picture_of, line_marks}
use Rattle.pictures.specs.Promised.{line_ended}
use Rattle.pictures.specs.declared.Shape.{Shape}
use Rattle.pictures.specs.declared.Scene.{Scene}
use Rattle.pictures.proofs.LineLaws.{marks_of, marks_are, begun_by, ended_by}
use Rattle.command_page.specs.Picture.{picture_in, line_from, lines_from}

-- ---- some lines

no_lines : (r k : ℕ) → k ≡ 0 → lines_from r k ≡ []
unfolding lines_from
no_lines r k z = rw z refl

one_more_lem : (r m : ℕ) → r + 1 ≤ m → lines_from r (m - r) ≡ line_from r ∷ line_ended ∷ lines_from (r + 1) (m - (r + 1))
unfolding lines_from
one_more_lem r m h =
    let one : m - r ≡ m - (r + 1) + 1 = omega arith in
    rw (one, add-one) refl

module _ (c : Scene) (x : Window) (n : ℕ) (w : List ℕ) (same : c.n ≡ n) where
  -- ---- how many lines have begun

  unfoldable one : Bool → ℕ
  one begun = cond begun 1 0

  -- behind these records, where the line of the rotation has begun before them or not: a visit begins it, and a mark that is drawn
  unfoldable reach : Bool → Lap → List Entry → ℕ
  reach b l [] = l.rotation + one b
  reach b l (Visit v ∷ es) = reach (not (leb n (l.turn + 1))) (visit_lapped n w l v) es
  reach b l (Mark m ∷ es) = reach (b || is_drawn x l (Mark m)) (mark_lapped l) es

  -- the marks that are drawn are of rotations of the window
  unfoldable Inside : Lap → List Entry → Type 0
  Inside l [] = Unit {0}
  Inside l (Visit v ∷ es) = Inside (visit_lapped n w l v) es
  Inside l (Mark m ∷ es) = (is_drawn x l (Mark m) ≡ true → (x.first ≤ l.rotation) × (l.rotation < x.end)) × Inside (mark_lapped l) es

  last_next : (l : Lap) (v : VisitEntry) → leb n (l.turn + 1) ≡ true → l.rotation + 1 < 2 ^ 64 → (visit_lapped n w l v).rotation ≡ l.rotation + 1
  unfolding visit_lapped
  last_next l v h few = rw h (omega arith)

  not_next : (l : Lap) (v : VisitEntry) → leb n (l.turn + 1) ≡ false → (visit_lapped n w l v).rotation ≡ l.rotation
  unfolding visit_lapped
  not_next l v h = rw h refl

  -- no line that has begun goes away
  more_begun : (b d : Bool) → one b ≤ one (b || d)
  unfolding one
  more_begun true d = omega arith
  more_begun false true = omega arith
  more_begun false false = omega arith

  one_true : one true ≡ 1
  unfolding one
  one_true = refl

  at_most_one : (b : Bool) → one b ≤ 1
  unfolding one
  at_most_one true = omega arith
  at_most_one false = omega arith

  module _ (l : Lap) (v : VisitEntry) (small : l.rotation + 1 < 2 ^ 64) where
    next_few : (visit_lapped n w l v).rotation ≤ l.rotation + 1
    next_few =
        ⊎_elim (λ (h : leb n (l.turn + 1) ≡ true). omega (arith, last_next l v h small)) (λ (h : leb n (l.turn + 1) ≡ false). omega (arith, not_next l v h))
        (true_or_false (leb n (l.turn + 1)))

    -- a visit begins its line
    visit_far : (far : ℕ) → (visit_lapped n w l v).rotation + one (not (leb n (l.turn + 1))) ≤ far → l.rotation + 1 ≤ far
    visit_far far h =
        ⊎_elim (λ (e : leb n (l.turn + 1) ≡ true). omega (arith, last_next l v e small))
        (λ (e : leb n (l.turn + 1) ≡ false).
        let begun : one (not (leb n (l.turn + 1))) ≡ 1 = rw e one_true in
        omega (arith, not_next l v e, begun))
        (true_or_false (leb n (l.turn + 1)))

  reach_least : (b : Bool) (l : Lap) (es : List Entry) → l.rotation + length es + 1 < 2 ^ 64 → l.rotation + one b ≤ reach b l es
  unfolding reach
  reach_least b l [] few = omega arith
  reach_least b l (Visit v ∷ es) few =
      let next = next_few l v (omega arith) in
      let rest = reach_least (not (leb n (l.turn + 1))) (visit_lapped n w l v) es (omega (arith, next)) in
      omega (arith, visit_far l v (omega arith) _ rest, at_most_one b)
  reach_least b l (Mark m ∷ es) few = omega (arith, reach_least (b || is_drawn x l (Mark m)) (mark_lapped l) es (omega arith), more_begun b (is_drawn x l (Mark m)))

  visit_reach : (l : Lap) (v : VisitEntry) (es : List Entry) → l.rotation + length es + 2 < 2 ^ 64 → l.rotation + 1 ≤ reach (not (leb n (l.turn + 1))) (visit_lapped n w l v) es
  visit_reach l v es few =
      let next = next_few l v (omega arith) in
      visit_far l v (omega arith) _ (reach_least (not (leb n (l.turn + 1))) (visit_lapped n w l v) es (omega (arith, next)))

  -- ---- the lines that these records begin and end

  record Lines (b : Bool) (l : Lap) (mark : List ℕ) (es : List Entry) : Type 0 where
    inside : x.first ≤ l.rotation → l.rotation < x.end → marks_of c b (drawn_in x n w l mark es)
        ≡ cond b (line_ended ∷ lines_from (l.rotation + 1) (min x.end (reach b l es) - (l.rotation + 1))) (lines_from l.rotation (min x.end (reach b l es) - l.rotation))
    before : l.rotation < x.first → marks_of c false (drawn_in x n w l mark es) ≡ lines_from x.first (min x.end (reach b l es) - x.first)
    after : x.end ≤ l.rotation → marks_of c false (drawn_in x n w l mark es) ≡ []

  module _ (l : Lap) (mark : List ℕ) (es : List Entry) where
    abbrev drawn : List Drawn
    drawn = drawn_in x n w l mark es

    -- from the next rotation on, with no line begun
    up_next : (r : ℕ) → l.rotation ≡ r → x.first ≤ r → Lines false l mark es → marks_of c false drawn ≡ lines_from r (min x.end (reach false l es) - r)
    up_next r is low h =
        ⊎_elim (λ (q : r < x.end). h.inside (omega arith) (omega arith) ∙ ap (λ (k : ℕ). lines_from k (min x.end (reach false l es) - k)) is)
        (λ (q : x.end ≤ r). h.after (omega arith) ∙ sym (no_lines r (min x.end (reach false l es) - r) (omega arith)))
        (below_or_not r x.end)

    -- in this one, whose line has begun
    down_next : (r : ℕ) → l.rotation ≡ r → x.first ≤ r → r < x.end → Lines true l mark es → marks_of c true drawn ≡ line_ended ∷ lines_from (r + 1) (min x.end (reach true l es) - (r + 1))
    down_next r is low high h = h.inside (omega arith) (omega arith) ∙ ap (λ (k : ℕ). line_ended ∷ lines_from (k + 1) (min x.end (reach true l es) - (k + 1))) is

    -- before the window, whatever comes next
    first_up : (b : Bool) → b ≡ false → l.rotation ≡ x.first → Lines b l mark es → marks_of c false drawn ≡ lines_from x.first (min x.end (reach b l es) - x.first)
    first_up true e at h = absurd (true≢false e)
    first_up false e at h = up_next x.first at (omega arith) h

    first_next : (b : Bool) (r : ℕ) → l.rotation ≡ r → (x.first ≤ r → b ≡ false) → r ≤ x.first → Lines b l mark es → marks_of c false drawn ≡ lines_from x.first (min x.end (reach b l es) - x.first)
    first_next b r is up low h =
        ⊎_elim (λ (q : r < x.first). h.before (omega arith))
        (λ (q : x.first ≤ r). let here : r ≡ x.first = omega arith in first_up b (up q) (is ∙ here) h)
        (below_or_not r x.first)

    -- behind a visit
    visit_tail : (last : Bool) (r : ℕ) → (last ≡ true → l.rotation ≡ r + 1) → (last ≡ false → l.rotation ≡ r) → x.first ≤ r → r < x.end → Lines (not last) l mark es
        → ended_by last ++ marks_of c (not last) drawn ≡ line_ended ∷ lines_from (r + 1) (min x.end (reach (not last) l es) - (r + 1))
    unfolding ended_by
    visit_tail true r next here low high h = ap (λ (qs : List (Phrase Shape)). line_ended ∷ qs) (up_next (r + 1) (next refl) (omega arith) h)
    visit_tail false r next here low high h = down_next r (here refl) low high h

  -- a record that is drawn begins its line, where it has not begun
  begin_line : (b : Bool) (d : Drawn) (m : ℕ) → d.lap.rotation + 1 ≤ m
      → begun_by b d ++ (line_ended ∷ lines_from (d.lap.rotation + 1) (m - (d.lap.rotation + 1)))
      ≡ cond b (line_ended ∷ lines_from (d.lap.rotation + 1) (m - (d.lap.rotation + 1))) (lines_from d.lap.rotation (m - d.lap.rotation))
  unfolding begun_by
  begin_line true d m h = refl
  begin_line false d m h = sym (one_more_lem d.lap.rotation m h)

  or_no : (b : Bool) → (b || false) ≡ b
  or_no true = refl
  or_no false = refl

  or_yes : (b d : Bool) → d ≡ true → (b || d) ≡ true
  or_yes true d e = refl
  or_yes false d e = e

  and_no : (a : Bool) → (a && false) ≡ false
  and_no true = refl
  and_no false = refl

  module _ (l : Lap) (mark : List ℕ) (es : List Entry) where
    module _ (v : VisitEntry) where
      abbrev rest : List Drawn
      rest = drawn_in x n w (visit_lapped n w l v) mark es

      abbrev last : Bool
      last = leb n (l.turn + 1)

      visit_drawn : (b : Bool) → is_drawn x l (Visit v) ≡ true → marks_of c b (drawn_in x n w l mark (Visit v ∷ es)) ≡ begun_by b (handed_out mark l (Visit v)) ++ (ended_by last ++ marks_of c (not last) rest)
      unfolding drawn_in marks_of
      visit_drawn b h =
          rw h (ap (λ (k : ℕ). begun_by b (handed_out mark l (Visit v)) ++ (ended_by (leb k (l.turn + 1)) ++ marks_of c (not (leb k (l.turn + 1))) rest)) same)

      visit_skipped : (b : Bool) → is_drawn x l (Visit v) ≡ false → marks_of c b (drawn_in x n w l mark (Visit v ∷ es)) ≡ marks_of c b rest
      unfolding drawn_in
      visit_skipped b h = rw h refl

      visit_lines : (b : Bool) → l.rotation + length es + 2 < 2 ^ 64 → Lines (not last) (visit_lapped n w l v) mark es → Lines b l mark (Visit v ∷ es)
      unfolding reach
      visit_lines b few h =
          let next : last ≡ true → (visit_lapped n w l v).rotation ≡ l.rotation + 1 = λ e. last_next l v e (omega arith) in
          let here : last ≡ false → (visit_lapped n w l v).rotation ≡ l.rotation = λ e. not_next l v e in
          let l' = visit_lapped n w l v in
          record {
            inside =
                λ low high.
                let there = true_and _ _ (le-leb _ _ low) (lt-ltb _ _ high) in
                let far : l.rotation + 1 ≤ min x.end (reach (not last) l' es) = omega (arith, visit_reach l v es few) in
                visit_drawn b there
                ∙ ap (λ (qs : List (Phrase Shape)). begun_by b (handed_out mark l (Visit v)) ++ qs) (visit_tail l' mark es last l.rotation next here low high h)
                ∙ begin_line b (handed_out mark l (Visit v)) _ far;
            before =
                λ low.
                visit_skipped false (rw (lt-leb _ _ low) refl)
                ∙ ⊎_elim
                (λ (e : last ≡ true). first_next l' mark es (not last) (l.rotation + 1) (next e) (λ q. rw e refl) (omega arith) h)
                (λ (e : last ≡ false). first_next l' mark es (not last) l.rotation (here e) (λ q. absurd (omega arith)) (omega arith) h)
                (true_or_false last);
            after =
                λ high.
                visit_skipped false (rw (le-ltb _ _ high) (and_no (leb x.first l.rotation)))
                ∙ h.after (⊎_elim (λ (e : last ≡ true). omega (arith, next e)) (λ (e : last ≡ false). omega (arith, here e)) (true_or_false last));
          }

    module _ (m : MarkEntry) where
      abbrev mark_rest : List Drawn
      mark_rest = drawn_in x n w (mark_lapped l) (switched_by mark (Mark m)) es

      mark_drawn : (b : Bool) → is_drawn x l (Mark m) ≡ true → marks_of c b (drawn_in x n w l mark (Mark m ∷ es)) ≡ begun_by b (handed_out mark l (Mark m)) ++ marks_of c true mark_rest
      unfolding drawn_in marks_of ended_by
      mark_drawn b h = rw h refl

      mark_skipped : (b : Bool) → is_drawn x l (Mark m) ≡ false → marks_of c b (drawn_in x n w l mark (Mark m ∷ es)) ≡ marks_of c b mark_rest
      unfolding drawn_in
      mark_skipped b h = rw h refl

      -- it is not drawn
      mark_past : (b : Bool) → is_drawn x l (Mark m) ≡ false → Lines b (mark_lapped l) (switched_by mark (Mark m)) es → Lines b l mark (Mark m ∷ es)
      unfolding reach
      mark_past b out h =
          let same-begun : (b || is_drawn x l (Mark m)) ≡ b = rw out (or_no b) in
          record {
            inside = λ low high. mark_skipped b out ∙ h.inside low high ∙ ap (λ (y : Bool). cond b (line_ended ∷ lines_from (l.rotation + 1) (min x.end (reach y (mark_lapped l) es) - (l.rotation + 1))) (lines_from l.rotation (min x.end (reach y (mark_lapped l) es) - l.rotation))) (sym same-begun);
            before = λ low. mark_skipped false out ∙ h.before low ∙ ap (λ (y : Bool). lines_from x.first (min x.end (reach y (mark_lapped l) es) - x.first)) (sym same-begun);
            after = λ high. mark_skipped false out ∙ h.after high;
          }

      -- it is
      mark_in_lem : (b : Bool) → is_drawn x l (Mark m) ≡ true → (x.first ≤ l.rotation) × (l.rotation < x.end) → l.rotation + length es + 1 < 2 ^ 64 → Lines true (mark_lapped l) (switched_by mark (Mark m)) es → Lines b l mark (Mark m ∷ es)
      unfolding reach
      mark_in_lem b on there few h =
          let far = reach_least true (mark_lapped l) es few in
          record {
            inside =
                λ low high.
                mark_drawn b on
                ∙ ap (λ (qs : List (Phrase Shape)). begun_by b (handed_out mark l (Mark m)) ++ qs) (h.inside low high)
                ∙ begin_line b (handed_out mark l (Mark m)) (min x.end (reach true (mark_lapped l) es)) (omega (arith, far, one_true))
                ∙ ap (λ (y : Bool). cond b (line_ended ∷ lines_from (l.rotation + 1) (min x.end (reach y (mark_lapped l) es) - (l.rotation + 1))) (lines_from l.rotation (min x.end (reach y (mark_lapped l) es) - l.rotation))) (sym (or_yes b (is_drawn x l (Mark m)) on));
            before = λ low. absurd (omega (arith, there.0));
            after = λ high. absurd (omega (arith, there.1));
          }

  -- ---- all of them

  none_left : (b : Bool) (l : Lap) → l.rotation < x.end
      → ended_by b ≡ cond b (line_ended ∷ lines_from (l.rotation + 1) (min x.end (l.rotation + one b) - (l.rotation + 1))) (lines_from l.rotation (min x.end (l.rotation + one b) - l.rotation))
  unfolding ended_by one
  none_left true l high = ap (λ (qs : List (Phrase Shape)). line_ended ∷ qs) (sym (no_lines (l.rotation + 1) _ (omega arith)))
  none_left false l high = sym (no_lines l.rotation _ (omega arith))

  ends : (b : Bool) (l : Lap) (mark : List ℕ) → Lines b l mark []
  unfolding marks_of drawn_in reach ended_by
  ends b l mark =
      record {
        inside = λ low high. none_left b l high;
        before = λ low. sym (no_lines x.first _ (omega (arith, at_most_one b)));
        after = λ high. refl;
      }

  lines : (b : Bool) (l : Lap) (mark : List ℕ) (es : List Entry) → l.rotation + length es + 1 < 2 ^ 64 → Inside l es → Lines b l mark es
  unfolding Inside
  lines b l mark [] few inner = ends b l mark
  lines b l mark (Visit v ∷ es) few inner =
      let next = next_few l v (omega arith) in
      visit_lines l mark es v b (omega arith) (lines (not (leb n (l.turn + 1))) (visit_lapped n w l v) mark es (omega (arith, next)) inner)
  lines b l mark (Mark m ∷ es) few inner =
      ⊎_elim (λ (on : is_drawn x l (Mark m) ≡ true). mark_in_lem l mark es m b on (inner.0 on) (omega arith) (lines true (mark_lapped l) (switched_by mark (Mark m)) es (omega arith) inner.1))
      (λ (off : is_drawn x l (Mark m) ≡ false). mark_past l mark es m b off (lines b (mark_lapped l) (switched_by mark (Mark m)) es (omega arith) inner.1))
      (true_or_false (is_drawn x l (Mark m)))

  -- ---- every line that the log has

  line_here : (b : Bool) (l : Lap) → (l.turn ≢ 0 → b ≡ true) → lines_in l ≤ l.rotation + one b
  unfolding lines_in one
  line_here true l begun = ⊎_elim (λ (h : eqb l.turn 0 ≡ true). rw h (omega arith)) (λ (h : eqb l.turn 0 ≡ false). rw h (omega arith)) (true_or_false (eqb l.turn 0))
  line_here false l begun =
      ⊎_elim (λ (z : l.turn ≡ 0). rw (eq-eqb l.turn 0 z) (omega arith)) (λ (some : l.turn ≢ 0). absurd (true≢false (sym (begun some)))) (zero_or_not l.turn)

  begun_next : (l : Lap) (v : VisitEntry) → (visit_lapped n w l v).turn ≢ 0 → not (leb n (l.turn + 1)) ≡ true
  unfolding visit_lapped
  begun_next l v some =
      ⊎_elim (λ (h : leb n (l.turn + 1) ≡ true). absurd (some (rw h refl))) (λ (h : leb n (l.turn + 1) ≡ false). rw h refl) (true_or_false (leb n (l.turn + 1)))

  or_first : (b d : Bool) → b ≡ true → (b || d) ≡ true
  or_first true d e = refl
  or_first false d e = absurd (true≢false (sym e))

  -- a rotation with a visit has its line
  reach_lines : (b : Bool) (l : Lap) (es : List Entry) → (l.turn ≢ 0 → b ≡ true) → l.rotation + length es + 1 < 2 ^ 64 → lines_in (lapped_all n w l es) ≤ reach b l es
  unfolding reach lapped_all
  reach_lines b l [] begun few = line_here b l begun
  reach_lines b l (Visit v ∷ es) begun few =
      let next = next_few l v (omega arith) in
      reach_lines (not (leb n (l.turn + 1))) (visit_lapped n w l v) es (begun_next l v) (omega (arith, next))
  reach_lines b l (Mark m ∷ es) begun few = reach_lines (b || is_drawn x l (Mark m)) (mark_lapped l) es (λ some. or_first b (is_drawn x l (Mark m)) (begun some)) (omega arith)

  -- and so has that of a record that is drawn
  reach_drawn : (b : Bool) (l : Lap) (before : List Entry) (e : Entry) (behind : List Entry) → l.rotation + length (before ++ e ∷ behind) + 1 < 2 ^ 64
      → is_drawn x (lapped_all n w l before) e ≡ true → (lapped_all n w l before).rotation + 1 ≤ reach b l (before ++ e ∷ behind)
  unfolding reach lapped_all
  reach_drawn b l [] (Visit v) behind few on = visit_reach l v behind (omega arith)
  reach_drawn b l [] (Mark m) behind few on =
      let begun : one (b || is_drawn x l (Mark m)) ≡ 1 = ap one (or_yes b (is_drawn x l (Mark m)) on) ∙ one_true in
      omega (arith, reach_least (b || is_drawn x l (Mark m)) (mark_lapped l) behind (omega arith), begun)
  reach_drawn b l (Visit v ∷ before) e behind few on =
      let next = next_few l v (omega arith) in
      reach_drawn (not (leb n (l.turn + 1))) (visit_lapped n w l v) before e behind (omega (arith, next)) on
  reach_drawn b l (Mark m ∷ before) e behind few on = reach_drawn (b || is_drawn x l (Mark m)) (mark_lapped l) before e behind (omega arith) on

-- ---- of a log

module _ (c : Scene) (bs : List ℕ) (z : (read_log bs).number ≡ 0) (few : (read_log bs).records + 2 < 2 ^ 64) (same : c.n ≡ (read_log bs).set.n) where
  abbrev t : Set
  t = (read_log bs).set

  abbrev es : List Entry
  es = entries_in bs

  abbrev x : Window
  x = window_of (watch_all bs)

  shown : WindowShown t es x
  shown = of-stream.window bs z few

  long : length es ≡ (read_log bs).records
  long = handed_length (read_log bs).records bs (read_log bs).first

  -- the rotation of the record with the named number
  rotation_is : (before : List Entry) (e : Entry) (behind : List Entry) → es ≡ before ++ e ∷ behind → x.named ≡ length before + 1 → rotation_of t es x.named ≡ (lapped_all t.n t.w no_lap before).rotation
  rotation_is before e behind place number =
      let one : x.named - 1 ≡ length before = omega (arith, number) in
      ap (λ (xs : List Entry). (lapped_all t.n t.w no_lap xs).rotation)
      (ap (λ (i : ℕ). take i es) one ∙ ap (take (length before)) place ∙ take-append_seam before (e ∷ behind))

  -- a mark that is drawn is the named record
  mark_inside : (before : List Entry) (m : MarkEntry) (behind : List Entry) → es ≡ before ++ Mark m ∷ behind → is_drawn x (lapped_all t.n t.w no_lap before) (Mark m) ≡ true
      → (x.first ≤ (lapped_all t.n t.w no_lap before).rotation) × ((lapped_all t.n t.w no_lap before).rotation < x.end)
  mark_inside before m behind place on =
      let told : wrapped ((lapped_all t.n t.w no_lap before).records + 1) ≡ x.named = eqb-true _ _ on in
      let count = records_all t.n t.w no_lap before (omega arith) in
      let size = ap length place ∙ length-append before (Mark m ∷ behind) in
      let number : x.named ≡ length before + 1 = omega (arith, told, count, size, long) in
      let r = rotation_is before (Mark m) behind place number in
      let there = shown.named_in (λ e. omega arith) in
      (omega (arith, there.0, r), omega (arith, there.1, r))

  inside_from : (before : List Entry) (l : Lap) (rest : List Entry) → lapped_all t.n t.w no_lap before ≡ l → es ≡ before ++ rest → Inside c x t.n t.w same l rest
  unfolding Inside lapped_all
  inside_from before l [] is place = tt
  inside_from before l (Visit v ∷ rest) is place =
      inside_from (before ++ (Visit v ∷ [])) (visit_lapped t.n t.w l v) rest
      (lap_append t.n t.w no_lap before (Visit v ∷ []) ∙ ap (λ (k : Lap). visit_lapped t.n t.w k v) is)
      (place ∙ sym (append_assoc before (Visit v ∷ []) rest))
  inside_from before l (Mark m ∷ rest) is place = (
    λ on. subst (λ (k : Lap). (x.first ≤ k.rotation) × (k.rotation < x.end)) is (mark_inside before m rest place (ap (λ (k : Lap). is_drawn x k (Mark m)) is ∙ on)),
    inside_from (before ++ (Mark m ∷ [])) (mark_lapped l) rest
        (lap_append t.n t.w no_lap before (Mark m ∷ []) ∙ ap mark_lapped is)
        (place ∙ sym (append_assoc before (Mark m ∷ []) rest)),
  )

  -- so many lines have begun
  abbrev reached : ℕ
  reached = reach c x t.n t.w same false no_lap es

  all_lines : lines_in (lapped_all t.n t.w no_lap es) ≤ reached
  all_lines = reach_lines c x t.n t.w same false no_lap es (λ some. absurd (some refl)) (omega (arith, long))

  found : finding_in bs ≡ found_in bs
  found = finding_read (read_log bs).number (found_in bs) z

  named_line : x.named ≢ 0 → rotation_of t es x.named + 1 ≤ reached
  named_line some =
      let rule : (finding_in bs).rule ≢ 0 = λ e. some
      (of-stream.window_named bs z ∙ ap (λ (f : Finding). f.«record») found
      ∙ none_named (inspection_of t (read_log bs).alloc es) (sym (ap (λ (f : Finding). f.rule) found) ∙ e)) in
      let b = of-inspection.same_broken bs z (omega (arith, ap (λ (f : Finding). f.records) found)) rule in
      let number = of-stream.window_named bs z ∙ b.counted in
      let e = (inspect_start bs).looked.last in
      let on = shown.named_drawn b.before e b.behind b.place number in
      let size = ap length b.place in
      omega (
        arith,
        rotation_is b.before e b.behind b.place number,
        reach_drawn c x t.n t.w same false no_lap b.before e b.behind (omega (arith, size, long)) on,
        ap (reach c x t.n t.w same false no_lap) b.place,
      )

  far : x.end ≤ reached
  far =
      ⊎_elim (λ (none : x.named ≡ 0). omega (arith, (shown.first_lines none).1, all_lines))
      (λ (some : x.named ≢ 0). omega (arith, shown.there some, all_lines, named_line some))
      (zero_or_not x.named)

  pub lines_drawn : line_marks (picture_in c x bs) ≡ lines_from x.first (x.end - x.first)
  unfolding lapped_all
  lines_drawn =
      let ds = drawn_in x t.n t.w no_lap nothing_seen.mark es in
      let all : min x.end reached ≡ x.end = omega (arith, far) in
      ap (λ (xs : List Drawn). line_marks (picture_of c no_pen xs)) (of-stream.drawn x bs z)
      ∙ marks_are c no_pen ds
      ∙ first_next c x t.n t.w same no_lap nothing_seen.mark es false 0 refl (λ q. refl) (omega arith)
      (lines c x t.n t.w same false no_lap nothing_seen.mark es (omega (arith, long)) (inside_from [] no_lap es refl refl))
      ∙ ap (λ (m : ℕ). lines_from x.first (m - x.first)) all
