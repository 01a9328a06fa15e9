-- The calls of a text are a run of the model: line by line the ring is the same, and what an accepted call tells is kept.
use Prim.Native.Nat.{ℕ, zero, suc, ◌%◌, ◌<◌}
use mathlib.Core.Path.{◌≡◌, refl, sym, ap, ◌∙◌}
use mathlib.Core.Bool.{true, false}
use mathlib.Core.List.{List, [], ◌∷◌, ◌++◌, map, reverse, reverse_aux}
use mathlib.Core.Logic.{⊎_elim}
use native.Mathlib.Nat.{mod-eq_of_lt}
use native.Mathlib.Omega.{arith}
use borrow.Author.Tests.{eqb-true, eqb-false}
use lib.Dec.{eqb}
use Rattle.units.specs.Places.{at}
use Rattle.units.proofs.JudgingLaws.{true_or_false}
use Rattle.units.specs.declared.Station.{Station}
use Rattle.rings.specs.Steps.{visited}
use Rattle.rings.specs.State.{count}
use Rattle.rings.specs.Sound.{Sound}
use Rattle.rings.proofs.RingLaws.{sound_plan}
use Rattle.rings.specs.HandingIn.{handed_in}
use Rattle.rings.specs.Marking.{marked, unmarked}
use Rattle.rings.specs.declared.Ring.{Ring}
use Rattle.rings.specs.declared.VisitRecord.{VisitRecord}
use Rattle.log_records.specs.declared.Entry.{Entry}
use Rattle.ring_rules.proofs.Promised.{promised as rings-promised}
use Rattle.promises.specs.Run.{Call, Event, a_visit as ofVisit, a_message, a_marking, an_unmarking, Run, noted, after, run, records}
use Rattle.promises.proofs.Lists.{noted_records, noted_none}
use Rattle.log_rules.specs.Recorded.{Told, a_visit, a_mark, entry_for, told_in}
use Rattle.log_rules.proofs.RunLaws.{message_untold}
use Rattle.text.specs.Text.{newline}
use Rattle.line_reader.specs.Scan.{is_empty_line}
use Rattle.line_reader.specs.declared.Scan.{Scan}
use Rattle.command_run.specs.Bytes.{moved_over, out_over}
use Rattle.command_run.specs.Calls.{is_visit, ask_in, is_message, message_in, is_mark, is_unmark, station_in, switched, called}
use Rattle.command_run.specs.Runs.{run_on, answer_at, run_after}
use Rattle.command_run.specs.declared.Answer.{Answer}
use Rattle.command_run.specs.declared.Answer.TheVariants.{Nothing, Visit, HandIn, Mark, Unmark, Unread}
use Rattle.command_run.specs.declared.Run as calls
use Rattle.command_run.proofs.RunLaws.{goes_on, line_ends_lem, did}
use Rattle.command_log.specs.LogBytes.{if_accepted, visits_in, mark_of, entries_by, visits_at}
use Rattle.command_log_rules.specs.Calls.{calls_in, scan_on, calls_at, calls_over, visits_over, entries_over}

-- ---- lists

module _ {A : Type 0} where
  aux_append : (first rest before : List A) → reverse_aux (first ++ rest) before ≡ reverse_aux rest (reverse_aux first before)
  aux_append [] rest before = refl
  aux_append (v ∷ first) rest before = aux_append first rest (v ∷ before)

  aux_back : (vs before : List A) → reverse (reverse_aux vs before) ≡ reverse_aux before vs
  aux_back [] before = refl
  aux_back (v ∷ vs) before = aux_back vs (v ∷ before)

  -- turned twice
  pub twice : (vs : List A) → reverse (reverse vs) ≡ vs
  twice vs = aux_back vs []

run_append : (first rest : List Call) (s : Run) → run s (first ++ rest) ≡ run (run s first) rest
unfolding run
run_append [] rest s = refl
run_append (c ∷ first) rest s = run_append first rest (after s c)

-- ---- what a recorder is told of an answer

unfoldable pub told_by : Answer → List Told
told_by Nothing = []
told_by (Visit a) = if_accepted a.number (a_visit a.«record»)
told_by (HandIn number) = []
told_by (Mark p a) = if_accepted a.number (a_mark (mark_of p 1))
told_by (Unmark p number) = if_accepted number (a_mark (mark_of p 0))
told_by Unread = []

abbrev pub told_at : calls.Run → ℕ → List Told
told_at u b = told_by (answer_at u b)

abbrev pub told_over : calls.Run → List ℕ → List Told
told_over u bs = out_over run_on told_at u bs

-- its entries are those that are written
if_map : (k : ℕ) (x : Told) → if_accepted k (entry_for 0 0 x) ≡ map (entry_for 0 0) (if_accepted k x)
unfolding if_accepted
if_map zero x = refl
if_map (suc k) x = refl

answer_entries : (x : Answer) → entries_by 0 0 x ≡ map (entry_for 0 0) (told_by x)
unfolding entries_by told_by
answer_entries Nothing = refl
answer_entries (Visit a) = if_map a.number (a_visit a.«record»)
answer_entries (HandIn number) = refl
answer_entries (Mark p a) = if_map a.number (a_mark (mark_of p 1))
answer_entries (Unmark p number) = if_map number (a_mark (mark_of p 0))
answer_entries Unread = refl

map-append : (first rest : List Told) → map (entry_for 0 0) (first ++ rest) ≡ map (entry_for 0 0) first ++ map (entry_for 0 0) rest
map-append [] rest = refl
map-append (x ∷ first) rest = ap (λ (es : List Entry). entry_for 0 0 x ∷ es) (map-append first rest)

pub text_entries : (text : List ℕ) (u : calls.Run) → entries_over u text ≡ map (entry_for 0 0) (told_over u text)
unfolding out_over
text_entries [] u = refl
text_entries (b ∷ text) u =
    ap (λ (es : List Entry). es ++ entries_over (run_on u b) text) (answer_entries (answer_at u b))
    ∙ ap (λ (es : List Entry). map (entry_for 0 0) (told_at u b) ++ es) (text_entries text (run_on u b))
    ∙ sym (map-append (told_at u b) (told_over (run_on u b) text))

-- ---- one line

-- the station of an accepted marking, and of an unmarking, is one of a sound ring's: its number fits a byte
pub mark_inside : (r : Ring) (p : Station) → (marked r p).answer.number ≡ 0 → Sound r × (p.0 < count r)
mark_inside r p h = (rings-promised.mark_none r p).0 h

pub unmark_inside : (r : Ring) (p : Station) → (unmarked r p).number ≡ 0 → Sound r × (p.0 < count r)
unmark_inside r p h = mark_inside r p (sym (rings-promised.unmark_number r p) ∙ h)

pub station_small : (r : Ring) (p : Station) → Sound r × (p.0 < count r) → p.0 % 256 ≡ p.0
station_small r p inside = mod-eq_of_lt (omega (arith, inside.1, (sound_plan r inside.0).0.1))

-- what was accepted is kept, and only that
noted_if : (k : ℕ) (v : VisitRecord) (before : List VisitRecord) → noted k v before ≡ reverse_aux (if_accepted k v) before
unfolding noted if_accepted
noted_if zero v before = refl
noted_if (suc k) v before = refl

told_if : (k : ℕ) (x : Event) (y : Told) (before : List Event) → (k ≡ 0 → told_in (x ∷ before) ≡ y ∷ told_in before) → told_in (noted k x before) ≡ reverse_aux (if_accepted k y) (told_in before)
unfolding noted if_accepted
told_if zero x y before f = f refl
told_if (suc k) x y before f = refl

-- of a mark
mark_if : (r : Ring) (p : Station) (on k : ℕ) (x : Event) (before : List Event) → (told_in (x ∷ before) ≡ a_mark (record { station = p.0; mark = on }) ∷ told_in before)
    → (k ≡ 0 → Sound r × (p.0 < count r)) → told_in (noted k x before) ≡ reverse_aux (if_accepted k (a_mark (mark_of p on))) (told_in before)
mark_if r p on k x before e inside =
    told_if k x (a_mark (mark_of p on)) before
    (λ z. e ∙ ap (λ (n : ℕ). a_mark (record { station = n; mark = on }) ∷ told_in before) (sym (station_small r p (inside z))))

-- the calls of a line: the ring behind them, the visits' records that are kept, and what a recorder is told
abbrev Done : List Call → Ring → List VisitRecord → List Told → Run → Type 0
Done cs ring vs xs s =
    ((run s cs).ring ≡ ring) × (records (run s cs) ≡ reverse_aux vs (records s)) × (told_in (run s cs).events ≡ reverse_aux xs (told_in s.events))

line_done : (scan : Scan) (s : Run)
    → Done (calls_in scan) (called s.ring scan).ring (visits_in (called s.ring scan).answer) (told_by (called s.ring scan).answer) s
unfolding calls_in run after called switched visits_in told_by
line_done scan s =
    let r = s.ring in
    let p = station_in scan in
    ⊎_elim (λ (e : is_empty_line scan ≡ true). rw e (refl, refl, refl)) (λ (e : is_empty_line scan ≡ false).
    ⊎_elim
    (λ (v : is_visit scan ≡ true).
    let w = (visited r (ask_in scan)).answer in
    let on = at r.mark r.token in
    rw (e, v) (
      refl,
      noted_records w.number on w.«record» s.events ∙ noted_if w.number w.«record» (records s),
      told_if w.number (ofVisit on w.«record») (a_visit w.«record») s.events (λ z. refl),
    ))
    (λ (v : is_visit scan ≡ false).
    ⊎_elim
    (λ (m : is_message scan ≡ true).
    rw (e, v, m) (refl, noted_none (handed_in r (message_in scan)).number (a_message (message_in scan)) s.events (λ h. refl), message_untold s (message_in scan)))
    (λ (m : is_message scan ≡ false).
    ⊎_elim
    (λ (i : is_mark scan ≡ true).
    let w = (marked r p).answer in
    rw (e, v, m, i) (
      refl,
      noted_none w.number (a_marking p w) s.events (λ h. refl),
      mark_if r p 1 w.number (a_marking p w) s.events refl (mark_inside r p),
    ))
    (λ (i : is_mark scan ≡ false).
    ⊎_elim
    (λ (j : is_unmark scan ≡ true).
    let k = (unmarked r p).number in
    rw (e, v, m, i, j) (
      refl,
      noted_none k (an_unmarking p) s.events (λ h. refl),
      mark_if r p 0 k (an_unmarking p) s.events refl (unmark_inside r p),
    ))
    (λ (j : is_unmark scan ≡ false). rw (e, v, m, i, j) (refl, refl, refl))
    (true_or_false (is_unmark scan)))
    (true_or_false (is_mark scan)))
    (true_or_false (is_message scan)))
    (true_or_false (is_visit scan)))
    (true_or_false (is_empty_line scan))

-- ---- one byte more

-- what is read of the line, by the text alone
byte_scan : (u : calls.Run) (b : ℕ) → (run_on u b).scan ≡ scan_on u.scan b
unfolding scan_on
byte_scan u b =
    ⊎_elim (λ (n : eqb b newline ≡ true). rw (← (did u b (line_ends_lem u b (eqb-true b newline n))).0, n) refl)
    (λ (n : eqb b newline ≡ false). rw (← (did u b (goes_on u b (eqb-false b newline n))).0, n) refl)
    (true_or_false (eqb b newline))

byte_done : (u : calls.Run) (b : ℕ) (s : Run) → u.ring ≡ s.ring → Done (calls_at u.scan b) (run_on u b).ring (visits_at u b) (told_at u b) s
unfolding calls_at visits_in told_by run
byte_done u b s e =
    ⊎_elim (λ (n : eqb b newline ≡ true).
    let ends = did u b (line_ends_lem u b (eqb-true b newline n)) in
    rw (← ends.0, ← ends.1, n, e) (line_done u.scan s))
    (λ (n : eqb b newline ≡ false).
    let on = did u b (goes_on u b (eqb-false b newline n)) in
    rw (← on.0, ← on.1, n) (sym e, refl, refl))
    (true_or_false (eqb b newline))

-- ---- a text

-- the ring, the visits' records, and what a recorder is told
abbrev pub Runs : List ℕ → calls.Run → Run → Type 0
Runs text u s = Done (calls_over u.scan text) (run_after u text).ring (visits_over u text) (told_over u text) s

pub text_runs : (text : List ℕ) (u : calls.Run) (s : Run) → u.ring ≡ s.ring → Runs text u s
unfolding moved_over out_over run
text_runs [] u s e = (sym e, refl, refl)
text_runs (b ∷ text) u s e =
    let here = byte_done u b s e in
    let next = run_on u b in
    let rest = text_runs text next (run s (calls_at u.scan b)) (sym here.0) in
    let more : run s (calls_at u.scan b ++ calls_over (scan_on u.scan b) text) ≡ run (run s (calls_at u.scan b)) (calls_over (run_on u b).scan text) =
    run_append (calls_at u.scan b) (calls_over (scan_on u.scan b) text) s ∙ ap (λ (x : Scan). run (run s (calls_at u.scan b)) (calls_over x text)) (sym (byte_scan u b)) in (
      ap (λ (x : Run). x.ring) more ∙ rest.0,
      ap (λ (x : Run). records x) more ∙ rest.1 ∙ ap (reverse_aux (visits_over next text)) here.1 ∙ sym (aux_append (visits_at u b) (visits_over next text) (records s)),
      ap (λ (x : Run). told_in x.events) more ∙ rest.2 ∙ ap (reverse_aux (told_over next text)) here.2 ∙ sym (aux_append (told_at u b) (told_over next text) (told_in s.events)),
    )
