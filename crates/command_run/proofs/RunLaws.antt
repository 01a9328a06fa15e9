-- The laws of what `run` prints, for the proofs of this layer. No rule stands here.
use Prim.Native.Nat.{ℕ, zero, suc, ◌+◌, ◌*◌, ◌<◌, ◌≤◌, ◌^◌}
use mathlib.Core.Path.{◌≡◌, refl, sym, ap, ◌∙◌}
use mathlib.Core.Bool.{Bool, true, false, true≢false, ◌&&◌, ◌||◌}
use mathlib.Core.List.{List, [], ◌∷◌, ◌++◌, append_assoc, append-nil}
use mathlib.Core.Logic.{◌≢◌}
use native.Mathlib.Numerals.{add-one}
use native.Mathlib.Omega.{arith}
use borrow.Author.Tests.{ltb-true, lt-ltb, le-ltb, eqb-true, eq-eqb, ne_eqb}
use lib.Dec.{ltb, eqb}
use lib.IntN.{ℤ, pos, negsuc}
use lib.Signed.{lt_z}
use Rattle.std.specs.Prelude.{unsigned_abs}
use Rattle.std.proofs.Math.Bool.{and-false}
use Rattle.std.proofs.lemmas.List.{length-take}
use lib.ListN.{length, take}
use Rattle.units.specs.Places.{at}
use Rattle.units.proofs.JudgingLaws.{and-true}
use Rattle.sheets.proofs.ReadLaws.{then_rest, then_keeps}
use Rattle.sheets.specs.declared.ReadPlan.{ReadPlan}
use Rattle.rings.specs.Opening.{opening}
use Rattle.rings.specs.declared.Opened.{Opened}
use Rattle.rings.specs.Steps.{visited}
use Rattle.rings.specs.HandingIn.{handed_in}
use Rattle.rings.specs.Marking.{marked, unmarked}
use Rattle.rings.specs.declared.Ring.{Ring}
use Rattle.rings.specs.declared.Visited.{Visited}
use Rattle.rings.specs.declared.Taken.{Taken}
use Rattle.rings.specs.declared.MarkedRing.{MarkedRing}
use Rattle.text.specs.Text.{line, line_on, space, newline, decimal_of, page_size}
use Rattle.text.specs.Pages.{HasRoom, Begins}
use Rattle.text.specs.declared.Page.{Page}
use Rattle.text.proofs.TextLaws.{line_first, line_next, put_as, printed, not_printed}
use Rattle.command_run.specs.Bytes.{moved_over, out_over, some_over}
use Rattle.command_run.specs.Calls.{visit_word, message_word, mark_word, unmark_word, is_unread, is_visit, ask_in, is_message, message_in, names_station, is_mark, is_unmark, station_in, answered, visit_called, message_called, mark_called, unmark_called, unreadable, switched, called}
use Rattle.command_run.specs.Runs.{run_from, opened_run, line_ends, line_goes_on, byte_on, run_on, answer_at, unread_at, run_after, some_unread, piece_size, piece_of}
use Rattle.command_run.specs.RunText.{withdrawn_word, dash, without_sign, sign_of, signed_of, completion, withdrawn_words, answer_text, said_at, said_over, RanPiece, RanOn}
use Rattle.command_run.specs.declared.Answer.{Answer}
use Rattle.command_run.specs.declared.Answer.TheVariants.{Nothing}
use Rattle.command_run.proofs.ByteLaws.{Said}
use Rattle.line_reader.proofs.ScanLaws.{stepped_over, has_no_end, first_and_rest}
use Rattle.line_reader.specs.Scan.{code_of, is_readable, is_empty_line}
use Rattle.command_run.specs.declared.Run.{Run}
use Rattle.command_run.specs.declared.LineStep.{LineStep}
use Rattle.command_run.specs.declared.Ran.{Ran}
use Rattle.line_reader.specs.declared.Scan.{Scan}

-- ---- the words of a visit

four : (x d e f : List ℕ) → ((x ++ d) ++ e) ++ f ≡ x ++ ((d ++ e) ++ f)
four x d e f = simp append_assoc

pub visit_words : (w a b c d e f : List ℕ) (rest : List (List ℕ))
    → line (w ∷ a ∷ b ∷ c ∷ d ∷ e ∷ f ∷ rest)
    ≡ ((((w ++ (space ∷ a)) ++ (space ∷ b)) ++ (space ∷ c)) ++ (((space ∷ d) ++ (space ∷ e)) ++ (space ∷ f))) ++ line_on rest
visit_words w a b c d e f rest =
    rw (line_first, line_next, line_next, line_next, line_next, line_next, line_next)
    (ap (λ (front : List ℕ). front ++ line_on rest) (four (((w ++ (space ∷ a)) ++ (space ∷ b)) ++ (space ∷ c)) (space ∷ d) (space ∷ e) (space ∷ f)))

pub sign_late : (z : ℤ) → lt_z z (pos 0) ≡ true → sign_of z ≡ dash ∷ []
unfolding sign_of
sign_late (pos n) t = absurd (omega (arith, ltb-true n 0 t))
sign_late (negsuc n) t = refl

pub sign_none : (z : ℤ) → lt_z z (pos 0) ≡ false → sign_of z ≡ []
unfolding sign_of
sign_none (pos n) t = refl
sign_none (negsuc n) t = absurd (true≢false t)

pub magnitude_of : (z : ℤ) → unsigned_abs z ≡ without_sign z
unfolding without_sign
magnitude_of (pos n) = refl
magnitude_of (negsuc n) = sym (add-one n)

pub completion_some : (k finish : ℕ) (margin : ℤ) → k ≢ 0 → completion k finish margin ≡ decimal_of finish ∷ signed_of margin ∷ []
unfolding completion
completion_some zero finish margin e = absurd (e refl)
completion_some (suc k) finish margin e = refl

pub line_on_three : (w v u : List ℕ) → line_on (w ∷ v ∷ u ∷ []) ≡ (((space ∷ w) ++ (space ∷ v)) ++ (space ∷ u)) ++ (newline ∷ [])
unfolding line_on
line_on_three w v u = simp append_assoc

pub withdrawn_some : (k rest arrival : ℕ) → k ≢ 0 → withdrawn_words k rest arrival ≡ withdrawn_word ∷ decimal_of rest ∷ decimal_of arrival ∷ []
unfolding withdrawn_words
withdrawn_some zero rest arrival e = absurd (e refl)
withdrawn_some (suc k) rest arrival e = refl

-- ---- what one line does

module _ (ring : Ring) (s : Scan) where
  pub called_empty : is_empty_line s ≡ true → answered ring Nothing ≡ called ring s
  unfolding called
  called_empty e = rw e

  pub called_visit : (v : Visited) → is_empty_line s ≡ false → is_visit s ≡ true → v ≡ visited ring (ask_in s) → visit_called v ≡ called ring s
  unfolding called
  called_visit v e i m = rw (e, i) (ap visit_called m)

  pub called_message : (t : Taken) → is_empty_line s ≡ false → is_visit s ≡ false → is_message s ≡ true → t ≡ handed_in ring (message_in s) → message_called t ≡ called ring s
  unfolding called
  called_message t e i j m = rw (e, i, j) (ap message_called m)

  pub called_switched : is_empty_line s ≡ false → is_visit s ≡ false → is_message s ≡ false → switched ring s ≡ called ring s
  unfolding called
  called_switched e i j = rw (e, i, j)

  pub switched_mark : (m : MarkedRing) → is_mark s ≡ true → m ≡ marked ring (station_in s) → mark_called (station_in s) m ≡ switched ring s
  unfolding switched
  switched_mark m i e = rw i (ap (mark_called (station_in s)) e)

  pub switched_unmark : (t : Taken) → is_mark s ≡ false → is_unmark s ≡ true → t ≡ unmarked ring (station_in s) → unmark_called (station_in s) t ≡ switched ring s
  unfolding switched
  switched_unmark t i j e = rw (i, j) (ap (unmark_called (station_in s)) e)

  pub switched_unread : is_mark s ≡ false → is_unmark s ≡ false → unreadable ring ≡ switched ring s
  unfolding switched
  switched_unread i j = rw (i, j)

-- ---- a line that names a station has its own word

module _ (s : Scan) (code : ℕ) (names : names_station code s ≡ true) where
  no_word : (other : ℕ) → code ≢ other → eqb s.word other ≡ false
  no_word other e =
      let word = eqb-true s.word code (and-true (eqb s.word code) _ (and-true (is_readable s) _ names).1).0 in
      ne_eqb s.word other (λ w. e (sym word ∙ w))

  no_call : (other : ℕ) (more : Bool) → code ≢ other → (is_readable s && (eqb s.word other && more)) ≡ false
  no_call other more e = rw (no_word other e) (and-false (is_readable s))

  pub not_empty : code ≢ 0 → is_empty_line s ≡ false
  not_empty e = rw (no_word 0 e) (and-false (is_readable s))

  pub no_visit : code ≢ code_of visit_word → is_visit s ≡ false
  no_visit e = no_call (code_of visit_word) _ e

  pub no_message : code ≢ code_of message_word → is_message s ≡ false
  no_message e = no_call (code_of message_word) _ e

  pub no_mark : code ≢ code_of mark_word → is_mark s ≡ false
  no_mark e = no_call (code_of mark_word) _ e

-- so it is answered as it is, whatever else a line may be
pub called_mark : (ring : Ring) (s : Scan) (m : MarkedRing) → is_mark s ≡ true → m ≡ marked ring (station_in s) → mark_called (station_in s) m ≡ called ring s
called_mark ring s m i e =
    let c = code_of mark_word in
    switched_mark ring s m i e ∙ called_switched ring s (not_empty s c i (omega arith)) (no_visit s c i (omega arith)) (no_message s c i (omega arith))

pub called_unmark : (ring : Ring) (s : Scan) (t : Taken) → is_unmark s ≡ true → t ≡ unmarked ring (station_in s) → unmark_called (station_in s) t ≡ called ring s
called_unmark ring s t i e =
    let c = code_of unmark_word in
    switched_unmark ring s t (no_mark s c i (omega arith)) i e ∙ called_switched ring s (not_empty s c i (omega arith)) (no_visit s c i (omega arith)) (no_message s c i (omega arith))

-- ---- a visit's numbers

-- its frames are a 32-bit number
numbers_fit : (s : Scan) → is_visit s ≡ true
    → (ltb (at s.values 0) (2 ^ 32) ≡ true) × ((eqb s.count 1 || (eqb s.count 2 && ltb (at s.values 1) (2 ^ 32))) ≡ true)
numbers_fit s i = and-true (ltb (at s.values 0) (2 ^ 32)) _ (and-true (eqb s.word 508_575_312_244) _ (and-true (is_readable s) _ i).1).1

pub ask_small : (s : Scan) → is_visit s ≡ true → at s.values 0 < 2 ^ 32
ask_small s i = ltb-true _ _ (numbers_fit s i).0

-- and so is the length that is named
or_named : (one named : Bool) → one ≡ false → (one || named) ≡ true → named ≡ true
or_named one named e h = rw e at h

pub length_small : (s : Scan) → is_visit s ≡ true → s.count ≢ 1 → at s.values 1 < 2 ^ 32
length_small s i more =
    let named = or_named (eqb s.count 1) _ (ne_eqb s.count 1 more) (numbers_fit s i).1 in
    ltb-true _ _ (and-true (eqb s.count 2) _ named).1

-- the ask of each form
pub ask_alone : (s : Scan) → s.count ≡ 1 → record { frames = at s.values 0; length = 1 } ≡ ask_in s
ask_alone s e = rw (eq-eqb s.count 1 e)

pub ask_named : (s : Scan) → s.count ≢ 1 → record { frames = at s.values 0; length = at s.values 1 } ≡ ask_in s
ask_named s e = rw (ne_eqb s.count 1 e)

-- ---- the run

-- a byte lets the line go on, or ends it
pub goes_on : (u : Run) (b : ℕ) → b ≢ newline → line_goes_on u b ≡ byte_on u b
unfolding byte_on
goes_on u b e = rw (ne_eqb b newline e)

pub line_ends_lem : (u : Run) (b : ℕ) → b ≡ newline → line_ends u ≡ byte_on u b
unfolding byte_on
line_ends_lem u b e = rw (eq-eqb b newline e)

-- what it did, part by part
abbrev pub Did : Run → ℕ → LineStep → Type 0
Did u b s = (s.run ≡ run_on u b) × (s.answer ≡ answer_at u b) × (is_unread s.answer ≡ unread_at u b)

pub did : (u : Run) (b : ℕ) {s : LineStep} → s ≡ byte_on u b → Did u b s
did u b e = (ap (λ (x : LineStep). x.run) e, ap (λ (x : LineStep). x.answer) e, ap (λ (x : LineStep). is_unread x.answer) e)

-- ---- a whole line

-- a line is answered by what was scanned of it
abbrev pub scanned_on : Run → List ℕ → Run
scanned_on u bs = record { ring = u.ring; scan = stepped_over u.scan bs; line = u.line }

-- the same, of a line that goes on
abbrev SaidOn : Run → List ℕ → Type 0
SaidOn u bs =
    (run_after u (bs ++ (newline ∷ [])) ≡ (line_ends (scanned_on u bs)).run)
    × (said_over u (bs ++ (newline ∷ [])) ≡ answer_text (line_ends (scanned_on u bs)).answer u.line)

pub line_said : (u : Run) (bs : List ℕ) → has_no_end bs ≡ true → SaidOn u bs
unfolding moved_over out_over stepped_over answer_text
line_said u [] h =
    let ends = did u newline (line_ends_lem u newline refl) in
    (sym ends.0, append-nil (said_at u newline) ∙ rw (← ends.1) refl)
line_said u (b ∷ bs) h =
    let inside = first_and_rest b bs h in
    let on = did u b (goes_on u b inside.0) in
    let rest = line_said (line_goes_on u b).run bs inside.1 in
    let more = bs ++ (newline ∷ []) in (
      ap (λ (x : Run). run_after x more) (sym on.0) ∙ rest.0,
      ap (λ (a : Answer). answer_text a u.line ++ said_over (run_on u b) more) (sym on.1) ∙ ap (λ (x : Run). said_over x more) (sym on.0) ∙ rest.1,
    )

-- ---- a piece of the text

pub piece_none : (text page : List ℕ) → length page < page_size → [] ≡ piece_of text page
unfolding piece_of
piece_none text page small = rw (lt-ltb (length page) page_size small)

pub piece_whole : (text piece page : List ℕ) → piece ≡ take piece_size text → page_size ≤ length page → piece ≡ piece_of text page
unfolding piece_of
piece_whole text piece page e large = rw (le-ltb (length page) page_size large) e

pub piece_few : (text piece : List ℕ) → piece ≡ take piece_size text → length piece ≤ piece_size
piece_few text piece e = rw (e, length-take) (omega arith)

pub ran_none : (u : Run) (text page : List ℕ) → length page < page_size → RanOn u text page page (record { run = u; length = 0; unread = false })
unfolding moved_over some_over
ran_none u text page small =
    let none = piece_none text page small in
    record { behind = ap (run_after u) none; said = not_printed small; unread = ap (some_unread u) none }

-- a page that was empty has room for one answer more
pub empty_room : {bytes : List ℕ} {before : Page} {i n : ℕ}
    → Begins bytes before → i < n → n ≤ piece_size → page_size ≤ length bytes → HasRoom (240 * (i + 1)) before
empty_room begins inside few large = rw (begins.now, begins.at) (omega (arith, inside, few, large))

pub said_room : {u s : Run} {text bytes : List ℕ} {i n : ℕ} {before after : Page}
    → Begins bytes before → Said run_on said_at 240 text u i s before after → i < n → n ≤ piece_size → page_size ≤ length bytes → HasRoom 240 after
said_room {bytes = bytes} {before = before} begins said inside few large =
    let size : length before.bytes.now ≡ length bytes = ap length begins.now in
    omega (arith, said.put.put.put.next, said.put.put.short, said.put.size, begins.at, size, inside, few, large)

-- the answers of a piece, put into a page that was empty
pub ran_all : {u s : Run} {piece bytes : List ℕ} {i r : ℕ} {before after : Page} {unread : Bool}
    → take i piece ≡ piece → i ≤ piece_size → Begins bytes before → Said run_on said_at 240 piece u i s before after → unread ≡ some_unread u (take i piece) → r ≡ after.at
    → RanPiece u piece bytes after.bytes.now (record { run = s; length = r; unread = unread })
ran_all {u = u} whole few begins said seen long =
    let put = rw (begins.now, begins.at, ← long) at said.put.put in
    record {
      behind = said.stands ∙ ap (run_after u) whole;
      said = put_as put (ap (said_over u) whole) (omega (arith, few));
      unread = seen ∙ ap (some_unread u) whole;
    }

pub ran_piece : (u : Run) (text piece before after : List ℕ) (r : Ran)
    → piece ≡ take piece_size text → page_size ≤ length before → RanPiece u piece before after r → RanOn u text before after r
ran_piece u text piece before after r e large h =
    let read = piece_whole text piece before e large in
    record {
      behind = h.behind ∙ ap (run_after u) read;
      said = printed h.said (ap (said_over u) read) large (omega arith);
      unread = h.unread ∙ ap (some_unread u) read;
    }

-- ---- a run that begins

module _ (p : ReadPlan) (o : Opened) (u : Run) (opens : o ≡ opening p.set p.alloc) (begins : u ≡ run_from o.ring) where
  pub opened_refused : p.number ≢ 0 → record { run = u; number = p.number } ≡ opened_run p
  opened_refused k = rw (begins, opens, then_keeps p.number (opening p.set p.alloc).number k)

  pub opened_accepted : p.number ≡ 0 → record { run = u; number = o.number } ≡ opened_run p
  opened_accepted k = rw (begins, opens, then_rest p.number (opening p.set p.alloc).number k)
