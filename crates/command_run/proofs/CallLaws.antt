-- The text of a call is that call: its word and its numbers are scanned as they were typed, and the ring is asked with them.
use Prim.Native.Nat.{ℕ, zero, suc, ◌^◌, ◌≤◌, ◌<◌}
use mathlib.Core.Path.{◌≡◌, refl, ap, ◌∙◌}
use mathlib.Core.Bool.{true}
use mathlib.Core.List.{List, [], ◌∷◌, ◌++◌}
use mathlib.Core.Logic.{◌≢◌}
use native.Mathlib.Omega.{arith}
use borrow.Author.Tests.{lt-ltb}
use lib.ListN.{length}
use Rattle.units.specs.declared.Station.{Station}
use Rattle.rings.specs.Steps.{Ask, visited}
use Rattle.rings.specs.HandingIn.{handed_in}
use Rattle.rings.specs.Marking.{marked, unmarked}
use Rattle.rings.specs.declared.Message.{Message}
use Rattle.rings.specs.declared.Ring.{Ring}
use Rattle.text.specs.Text.{newline, decimal_of, line}
use Rattle.line_reader.specs.Scan.{fresh_scan, letter_read, character_read, stepped, code_of, next_line}
use Rattle.line_reader.proofs.ScanLaws.{stepped_over, with_numbers, word_scan, typed, AllSmall, small_none, small_and, typed_read, line_typed, has_no_end, no_end_typed}
use Rattle.command_run.specs.Calls.{visit_word, message_word, mark_word, unmark_word, visit_called, message_called, mark_called, unmark_called, called}
use Rattle.command_run.specs.RunText.{visit_text, taken_text, mark_text, unmark_text, answer_text}
use Rattle.command_run.proofs.RunLaws.{called_visit, called_message, called_mark, called_unmark, line_said}
use Rattle.command_run.specs.Promised.{Says}
use Rattle.command_run.specs.declared.Called.{Called}
use Rattle.command_run.specs.declared.Run.{Run}
use Rattle.line_reader.specs.declared.Scan.{Scan}

-- ---- the words

visit_word_lem : stepped_over fresh_scan visit_word ≡ word_scan visit_word
unfolding stepped_over stepped character_read letter_read
visit_word_lem = refl

message_word_lem : stepped_over fresh_scan message_word ≡ word_scan message_word
unfolding stepped_over stepped character_read letter_read
message_word_lem = refl

mark_word_lem : stepped_over fresh_scan mark_word ≡ word_scan mark_word
unfolding stepped_over stepped character_read letter_read
mark_word_lem = refl

unmark_word_lem : stepped_over fresh_scan unmark_word ≡ word_scan unmark_word
unfolding stepped_over stepped character_read letter_read
unmark_word_lem = refl

-- ---- a typed line does what its word and its numbers ask for

typed_says : (u : Run) (word ns : List ℕ) (c : Called) → u.scan ≡ fresh_scan → stepped_over fresh_scan word ≡ word_scan word → code_of word ≢ 0 → has_no_end word ≡ true → length ns ≤ 5 → AllSmall ns
    → c ≡ called u.ring (with_numbers (word_scan word) ns)
    → Says u (typed word ns ++ (newline ∷ [])) (answer_text c.answer u.line) c.ring
typed_says u word ns c fresh e w inside few small done =
    let read : stepped_over u.scan (typed word ns) ≡ with_numbers (word_scan word) ns = rw fresh (typed_read word ns e w few small) in
    let one = no_end_typed word ns inside in
    let all : called u.ring (stepped_over u.scan (typed word ns)) ≡ c = rw (read, done) refl in
    let ended = line_said u (typed word ns) one in
    record {
      says = ended.1 ∙ ap (λ (x : Called). answer_text x.answer u.line) all;
      behind = ended.0 ∙ ap (λ (x : Called). record { ring = x.ring; scan = fresh_scan; line = next_line u.line }) all;
    }

-- ---- `visit FRAMES` and `visit FRAMES LENGTH`

visit_scan : List ℕ → Scan
visit_scan ns = with_numbers (word_scan visit_word) ns

alone_called : (ring : Ring) (ask : Ask) → ask.frames < 2 ^ 32 → ask.length ≡ 1 → visit_called (visited ring ask) ≡ called ring (visit_scan (ask.frames ∷ []))
unfolding visit_scan with_numbers
alone_called ring ask l e =
    called_visit ring (visit_scan (ask.frames ∷ [])) (visited ring ask) refl (rw (lt-ltb ask.frames (2 ^ 32) l))
    (ap (λ (n : ℕ). visited ring (record { frames = ask.frames; length = n })) e)

named_called : (ring : Ring) (ask : Ask) → ask.frames < 2 ^ 32 → ask.length < 2 ^ 32 → visit_called (visited ring ask) ≡ called ring (visit_scan (ask.frames ∷ ask.length ∷ []))
unfolding visit_scan with_numbers
named_called ring ask l₁ l₂ =
    called_visit ring (visit_scan (ask.frames ∷ ask.length ∷ [])) (visited ring ask) refl
    (rw (lt-ltb ask.frames (2 ^ 32) l₁, lt-ltb ask.length (2 ^ 32) l₂)) refl

pub visit_called_lem : (u : Run) (ask : Ask) → u.scan ≡ fresh_scan → ask.frames < 2 ^ 32 → ask.length ≡ 1
    → Says u (line (visit_word ∷ decimal_of ask.frames ∷ [])) (visit_text (visited u.ring ask).answer) (visited u.ring ask).ring
unfolding has_no_end visit_scan answer_text
visit_called_lem u ask fresh l e =
    rw (line_typed visit_word (ask.frames ∷ []))
    (typed_says u visit_word (ask.frames ∷ []) (visit_called (visited u.ring ask)) fresh visit_word_lem (omega arith) refl (omega arith)
    (small_and ask.frames [] (omega arith) small_none) (alone_called u.ring ask l e))

pub visit_length_called : (u : Run) (ask : Ask) → u.scan ≡ fresh_scan → ask.frames < 2 ^ 32 → ask.length < 2 ^ 32
    → Says u (line (visit_word ∷ decimal_of ask.frames ∷ decimal_of ask.length ∷ [])) (visit_text (visited u.ring ask).answer) (visited u.ring ask).ring
unfolding has_no_end visit_scan answer_text
visit_length_called u ask fresh l₁ l₂ =
    rw (line_typed visit_word (ask.frames ∷ ask.length ∷ []))
    (typed_says u visit_word (ask.frames ∷ ask.length ∷ []) (visit_called (visited u.ring ask)) fresh visit_word_lem (omega arith) refl (omega arith)
    (small_and ask.frames (ask.length ∷ []) (omega arith) (small_and ask.length [] (omega arith) small_none)) (named_called u.ring ask l₁ l₂))

-- ---- `message STATION LENGTH ARRIVAL`

numbers_of : Message → List ℕ
numbers_of m = m.station.0 ∷ m.length.0 ∷ m.arrival.0 ∷ []

numbers_small : (m : Message) → m.station.0 < 2 ^ 64 → m.length.0 < 2 ^ 64 → m.arrival.0 < 2 ^ 64 → AllSmall (numbers_of m)
unfolding numbers_of
numbers_small m l₁ l₂ l₃ zero = l₁
numbers_small m l₁ l₂ l₃ (suc zero) = l₂
numbers_small m l₁ l₂ l₃ (suc (suc zero)) = l₃
numbers_small m l₁ l₂ l₃ (suc (suc (suc j))) = small_none j

message_scan : Message → Scan
message_scan m = with_numbers (word_scan message_word) (numbers_of m)

message_typed : (ring : Ring) (m : Message) → m.station.0 < 2 ^ 32 → message_called (handed_in ring m) ≡ called ring (message_scan m)
unfolding message_scan numbers_of with_numbers
message_typed ring m l = called_message ring (message_scan m) (handed_in ring m) refl refl (rw (lt-ltb m.station.0 (2 ^ 32) l)) refl

pub message_called_lem : (u : Run) (m : Message) → u.scan ≡ fresh_scan → m.station.0 < 2 ^ 32 → m.length.0 < 2 ^ 64 → m.arrival.0 < 2 ^ 64
    → Says u (line (message_word ∷ decimal_of m.station.0 ∷ decimal_of m.length.0 ∷ decimal_of m.arrival.0 ∷ []))
    (taken_text (handed_in u.ring m).number) (handed_in u.ring m).ring
unfolding has_no_end message_scan numbers_of answer_text
message_called_lem u m fresh l₁ l₂ l₃ =
    rw (line_typed message_word (numbers_of m))
    (typed_says u message_word (numbers_of m) (message_called (handed_in u.ring m)) fresh message_word_lem (omega arith) refl (omega arith)
    (numbers_small m (omega arith) l₂ l₃) (message_typed u.ring m l₁))

-- ---- `mark STATION` and `unmark STATION`

station_scan : List ℕ → Station → Scan
station_scan word p = with_numbers (word_scan word) (p.0 ∷ [])

mark_typed : (ring : Ring) (p : Station) → p.0 < 2 ^ 32 → mark_called p (marked ring p) ≡ called ring (station_scan mark_word p)
unfolding station_scan with_numbers
mark_typed ring p l = called_mark ring (station_scan mark_word p) (marked ring p) (rw (lt-ltb p.0 (2 ^ 32) l)) refl

unmark_typed : (ring : Ring) (p : Station) → p.0 < 2 ^ 32 → unmark_called p (unmarked ring p) ≡ called ring (station_scan unmark_word p)
unfolding station_scan with_numbers
unmark_typed ring p l = called_unmark ring (station_scan unmark_word p) (unmarked ring p) (rw (lt-ltb p.0 (2 ^ 32) l)) refl

pub mark_called_lem : (u : Run) (p : Station) → u.scan ≡ fresh_scan → p.0 < 2 ^ 32
    → Says u (line (mark_word ∷ decimal_of p.0 ∷ [])) (mark_text (marked u.ring p).answer) (marked u.ring p).ring
unfolding has_no_end station_scan answer_text
mark_called_lem u p fresh l =
    rw (line_typed mark_word (p.0 ∷ []))
    (typed_says u mark_word (p.0 ∷ []) (mark_called p (marked u.ring p)) fresh mark_word_lem (omega arith) refl (omega arith)
    (small_and p.0 [] (omega arith) small_none) (mark_typed u.ring p l))

pub unmark_called_lem : (u : Run) (p : Station) → u.scan ≡ fresh_scan → p.0 < 2 ^ 32
    → Says u (line (unmark_word ∷ decimal_of p.0 ∷ [])) (unmark_text (unmarked u.ring p).number) (unmarked u.ring p).ring
unfolding has_no_end station_scan answer_text
unmark_called_lem u p fresh l =
    rw (line_typed unmark_word (p.0 ∷ []))
    (typed_says u unmark_word (p.0 ∷ []) (unmark_called p (unmarked u.ring p)) fresh unmark_word_lem (omega arith) refl (omega arith)
    (small_and p.0 [] (omega arith) small_none) (unmark_typed u.ring p l))
