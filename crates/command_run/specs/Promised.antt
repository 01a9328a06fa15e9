-- What is promised of a run of calls beside the contracts; `proofs/Promised.antt` proves it.
use Rattle.std.specs.Prelude.{ℕ, ◌<◌, ◌^◌, ◌≡◌, true, false, not, ◌&&◌, ◌||◌, List, [], ◌∷◌, ◌++◌}
use Rattle.units.specs.declared.Ticks.{Ticks}
use Rattle.units.specs.declared.Station.{Station}
use Rattle.rings.specs.Steps.{Ask, visited}
use Rattle.rings.specs.HandingIn.{handed_in}
use Rattle.rings.specs.Marking.{marked, unmarked}
use Rattle.rings.specs.declared.Ring.{Ring}
use Rattle.rings.specs.declared.Message.{Message}
use Rattle.text.specs.Text.{newline, decimal_of, line, unread_line}
use Rattle.line_reader.specs.Scan.{fresh_scan, is_empty_line, next_line}
use Rattle.command_run.specs.Calls.{visit_word, message_word, mark_word, unmark_word, is_unread, is_visit, ask_in, is_message, message_in, is_mark, is_unmark, station_in, called}
use Rattle.command_run.specs.Runs.{run_from, run_on, run_after, some_unread, lines_in}
use Rattle.command_run.specs.RunText.{visit_text, taken_text, mark_text, unmark_text, said_at, said_over}
use Rattle.line_reader.specs.declared.Scan.{Scan}
use Rattle.command_run.specs.declared.Run.{Run}

-- at this line of text the run says this, and the ring behind it is this one; the run stands at the start of the next line
pub record Says (u : Run) (text said : List ℕ) (ring : Ring) : Type 0 where
  pub says : said_over u text ≡ said
  pub behind : run_after u text ≡ record { ring = ring; scan = fresh_scan; line = next_line u.line }

-- ---- lines that are promised to the byte, each with its end

-- "mark 3"
abbrev pub mark_line : List ℕ
mark_line = 109 ∷ 97 ∷ 114 ∷ 107 ∷ 32 ∷ 51 ∷ 10 ∷ []

-- "unmark 3"
abbrev pub unmark_line : List ℕ
unmark_line = 117 ∷ 110 ∷ 109 ∷ 97 ∷ 114 ∷ 107 ∷ 32 ∷ 51 ∷ 10 ∷ []

-- "marked"
abbrev pub marked_said : List ℕ
marked_said = 109 ∷ 97 ∷ 114 ∷ 107 ∷ 101 ∷ 100 ∷ 10 ∷ []

-- "marked withdrawn 20 100"
abbrev pub withdrawn_said : List ℕ
withdrawn_said =
    109 ∷ 97 ∷ 114 ∷ 107 ∷ 101 ∷ 100 ∷ 32 ∷ 119 ∷ 105 ∷ 116 ∷ 104 ∷ 100 ∷ 114 ∷ 97 ∷ 119 ∷ 110 ∷ 32 ∷ 50 ∷ 48 ∷ 32 ∷
    49 ∷ 48 ∷ 48 ∷ 10 ∷ []

-- "unmarked"
abbrev pub unmarked_said : List ℕ
unmarked_said = 117 ∷ 110 ∷ 109 ∷ 97 ∷ 114 ∷ 107 ∷ 101 ∷ 100 ∷ 10 ∷ []

-- "refused 9"
abbrev pub refused_said : List ℕ
refused_said = 114 ∷ 101 ∷ 102 ∷ 117 ∷ 115 ∷ 101 ∷ 100 ∷ 32 ∷ 57 ∷ 10 ∷ []

pub record Promised : Type 0 where
  -- a run may be read in pieces of any length: the ring stands where it would, and the same is said
  pub pieces_behind : (u : Run) (first rest : List ℕ) → run_after u (first ++ rest) ≡ run_after (run_after u first) rest
  pub pieces_said : (u : Run) (first rest : List ℕ)
      → said_over u (first ++ rest) ≡ said_over u first ++ said_over (run_after u first) rest
  pub pieces_unread : (u : Run) (first rest : List ℕ)
      → some_unread u (first ++ rest) ≡ (some_unread u first || some_unread (run_after u first) rest)
  -- lines are numbered from 1
  pub numbered : (ring : Ring) (text : List ℕ) → (run_after (run_from ring) text).line ≡ next_line (lines_in text)
  -- a line cannot be read exactly if it is neither empty nor a call; a call that the ring refuses is an answer
  pub unread_told : (ring : Ring) (s : Scan)
      → is_unread (called ring s).answer
      ≡ (not (is_empty_line s) && (not (is_visit s) && (not (is_message s) && (not (is_mark s) && not (is_unmark s)))))
  -- the run's lines are the model's answers: a line that is a visit is answered by the ring's visit, and the ring moves
  pub visit_answered : (u : Run) → is_empty_line u.scan ≡ false → is_visit u.scan ≡ true
      → (said_at u newline ≡ visit_text (visited u.ring (ask_in u.scan)).answer)
      × ((run_on u newline).ring ≡ (visited u.ring (ask_in u.scan)).ring)
  -- one that is a message by its handing in
  pub message_answered : (u : Run)
      → is_empty_line u.scan ≡ false → is_visit u.scan ≡ false → is_message u.scan ≡ true
      → (said_at u newline ≡ taken_text (handed_in u.ring (message_in u.scan)).number)
      × ((run_on u newline).ring ≡ (handed_in u.ring (message_in u.scan)).ring)
  -- one that is a marking by the ring's marking, and one that takes a mark off by that
  pub mark_answered : (u : Run) → is_mark u.scan ≡ true
      → (said_at u newline ≡ mark_text (marked u.ring (station_in u.scan)).answer)
      × ((run_on u newline).ring ≡ (marked u.ring (station_in u.scan)).ring)
  pub unmark_answered : (u : Run) → is_unmark u.scan ≡ true
      → (said_at u newline ≡ unmark_text (unmarked u.ring (station_in u.scan)).number)
      × ((run_on u newline).ring ≡ (unmarked u.ring (station_in u.scan)).ring)
  -- one that cannot be read is named, and the ring is unchanged
  pub unread_named : (u : Run) → is_unread (called u.ring u.scan).answer ≡ true
      → (said_at u newline ≡ unread_line u.line) × ((run_on u newline).ring ≡ u.ring)
  -- the text of a call is that call: `visit FRAMES` is the ring's visit with so many frames of length 1
  pub visit_typed : (u : Run) (ask : Ask) → u.scan ≡ fresh_scan → ask.frames < 2 ^ 32 → ask.length ≡ 1
      → Says u (line (visit_word ∷ decimal_of ask.frames ∷ [])) (visit_text (visited u.ring ask).answer)
      (visited u.ring ask).ring
  -- `visit FRAMES LENGTH` is the visit with so many frames of that length
  pub visit_length_typed : (u : Run) (ask : Ask) → u.scan ≡ fresh_scan → ask.frames < 2 ^ 32 → ask.length < 2 ^ 32
      → Says u (line (visit_word ∷ decimal_of ask.frames ∷ decimal_of ask.length ∷ []))
      (visit_text (visited u.ring ask).answer) (visited u.ring ask).ring
  -- `message STATION LENGTH ARRIVAL` is the handing in of that message
  pub message_typed : (u : Run) (m : Message)
      → u.scan ≡ fresh_scan → m.station.0 < 2 ^ 32 → m.length.0 < 2 ^ 64 → m.arrival.0 < 2 ^ 64
      → Says u
      (line (message_word ∷ decimal_of m.station.0 ∷ decimal_of m.length.0 ∷ decimal_of m.arrival.0 ∷ []))
      (taken_text (handed_in u.ring m).number) (handed_in u.ring m).ring
  -- `mark STATION` switches that station through, and `unmark STATION` switches it in again
  pub mark_typed : (u : Run) (p : Station) → u.scan ≡ fresh_scan → p.0 < 2 ^ 32
      → Says u (line (mark_word ∷ decimal_of p.0 ∷ [])) (mark_text (marked u.ring p).answer)
      (marked u.ring p).ring
  pub unmark_typed : (u : Run) (p : Station) → u.scan ≡ fresh_scan → p.0 < 2 ^ 32
      → Says u (line (unmark_word ∷ decimal_of p.0 ∷ [])) (unmark_text (unmarked u.ring p).number)
      (unmarked u.ring p).ring
  -- to the byte: the line `mark 3` switches station 3 through, and `unmark 3` switches it in again
  pub mark_worded : (u : Run) (p : Station) → u.scan ≡ fresh_scan → p.0 ≡ 3
      → Says u mark_line (mark_text (marked u.ring p).answer) (marked u.ring p).ring
  pub unmark_worded : (u : Run) (p : Station) → u.scan ≡ fresh_scan → p.0 ≡ 3
      → Says u unmark_line (unmark_text (unmarked u.ring p).number) (unmarked u.ring p).ring
  -- a marking that is accepted and withdraws nothing is answered `marked`; one that withdraws a message that came at 100, with 20 left of it, `marked withdrawn 20 100`
  pub marked_worded : (rest arrival : Ticks)
      → mark_text (record { rest = rest; arrival = arrival; withdrawn = 0; number = 0 }) ≡ marked_said
  pub withdrawn_worded : mark_text
      (record { rest = record { 0 = 20 }; arrival = record { 0 = 100 }; withdrawn = 1; number = 0 })
      ≡ withdrawn_said
  -- a mark that is taken off is answered `unmarked`, and a station that the ring has not `refused 9`, either way
  pub unmarked_worded : unmark_text 0 ≡ unmarked_said
  pub refused_worded : (rest arrival : Ticks) (withdrawn : ℕ)
      → (mark_text (record { rest = rest; arrival = arrival; withdrawn = withdrawn; number = 9 }) ≡ refused_said)
      × (unmark_text 9 ≡ refused_said)
