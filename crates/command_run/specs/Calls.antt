-- What a line asks for, and what the ring does.
use Rattle.std.specs.Prelude.{ℕ, ◌^◌, Bool, true, false, cond, ◌&&◌, ◌||◌, List, [], ◌∷◌, ltb, eqb}
use Rattle.units.specs.Places.{at}
use Rattle.units.specs.declared.Station.{Station}
use Rattle.rings.specs.Steps.{Ask, visited}
use Rattle.rings.specs.HandingIn.{handed_in}
use Rattle.rings.specs.Marking.{marked, unmarked}
use Rattle.rings.specs.declared.Ring.{Ring}
use Rattle.rings.specs.declared.Message.{Message}
use Rattle.rings.specs.declared.Visited.{Visited}
use Rattle.rings.specs.declared.Taken.{Taken}
use Rattle.rings.specs.declared.MarkedRing.{MarkedRing}
use Rattle.line_reader.specs.Scan.{code_of, is_readable, is_empty_line}
use Rattle.line_reader.specs.declared.Scan.{Scan}
use Rattle.command_run.specs.declared.Answer.{Answer}
use Rattle.command_run.specs.declared.Answer.TheVariants.{Nothing, Visit, HandIn, Mark, Unmark, Unread}
use Rattle.command_run.specs.declared.Called.{Called}

-- ---- words

-- "visit"
abbrev pub visit_word : List ℕ
visit_word = 118 ∷ 105 ∷ 115 ∷ 105 ∷ 116 ∷ []

-- "message"
abbrev pub message_word : List ℕ
message_word = 109 ∷ 101 ∷ 115 ∷ 115 ∷ 97 ∷ 103 ∷ 101 ∷ []

-- "mark"
abbrev pub mark_word : List ℕ
mark_word = 109 ∷ 97 ∷ 114 ∷ 107 ∷ []

-- "unmark"
abbrev pub unmark_word : List ℕ
unmark_word = 117 ∷ 110 ∷ 109 ∷ 97 ∷ 114 ∷ 107 ∷ []

-- ---- the calls

-- `visit FRAMES` or `visit FRAMES LENGTH`, each a 32-bit number
abbrev pub is_visit : Scan → Bool
is_visit s =
    is_readable s
    && (eqb s.word (code_of visit_word)
    && (ltb (at s.values 0) (2 ^ 32) && (eqb s.count 1 || (eqb s.count 2 && ltb (at s.values 1) (2 ^ 32)))))

-- what the visit asks for: frames of the length that is named, or else of length 1
abbrev pub ask_in : Scan → Ask
ask_in s = record { frames = at s.values 0; length = cond (eqb s.count 1) 1 (at s.values 1) }

-- `message STATION LENGTH ARRIVAL`, the station a 32-bit number
abbrev pub is_message : Scan → Bool
is_message s =
    is_readable s && (eqb s.word (code_of message_word) && (eqb s.count 3 && ltb (at s.values 0) (2 ^ 32)))

-- the message that the line hands in
abbrev pub message_in : Scan → Message
message_in s =
    record {
      station = record { 0 = at s.values 0 };
      length = record { 0 = at s.values 1 };
      arrival = record { 0 = at s.values 2 };
    }

-- the word with this code, and STATION, a 32-bit number
abbrev pub names_station : ℕ → Scan → Bool
names_station code s = is_readable s && (eqb s.word code && (eqb s.count 1 && ltb (at s.values 0) (2 ^ 32)))

-- `mark STATION`, and `unmark STATION`
abbrev pub is_mark : Scan → Bool
is_mark s = names_station (code_of mark_word) s

abbrev pub is_unmark : Scan → Bool
is_unmark s = names_station (code_of unmark_word) s

-- the station that the line names
abbrev pub station_in : Scan → Station
station_in s = record { 0 = at s.values 0 }

-- ---- what a line does

-- what is answered to a line that is neither empty nor a call
abbrev pub is_unread : Answer → Bool
is_unread Nothing = false
is_unread (Visit a) = false
is_unread (HandIn number) = false
is_unread (Mark p a) = false
is_unread (Unmark p number) = false
is_unread Unread = true

-- the ring behind a line, and the answer
abbrev pub answered : Ring → Answer → Called
answered ring answer = record { ring = ring; answer = answer }

-- a visit, a handing in, a station switched through, and one switched in again
abbrev pub visit_called : Visited → Called
visit_called v = answered v.ring (Visit v.answer)

abbrev pub message_called : Taken → Called
message_called t = answered t.ring (HandIn t.number)

abbrev pub mark_called : Station → MarkedRing → Called
mark_called p m = answered m.ring (Mark p m.answer)

abbrev pub unmark_called : Station → Taken → Called
unmark_called p t = answered t.ring (Unmark p t.number)

-- a line that cannot be read leaves the ring as it was
abbrev pub unreadable : Ring → Called
unreadable ring = answered ring Unread

-- a station is switched through or in again, and any other line cannot be read
unfoldable pub switched : Ring → Scan → Called
switched ring s =
    cond (is_mark s) (mark_called (station_in s) (marked ring (station_in s)))
    (cond (is_unmark s) (unmark_called (station_in s) (unmarked ring (station_in s))) (unreadable ring))

-- an empty line asks for nothing, and a call is the ring's own
unfoldable pub called : Ring → Scan → Called
called ring s =
    cond (is_empty_line s) (answered ring Nothing)
    (cond (is_visit s) (visit_called (visited ring (ask_in s)))
    (cond (is_message s) (message_called (handed_in ring (message_in s))) (switched ring s)))
