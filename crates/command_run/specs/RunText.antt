-- What `run` prints: the calls are read line by line, and each is answered by the ring.
use Rattle.std.specs.Prelude.{ℕ, zero, suc, ◌+◌, ◌*◌, ◌≡◌, List, [], ◌∷◌, ◌++◌, ℤ, pos, negsuc}
use Rattle.rings.specs.declared.VisitRecord.{VisitRecord}
use Rattle.rings.specs.declared.VisitAnswer.{VisitAnswer}
use Rattle.rings.specs.declared.MarkAnswer.{MarkAnswer}
use Rattle.text.specs.Text.{space, decimal_of, line, PutShort, Printed, text_or, unread_line}
use Rattle.command_run.specs.Bytes.{out_over}
use Rattle.command_run.specs.Calls.{visit_word}
use Rattle.command_run.specs.Runs.{run_on, answer_at, run_after, some_unread, piece_size, piece_of}
use Rattle.command_run.specs.declared.Answer.{Answer}
use Rattle.command_run.specs.declared.Answer.TheVariants.{Nothing, Visit, HandIn, Mark, Unmark, Unread}
use Rattle.command_run.specs.declared.Run.{Run}
use Rattle.command_run.specs.declared.Ran.{Ran}

-- ---- words

-- "taken"
abbrev pub taken_word : List ℕ
taken_word = 116 ∷ 97 ∷ 107 ∷ 101 ∷ 110 ∷ []

-- "marked"
abbrev pub marked_word : List ℕ
marked_word = 109 ∷ 97 ∷ 114 ∷ 107 ∷ 101 ∷ 100 ∷ []

-- "withdrawn"
abbrev pub withdrawn_word : List ℕ
withdrawn_word = 119 ∷ 105 ∷ 116 ∷ 104 ∷ 100 ∷ 114 ∷ 97 ∷ 119 ∷ 110 ∷ []

-- "unmarked"
abbrev pub unmarked_word : List ℕ
unmarked_word = 117 ∷ 110 ∷ 109 ∷ 97 ∷ 114 ∷ 107 ∷ 101 ∷ 100 ∷ []

-- "-"
abbrev pub dash : ℕ
dash = 45

-- ---- the answers

-- a number without its sign
unfoldable pub without_sign : ℤ → ℕ
without_sign (pos n) = n
without_sign (negsuc n) = n + 1

-- the sign: a dash, or nothing
unfoldable pub sign_of : ℤ → List ℕ
sign_of (pos n) = []
sign_of (negsuc n) = dash ∷ []

-- a number with its sign
abbrev pub signed_of : ℤ → List ℕ
signed_of m = sign_of m ++ decimal_of (without_sign m)

-- finish and margin of a completed message, or two dashes
unfoldable pub completion : ℕ → ℕ → ℤ → List (List ℕ)
completion zero finish margin = (dash ∷ []) ∷ (dash ∷ []) ∷ []
completion (suc k) finish margin = decimal_of finish ∷ signed_of margin ∷ []

-- the words of a visit up to TRT, and the next three, each with the spaces before it
abbrev pub arrival_words : VisitRecord → List ℕ
arrival_words v =
    ((visit_word ++ (space ∷ decimal_of v.station.0)) ++ (space ∷ decimal_of v.start.0))
    ++ (space ∷ decimal_of v.trt.0)

abbrev pub amount_words : VisitRecord → List ℕ
amount_words v =
    ((space ∷ decimal_of v.limit.0) ++ (space ∷ decimal_of v.synchronous.0))
    ++ (space ∷ decimal_of v.asynchronous.0)

-- `visit`, station, start, TRT, limit, synchronous, asynchronous, finish, margin
unfoldable pub visit_line : VisitRecord → List ℕ
visit_line v =
    line
    (visit_word ∷ decimal_of v.station.0 ∷ decimal_of v.start.0 ∷ decimal_of v.trt.0 ∷ decimal_of v.limit.0
    ∷ decimal_of v.synchronous.0 ∷
    decimal_of v.asynchronous.0 ∷ completion v.completed v.finish.0 v.margin)

-- a visit's answer, or the refusal
abbrev pub visit_text : VisitAnswer → List ℕ
visit_text a = text_or a.number (visit_line a.«record»)

-- `taken`, or the refusal
abbrev pub taken_text : ℕ → List ℕ
taken_text number = text_or number (line (taken_word ∷ []))

-- `withdrawn`, what remained of the message, and its arrival; nothing where none was withdrawn
unfoldable pub withdrawn_words : ℕ → ℕ → ℕ → List (List ℕ)
withdrawn_words zero rest arrival = []
withdrawn_words (suc k) rest arrival = withdrawn_word ∷ decimal_of rest ∷ decimal_of arrival ∷ []

-- `marked`, or `marked withdrawn REST ARRIVAL`, or the refusal
abbrev pub mark_text : MarkAnswer → List ℕ
mark_text a = text_or a.number (line (marked_word ∷ withdrawn_words a.withdrawn a.rest.0 a.arrival.0))

-- `unmarked`, or the refusal
abbrev pub unmark_text : ℕ → List ℕ
unmark_text number = text_or number (line (unmarked_word ∷ []))

-- what is printed of an answer to line n
unfoldable pub answer_text : Answer → ℕ → List ℕ
answer_text Nothing n = []
answer_text (Visit a) n = visit_text a
answer_text (HandIn number) n = taken_text number
answer_text (Mark p a) n = mark_text a
answer_text (Unmark p number) n = unmark_text number
answer_text Unread n = unread_line n

-- ---- what is printed at a byte, and at all of them

abbrev pub said_at : Run → ℕ → List ℕ
said_at u b = answer_text (answer_at u b) u.line

-- the answers one after another
abbrev pub said_over : Run → List ℕ → List ℕ
said_over u text = out_over run_on said_at u text

-- ---- what the functions hand back

-- the run over a piece of the text
pub record RanPiece (u : Run) (piece before after : List ℕ) (r : Ran) : Type 0 where
  pub behind : r.run ≡ run_after u piece
  pub said : PutShort (240 * piece_size) before 0 (said_over u piece) after r.length
  pub unread : r.unread ≡ some_unread u piece

-- the run goes on over a piece of the text, and what it prints stands on the page
pub record RanOn (u : Run) (text before after : List ℕ) (r : Ran) : Type 0 where
  pub behind : r.run ≡ run_after u (piece_of text before)
  pub said : Printed (said_over u (piece_of text before)) before after r.length
  pub unread : r.unread ≡ some_unread u (piece_of text before)
