-- The parts of a drawn record's picture: its shapes with their places. x is 100 for a tick, y goes from 0 to 4 times the bound: the number above, what was sent between 1 and 3, the walk at 2, the limit at 3.
use Rattle.std.specs.Prelude.{◌≡◌, ℕ, ◌+◌, ◌-◌, ◌*◌, min, max, Bool, true, false, cond, ◌&&◌, ◌||◌, [], ◌∷◌, Option, Some, None, ◌==◌, nat_le, nat_lt}
use Rattle.units.specs.Places.{at}
use Rattle.log_records.specs.declared.VisitEntry.{VisitEntry}
use Rattle.log_records.specs.declared.MarkEntry.{MarkEntry}
use Rattle.log_records.specs.declared.Entry.{Entry}
use Rattle.log_records.specs.declared.Entry.TheVariants.{Visit, Mark}
use Rattle.tallies.specs.Laps.{wrapped, took_by}
use Rattle.tallies.specs.declared.Lap.{Lap}
use Rattle.tallies.specs.declared.Drawn.{Drawn}
use Rattle.text.specs.Phrases.{phrase, bare}
use Rattle.text.specs.declared.phrases.Phrase.{Phrase}
use Rattle.pictures.specs.declared.Shape.{Shape}
use Rattle.pictures.specs.declared.Shape.TheVariants as shape
use Rattle.pictures.specs.declared.Scene.{Scene}
use Rattle.pictures.specs.declared.Pen.{Pen}
use Rattle.pictures.specs.declared.Pen.TheVariants.{Up, Down}

-- of what may be no part: a part that is there, of this shape
abbrev pub HasShape : Option (Phrase Shape) → Shape → Type 0
HasShape None s = ⊥
HasShape (Some q) s = q.form ≡ s

-- ---- places

-- where a moment of the rotation stands in its line: what lies behind the end is cut
abbrev pub placed : Scene → ℕ → ℕ
placed c moment = 100 * min moment c.bound

-- a moment as far as a line asks for it: those behind its end are all one
abbrev pub held : Scene → ℕ → ℕ
held c moment = min moment (c.bound + 1)

-- the number of a record behind those of a lap
abbrev pub number_of : Lap → ℕ
number_of l = wrapped (l.records + 1)

-- the moments of a visit in its rotation: where its synchronous and its asynchronous part begin, in the mode's order; where its walk begins; and where it ends
unfoldable pub synchronous_at : Scene → Lap → VisitEntry → ℕ
synchronous_at c l v = cond c.earlier (l.elapsed + v.asynchronous) l.elapsed

unfoldable pub asynchronous_at : Scene → Lap → VisitEntry → ℕ
asynchronous_at c l v = cond c.earlier l.elapsed (l.elapsed + v.synchronous)

abbrev pub walk_at : Lap → VisitEntry → ℕ
walk_at l v = l.elapsed + (v.synchronous + v.asynchronous)

abbrev pub end_at : Scene → Lap → VisitEntry → ℕ
end_at c l v = l.elapsed + took_by c.w v

-- where its limit ends, which counts from where its asynchronous part begins; and how far it is drawn: as far as the later of the two
abbrev pub limit_at : Scene → Lap → VisitEntry → ℕ
limit_at c l v = asynchronous_at c l v + v.limit

abbrev pub drawn_to : Scene → Lap → VisitEntry → ℕ
drawn_to c l v = max (end_at c l v) (limit_at c l v)

-- so many ticks from a moment on, as a bar and as a line at a height
abbrev pub bar_of : Shape → Scene → ℕ → ℕ → Phrase Shape
bar_of s c from ticks =
    phrase s
    (placed c from ∷ c.bound ∷ (placed c (from + ticks) - placed c from) ∷ 2 * c.bound ∷ 0 ∷ 0 ∷ [])

abbrev pub line_of : Shape → Scene → ℕ → ℕ → ℕ → Phrase Shape
line_of s c height from ticks =
    phrase s
    (placed c from ∷ height * c.bound ∷ placed c (from + ticks) ∷ height * c.bound ∷ 0 ∷ 0 ∷ [])

-- ---- the line

-- no line has begun
abbrev pub no_pen : Pen
no_pen = Up

-- a line has begun
abbrev pub begun : Pen → Bool
begun Up = false
begun (Down room) = true

unfoldable pub rotation_begin : Pen → Lap → Option (Phrase Shape)
rotation_begin p l =
    cond (begun p) None (Some (phrase shape.RotationBegin (wrapped (l.rotation + 1) ∷ 0 ∷ 0 ∷ 0 ∷ 0 ∷ 0 ∷ [])))

unfoldable pub line_begin : Scene → Pen → Option (Phrase Shape)
line_begin c p =
    cond (begun p) None (Some (phrase shape.LineBegin (100 * c.bound ∷ 4 * c.bound ∷ 0 ∷ 0 ∷ 0 ∷ 0 ∷ [])))

unfoldable pub bound_mark : Scene → Pen → Option (Phrase Shape)
bound_mark c p =
    cond (begun p) None
    (Some (phrase shape.BoundMark (100 * c.bound ∷ 100 * c.bound ∷ 4 * c.bound ∷ 0 ∷ 0 ∷ 0 ∷ [])))

-- the last visit of a rotation ends its line
abbrev pub is_last : Scene → Lap → Entry → Bool
is_last c l (Visit v) = nat_le c.n (l.turn + 1)
is_last c l (Mark m) = false

unfoldable pub rotation_end : Bool → Option (Phrase Shape)
rotation_end last = cond last (Some (bare shape.RotationEnd)) None

-- ---- a record

unfoldable pub begin_shape : Bool → Shape
begin_shape through = cond through shape.ThroughBegin shape.VisitBegin

abbrev pub visit_begin : Bool → Lap → VisitEntry → Phrase Shape
visit_begin through l v =
    phrase (begin_shape through)
    (number_of l ∷ v.station ∷ v.start ∷ v.limit ∷ v.synchronous ∷ v.asynchronous ∷ [])

abbrev pub mark_begin : Lap → MarkEntry → Phrase Shape
mark_begin l m = phrase shape.MarkBegin (number_of l ∷ m.station ∷ m.mark ∷ 0 ∷ 0 ∷ 0 ∷ [])

-- where it begins: from 1 to 3; of a station that is switched through over the whole height
unfoldable pub tick : Scene → Bool → Lap → Phrase Shape
tick c through l =
    cond through
    (phrase shape.ThroughTick (placed c l.elapsed ∷ placed c l.elapsed ∷ 4 * c.bound ∷ 0 ∷ 0 ∷ 0 ∷ []))
    (phrase shape.Tick
    (placed c l.elapsed ∷ c.bound ∷ placed c l.elapsed ∷ 3 * c.bound ∷ 0 ∷ 0 ∷ []))

-- a line that begins has room everywhere
abbrev pub room_of : Pen → ℕ
room_of Up = 0
room_of (Down room) = room

-- the number of a visit that sent something, or whose station is switched through, is shown
abbrev pub is_shown : Bool → VisitEntry → Bool
is_shown through v = (through || nat_lt 0 v.synchronous) || nat_lt 0 v.asynchronous

-- where there is room for it
abbrev pub is_roomy : Scene → Pen → Bool → Lap → Bool
is_roomy c p shown l = shown && nat_le (room_of p) (placed c l.elapsed)

unfoldable pub number_shape : Bool → Bool → Shape
number_shape through roomy =
    cond through (cond roomy shape.ThroughNumber shape.TightThroughNumber) (cond roomy shape.Number shape.TightNumber)

-- the station's number, a bound high, above its visit
abbrev pub station_number : Scene → Pen → Bool → Lap → VisitEntry → Phrase Shape
station_number c p through l v =
    phrase (number_shape through (is_roomy c p (is_shown through v) l))
    (placed c l.elapsed ∷ c.bound ∷ c.bound ∷ v.station ∷ 0 ∷ 0 ∷ [])

abbrev pub synchronous_bar : Scene → Lap → VisitEntry → Phrase Shape
synchronous_bar c l v = bar_of shape.Synchronous c (synchronous_at c l v) v.synchronous

abbrev pub asynchronous_bar : Scene → Lap → VisitEntry → Phrase Shape
asynchronous_bar c l v = bar_of shape.Asynchronous c (asynchronous_at c l v) v.asynchronous

-- what was sent, in the mode's order
unfoldable pub first_bar : Scene → Lap → VisitEntry → Phrase Shape
first_bar c l v = cond c.earlier (asynchronous_bar c l v) (synchronous_bar c l v)

unfoldable pub second_bar : Scene → Lap → VisitEntry → Phrase Shape
second_bar c l v = cond c.earlier (synchronous_bar c l v) (asynchronous_bar c l v)

abbrev pub walk_line : Scene → Lap → VisitEntry → Phrase Shape
walk_line c l v = line_of shape.Walk c 2 (walk_at l v) (at c.w v.station)

-- the limit, from where the asynchronous part begins
abbrev pub limit_line : Scene → Lap → VisitEntry → Phrase Shape
limit_line c l v = line_of shape.Limit c 3 (asynchronous_at c l v) v.limit

-- a visit that ends behind the end of the line, or whose limit does
unfoldable pub cut_mark : Scene → Lap → VisitEntry → Option (Phrase Shape)
cut_mark c l v =
    cond (nat_lt c.bound (drawn_to c l v))
    (Some
    (phrase shape.Cut
    (98 * c.bound ∷ c.bound ∷ 3 * c.bound ∷ 100 * c.bound ∷ 2 * c.bound ∷ 0 ∷ [])))
    None

-- ---- the named record: from a moment to another, at least 3 bounds wide, and always within the line

abbrev pub frame_at : Scene → ℕ → ℕ
frame_at c from = min (placed c from) (97 * c.bound)

abbrev pub frame_width : Scene → ℕ → ℕ → ℕ
frame_width c from to = max (placed c to - frame_at c from) (3 * c.bound)

unfoldable pub frame : Scene → Lap → ℕ → Option (Phrase Shape)
frame c l to =
    cond (number_of l == c.named)
    (Some
    (phrase shape.Frame
    (frame_at c l.elapsed ∷ 0 ∷ frame_width c l.elapsed to ∷ 4 * c.bound ∷ 0 ∷ 0 ∷ [])))
    None

-- ---- all of them

-- the parts of a visit behind what was sent
unfoldable pub visit_behind : Scene → Lap → VisitEntry → ℕ → Option (Phrase Shape)
visit_behind c l v k =
    cond (k == 8) (Some (walk_line c l v))
    (cond (k == 9) (Some (limit_line c l v))
    (cond (k == 10) (cut_mark c l v) (cond (k == 11) (frame c l (end_at c l v)) None)))

-- the parts of a visit
unfoldable pub visit_part : Scene → Pen → Bool → Lap → VisitEntry → ℕ → Option (Phrase Shape)
visit_part c p through l v k =
    cond (k == 3) (Some (visit_begin through l v))
    (cond (k == 4) (Some (tick c through l))
    (cond (k == 5) (Some (station_number c p through l v))
    (cond (k == 6) (Some (first_bar c l v))
    (cond (k == 7) (Some (second_bar c l v)) (visit_behind c l v k)))))

-- of a mark, which is drawn only where it is named
unfoldable pub mark_part : Scene → Lap → MarkEntry → ℕ → Option (Phrase Shape)
mark_part c l m k = cond (k == 3) (Some (mark_begin l m)) (cond (k == 11) (frame c l l.elapsed) None)

abbrev pub entry_part : Scene → Pen → Bool → Lap → Entry → ℕ → Option (Phrase Shape)
entry_part c p through l (Visit v) k = visit_part c p through l v k
entry_part c p through l (Mark m) k = mark_part c l m k

-- part k of a record: the line where none has begun, the record, its end, and the end of the line
unfoldable pub part_at : Scene → Pen → Drawn → ℕ → Option (Phrase Shape)
part_at c p d k =
    cond (k == 0) (rotation_begin p d.lap)
    (cond (k == 1) (line_begin c p)
    (cond (k == 2) (bound_mark c p)
    (cond (k == 12) (Some (bare shape.RecordEnd))
    (cond (k == 13) (rotation_end (is_last c d.lap d.entry))
    (entry_part c p d.through d.lap d.entry k)))))

-- ---- the pen

-- behind a number that was put there is none for 3 bounds
unfoldable pub room_past : Scene → Pen → Bool → Lap → ℕ
room_past c p shown l = cond (is_roomy c p shown l) (placed c l.elapsed + 3 * c.bound) (room_of p)

abbrev pub room_behind : Scene → Pen → Bool → Lap → Entry → ℕ
room_behind c p through l (Visit v) = room_past c p (is_shown through v) l
room_behind c p through l (Mark m) = room_of p

unfoldable pub pen_after : Scene → Pen → Drawn → Pen
pen_after c p d = cond (is_last c d.lap d.entry) Up (Down (room_behind c p d.through d.lap d.entry))

-- behind the last record a line that has begun is ended
unfoldable pub line_end : Pen → Option (Phrase Shape)
line_end p = rotation_end (begun p)
