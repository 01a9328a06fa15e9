-- All parts of the records that are drawn, one record after another: the pen goes from each of them to the next.
use Rattle.std.specs.Prelude.{ℕ, zero, suc, ◌+◌, Bool, true, false, cond, List, [], ◌∷◌, ◌++◌, Option, Some, None}
use Rattle.tallies.specs.declared.Drawn.{Drawn}
use Rattle.pictures.specs.Parts.{part_at, pen_after, line_end}
use Rattle.text.specs.declared.phrases.Phrase.{Phrase}
use Rattle.pictures.specs.declared.Shape.{Shape}
use Rattle.pictures.specs.declared.Shape.TheVariants as shape
use Rattle.pictures.specs.declared.Scene.{Scene}
use Rattle.pictures.specs.declared.Pen.{Pen}

-- a part before others, if it is there
unfoldable pub part_before : Option (Phrase Shape) → List (Phrase Shape) → List (Phrase Shape)
part_before None qs = qs
part_before (Some q) qs = q ∷ qs

-- so many parts of a record, from part k on, those that are there
unfoldable pub parts_from : Scene → Pen → Drawn → ℕ → ℕ → List (Phrase Shape)
parts_from c p d k zero = []
parts_from c p d k (suc more) = part_before (part_at c p d k) (parts_from c p d (k + 1) more)

-- of its 14 all that are there
abbrev pub parts_of : Scene → Pen → Drawn → List (Phrase Shape)
parts_of c p d = parts_from c p d 0 14

-- the pen behind records that are drawn
unfoldable pub pen_over : Scene → Pen → List Drawn → Pen
pen_over c p [] = p
pen_over c p (d ∷ ds) = pen_over c (pen_after c p d) ds

-- the parts of one record after another
unfoldable pub parts_over : Scene → Pen → List Drawn → List (Phrase Shape)
parts_over c p [] = []
parts_over c p (d ∷ ds) = parts_of c p d ++ parts_over c (pen_after c p d) ds

-- the whole picture: behind the last record a line that has begun is ended
unfoldable pub picture_of : Scene → Pen → List Drawn → List (Phrase Shape)
picture_of c p ds = parts_over c p ds ++ part_before (line_end (pen_over c p ds)) []

-- ---- the lines in it

-- this shape begins or ends a line
unfoldable pub is_line_mark : Shape → Bool
is_line_mark shape.RotationBegin = true
is_line_mark shape.LineBegin = false
is_line_mark shape.BoundMark = false
is_line_mark shape.VisitBegin = false
is_line_mark shape.ThroughBegin = false
is_line_mark shape.MarkBegin = false
is_line_mark shape.Tick = false
is_line_mark shape.ThroughTick = false
is_line_mark shape.Number = false
is_line_mark shape.TightNumber = false
is_line_mark shape.ThroughNumber = false
is_line_mark shape.TightThroughNumber = false
is_line_mark shape.Synchronous = false
is_line_mark shape.Asynchronous = false
is_line_mark shape.Walk = false
is_line_mark shape.Limit = false
is_line_mark shape.Cut = false
is_line_mark shape.Frame = false
is_line_mark shape.RecordEnd = false
is_line_mark shape.RotationEnd = true

-- of some parts those that begin or end a line, in their order
unfoldable pub line_marks : List (Phrase Shape) → List (Phrase Shape)
line_marks [] = []
line_marks (q ∷ qs) = cond (is_line_mark q.form) (q ∷ line_marks qs) (line_marks qs)
