-- The picture of a log as one list of parts, and what its bytes leave of it, piece by piece.
use Rattle.std.specs.Prelude.{◌≡◌, ℕ, zero, suc, ◌+◌, List, [], ◌∷◌}
use Rattle.tallies.specs.Laps.{wrapped}
use Rattle.picture_stream.specs.Watching.{watch_over, drawn_over, drawn_all}
use Rattle.picture_stream.specs.declared.Window.{Window}
use Rattle.picture_stream.specs.declared.Watching.{Watching}
use Rattle.text.specs.Phrases.{phrase}
use Rattle.text.specs.declared.phrases.Phrase.{Phrase}
use Rattle.pictures.specs.Parts.{no_pen}
use Rattle.pictures.specs.Picture.{pen_over, picture_of}
use Rattle.pictures.specs.Promised.{line_ended}
use Rattle.pictures.specs.declared.Shape.{Shape}
use Rattle.pictures.specs.declared.Shape.TheVariants as shape
use Rattle.pictures.specs.declared.Scene.{Scene}
use Rattle.pictures.specs.declared.Pen.{Pen}

-- all parts of a log's picture: those of the records that are drawn, in their order, with the pen that goes from one to the next
abbrev pub picture_in : Scene → Window → List ℕ → List (Phrase Shape)
picture_in c x bs = picture_of c no_pen (drawn_all x bs)

-- some bytes more were read and drawn: what is kept of the log, and the pen, are those behind them
pub record GoneOver (c : Scene) (x : Window) (k : Watching) (p : Pen) (bs : List ℕ) (k' : Watching) (p' : Pen) : Type 0 where
  pub read : k' ≡ watch_over k bs
  pub pen : p' ≡ pen_over c p (drawn_over x k bs)

-- ---- the lines in it

-- the line of rotation r, counted from 0, begins with its number, counted from 1
abbrev pub line_from : ℕ → Phrase Shape
line_from r = phrase shape.RotationBegin (wrapped (r + 1) ∷ 0 ∷ 0 ∷ 0 ∷ 0 ∷ 0 ∷ [])

-- so many lines, from that of rotation r on: each begins and is ended
unfoldable pub lines_from : ℕ → ℕ → List (Phrase Shape)
lines_from r zero = []
lines_from r (suc more) = line_from r ∷ line_ended ∷ lines_from (r + 1) more
