-- What is promised of the picture of a drawn record beside the contracts; `proofs/Promised.antt` proves it.
use Rattle.std.specs.Prelude.{◌≡◌, ℕ, ◌+◌, ◌*◌, ◌<◌, ◌≤◌, Bool, true, false, List, [], ◌∷◌, ◌++◌, Some, None}
use Rattle.log_records.specs.declared.VisitEntry.{VisitEntry}
use Rattle.log_records.specs.declared.MarkEntry.{MarkEntry}
use Rattle.log_records.specs.declared.Entry.TheVariants.{Visit, Mark}
use Rattle.tallies.specs.Laps.{wrapped}
use Rattle.tallies.specs.declared.Lap.{Lap}
use Rattle.tallies.specs.declared.Drawn.{Drawn}
use Rattle.text.specs.Phrases.{phrase, bare}
use Rattle.text.specs.declared.phrases.Phrase.{Phrase}
use Rattle.pictures.specs.Parts.{begun, HasShape, number_of, synchronous_at, asynchronous_at, walk_at, end_at, limit_at, drawn_to, visit_begin, mark_begin, tick, station_number, first_bar, second_bar, synchronous_bar, asynchronous_bar, walk_line, limit_line, cut_mark, frame, frame_at, frame_width, is_last, pen_after, part_at}
use Rattle.pictures.specs.Picture.{pen_over, parts_over, picture_of, line_marks}
use Rattle.pictures.specs.declared.Shape.{Shape}
use Rattle.pictures.specs.declared.Shape.TheVariants as shape
use Rattle.pictures.specs.declared.Scene.{Scene}
use Rattle.pictures.specs.declared.Pen.{Pen}

-- a visit that ends within its line is drawn as it is: every bar is as wide as its ticks, and each stands where the one before it ends; where its limit ends within the line too, that is drawn as it is, and nothing is cut
pub record DrawnWhole (c : Scene) (l : Lap) (v : VisitEntry) : Type 0 where
  pub synchronous : synchronous_bar c l v
      ≡ phrase shape.Synchronous
      (100 * synchronous_at c l v ∷ c.bound ∷ 100 * v.synchronous ∷ 2 * c.bound ∷ 0 ∷ 0 ∷ [])
  pub asynchronous : asynchronous_bar c l v
      ≡ phrase shape.Asynchronous
      (100 * asynchronous_at c l v ∷ c.bound ∷ 100 * v.asynchronous ∷ 2 * c.bound ∷ 0 ∷ 0 ∷ [])
  pub walk : walk_line c l v
      ≡ phrase shape.Walk
      (100 * walk_at l v ∷ 2 * c.bound ∷ 100 * end_at c l v ∷ 2 * c.bound ∷ 0 ∷ 0 ∷ [])
  pub limit : limit_at c l v ≤ c.bound
      → limit_line c l v
      ≡ phrase shape.Limit
      (100 * asynchronous_at c l v ∷ 3 * c.bound ∷ 100 * limit_at c l v ∷ 3 * c.bound ∷ 0 ∷ 0 ∷ [])
  pub not_cut : limit_at c l v ≤ c.bound → cut_mark c l v ≡ None

-- in the mode's order: the 2003 edition and FDDI send synchronously first, the 2002 edition asynchronously
pub record Order (c : Scene) (l : Lap) (v : VisitEntry) : Type 0 where
  pub synchronous_first : c.earlier ≡ false
      → (first_bar c l v ≡ synchronous_bar c l v) × ((second_bar c l v ≡ asynchronous_bar c l v)
      × ((synchronous_at c l v ≡ l.elapsed) × (asynchronous_at c l v ≡ l.elapsed + v.synchronous)))
  pub asynchronous_first : c.earlier ≡ true
      → (first_bar c l v ≡ asynchronous_bar c l v) × ((second_bar c l v ≡ synchronous_bar c l v)
      × ((asynchronous_at c l v ≡ l.elapsed) × (synchronous_at c l v ≡ l.elapsed + v.asynchronous)))

-- a record begins a line, which is as long as the bound
pub record LineBegun (c : Scene) (p : Pen) (d : Drawn) : Type 0 where
  pub rotation : part_at c p d 0 ≡ Some (phrase shape.RotationBegin (wrapped (d.lap.rotation + 1) ∷ 0 ∷ 0 ∷ 0 ∷ 0 ∷ 0 ∷ []))
  pub line : part_at c p d 1 ≡ Some (phrase shape.LineBegin (100 * c.bound ∷ 4 * c.bound ∷ 0 ∷ 0 ∷ 0 ∷ 0 ∷ []))
  -- the bound is marked at its end
  pub bound : part_at c p d 2
      ≡ Some (phrase shape.BoundMark (100 * c.bound ∷ 100 * c.bound ∷ 4 * c.bound ∷ 0 ∷ 0 ∷ 0 ∷ []))

-- the parts of a visit
pub record VisitParts (c : Scene) (p : Pen) (d : Drawn) (v : VisitEntry) : Type 0 where
  pub begin : part_at c p d 3 ≡ Some (visit_begin d.through d.lap v)
  pub tick : part_at c p d 4 ≡ Some (tick c d.through d.lap)
  pub number : part_at c p d 5 ≡ Some (station_number c p d.through d.lap v)
  pub first_bar_lem : part_at c p d 6 ≡ Some (first_bar c d.lap v)
  pub second_bar_lem : part_at c p d 7 ≡ Some (second_bar c d.lap v)
  pub walk : part_at c p d 8 ≡ Some (walk_line c d.lap v)
  pub limit : part_at c p d 9 ≡ Some (limit_line c d.lap v)
  pub cut : part_at c p d 10 ≡ cut_mark c d.lap v
  pub frame : part_at c p d 11 ≡ frame c d.lap (end_at c d.lap v)
  pub end : part_at c p d 12 ≡ Some (bare shape.RecordEnd)

-- the parts of a mark: what it says, and its frame, which takes no time
pub record MarkParts (c : Scene) (p : Pen) (d : Drawn) (m : MarkEntry) : Type 0 where
  pub begin : part_at c p d 3 ≡ Some (mark_begin d.lap m)
  pub frame : part_at c p d 11 ≡ frame c d.lap d.lap.elapsed
  pub end : part_at c p d 12 ≡ Some (bare shape.RecordEnd)
  pub no_more : (k : ℕ) → 4 ≤ k → k ≤ 10 → part_at c p d k ≡ None

-- none of these records is the last visit of a rotation
unfoldable pub NoneLast : Scene → List Drawn → Type 0
NoneLast c [] = Unit {0}
NoneLast c (d ∷ ds) = (is_last c d.lap d.entry ≡ false) × NoneLast c ds

-- a line begins with the number of the first record's rotation
abbrev pub line_begun : Drawn → Phrase Shape
line_begun d = phrase shape.RotationBegin (wrapped (d.lap.rotation + 1) ∷ 0 ∷ 0 ∷ 0 ∷ 0 ∷ 0 ∷ [])

abbrev pub line_ended : Phrase Shape
line_ended = phrase shape.RotationEnd (0 ∷ 0 ∷ 0 ∷ 0 ∷ 0 ∷ 0 ∷ [])

-- the first of these records; this one where there is none
unfoldable pub first_or : Drawn → List Drawn → Drawn
first_or d [] = d
first_or d (e ∷ es) = e

-- these records are one line of the picture, and behind it no line has begun
pub record OneLine (c : Scene) (p : Pen) (ds : List Drawn) (last : Drawn) (rest : List Drawn) : Type 0 where
  pub line : line_marks (picture_of c p (ds ++ (last ∷ rest)))
      ≡ line_begun (first_or last ds) ∷ line_ended ∷ line_marks (picture_of c (pen_over c p (ds ++ (last ∷ []))) rest)
  pub none_begun : begun (pen_over c p (ds ++ (last ∷ []))) ≡ false

pub record Promised : Type 0 where
  pub whole : (c : Scene) (l : Lap) (v : VisitEntry) → end_at c l v ≤ c.bound → DrawnWhole c l v
  pub order : (c : Scene) (l : Lap) (v : VisitEntry) → Order c l v
  -- a visit that ends behind its line, or whose limit does, is marked as cut
  pub cut : (c : Scene) (l : Lap) (v : VisitEntry) → c.bound < drawn_to c l v
      → cut_mark c l v ≡ Some (phrase shape.Cut (98 * c.bound ∷ c.bound ∷ 3 * c.bound ∷ 100 * c.bound ∷ 2 * c.bound ∷ 0 ∷ []))
  -- where no line has begun a record begins one, with its rotation's number, and where one has it begins none
  pub line_begins : (c : Scene) (p : Pen) (d : Drawn) → begun p ≡ false → LineBegun c p d
  pub line_begun_lem : (c : Scene) (p : Pen) (d : Drawn) → begun p ≡ true
      → (part_at c p d 0 ≡ None) × ((part_at c p d 1 ≡ None) × (part_at c p d 2 ≡ None))
  -- behind a record a line has begun, but behind the last visit of a rotation, which ends it
  pub line_ends_lem : (c : Scene) (p : Pen) (d : Drawn) → is_last c d.lap d.entry ≡ true
      → (begun (pen_after c p d) ≡ false) × (part_at c p d 13 ≡ Some (phrase shape.RotationEnd (0 ∷ 0 ∷ 0 ∷ 0 ∷ 0 ∷ 0 ∷ [])))
  pub line_goes_on_lem : (c : Scene) (p : Pen) (d : Drawn) → is_last c d.lap d.entry ≡ false
      → (begun (pen_after c p d) ≡ true) × (part_at c p d 13 ≡ None)
  -- the frame of a record lies within the line
  pub framed : (c : Scene) (from to : ℕ) → frame_at c from + frame_width c from to ≤ 100 * c.bound
  -- it is drawn exactly at the named record: of its parts part 11 is one, and no other part of any record is
  pub frame_named : (c : Scene) (p : Pen) (d : Drawn) → number_of d.lap ≡ c.named
      → HasShape (part_at c p d 11) shape.Frame
  pub frame_only : (c : Scene) (p : Pen) (d : Drawn) (k : ℕ) → HasShape (part_at c p d k) shape.Frame
      → (k ≡ 11) × (number_of d.lap ≡ c.named)
  -- which part of a record is which
  pub visit_parts : (c : Scene) (p : Pen) (l : Lap) (through : Bool) (v : VisitEntry)
      → VisitParts c p (record { lap = l; entry = Visit v; through = through }) v
  pub mark_parts : (c : Scene) (p : Pen) (l : Lap) (through : Bool) (m : MarkEntry)
      → MarkParts c p (record { lap = l; entry = Mark m; through = through }) m
  -- the picture may be drawn in pieces: the pen is all that goes from one to the next
  pub picture_pieces : (c : Scene) (p : Pen) (ds es : List Drawn)
      → parts_over c p (ds ++ es) ≡ parts_over c p ds ++ parts_over c (pen_over c p ds) es
  -- records up to the last visit of a rotation begin one line, with the number of their rotation, and end it; then the next one begins
  pub one_line_lem : (c : Scene) (p : Pen) (ds : List Drawn) (last : Drawn) (rest : List Drawn)
      → begun p ≡ false → NoneLast c ds → is_last c last.lap last.entry ≡ true → OneLine c p ds last rest
  -- and those behind which no last visit comes begin one line, and it is ended behind them
  pub last_line_lem : (c : Scene) (p : Pen) (d : Drawn) (ds : List Drawn) → begun p ≡ false → NoneLast c (d ∷ ds)
      → line_marks (picture_of c p (d ∷ ds)) ≡ line_begun d ∷ line_ended ∷ []
  -- a record has 14 parts
  pub no_more : (c : Scene) (p : Pen) (d : Drawn) (k : ℕ) → 14 ≤ k → part_at c p d k ≡ None
