-- The parts that begin and end lines: of a record its first, where no line has begun, and its last, where it is the last visit of a rotation.
use Rattle.std.proofs.Common.{◌≡◌, ℕ, Bool, true, false, cond, not, eqb, ltb, List, [], ◌∷◌, ◌++◌, sym, refl, ap, ◌∙◌, zero, suc, ◌+◌, append_assoc, append-nil, Option, Some, None}
use Rattle.log_records.specs.declared.VisitEntry.{VisitEntry}
use Rattle.log_records.specs.declared.Entry.{Entry}
use Rattle.log_records.specs.declared.Entry.TheVariants.{Visit, Mark}
use Rattle.tallies.specs.declared.Lap.{Lap}
use Rattle.tallies.specs.declared.Drawn.{Drawn}
use Rattle.text.specs.declared.phrases.Phrase.{Phrase}
use Rattle.pictures.specs.Parts.{begun, number_of, end_at, drawn_to, rotation_begin, line_begin, bound_mark, rotation_end, is_last, begin_shape, tick, is_shown, is_roomy, number_shape, first_bar, second_bar, cut_mark, frame, visit_part, visit_behind, mark_part, entry_part, part_at, pen_after, line_end}
use Rattle.pictures.specs.Picture.{part_before, parts_from, parts_of, pen_over, parts_over, picture_of, is_line_mark, line_marks}
use Rattle.pictures.specs.Promised.{NoneLast, line_begun, line_ended, first_or, OneLine}
use Rattle.pictures.specs.declared.Shape.{Shape}
use Rattle.pictures.specs.declared.Scene.{Scene}
use Rattle.pictures.specs.declared.Pen.{Pen}
use Rattle.pictures.specs.declared.Pen.TheVariants.{Up, Down}

-- ---- pieces

pub parts_append : (c : Scene) (p : Pen) (ds es : List Drawn) → parts_over c p (ds ++ es) ≡ parts_over c p ds ++ parts_over c (pen_over c p ds) es
unfolding parts_over pen_over
parts_append c p [] es = refl
parts_append c p (d ∷ ds) es =
    ap (λ (qs : List (Phrase Shape)). parts_of c p d ++ qs) (parts_append c (pen_after c p d) ds es)
    ∙ sym (append_assoc (parts_of c p d) (parts_over c (pen_after c p d) ds) (parts_over c (pen_over c (pen_after c p d) ds) es))

pub pen_append : (c : Scene) (p : Pen) (ds es : List Drawn) → pen_over c p (ds ++ es) ≡ pen_over c (pen_over c p ds) es
unfolding pen_over
pen_append c p [] es = refl
pen_append c p (d ∷ ds) es = pen_append c (pen_after c p d) ds es

before_append : (o : Option (Phrase Shape)) (xs qs : List (Phrase Shape)) → part_before o xs ++ qs ≡ part_before o (xs ++ qs)
unfolding part_before
before_append None xs qs = refl
before_append (Some q) xs qs = refl

-- so many parts of a record before others
unfoldable parts_then : Scene → Pen → Drawn → ℕ → ℕ → List (Phrase Shape) → List (Phrase Shape)
parts_then c p d k zero qs = qs
parts_then c p d k (suc more) qs = part_before (part_at c p d k) (parts_then c p d (k + 1) more qs)

parts_then_lem : (c : Scene) (p : Pen) (d : Drawn) (k more : ℕ) (qs : List (Phrase Shape)) → parts_from c p d k more ++ qs ≡ parts_then c p d k more qs
unfolding parts_from parts_then
parts_then_lem c p d k zero qs = refl
parts_then_lem c p d k (suc more) qs =
    before_append (part_at c p d k) (parts_from c p d (k + 1) more) qs ∙ ap (part_before (part_at c p d k)) (parts_then_lem c p d (k + 1) more qs)

-- ---- a part that is no line mark, if it is there

abbrev Plain : Option (Phrase Shape) → Type 0
Plain None = Unit {0}
Plain (Some q) = is_line_mark q.form ≡ false

passed : (o : Option (Phrase Shape)) (qs : List (Phrase Shape)) → Plain o → line_marks (part_before o qs) ≡ line_marks qs
unfolding line_marks part_before
passed None qs h = refl
passed (Some q) qs h = rw h refl

either : (b : Bool) (x y : Option (Phrase Shape)) → Plain x → Plain y → Plain (cond b x y)
either true x y h g = h
either false x y h g = g

one_plain : (b : Bool) (x y : Phrase Shape) → is_line_mark x.form ≡ false → is_line_mark y.form ≡ false → is_line_mark (cond b x y).form ≡ false
one_plain true x y h g = h
one_plain false x y h g = g

module _ (c : Scene) (p : Pen) (through : Bool) (l : Lap) where
  begin_plain : (s : Bool) → is_line_mark (begin_shape s) ≡ false
  unfolding is_line_mark begin_shape
  begin_plain true = refl
  begin_plain false = refl

  number_plain : (s roomy : Bool) → is_line_mark (number_shape s roomy) ≡ false
  unfolding is_line_mark number_shape
  number_plain true true = refl
  number_plain true false = refl
  number_plain false true = refl
  number_plain false false = refl

  cut_plain : (v : VisitEntry) → Plain (cut_mark c l v)
  unfolding is_line_mark cut_mark
  cut_plain v = either (ltb c.bound (drawn_to c l v)) _ _ refl tt

  frame_plain : (to : ℕ) → Plain (frame c l to)
  unfolding is_line_mark frame
  frame_plain to = either (eqb (number_of l) c.named) _ _ refl tt

  -- the parts of the record itself
  entry_passed : (e : Entry) (qs : List (Phrase Shape))
      → line_marks (part_before (entry_part c p through l e 3) (part_before (entry_part c p through l e 4) (part_before (entry_part c p through l e 5) (part_before (entry_part c p through l e 6) (part_before (entry_part c p through l e 7) (part_before (entry_part c p through l e 8) (part_before (entry_part c p through l e 9) (part_before (entry_part c p through l e 10) (part_before (entry_part c p through l e 11) qs)))))))))
      ≡ line_marks qs
  unfolding visit_part visit_behind mark_part tick first_bar second_bar is_line_mark
  entry_passed (Visit v) qs =
      passed _ _ (begin_plain through)
      ∙ passed _ _ (one_plain through _ _ refl refl)
      ∙ passed _ _ (number_plain through (is_roomy c p (is_shown through v) l))
      ∙ passed _ _ (one_plain c.earlier _ _ refl refl)
      ∙ passed _ _ (one_plain c.earlier _ _ refl refl)
      ∙ passed _ _ refl
      ∙ passed _ _ refl
      ∙ passed _ _ (cut_plain v)
      ∙ passed _ _ (frame_plain (end_at c l v))
  entry_passed (Mark m) qs =
      passed _ _ refl
      ∙ passed _ _ tt
      ∙ passed _ _ tt
      ∙ passed _ _ tt
      ∙ passed _ _ tt
      ∙ passed _ _ tt
      ∙ passed _ _ tt
      ∙ passed _ _ tt
      ∙ passed _ _ (frame_plain l.elapsed)

-- ---- a record

-- what a record begins, where no line has begun
unfoldable pub begun_by : Bool → Drawn → List (Phrase Shape)
begun_by begun d = cond begun [] (line_begun d ∷ [])

-- and what it ends, where it is the last visit of a rotation
unfoldable pub ended_by : Bool → List (Phrase Shape)
ended_by last = cond last (line_ended ∷ []) []

first_mark : (begun : Bool) (q : Option (Phrase Shape)) (d : Drawn) (qs : List (Phrase Shape)) → q ≡ cond begun None (Some (line_begun d)) → line_marks (part_before q qs) ≡ begun_by begun d ++ line_marks qs
unfolding line_marks begun_by is_line_mark part_before
first_mark true q d qs is = rw is refl
first_mark false q d qs is = rw is refl

last_mark : (last : Bool) (q : Option (Phrase Shape)) (qs : List (Phrase Shape)) → q ≡ rotation_end last → line_marks (part_before q qs) ≡ ended_by last ++ line_marks qs
unfolding line_marks ended_by rotation_end is_line_mark part_before
last_mark true q qs is = rw is refl
last_mark false q qs is = rw is refl

record_marks : (c : Scene) (p : Pen) (d : Drawn) (qs : List (Phrase Shape))
    → line_marks (parts_of c p d ++ qs) ≡ begun_by (begun p) d ++ (ended_by (is_last c d.lap d.entry) ++ line_marks qs)
unfolding parts_then part_at rotation_begin line_begin bound_mark is_line_mark
record_marks c p d qs =
    ap line_marks (parts_then_lem c p d 0 14 qs)
    ∙ first_mark (begun p) _ d _ refl
    ∙ ap (λ (xs : List (Phrase Shape)). begun_by (begun p) d ++ xs)
    (passed _ _ (either (begun p) _ _ tt refl)
    ∙ passed _ _ (either (begun p) _ _ tt refl)
    ∙ entry_passed c p d.through d.lap d.entry _
    ∙ passed _ _ refl
    ∙ last_mark (is_last c d.lap d.entry) _ qs refl)

-- ---- records one after another

-- behind a record a line has begun, but behind the last visit of a rotation
begun_after : (last : Bool) (room : ℕ) → begun (cond last Up (Down room)) ≡ not last
begun_after true room = refl
begun_after false room = refl

-- the marks of records that are drawn, whatever the room
unfoldable pub marks_of : Scene → Bool → List Drawn → List (Phrase Shape)
marks_of c begun [] = ended_by begun
marks_of c begun (d ∷ ds) = begun_by begun d ++ (ended_by (is_last c d.lap d.entry) ++ marks_of c (not (is_last c d.lap d.entry)) ds)

picture_first : (c : Scene) (p : Pen) (d : Drawn) (ds : List Drawn) → picture_of c p (d ∷ ds) ≡ parts_of c p d ++ picture_of c (pen_after c p d) ds
unfolding picture_of parts_over pen_over
picture_first c p d ds = append_assoc (parts_of c p d) (parts_over c (pen_after c p d) ds) (part_before (line_end (pen_over c (pen_after c p d) ds)) [])

none_left : (c : Scene) (p : Pen) → line_marks (picture_of c p []) ≡ marks_of c (begun p) []
unfolding picture_of parts_over pen_over line_end marks_of line_marks
none_left c p = last_mark (begun p) _ [] refl ∙ append-nil (ended_by (begun p))

pub marks_are : (c : Scene) (p : Pen) (ds : List Drawn) → line_marks (picture_of c p ds) ≡ marks_of c (begun p) ds
unfolding marks_of pen_after
marks_are c p [] = none_left c p
marks_are c p (d ∷ ds) =
    ap line_marks (picture_first c p d ds)
    ∙ record_marks c p d (picture_of c (pen_after c p d) ds)
    ∙ ap (λ (qs : List (Phrase Shape)). begun_by (begun p) d ++ (ended_by (is_last c d.lap d.entry) ++ qs)) (marks_are c (pen_after c p d) ds ∙ ap (λ (b : Bool). marks_of c b ds) (begun_after (is_last c d.lap d.entry) _))

-- ---- one line

module _ (c : Scene) (last : Drawn) (rest : List Drawn) (ends : is_last c last.lap last.entry ≡ true) where
  -- where a line has begun
  goes_on : (ds : List Drawn) → NoneLast c ds → marks_of c true (ds ++ (last ∷ rest)) ≡ line_ended ∷ marks_of c false rest
  unfolding marks_of begun_by ended_by NoneLast
  goes_on [] none = rw ends refl
  goes_on (d ∷ ds) none = rw none.0 (goes_on ds none.1)

  -- and where none has
  begins : (ds : List Drawn) → NoneLast c ds → marks_of c false (ds ++ (last ∷ rest)) ≡ line_begun (first_or last ds) ∷ line_ended ∷ marks_of c false rest
  unfolding marks_of begun_by ended_by NoneLast first_or
  begins [] none = rw ends refl
  begins (d ∷ ds) none = rw none.0 (ap (λ (qs : List (Phrase Shape)). line_begun d ∷ qs) (goes_on ds none.1))

pen_ended : (c : Scene) (p : Pen) (ds : List Drawn) (last : Drawn) → is_last c last.lap last.entry ≡ true → begun (pen_over c p (ds ++ (last ∷ []))) ≡ false
unfolding pen_over pen_after
pen_ended c p [] last ends = rw ends refl
pen_ended c p (d ∷ ds) last ends = pen_ended c (pen_after c p d) ds last ends

pub one_line_lem : (c : Scene) (p : Pen) (ds : List Drawn) (last : Drawn) (rest : List Drawn)
    → begun p ≡ false → NoneLast c ds → is_last c last.lap last.entry ≡ true → OneLine c p ds last rest
one_line_lem c p ds last rest up none ends =
    let next = pen_over c p (ds ++ (last ∷ [])) in
    let ready : begun (pen_over c p (ds ++ (last ∷ []))) ≡ false = pen_ended c p ds last ends in
    record {
      line =
          marks_are c p (ds ++ (last ∷ rest))
          ∙ ap (λ (b : Bool). marks_of c b (ds ++ (last ∷ rest))) up
          ∙ begins c last rest ends ds none
          ∙ ap (λ (qs : List (Phrase Shape)). line_begun (first_or last ds) ∷ line_ended ∷ qs)
          (ap (λ (b : Bool). marks_of c b rest) (sym ready) ∙ sym (marks_are c next rest));
      none_begun = ready;
    }

-- no last visit comes: the line is ended behind the records
ended_behind : (c : Scene) (ds : List Drawn) → NoneLast c ds → marks_of c true ds ≡ line_ended ∷ []
unfolding marks_of begun_by ended_by NoneLast
ended_behind c [] none = refl
ended_behind c (d ∷ ds) none = rw none.0 (ended_behind c ds none.1)

pub last_line_lem : (c : Scene) (p : Pen) (d : Drawn) (ds : List Drawn) → begun p ≡ false → NoneLast c (d ∷ ds)
    → line_marks (picture_of c p (d ∷ ds)) ≡ line_begun d ∷ line_ended ∷ []
unfolding marks_of begun_by ended_by NoneLast
last_line_lem c p d ds up none =
    marks_are c p (d ∷ ds)
    ∙ ap (λ (b : Bool). marks_of c b (d ∷ ds)) up
    ∙ rw none.0 (ap (λ (qs : List (Phrase Shape)). line_begun d ∷ qs) (ended_behind c ds none.1))
