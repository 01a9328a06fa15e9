-- The frame is part 11 of the named record, and no other part of any record is one.
use Rattle.std.proofs.Common.{◌≡◌, ℕ, Option, Some, Bool, true, false, cond, eqb, ltb, refl, eq-eqb, eqb-true}
use Rattle.log_records.specs.declared.VisitEntry.{VisitEntry}
use Rattle.log_records.specs.declared.Entry.{Entry}
use Rattle.log_records.specs.declared.Entry.TheVariants.{Visit, Mark}
use Rattle.tallies.specs.declared.Lap.{Lap}
use Rattle.tallies.specs.declared.Drawn.{Drawn}
use Rattle.text.specs.declared.phrases.Phrase.{Phrase}
use Rattle.pictures.specs.Parts.{begun, HasShape, number_of, rotation_begin, line_begin, bound_mark, rotation_end, is_last, drawn_to, begin_shape, tick, is_shown, is_roomy, number_shape, first_bar, second_bar, cut_mark, frame, visit_part, visit_behind, mark_part, entry_part, part_at}
use Rattle.pictures.specs.declared.Shape.{Shape}
use Rattle.pictures.specs.declared.Shape.TheVariants as shape
use Rattle.pictures.specs.declared.Scene.{Scene}
use Rattle.pictures.specs.declared.Pen.{Pen}

frame_shape : (c : Scene) (l : Lap) (to : ℕ) → number_of l ≡ c.named → HasShape (frame c l to) shape.Frame
unfolding frame
frame_shape c l to e = rw (eq-eqb _ _ e) refl

named_entry : (c : Scene) (p : Pen) (through : Bool) (l : Lap) (e : Entry) → number_of l ≡ c.named → HasShape (entry_part c p through l e 11) shape.Frame
unfolding visit_part visit_behind mark_part
named_entry c p through l (Visit v) h = frame_shape c l _ h
named_entry c p through l (Mark m) h = frame_shape c l _ h

pub frame_named : (c : Scene) (p : Pen) (d : Drawn) → number_of d.lap ≡ c.named → HasShape (part_at c p d 11) shape.Frame
unfolding part_at
frame_named c p d h = named_entry c p d.through d.lap d.entry h

module _ (c : Scene) (p : Pen) (l : Lap) (k : ℕ) where
  -- this part k is a frame only at the named record, and only as part 11
  abbrev Only : Option (Phrase Shape) → Type 0
  Only o = HasShape o shape.Frame → (k ≡ 11) × (number_of l ≡ c.named)

  either : (b : Bool) (x y : Option (Phrase Shape)) → (b ≡ true → Only x) → Only y → Only (cond b x y)
  either true x y h g = h refl
  either false x y h g = g

  frame_at : (to : ℕ) → k ≡ 11 → Only (frame c l to)
  unfolding frame
  frame_at to is = either (eqb (number_of l) c.named) _ _ (λ (h : eqb (number_of l) c.named ≡ true). λ e. (is, eqb-true _ _ h)) (λ e. absurd e)

  cut_none : (v : VisitEntry) → Only (cut_mark c l v)
  unfolding cut_mark
  cut_none v = either (ltb c.bound (drawn_to c l v)) _ _ (λ h. λ e. ((cc), (cc))) (λ e. absurd e)

  visit_behind_lem : (v : VisitEntry) → Only (visit_behind c l v k)
  unfolding visit_behind
  visit_behind_lem v =
      either (eqb k 8) _ _ (λ h. λ e. ((cc), (cc)))
      (either (eqb k 9) _ _ (λ h. λ e. ((cc), (cc)))
      (either (eqb k 10) _ _ (λ h. cut_none v)
      (either (eqb k 11) _ _ (λ h. frame_at _ (eqb-true _ _ h)) (λ e. absurd e))))

  -- shapes that go by a test
  begins : (through : Bool) → begin_shape through ≡ shape.Frame → (k ≡ 11) × (number_of l ≡ c.named)
  unfolding begin_shape
  begins true e = ((cc), (cc))
  begins false e = ((cc), (cc))

  numbered : (through roomy : Bool) → number_shape through roomy ≡ shape.Frame → (k ≡ 11) × (number_of l ≡ c.named)
  unfolding number_shape
  numbered true true e = ((cc), (cc))
  numbered true false e = ((cc), (cc))
  numbered false true e = ((cc), (cc))
  numbered false false e = ((cc), (cc))

  ticks : (through : Bool) → Only (Some (tick c through l))
  unfolding tick
  ticks true e = ((cc), (cc))
  ticks false e = ((cc), (cc))

  -- a bar that goes by the mode
  barred : (b : Bool) (x y : Phrase Shape) → Only (Some x) → Only (Some y) → Only (Some (cond b x y))
  barred true x y h g = h
  barred false x y h g = g

  first_one : (v : VisitEntry) → Only (Some (first_bar c l v))
  unfolding first_bar
  first_one v = barred c.earlier _ _ (λ e. ((cc), (cc))) (λ e. ((cc), (cc)))

  second_one : (v : VisitEntry) → Only (Some (second_bar c l v))
  unfolding second_bar
  second_one v = barred c.earlier _ _ (λ e. ((cc), (cc))) (λ e. ((cc), (cc)))

  visit : (through : Bool) (v : VisitEntry) → Only (visit_part c p through l v k)
  unfolding visit_part
  visit through v =
      either (eqb k 3) _ _ (λ h. begins through)
      (either (eqb k 4) _ _ (λ h. ticks through)
      (either (eqb k 5) _ _ (λ h. numbered through (is_roomy c p (is_shown through v) l))
      (either (eqb k 6) _ _ (λ h. first_one v)
      (either (eqb k 7) _ _ (λ h. second_one v) (visit_behind_lem v)))))

  entry : (through : Bool) (e : Entry) → Only (entry_part c p through l e k)
  unfolding mark_part
  entry through (Visit v) = visit through v
  entry through (Mark m) =
      either (eqb k 3) _ _ (λ h. λ e. ((cc), (cc))) (either (eqb k 11) _ _ (λ h. frame_at _ (eqb-true _ _ h)) (λ e. absurd e))

pub frame_only : (c : Scene) (p : Pen) (d : Drawn) (k : ℕ) → HasShape (part_at c p d k) shape.Frame → (k ≡ 11) × (number_of d.lap ≡ c.named)
unfolding part_at rotation_begin line_begin bound_mark rotation_end
frame_only c p d k =
    let l = d.lap in
    either c p l k (eqb k 0) _ _ (λ h. either c p l k (begun p) _ _ (λ g. λ e. absurd e) (λ e. ((cc), (cc))))
    (either c p l k (eqb k 1) _ _ (λ h. either c p l k (begun p) _ _ (λ g. λ e. absurd e) (λ e. ((cc), (cc))))
    (either c p l k (eqb k 2) _ _ (λ h. either c p l k (begun p) _ _ (λ g. λ e. absurd e) (λ e. ((cc), (cc))))
    (either c p l k (eqb k 12) _ _ (λ h. λ e. ((cc), (cc)))
    (either c p l k (eqb k 13) _ _ (λ h. either c p l k (is_last c l d.entry) _ _ (λ g. λ e. ((cc), (cc))) (λ e. absurd e))
    (entry c p l k d.through d.entry)))))
