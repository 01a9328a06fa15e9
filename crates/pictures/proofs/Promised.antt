-- What `specs/Promised.antt` promises.
use Rattle.std.proofs.lemmas.Bool.{cond-true, cond-false}
use Rattle.std.proofs.Common.{◌≡◌, ℕ, ◌+◌, ◌*◌, ◌<◌, ◌≤◌, Bool, true, false, eqb, [], ◌∷◌, Some, None, refl, arith, lt-ltb, ne_eqb}
use Rattle.log_records.specs.declared.VisitEntry.{VisitEntry}
use Rattle.log_records.specs.declared.MarkEntry.{MarkEntry}
use Rattle.log_records.specs.declared.Entry.{Entry}
use Rattle.log_records.specs.declared.Entry.TheVariants.{Visit, Mark}
use Rattle.tallies.specs.declared.Lap.{Lap}
use Rattle.tallies.specs.declared.Drawn.{Drawn}
use Rattle.text.specs.Phrases.{phrase}
use Rattle.pictures.specs.Parts.{begun, synchronous_at, asynchronous_at, drawn_to, first_bar, second_bar, cut_mark, rotation_begin, line_begin, bound_mark, rotation_end, is_last, frame_at, frame_width, visit_part, visit_behind, mark_part, entry_part, pen_after, part_at}
use Rattle.pictures.specs.Promised.{Order, LineBegun, VisitParts, MarkParts, Promised}
use Rattle.pictures.specs.declared.Shape.TheVariants as shape
use Rattle.pictures.specs.declared.Scene.{Scene}
use Rattle.pictures.specs.declared.Pen.{Pen}
use Rattle.pictures.proofs.WholeLaws.{whole}
use Rattle.pictures.proofs.FrameLaws.{frame_named, frame_only}
use Rattle.pictures.proofs.LineLaws.{parts_append, one_line_lem, last_line_lem}

order : (c : Scene) (l : Lap) (v : VisitEntry) → Order c l v
unfolding first_bar second_bar synchronous_at asynchronous_at
order c l v =
    record {
      synchronous_first = λ e. (cond-false _ _ _ e, (cond-false _ _ _ e, (cond-false _ _ _ e, cond-false _ _ _ e)));
      asynchronous_first = λ e. (cond-true _ _ _ e, (cond-true _ _ _ e, (cond-true _ _ _ e, cond-true _ _ _ e)));
    }

cut : (c : Scene) (l : Lap) (v : VisitEntry) → c.bound < drawn_to c l v
    → cut_mark c l v ≡ Some (phrase shape.Cut (98 * c.bound ∷ c.bound ∷ 3 * c.bound ∷ 100 * c.bound ∷ 2 * c.bound ∷ 0 ∷ []))
unfolding cut_mark
cut c l v h = rw (lt-ltb _ _ h) refl

line_begins : (c : Scene) (p : Pen) (d : Drawn) → begun p ≡ false → LineBegun c p d
unfolding part_at rotation_begin line_begin bound_mark
line_begins c p d e =
    record {
      rotation = cond-false _ _ _ e;
      line = cond-false _ _ _ e;
      bound = cond-false _ _ _ e;
    }

line_begun_lem : (c : Scene) (p : Pen) (d : Drawn) → begun p ≡ true
    → (part_at c p d 0 ≡ None) × ((part_at c p d 1 ≡ None) × (part_at c p d 2 ≡ None))
unfolding part_at rotation_begin line_begin bound_mark
line_begun_lem c p d e = (cond-true _ _ _ e, (cond-true _ _ _ e, cond-true _ _ _ e))

line_ends_lem : (c : Scene) (p : Pen) (d : Drawn) → is_last c d.lap d.entry ≡ true
    → (begun (pen_after c p d) ≡ false) × (part_at c p d 13 ≡ Some (phrase shape.RotationEnd (0 ∷ 0 ∷ 0 ∷ 0 ∷ 0 ∷ 0 ∷ [])))
unfolding pen_after part_at rotation_end
line_ends_lem c p d e = (rw e refl, rw e refl)

line_goes_on_lem : (c : Scene) (p : Pen) (d : Drawn) → is_last c d.lap d.entry ≡ false
    → (begun (pen_after c p d) ≡ true) × (part_at c p d 13 ≡ None)
unfolding pen_after part_at rotation_end
line_goes_on_lem c p d e = (rw e refl, rw e refl)

framed : (c : Scene) (from to : ℕ) → frame_at c from + frame_width c from to ≤ 100 * c.bound
framed c from to = omega arith

visit_parts : (c : Scene) (p : Pen) (l : Lap) (through : Bool) (v : VisitEntry) → VisitParts c p (record { lap = l; entry = Visit v; through = through }) v
unfolding part_at visit_part visit_behind
visit_parts c p l through v =
    record {
      begin = refl;
      tick = refl;
      number = refl;
      first_bar_lem = refl;
      second_bar_lem = refl;
      walk = refl;
      limit = refl;
      cut = refl;
      frame = refl;
      end = refl;
    }

between : (c : Scene) (p : Pen) (l : Lap) (through : Bool) (m : MarkEntry) (k : ℕ) → 4 ≤ k → k ≤ 10 → part_at c p (record { lap = l; entry = Mark m; through = through }) k ≡ None
unfolding part_at mark_part
between c p l through m k more few =
    let low : (j : ℕ) → j < 4 → eqb k j ≡ false = λ j h. ne_eqb k j (λ e. omega arith) in
    let high : (j : ℕ) → 10 < j → eqb k j ≡ false = λ j h. ne_eqb k j (λ e. omega arith) in
    rw (low 0 (omega arith), low 1 (omega arith), low 2 (omega arith), high 12 (omega arith), high 13 (omega arith), low 3 (omega arith), high 11 (omega arith)) refl

mark_parts : (c : Scene) (p : Pen) (l : Lap) (through : Bool) (m : MarkEntry) → MarkParts c p (record { lap = l; entry = Mark m; through = through }) m
unfolding part_at mark_part
mark_parts c p l through m =
    record {
      begin = refl;
      frame = refl;
      end = refl;
      no_more = between c p l through m;
    }

-- none of the parts is asked for
past : (k j : ℕ) → 14 ≤ k → j < 14 → eqb k j ≡ false
past k j more few = ne_eqb k j (λ e. omega arith)

module _ (c : Scene) (p : Pen) (k : ℕ) (more : 14 ≤ k) where
  entry_past : (through : Bool) (l : Lap) (e : Entry) → entry_part c p through l e k ≡ None
  unfolding visit_part visit_behind mark_part
  entry_past through l (Visit v) =
      rw (past k 3 more (omega arith), past k 4 more (omega arith), past k 5 more (omega arith), past k 6 more (omega arith), past k 7 more (omega arith), past k 8 more (omega arith), past k 9 more (omega arith), past k 10 more (omega arith), past k 11 more (omega arith)) refl
  entry_past through l (Mark m) = rw (past k 3 more (omega arith), past k 11 more (omega arith)) refl

  none : (d : Drawn) → part_at c p d k ≡ None
  unfolding part_at
  none d =
      rw (past k 0 more (omega arith), past k 1 more (omega arith), past k 2 more (omega arith), past k 12 more (omega arith), past k 13 more (omega arith)) (entry_past d.through d.lap d.entry)

pub promised : Promised
promised =
    record {
      whole = whole;
      order = order;
      cut = cut;
      line_begins = line_begins;
      line_begun_lem = line_begun_lem;
      line_ends_lem = line_ends_lem;
      line_goes_on_lem = line_goes_on_lem;
      framed = framed;
      frame_named = frame_named;
      frame_only = frame_only;
      visit_parts = visit_parts;
      mark_parts = mark_parts;
      picture_pieces = parts_append;
      one_line_lem = one_line_lem;
      last_line_lem = last_line_lem;
      no_more = λ c p d k more. none c p k more d;
    }
