-- A log that is read and drawn piece by piece: at each stop the record is drawn, and what is behind it goes on with the pen behind that record.
use Rattle.std.proofs.Common.{◌≡◌, ℕ, List, ◌∷◌, ◌++◌, length, drop, Some, sym, refl, ap, ◌∙◌, drop-drop}
use lib.Seq.{drop-append_seam}
use Rattle.picture_stream.specs.Watching.{handed, watched_from, watch_over, drawn_over}
use Rattle.picture_stream.specs.Promised.{GoesOn}
use Rattle.tallies.specs.declared.Drawn.{Drawn}
use Rattle.picture_stream.specs.declared.Window.{Window}
use Rattle.picture_stream.specs.declared.Watching.{Watching}
use Rattle.picture_stream.specs.declared.Watched.{Watched}
use Rattle.picture_stream.proofs.OverLaws.{watch_append, drawn_append}
use Rattle.picture_stream.proofs.StopLaws.{goes_on}
use Rattle.pictures.specs.Parts.{pen_after}
use Rattle.pictures.specs.Picture.{pen_over, parts_of, parts_over}
use Rattle.pictures.specs.declared.Scene.{Scene}
use Rattle.pictures.specs.declared.Pen.{Pen}
use Rattle.pictures.proofs.LineLaws.{pen_append}
use Rattle.command_page.specs.Picture.{GoneOver}

-- ---- two pieces

pub gone_then : (c : Scene) (x : Window) (k k₁ k₂ : Watching) (p p₁ p₂ : Pen) (first rest : List ℕ)
    → GoneOver c x k p first k₁ p₁ → GoneOver c x k₁ p₁ rest k₂ p₂ → GoneOver c x k p (first ++ rest) k₂ p₂
gone_then c x k k₁ k₂ p p₁ p₂ first rest g h =
    record {
      read = h.read ∙ ap (λ (j : Watching). watch_over j rest) g.read ∙ sym (watch_append k first rest);
      pen =
          h.pen
          ∙ ap (λ (j : Watching). pen_over c p₁ (drawn_over x j rest)) g.read
          ∙ ap (λ (q : Pen). pen_over c q (drawn_over x (watch_over k first) rest)) g.pen
          ∙ sym (pen_append c p (drawn_over x k first) (drawn_over x (watch_over k first) rest))
          ∙ ap (pen_over c p) (sym (drawn_append x k first rest));
    }

-- ---- from one stop to the next

module _ (x : Window) (bs : List ℕ) (k : Watching) (at : ℕ) (r : Watched) (is : r ≡ watched_from x k at (drop at bs)) where
  abbrev g : GoesOn x k at (drop at bs) (watched_from x k at (drop at bs))
  g = goes_on x k at (drop at bs)

  rest_is : drop r.at bs ≡ g.rest
  rest_is =
      ap (λ (w : Watched). drop w.at bs) is
      ∙ ap (λ (i : ℕ). drop i bs) g.place
      ∙ sym (drop-drop (length g.passed) at bs)
      ∙ ap (drop (length g.passed)) g.cut
      ∙ drop-append_seam g.passed g.rest

  drawn_on : drawn_over x k (drop at bs) ≡ handed r.drawn ++ drawn_over x r.watching (drop r.at bs)
  drawn_on =
      g.drawn
      ∙ ap (λ (w : Watched). handed w.drawn ++ drawn_over x w.watching g.rest) (sym is)
      ∙ ap (λ (xs : List ℕ). handed r.drawn ++ drawn_over x r.watching xs) (sym rest_is)

  -- it stopped
  drawn_stop : (d : Drawn) → r.drawn ≡ Some d → drawn_over x k (drop at bs) ≡ d ∷ drawn_over x r.watching (drop r.at bs)
  drawn_stop d on = drawn_on ∙ rw on refl

-- what is drawn from here on: the parts of the record at which reading stops, then those behind it
pub draws_on : (c : Scene) (x : Window) (k : Watching) (p : Pen) (at : ℕ) (bs : List ℕ) (r : Watched) (d : Drawn) → r ≡ watched_from x k at (drop at bs) → r.drawn ≡ Some d
    → parts_over c p (drawn_over x k (drop at bs)) ≡ parts_of c p d ++ parts_over c (pen_after c p d) (drawn_over x r.watching (drop r.at bs))
unfolding parts_over
draws_on c x k p at bs r d is on = ap (parts_over c p) (drawn_stop x bs k at r is d on)
