-- A text of wagons or of changes, byte after byte: a newline ends the line, and what was read in pieces is read as a whole.
use Prim.Native.Nat.{ℕ, ◌+◌, ◌≤◌, ◌<◌}
use mathlib.Core.Path.{◌≡◌, refl, sym, ap, subst, ◌∙◌}
use mathlib.Core.List.{List, [], ◌∷◌, ◌++◌, append_assoc}
use mathlib.Core.Logic.{◌≢◌}
use mathlib.Core.Bool.{false}
use native.Mathlib.Omega.{arith}
use lib.ListN.{length, take}
use Rattle.std.proofs.lemmas.List.{take_more}
use borrow.Author.Tests.{eq-eqb, ne_eqb, lt-ltb, le-ltb}
use Rattle.units.specs.Places.{at}
use Rattle.text.specs.Text.{newline, page_size, Printed}
use Rattle.text.proofs.TextLaws.{put_none, printed, not_printed}
use Rattle.line_reader.specs.Scan.{fresh_scan, stepped, next_line}
use Rattle.command_hopper.specs.Lists.{line_listed, list_on, list_over}
use Rattle.command_hopper.specs.Refits.{line_changed, change_text, is_unread, refit_on, refit_said, refit_unread, EndedLine, RefitRead, refit_over, refit_text}
use Rattle.command_hopper.specs.declared.Changed.{Changed}
use Rattle.command_hopper.specs.declared.Listing.{Listing}
use Rattle.command_hopper.specs.declared.Refit.{Refit}
use Rattle.command_hopper.specs.declared.Refitted.{Refitted}

-- ---- wagons

pub list_ends : (u : Listing) (b : ℕ) → b ≡ newline → line_listed u ≡ list_on u b
unfolding list_on
list_ends u b e = rw (eq-eqb b newline e)

pub list_goes_on : (u : Listing) (b : ℕ) → b ≢ newline → record { list = u.list; scan = stepped u.scan b; line = u.line; unread = u.unread } ≡ list_on u b
unfolding list_on
list_goes_on u b e = rw (ne_eqb b newline e)

pub list_append : (u : Listing) (first rest : List ℕ) → list_over u (first ++ rest) ≡ list_over (list_over u first) rest
unfolding list_over
list_append u [] rest = refl
list_append u (b ∷ first) rest = list_append (list_on u b) first rest

pub list_more : (u : Listing) (text : List ℕ) (i : ℕ) → i < length text → list_over u (take (i + 1) text) ≡ list_on (list_over u (take i text)) (at text i)
unfolding list_over
list_more u text i l =
    ap (list_over u) (take_more text i 0 l) ∙ list_append u (take i text) (at text i ∷ [])

-- ---- changes

-- a line that ended
pub ended : (u : Refit) (before after : List ℕ) (d : Changed) (n : ℕ) → d ≡ line_changed u.train u.scan → Printed (change_text d.change d.train u.line) before after n
    → EndedLine u before after (record { refit = record { train = d.train; scan = fresh_scan; line = next_line u.line }; length = n; unread = is_unread d.change })
ended u before after d n e h =
    record {
      behind = ap (λ (x : Changed). record { train = x.train; scan = fresh_scan; line = next_line u.line }) e;
      said = subst (λ (x : Changed). Printed (change_text x.change x.train u.line) before after n) e h;
      unread = ap (λ (x : Changed). is_unread x.change) e;
    }

module _ (u : Refit) (b : ℕ) (before : List ℕ) where
  -- a page that is too small
  pub refit_small : length before < page_size → RefitRead u b before before (record { refit = u; length = 0; unread = false })
  refit_small small =
      let e = lt-ltb (length before) page_size small in
      record { behind = rw e refl; said = not_printed small; unread = rw e refl }

  pub refit_ends : (after : List ℕ) (r : Refitted) → page_size ≤ length before → b ≡ newline → EndedLine u before after r → RefitRead u b before after r
  unfolding refit_on refit_said refit_unread
  refit_ends after r large e h =
      let l = le-ltb (length before) page_size large in
      let n = eq-eqb b newline e in
      record { behind = rw (l, n) h.behind; said = rw n h.said; unread = rw (l, n) h.unread }

  pub refit_goes_on : page_size ≤ length before → b ≢ newline
      → RefitRead u b before before (record { refit = record { train = u.train; scan = stepped u.scan b; line = u.line }; length = 0; unread = false })
  unfolding refit_on refit_said refit_unread
  refit_goes_on large e =
      let l = le-ltb (length before) page_size large in
      let n = ne_eqb b newline e in
      record {
        behind = rw (l, n) refl;
        said = rw n (printed {most = 0} (record { put = put_none before 0; short = omega arith }) refl large (omega arith));
        unread = rw (l, n) refl;
      }

-- ---- pieces of a text of changes

pub refit_append : (u : Refit) (first rest : List ℕ) → refit_over u (first ++ rest) ≡ refit_over (refit_over u first) rest
unfolding refit_over
refit_append u [] rest = refl
refit_append u (b ∷ first) rest = refit_append (refit_on u b) first rest

pub said_append : (u : Refit) (first rest : List ℕ) → refit_text u (first ++ rest) ≡ refit_text u first ++ refit_text (refit_over u first) rest
unfolding refit_over refit_text
said_append u [] rest = refl
said_append u (b ∷ first) rest =
    rw (said_append (refit_on u b) first rest) (sym (append_assoc (refit_said u b) (refit_text (refit_on u b) first) (refit_text (refit_over (refit_on u b) first) rest)))
