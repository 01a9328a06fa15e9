-- The laws of what `compose` makes of a text, for the proofs of this layer.
use Prim.Native.Nat.{ℕ, ◌≤◌, ◌<◌, ◌^◌}
use mathlib.Core.Path.{◌≡◌, refl, sym, ap, ◌∙◌}
use mathlib.Core.Bool.{true, false, false≢true}
use mathlib.Core.List.{List, [], ◌∷◌, ◌++◌}
use mathlib.Core.Logic.{⊎_elim, ◌≢◌}
use native.Mathlib.Omega.{arith}
use borrow.Author.Tests.{ltb-true, le-leb, lt-leb, eq-eqb, ne_eqb}
use lib.Dec.{leb, ltb, eqb}
use lib.ListN.{length}
use lib.Seq.{length-take-le}
use Rattle.units.specs.Places.{at}
use Rattle.units.proofs.JudgingLaws.{and-true, true_or_false}
use Rattle.plans.specs.Planned.{blank_alloc}
use Rattle.fields.specs.Fields.{mode_tag}
use Rattle.sheets.specs.Writing.{refused_writing, Wrote}
use Rattle.sheets.specs.declared.Written.{Written}
use Rattle.text.specs.Text.{newline}
use Rattle.line_reader.proofs.ScanLaws.{stepped_over, has_no_end, first_and_rest}
use Rattle.line_reader.specs.Scan.{fresh_scan, stepped, code_of, is_readable}
use Rattle.sheets.proofs.WriteLaws.{written_fits}
use Rattle.command_compose.specs.Compose.{mode_word, frame_word, grid_word, all_fit, is_line, line_tag, NumbersFit, line_drafted, on_next_line, compose_on, compose_after, is_whole, composed_answer, composed_buffer, WroteDraft}
use Rattle.line_reader.specs.declared.Scan.{Scan}
use Rattle.command_compose.specs.declared.Draft.{Draft}
use Rattle.command_compose.specs.declared.Composing.{Composing}

-- ---- the numbers of a line

pub fit_all : (s : Scan) → all_fit s ≡ true → NumbersFit s
fit_all s h =
    let a = and-true (ltb (at s.values 0) (2 ^ 32)) _ h in
    let b = and-true (ltb (at s.values 1) (2 ^ 32)) _ a.1 in
    let c = and-true (ltb (at s.values 2) (2 ^ 32)) _ b.1 in
    let d = and-true (ltb (at s.values 3) (2 ^ 32)) _ c.1 in
    record {
      first = ltb-true _ _ a.0;
      second = ltb-true _ _ b.0;
      third = ltb-true _ _ c.0;
      fourth = ltb-true _ _ d.0;
      fifth = ltb-true _ _ d.1;
    }

pub line_fits : (s : Scan) (code count : ℕ) → is_line s code count ≡ true → NumbersFit s
line_fits s code count h =
    let worded = (and-true (is_readable s) _ h).1 in
    let counted = (and-true (eqb s.word code) _ worded).1 in
    fit_all s (and-true (eqb s.count count) _ counted).1

-- a further line of the header has such numbers
pub tag_fits : (s : Scan) → leb mode_tag (line_tag s) ≡ true → NumbersFit s
unfolding line_tag
tag_fits s h =
    ⊎_elim (λ (e : is_line s (code_of mode_word) 1 ≡ true). line_fits s (code_of mode_word) 1 e)
    (λ (e : is_line s (code_of mode_word) 1 ≡ false).
    ⊎_elim (λ (f : is_line s (code_of frame_word) 1 ≡ true). line_fits s (code_of frame_word) 1 f)
    (λ (f : is_line s (code_of frame_word) 1 ≡ false).
    ⊎_elim (λ (g : is_line s (code_of grid_word) 1 ≡ true). line_fits s (code_of grid_word) 1 g)
    (λ (g : is_line s (code_of grid_word) 1 ≡ false). absurd (false≢true (rw (e, f, g) at h)))
    (true_or_false (is_line s (code_of grid_word) 1)))
    (true_or_false (is_line s (code_of frame_word) 1)))
    (true_or_false (is_line s (code_of mode_word) 1))

-- ---- the text

pub compose_snoc : (c : Composing) (bs : List ℕ) (b : ℕ) → compose_after c (bs ++ b ∷ []) ≡ compose_on (compose_after c bs) b
unfolding compose_after
compose_snoc c [] b = refl
compose_snoc c (x ∷ bs) b = compose_snoc (compose_on c x) bs b

pub text_goes_on : (c : Composing) (b : ℕ) → b ≢ newline → compose_on c b ≡ record { draft = c.draft; scan = stepped c.scan b }
unfolding compose_on
text_goes_on c b e = rw (ne_eqb b newline e)

pub text_line_ends : (c : Composing) (b : ℕ) → b ≡ newline → compose_on c b ≡ record { draft = on_next_line (line_drafted c.draft c.scan); scan = fresh_scan }
unfolding compose_on
text_line_ends c b e = rw (eq-eqb b newline e)

-- it may be read in pieces
pub compose_append : (c : Composing) (first rest : List ℕ) → compose_after c (first ++ rest) ≡ compose_after (compose_after c first) rest
unfolding compose_after
compose_append c [] rest = refl
compose_append c (b ∷ first) rest = compose_append (compose_on c b) first rest

-- a line is drafted by what was scanned of it
pub compose_line : (c : Composing) (bs : List ℕ) → has_no_end bs ≡ true
    → compose_after c (bs ++ (newline ∷ [])) ≡ record { draft = on_next_line (line_drafted c.draft (stepped_over c.scan bs)); scan = fresh_scan }
unfolding compose_after stepped_over
compose_line c [] h = text_line_ends c newline refl
compose_line c (b ∷ bs) h =
    let inside = first_and_rest b bs h in
    ap (λ (x : Composing). compose_after x (bs ++ (newline ∷ []))) (text_goes_on c b inside.0)
    ∙ compose_line (record { draft = c.draft; scan = stepped c.scan b }) bs inside.1

-- between two lines
abbrev pub at_rest : Draft → Composing
at_rest d = record { draft = d; scan = fresh_scan }

-- one newline more between two lines counts a line, and changes nothing else
pub newline_more : (d : Draft) → compose_after (at_rest d) (newline ∷ []) ≡ at_rest (on_next_line d)
unfolding line_drafted has_no_end stepped_over
newline_more d = compose_line (at_rest d) [] refl

-- ---- the sheet

module _ (d : Draft) (before after : List ℕ) (w : Written) where
  pub wrote_no_draft : is_whole d ≡ false → w ≡ refused_writing 2 → WroteDraft d before before w
  unfolding composed_answer composed_buffer
  wrote_no_draft h e = rw e (record { answer = rw h; buffer = rw h; fits = omega arith; counts = refl })

  pub wrote_plan_draft : is_whole d ≡ true → 2 ≤ d.kind → Wrote true d.set d.alloc before after w → length after ≡ length before → WroteDraft d before after w
  unfolding composed_answer composed_buffer
  wrote_plan_draft h k x same =
      let kind = le-leb 2 d.kind k in
      let inside : w.length ≤ length after = omega (arith, written_fits true d.set d.alloc before, ap (λ (y : Written). y.length) x.answer) in
      record { answer = rw (h, kind) x.answer; buffer = rw (h, kind) x.buffer; fits = inside; counts = sym (length-take-le w.length after inside) }

  pub wrote_request_draft : is_whole d ≡ true → d.kind < 2 → Wrote false d.set blank_alloc before after w → length after ≡ length before → WroteDraft d before after w
  unfolding composed_answer composed_buffer
  wrote_request_draft h k x same =
      let kind = lt-leb 2 d.kind k in
      let inside : w.length ≤ length after = omega (arith, written_fits false d.set blank_alloc before, ap (λ (y : Written). y.length) x.answer) in
      record { answer = rw (h, kind) x.answer; buffer = rw (h, kind) x.buffer; fits = inside; counts = sym (length-take-le w.length after inside) }
