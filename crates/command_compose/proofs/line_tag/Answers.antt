-- `line_tag` is right because it asks for the words in the definition's order.
use mathlib.Core.Path.{◌≡◌, refl, sym, ◌∙◌}
use mathlib.Core.Bool.{true, false}
use Rattle.line_reader.specs.Scan.{code_of}
use Rattle.command_compose.specs.Compose.{mode_word, frame_word, grid_word, is_line, line_tag}
use Rattle.command_compose.proofs.line_tag.Goals as goal

pub returns-then-is_line : goal.returns-then-is_line
unfolding line_tag
returns-then-is_line c =
    let named : is_line c.args.s (code_of mode_word) 1 ≡ true = sym c.is_line.ensures ∙ c.if-is_line.true in
    rw named refl

pub returns-then-is_line-2 : goal.returns-then-is_line-2
unfolding line_tag
returns-then-is_line-2 c =
    let no_mode : is_line c.args.s (code_of mode_word) 1 ≡ false = sym c.is_line.ensures ∙ c.if-is_line.false in
    let named : is_line c.args.s (code_of frame_word) 1 ≡ true = sym c.is_line-2.ensures ∙ c.if-is_line-2.true in
    rw (no_mode, named) refl

pub returns-then-is_line-3 : goal.returns-then-is_line-3
unfolding line_tag
returns-then-is_line-3 c =
    let no_mode : is_line c.args.s (code_of mode_word) 1 ≡ false = sym c.is_line.ensures ∙ c.if-is_line.false in
    let no_frame : is_line c.args.s (code_of frame_word) 1 ≡ false = sym c.is_line-2.ensures ∙ c.if-is_line-2.false in
    let named : is_line c.args.s (code_of grid_word) 1 ≡ true = sym c.is_line-3.ensures ∙ c.if-is_line-3.true in
    rw (no_mode, no_frame, named) refl

pub returns : goal.returns
unfolding line_tag
returns c =
    let no_mode : is_line c.args.s (code_of mode_word) 1 ≡ false = sym c.is_line.ensures ∙ c.if-is_line.false in
    let no_frame : is_line c.args.s (code_of frame_word) 1 ≡ false = sym c.is_line-2.ensures ∙ c.if-is_line-2.false in
    let named : is_line c.args.s (code_of grid_word) 1 ≡ false = sym c.is_line-3.ensures ∙ c.if-is_line-3.false in
    rw (no_mode, no_frame, named) refl
