-- `end_line` is right because it goes by what the line is, as the definition does.
use mathlib.Core.Path.{◌≡◌, sym, ◌∙◌}
use mathlib.Core.Bool.{false}
use Rattle.line_reader.specs.Scan.{is_empty_line}
use Rattle.command_hopper.proofs.LineLaws.{narrow_first, listed_empty, listed_wagon, listed_unread}
use Rattle.command_hopper.proofs.wagon_lines.end_line.Goals as goal

pub returns-then-is_empty_line : goal.returns-then-is_empty_line
returns-then-is_empty_line c =
    c.on_next_line.ensures ∙ listed_empty _ (sym c.is_empty_line.ensures ∙ c.if-is_empty_line.true)

pub wagon_in-requires : goal.wagon_in-requires
wagon_in-requires c =
    narrow_first _ _ 3 (sym c.is_line.ensures ∙ c.if-is_line.true)

pub returns-then-is_line : goal.returns-then-is_line
returns-then-is_line c =
    let some_line : is_empty_line c.args.listing.scan ≡ false = sym c.is_empty_line.ensures ∙ c.if-is_empty_line.false in
    c.on_next_line-then-is_line.ensures ∙ rw (c.with_more-longer.ensures, c.wagon_in.ensures) (listed_wagon _ some_line (sym c.is_line.ensures ∙ c.if-is_line.true))

pub returns : goal.returns
returns c =
    let some_line : is_empty_line c.args.listing.scan ≡ false = sym c.is_empty_line.ensures ∙ c.if-is_empty_line.false in
    c.on_next_line-2.ensures ∙ rw c.first_unread.ensures (listed_unread _ some_line (sym c.is_line.ensures ∙ c.if-is_line.false))
