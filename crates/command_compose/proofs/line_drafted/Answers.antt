-- `line_drafted` is right because it goes by what the line is, as the definition does.
use mathlib.Core.Path.{◌≡◌, sym, ◌∙◌}
use mathlib.Core.Bool.{true, false}
use borrow.Author.Tests.{le-leb, lt-leb}
use lib.Dec.{leb}
use Rattle.fields.specs.Fields.{mode_tag}
use Rattle.line_reader.specs.Scan.{code_of, is_empty_line}
use Rattle.command_compose.specs.Compose.{ttrt_word, is_ttrt, line_tag, is_station, is_plan_station, line_drafted}
use Rattle.command_compose.proofs.ComposeLaws.{line_fits, tag_fits}
use Rattle.command_compose.proofs.line_drafted.Goals as goal

-- ---- the needs
pub returns-then-is_empty_line : goal.returns-then-is_empty_line
unfolding line_drafted
returns-then-is_empty_line c =
    rw (sym c.is_empty_line.ensures ∙ c.if-is_empty_line.true)

pub narrow-ttrt-requires : goal.narrow-ttrt-requires
narrow-ttrt-requires c =
    let a_ttrt : is_ttrt c.args.s ≡ true = sym c.is_line.ensures ∙ c.if-is_line.true in
    (line_fits c.args.s (code_of ttrt_word) 1 a_ttrt).first

pub returns-then-is_line : goal.returns-then-is_line
unfolding line_drafted
returns-then-is_line c =
    let some_line : is_empty_line c.args.s ≡ false = sym c.is_empty_line.ensures ∙ c.if-is_empty_line.false in
    let a_ttrt : is_ttrt c.args.s ≡ true = sym c.is_line.ensures ∙ c.if-is_line.true in
    rw (some_line, a_ttrt, ← c.narrow-ttrt.ensures) c.with_ttrt.ensures

pub narrow-number-requires : goal.narrow-number-requires
narrow-number-requires c =
    let a_further : leb mode_tag (line_tag c.args.s) ≡ true = rw (← c.line_tag-tag.ensures) (le-leb _ _ c.if-tag-ge-MODE_TAG.true) in
    (tag_fits c.args.s a_further).first

pub returns-then-tag-ge-MODE_TAG : goal.returns-then-tag-ge-MODE_TAG
unfolding line_drafted
returns-then-tag-ge-MODE_TAG c =
    let some_line : is_empty_line c.args.s ≡ false = sym c.is_empty_line.ensures ∙ c.if-is_empty_line.false in
    let no_ttrt : is_ttrt c.args.s ≡ false = sym c.is_line.ensures ∙ c.if-is_line.false in
    let a_further : leb mode_tag (line_tag c.args.s) ≡ true = rw (← c.line_tag-tag.ensures) (le-leb _ _ c.if-tag-ge-MODE_TAG.true) in
    rw (some_line, no_ttrt, a_further, ← c.narrow-number.ensures, ← c.line_tag-tag.ensures) c.with_further.ensures

pub with_station-requires : goal.with_station-requires
with_station-requires c =
    let a_station : is_station c.args.s ≡ true = sym c.is_line-2.ensures ∙ c.if-is_line-2.true in
    line_fits _ _ _ a_station

pub returns-then-is_line-2 : goal.returns-then-is_line-2
unfolding line_drafted
returns-then-is_line-2 c =
    let some_line : is_empty_line c.args.s ≡ false = sym c.is_empty_line.ensures ∙ c.if-is_empty_line.false in
    let no_ttrt : is_ttrt c.args.s ≡ false = sym c.is_line.ensures ∙ c.if-is_line.false in
    let no_further : leb mode_tag (line_tag c.args.s) ≡ false = rw (← c.line_tag-tag.ensures) (lt-leb _ _ c.if-tag-ge-MODE_TAG.false) in
    let a_station : is_station c.args.s ≡ true = sym c.is_line-2.ensures ∙ c.if-is_line-2.true in
    rw (some_line, no_ttrt, no_further, a_station) c.with_station.ensures

pub with_station-requires-then-is_line-3 : goal.with_station-requires-then-is_line-3
with_station-requires-then-is_line-3 c =
    let a_plan_station : is_plan_station c.args.s ≡ true = sym c.is_line-3.ensures ∙ c.if-is_line-3.true in
    line_fits _ _ _ a_plan_station

pub returns-then-is_line-3 : goal.returns-then-is_line-3
unfolding line_drafted
returns-then-is_line-3 c =
    let some_line : is_empty_line c.args.s ≡ false = sym c.is_empty_line.ensures ∙ c.if-is_empty_line.false in
    let no_ttrt : is_ttrt c.args.s ≡ false = sym c.is_line.ensures ∙ c.if-is_line.false in
    let no_further : leb mode_tag (line_tag c.args.s) ≡ false = rw (← c.line_tag-tag.ensures) (lt-leb _ _ c.if-tag-ge-MODE_TAG.false) in
    let no_station : is_station c.args.s ≡ false = sym c.is_line-2.ensures ∙ c.if-is_line-2.false in
    let a_plan_station : is_plan_station c.args.s ≡ true = sym c.is_line-3.ensures ∙ c.if-is_line-3.true in
    rw (some_line, no_ttrt, no_further, no_station, a_plan_station) c.with_station-then-is_line-3.ensures

pub returns : goal.returns
unfolding line_drafted
returns c =
    let some_line : is_empty_line c.args.s ≡ false = sym c.is_empty_line.ensures ∙ c.if-is_empty_line.false in
    let no_ttrt : is_ttrt c.args.s ≡ false = sym c.is_line.ensures ∙ c.if-is_line.false in
    let no_further : leb mode_tag (line_tag c.args.s) ≡ false = rw (← c.line_tag-tag.ensures) (lt-leb _ _ c.if-tag-ge-MODE_TAG.false) in
    let no_station : is_station c.args.s ≡ false = sym c.is_line-2.ensures ∙ c.if-is_line-2.false in
    let no_plan_station : is_plan_station c.args.s ≡ false = sym c.is_line-3.ensures ∙ c.if-is_line-3.false in
    rw (some_line, no_ttrt, no_further, no_station, no_plan_station) c.record_drafted.ensures
