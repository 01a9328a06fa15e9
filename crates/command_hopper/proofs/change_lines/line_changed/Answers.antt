-- `line_changed` is right because it goes by what the line is, as the definition does.
use mathlib.Core.Path.{◌≡◌, sym, ap, ◌∙◌}
use mathlib.Core.Bool.{false}
use Rattle.hopper.specs.Wagons.{with_more}
use Rattle.hopper.specs.Trains.{changed_train, changed_wagon}
use Rattle.hopper.specs.declared.Wagon.{Wagon}
use Rattle.line_reader.specs.Scan.{is_empty_line}
use Rattle.command_hopper.specs.Refits.{is_change, is_couple}
use Rattle.command_hopper.proofs.LineLaws.{narrow_first, narrow_second, changed_empty, changed_wagon_lem, changed_more, changed_fewer, changed_unread}
use Rattle.command_hopper.proofs.change_lines.line_changed.Goals as goal

pub returns-then-is_empty_line : goal.returns-then-is_empty_line
returns-then-is_empty_line c =
    changed_empty _ _ (sym c.is_empty_line.ensures ∙ c.if-is_empty_line.true)

pub wagon_in-wagon-requires : goal.wagon_in-wagon-requires
wagon_in-wagon-requires c =
    narrow_second _ _ 4 (sym c.is_line.ensures ∙ c.if-is_line.true)

pub returns-then-is_line : goal.returns-then-is_line
returns-then-is_line c =
    let some_line : is_empty_line c.args.s ≡ false = sym c.is_empty_line.ensures ∙ c.if-is_empty_line.false in
    c.told_of.ensures
    ∙ changed_wagon_lem _ _ _ some_line (sym c.is_line.ensures ∙ c.if-is_line.true)
    (c.change_wagon.ensures ∙ ap (changed_wagon _ _) c.wagon_in-wagon.ensures)

pub wagon_in-wagon-requires-then-is_line-2 : goal.wagon_in-wagon-requires-then-is_line-2
wagon_in-wagon-requires-then-is_line-2 c =
    narrow_first _ _ 3 (sym c.is_line-2.ensures ∙ c.if-is_line-2.true)

pub returns-then-is_line-2 : goal.returns-then-is_line-2
returns-then-is_line-2 c =
    let some_line : is_empty_line c.args.s ≡ false = sym c.is_empty_line.ensures ∙ c.if-is_empty_line.false in
    let no_change : is_change c.args.s ≡ false = sym c.is_line.ensures ∙ c.if-is_line.false in
    let t = c.args.train in
    c.told_of-then-is_line-2.ensures
    ∙ changed_more _ _ _ some_line no_change (sym c.is_line-2.ensures ∙ c.if-is_line-2.true)
    (c.couple_wagon.ensures ∙ ap (λ (v : Wagon). changed_train t (with_more t.list v)) c.wagon_in-wagon-then-is_line-2.ensures)

pub returns-then-is_line-3 : goal.returns-then-is_line-3
returns-then-is_line-3 c =
    let some_line : is_empty_line c.args.s ≡ false = sym c.is_empty_line.ensures ∙ c.if-is_empty_line.false in
    let no_change : is_change c.args.s ≡ false = sym c.is_line.ensures ∙ c.if-is_line.false in
    let no_couple : is_couple c.args.s ≡ false = sym c.is_line-2.ensures ∙ c.if-is_line-2.false in
    c.told_of-then-is_line-3.ensures
    ∙ changed_fewer _ _ _ some_line no_change no_couple (sym c.is_line-3.ensures ∙ c.if-is_line-3.true)
    c.uncouple_wagon.ensures

pub returns : goal.returns
returns c =
    let some_line : is_empty_line c.args.s ≡ false = sym c.is_empty_line.ensures ∙ c.if-is_empty_line.false in
    let no_change : is_change c.args.s ≡ false = sym c.is_line.ensures ∙ c.if-is_line.false in
    let no_couple : is_couple c.args.s ≡ false = sym c.is_line-2.ensures ∙ c.if-is_line-2.false in
    changed_unread _ _ some_line no_change no_couple (sym c.is_line-3.ensures ∙ c.if-is_line-3.false)
