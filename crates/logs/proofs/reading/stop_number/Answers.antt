-- `stop_number` is right because it goes by the definition's tests, in their order.
use Rattle.std.proofs.lemmas.Bool.{or_left, or_right, or_from}
use Rattle.std.proofs.Common.{◌≡◌, ◌≤◌, true, false, sym, ◌∙◌, arith}
use Rattle.fields.specs.Fields.{left}
use Rattle.log_records.specs.Visit.{is_visit}
use Rattle.log_records.specs.Mark.{is_mark}
use Rattle.logs.specs.Records.{is_record}
use Rattle.logs.specs.Walked.{is_end}
use Rattle.logs.proofs.WalkLaws.{stop_short, stop_cut, stop_wrong, stop_runs, stop_none}
use Rattle.logs.proofs.reading.stop_number.Goals as goal

pub returns-then-saturating_sub-lt3 : goal.returns-then-saturating_sub-lt3
returns-then-saturating_sub-lt3 c =
    let args = c.args in
    sym (stop_short args.bs.now args.at (omega arith))

pub returns-then-begins : goal.returns-then-begins
returns-then-begins c =
    let three : let args = c.args in 3 ≤ left args.bs.now args.at = omega arith in
    let args = c.args in
    sym (stop_cut args.bs.now args.at three (or_left (is_visit args.bs.now args.at) (is_mark args.bs.now args.at) (sym c.begins.ensures ∙ c.if-begins.true)))

pub returns-then-begins-2 : goal.returns-then-begins-2
returns-then-begins-2 c =
    let three : let args = c.args in 3 ≤ left args.bs.now args.at = omega arith in
    let args = c.args in
    let marked = or_right (is_visit args.bs.now args.at) (is_mark args.bs.now args.at) (sym c.begins-2.ensures ∙ c.if-begins-2.true) in
    sym (stop_cut args.bs.now args.at three marked)

pub returns-then-not-begins : goal.returns-then-not-begins
returns-then-not-begins c =
    let three : let args = c.args in 3 ≤ left args.bs.now args.at = omega arith in
    let no_record_lem : let args = c.args in is_record args.bs.now args.at ≡ false = let args = c.args in
    or_from (is_visit args.bs.now args.at) (is_mark args.bs.now args.at) (sym c.begins.ensures ∙ c.if-begins.false) (sym c.begins-2.ensures ∙ c.if-begins-2.false) in
    let args = c.args in
    sym (stop_wrong args.bs.now args.at three no_record_lem (sym c.begins-3.ensures ∙ c.if-not-begins.true))

pub returns-then-at-bs : goal.returns-then-at-bs
returns-then-at-bs c =
    let three : let args = c.args in 3 ≤ left args.bs.now args.at = omega arith in
    let the_end : let args = c.args in is_end args.bs.now args.at ≡ true = sym c.begins-3.ensures ∙ c.if-not-begins.false in
    let args = c.args in
    sym (stop_runs args.bs.now args.at three the_end c.if-at-bs.true)

pub returns : goal.returns
returns c =
    let three : let args = c.args in 3 ≤ left args.bs.now args.at = omega arith in
    let the_end : let args = c.args in is_end args.bs.now args.at ≡ true = sym c.begins-3.ensures ∙ c.if-not-begins.false in
    let args = c.args in
    sym (stop_none args.bs.now args.at three the_end c.if-at-bs.false)
