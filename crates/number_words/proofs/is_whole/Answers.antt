-- `is_whole` is right because it asks of each byte whether it is a digit.
use mathlib.Core.Path.{refl, sym, ◌∙◌}
use Rattle.std.proofs.Common.{rules, tests}
use Rattle.std.proofs.lemmas.Iterator.{YieldsList-from_slice}
use Rattle.std.proofs.lemmas.Iterator.Search.{all_from_yields_List}
use Rattle.number_words.specs.Words.{is_digit, is_whole}
use Rattle.number_words.proofs.WordLaws.{all_digits}
use Rattle.number_words.proofs.is_whole.Goals as goal

pub returns-then-is_empty : goal.returns-then-is_empty
unfolding is_whole
returns-then-is_empty c =
    rw (sym c.is_empty.ensures ∙ c.if-is_empty.true) refl

pub returns : goal.returns
unfolding is_whole
returns c =
    let word = c.args.word.now in
    let all = all_from_yields_List is_digit _ _ c.all.result c.all.ensures.ran (YieldsList-from_slice word cc) (λ x b q k. search (rules, tests)) in
    rw (sym c.is_empty.ensures ∙ c.if-is_empty.false) (all ∙ sym (all_digits word))
