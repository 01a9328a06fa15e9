-- `show_end` is right because it puts the refusal, if there is one.
use Prim.Native.Nat.{ℕ}
use mathlib.Core.Path.{sym, ap, ◌∙◌}
use mathlib.Core.List.{[]}
use native.Mathlib.Omega.{arith}
use lib.ListN.{length}
use borrow.Author.Rules.{rules}
use Rattle.text.specs.Text.{text_or}
use Rattle.text.proofs.TextLaws.{refused_short, says as says_at, says_nothing, text_accepted, text_refused}
use Rattle.text.proofs.PageLaws.{puts, says}
use Rattle.command_show_log.proofs.ShowLaws.{put_nothing}
use Rattle.command_show_log.proofs.show_end.Goals as goal

pub returns-then-page-lt-PAGE_SIZE : goal.returns-then-page-lt-PAGE_SIZE
returns-then-page-lt-PAGE_SIZE c =
    says_nothing c.if-page-lt-PAGE_SIZE.true

pub returns-then-number-eq-ACCEPTED : goal.returns-then-number-eq-ACCEPTED
returns-then-number-eq-ACCEPTED c =
    says_at (put_nothing _) (sym (text_accepted _ [] (sym c.number_of-number.ensures ∙ c.if-number-eq-ACCEPTED.true))) c.number_of-number.ensures c.if-page-lt-PAGE_SIZE.false (omega arith)

pub returns : goal.returns
returns c =
    let begins = c.new-page.ensures.begins in
    let large = c.if-page-lt-PAGE_SIZE.false in
    let refused = puts c.put_refused.ensures (omega (arith, ap length begins.now, begins.at, large)) (refused_short _) in
    let text = sym (text_refused _ [] c.if-number-eq-ACCEPTED.false) ∙ ap (λ (n : ℕ). text_or n []) c.number_of-number.ensures in
    let done = says begins refused c.length.ensures text c.number_of-number.ensures large (omega arith) in
    search (rules, done)
