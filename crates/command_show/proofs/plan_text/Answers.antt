-- `plan_text` is right because it puts the plan's lines, if there are no more stations than a plan may have.
use mathlib.Core.Path.{◌≡◌, refl}
use mathlib.Core.List.{[]}
use native.Mathlib.Omega.{arith}
use borrow.Author.Rules.{rules}
use borrow.Author.Tests.{le-leb, lt-leb}
use Rattle.sets.specs.declared.Set.{Set}
use Rattle.plans.specs.declared.Alloc.{Alloc}
use Rattle.sheet_text_rules.specs.ShowText.{sheet_text, plan_lines_of}
use Rattle.text.proofs.TextLaws.{put_none, printed as printed_at, not_printed}
use Rattle.text.proofs.PageLaws.{printed}
use Prim.Native.Nat.{◌≤◌, ◌<◌}
use mathlib.Core.Bool.{true}
use Rattle.command_show.proofs.plan_text.Goals as goal

few_lines : (t : Set) (a : Alloc) → t.n ≤ 128 → sheet_text true t a ≡ plan_lines_of t a
unfolding plan_lines_of
few_lines t a l = rw (le-leb t.n 128 l) refl

no_lines : (t : Set) (a : Alloc) → 128 < t.n → [] ≡ plan_lines_of t a
unfolding plan_lines_of
no_lines t a l = rw (lt-leb t.n 128 l) refl

pub returns-then-page-lt-PAGE_SIZE : goal.returns-then-page-lt-PAGE_SIZE
returns-then-page-lt-PAGE_SIZE c =
    not_printed c.if-page-lt-PAGE_SIZE.true

pub returns-then-set-gt128 : goal.returns-then-set-gt128
returns-then-set-gt128 c =
    printed_at {most = 0} (record { put = put_none _ 0; short = omega arith }) (no_lines _ _ c.if-set-gt128.true) c.if-page-lt-PAGE_SIZE.false (omega arith)

pub returns : goal.returns
returns c =
    let done = printed c.new-page.ensures.begins c.put_sheet.ensures c.length.ensures (few_lines _ _ c.if-set-gt128.false) c.if-page-lt-PAGE_SIZE.false (omega arith) in
    search (rules, done)
