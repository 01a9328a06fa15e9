-- `request_of` is right because it goes by the list's judgement: refused, the blank set; else the list's.
use Prim.Native.Nat.{ℕ}
use mathlib.Core.Path.{sym, ap, ◌∙◌}
use Rattle.sets.specs.Judged.{blank_set}
use Rattle.hopper.proofs.WagonLaws.{list_fits}
use Rattle.hopper.proofs.RequestLaws.{request_refused, request_given}
use Rattle.hopper.proofs.request_of.Goals as goal

pub returns-then-judged-ne-ACCEPTED : goal.returns-then-judged-ne-ACCEPTED
returns-then-judged-ne-ACCEPTED c =
    let number = c.judge_list-judged.ensures in
    rw c.blank_set.ensures
    (ap (λ (k : ℕ). record { set = blank_set; number = k }) number ∙ sym (request_refused _ (λ e. c.if-judged-ne-ACCEPTED.true (number ∙ e))))

pub set_of-set-requires : goal.set_of-set-requires
set_of-set-requires c =
    (list_fits _).0 (sym c.judge_list-judged.ensures ∙ c.if-judged-ne-ACCEPTED.false)

pub returns : goal.returns
returns c =
    rw c.set_of-set.ensures (sym (request_given _ (sym c.judge_list-judged.ensures ∙ c.if-judged-ne-ACCEPTED.false)))
