-- `clear` is right because so many zeros are laid from the place on.
use Prim.Native.Nat.{ℕ, ◌+◌, ◌-◌}
use mathlib.Core.Path.{◌≡◌, ap, ◌∙◌}
use native.Mathlib.Omega.{arith}
use lib.ListN.{length, take, drop, replicate}
use Rattle.fields.specs.Rows.{laid}
use Rattle.versions.specs.Layout.{zero_bytes}
use Rattle.sheets.proofs.WritingLaws.{part_laid}
use Rattle.versions.proofs.StoringLaws.{part_long, zeros_list}
use Rattle.versions.proofs.storing.clear.Goals as goal

pub returns : goal.returns
returns c =
    let args = c.args in
    let long : c.args.from + c.args.n - c.args.from ≡ c.args.n = omega arith in
    let part : length (take (c.args.from + c.args.n - c.args.from) (drop c.args.from c.args.out.now)) ≡ c.args.n = rw long (part_long args.out.now args.from args.n c.requires) in
    let zeros : c.fill.new.self ≡ zero_bytes c.args.n = c.fill.ensures.after (λ y e. e) ∙ ap (λ (k : ℕ). replicate k 0) part ∙ zeros_list args.n in
    part_laid args.out.now c.fill.new.self args.from _ (c.fill.ensures.len ∙ omega (arith, part)) ∙ ap (laid args.out.now args.from) zeros
