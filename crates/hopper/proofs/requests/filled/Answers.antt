-- `filled` is right because the first n places hold the number, and every other is still 0.
use Prim.Native.Nat.{ℕ}
use mathlib.Core.Path.{◌≡◌, ap, ◌∙◌}
use native.Mathlib.Omega.{arith}
use lib.ListN.{length, take, replicate, length-take, length-replicate}
use Rattle.std.proofs.lemmas.List.{get_or-replicate}
use Rattle.units.specs.Places.{zeros}
use Rattle.units.proofs.FrontLaws.{front_filled}
use Rattle.hopper.proofs.requests.filled.Goals as goal

pub returns : goal.returns
returns c =
    let end : c.places-end.result ≡ c.args.n = omega arith in
    let long : length (take c.places-end.result zeros) ≡ c.args.n = simp (length-take, length-replicate) (omega arith) in
    let part : c.fill.new.self ≡ replicate c.args.n c.args.x = c.fill.ensures.after (λ y e. e) ∙ ap (λ (k : ℕ). replicate k c.args.x) long in
    rw (part, end)
    (front_filled c.args.n (λ i. c.args.x) zeros _ (omega arith) (length-replicate c.args.n c.args.x) (λ i l. get_or-replicate c.args.n i c.args.x 0 l))
