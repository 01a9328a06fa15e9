-- `time_sent` is right because the number of frames is the smaller of those asked for and limit / length rounded up, which is the limit itself for frames of one tick; they run on past the limit by less than one of them, so nothing wraps.
use Prim.Native.Nat.{ℕ, ◌+◌, ◌-◌, ◌*◌, ◌≤◌}
use mathlib.Core.Path.{◌≡◌, refl, sym, ap, ◌∙◌}
use native.Mathlib.Omega.{arith}
use Rattle.units.specs.Small.{rounded_up}
use Rattle.units.proofs.SmallLaws.{shares_enough, shares_least}
use Rattle.rings.specs.Frames.{frames_sent, frames_time}
use Rattle.rings.proofs.FrameLaws.{frames_sent_lem, frames_within}
use Rattle.rings.proofs.frames.time_sent.Goals as goal

-- shares of 1 are as many as there are ticks
of_one_tick : (limit : ℕ) → rounded_up limit 1 ≡ limit
of_one_tick limit = omega (arith, shares_enough limit 1 (omega arith), shares_least limit 1 limit (omega arith) (omega arith))

pub returns-then-ask-eq1 : goal.returns-then-ask-eq1
returns-then-ask-eq1 c =
    let short_is : let args = c.args in c.min.result ≡ frames_time args.limit args.ask = let limit = c.args.limit in
    let ask = c.args.ask in
    let one : ask.length ≡ 1 = c.if-ask-eq1.true in
    let most : rounded_up limit ask.length ≡ limit = ap (λ (x : ℕ). rounded_up limit x) one ∙ of_one_tick limit in
    let sent : c.min.result ≡ frames_sent limit ask = omega (arith, c.min.ensures, c.from.ensures, frames_sent_lem limit ask c.requires.length, most) in
    let whole : frames_sent limit ask ≡ frames_sent limit ask * 1 = omega arith in
    sent ∙ whole ∙ ap (λ (x : ℕ). frames_sent limit ask * x) (sym one) in
    record { is = short_is; within = omega (arith, c.min.ensures) }

pub returns : goal.returns
returns c =
    let is : let args = c.args in c.min-frames.result * c.from-length.result ≡ frames_time args.limit args.ask = let args = c.args in
    let length = c.from-length.ensures in
    let most : c.rounded_up-most.result ≡ rounded_up args.limit args.ask.length = c.rounded_up-most.ensures.is ∙ ap (λ (x : ℕ). rounded_up args.limit x) length in
    let closed = frames_sent_lem args.limit args.ask c.requires.length in
    let frames : c.min-frames.result ≡ frames_sent args.limit args.ask = c.min-frames.ensures ∙ rw (c.from-2.ensures, most) (sym closed) in
    rw (frames, length) refl in
    let small : let args = c.args in frames_time args.limit args.ask ≤ args.limit + (args.ask.length - 1) = frames_within c.args.limit c.args.ask c.requires.length in
    record { is = is; within = rw is small }
