-- `counter_at` is right because a wrapping difference is what the counter rises by, and a wrapping sum runs past the top to 0.
use Rattle.std.proofs.Common.{◌≡◌, ℕ, ◌+◌, ◌%◌, ◌^◌, sym, ap, ◌∙◌, arith}
use Rattle.logs.specs.Writing.{low, rise, counter_at}
use Rattle.logs.proofs.WritingLaws.{rise_is}
use Rattle.logs.proofs.writing.counter_at.Goals as goal

pub returns : goal.returns
unfolding counter_at
returns c =
    let args = c.args in
    let x = c.wrapping_sub_u32-rise.result in
    let before : c.low_bits-2.result ≡ low args.recorder.clock = c.low_bits-2.ensures in
    let now : c.low_bits.result ≡ low args.clock = c.low_bits.ensures in
    let rose : x ≡ rise args.recorder.clock args.clock =
    rise_is x args.recorder.clock args.clock (omega arith)
    (ap (λ (b : ℕ). (x + b) % 2 ^ 32) (sym before) ∙ c.wrapping_sub_u32-rise.ensures.value ∙ now) in
    c.wrapping_add_u32.ensures.value ∙ ap (λ (n : ℕ). (args.recorder.counter + n) % 2 ^ 32) rose
