-- `begins` is right because it tests the tag, and the length in the two bytes behind it.
use Rattle.std.proofs.Common.{◌≡◌, ◌+◌, refl, arith}
use Rattle.fields.specs.Bytes.{short_at}
use Rattle.logs.proofs.reading.begins.Goals as goal

pub returns : goal.returns
unfolding short_at
returns c =
    let at = c.args.at in
    let next : at + 1 + 1 ≡ at + 2 = omega arith in
    rw (c.from.ensures, c.from-2.ensures, next) refl
