-- `put_byte` is right because one store lays a segment of one byte.
use mathlib.Core.Path.{refl}
use native.Mathlib.Omega.{arith}
use Rattle.text.proofs.TextLaws.{put_one}
use Rattle.text.proofs.PageLaws.{puts_of}
use Rattle.text.proofs.Page.put_byte.Goals as goal

pub returns : goal.returns
returns c =
    puts_of (record { put = put_one _ _ _ c.requires; short = omega arith }) c.requires refl
