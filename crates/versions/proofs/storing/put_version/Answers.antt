-- `put_version` is right because each part is laid behind the one before.
use Prim.Native.Nat.{◌+◌}
use native.Mathlib.Omega.{arith}
use lib.ListN.{length}
use Rattle.fields.specs.Bytes.{bytes_of}
use Rattle.fields.proofs.ByteLaws.{bytes_length}
use Rattle.sheets.specs.Layout.{end_bytes}
use Rattle.versions.proofs.StoringLaws.{put_laid, version_laid}
use Rattle.versions.proofs.storing.put_version.Goals as goal

pub returns : goal.returns
returns c =
    let args = c.args in
    let long = bytes_length args.number in
    version_laid args.number args.sheet.now args.at args.out.now _ _ _ _
    (record {
      start = c.put_start.ensures;
      numbered = put_laid (args.at + 3) (bytes_of args.number) 0 _ c.put_number.ensures (omega arith);
      plan = c.copy_in.ensures;
      end = put_laid (args.at + 7 + length args.sheet.now) end_bytes 0 _ c.put_end.ensures (omega arith);
    })
    c.requires.inside
