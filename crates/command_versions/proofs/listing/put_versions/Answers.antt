-- `put_versions` is right because the lines of the versions before this one are put.
use mathlib.Core.Path.{refl, sym}
use native.Mathlib.Omega.{arith}
use Rattle.fields.proofs.RowLaws.{rows_none, rows_step}
use Rattle.text.proofs.PageLaws.{puts_none, puts_then, puts_as}
use Rattle.command_versions.proofs.FoundLaws.{answer_few}
use Rattle.command_versions.proofs.KeptLaws.{count_top, all_lines}
use borrow.Author.Rules.{rules}
use Rattle.command_versions.proofs.listing.put_versions.Goals as goal

pub count_from-n-requires : goal.count_from-n-requires
count_from-n-requires c =
    (answer_few _ _ c.requires.0).0

pub loop-i-init : goal.loop-i-init
loop-i-init c =
    let few = answer_few _ _ c.requires.0 in
    record {
      few = rw c.count_from-n.ensures few.1;
      top = rw c.count_from-n.ensures (count_top _ _ few.0 (search rules));
      put = puts_as (puts_none _) (sym (rows_none _)) (omega arith);
    }

pub loop-i-preserved : goal.loop-i-preserved
loop-i-preserved c =
    let before = c.loop-i.invariant in
    record {
      few = before.few;
      top = before.top;
      put = rw rows_step (puts_as (puts_then before.put c.put_version.ensures (omega arith)) refl (omega arith));
    }

pub returns : goal.returns
returns c =
    puts_as c.loop-i.invariant.put (all_lines _ _ c.requires.0 _ _ (omega arith) c.count_from-n.ensures) (omega arith)
