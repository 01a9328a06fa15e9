-- `put_versions` is right because the lines of the versions before this one are put.
use Prim.Native.Nat.{◌+◌, ◌*◌, ◌≤◌}
use Rattle.fields.specs.Rows.{rows}
use Rattle.text.specs.Pages.{Puts}
use Rattle.command_versions.specs.VersionsText.{line_in}
use Rattle.command_versions.proofs.listing.put_versions.Given as goal

abbrev pub invariant-loop-i : goal.invariant-loop-i
invariant-loop-i l =
    record {
      few : l.n ≤ 16;
      top : l.oldest + l.n ≤ 4_294_967_296;
      put : Puts (125 * l.i) l.initial.page (rows l.i (λ k. line_in l.area (l.oldest + k))) l.page;
    }
