-- `put_alones` is right because the lines of the stations before this one are put.
use Prim.Native.Nat.{◌*◌, ◌-◌, ◌≤◌}
use Rattle.text.specs.Pages.{Puts}
use Rattle.differences.specs.Views.{number_of}
use Rattle.differences.specs.Differences.{alone_from}
use Rattle.command_diff.specs.DiffText.{lines_of}
use Rattle.command_diff.proofs.putting.put_alones.Given as goal

abbrev pub invariant-loop-i : goal.invariant-loop-i
invariant-loop-i l =
    record {
      within : l.i - l.from ≤ l.end - l.from;
      put : Puts (146 * (l.i - l.from)) l.initial.page (lines_of (alone_from l.new (number_of l.t l.a) l.from (l.i - l.from))) l.page;
    }
