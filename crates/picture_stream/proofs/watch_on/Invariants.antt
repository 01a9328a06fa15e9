-- `watch_on` is right because behind each byte what is left to do is the same, and a byte that ends a record that is drawn is the last.
use Rattle.std.proofs.Common.{◌≤◌, max, length}
use Rattle.tallies.specs.Tallies.{seen_of}
use Rattle.picture_stream.specs.Watching.{watching_of}
use Rattle.picture_stream.proofs.TurnLaws.{Going}
use Rattle.picture_stream.proofs.watch_on.Given as goal

abbrev pub invariant-loop-i : goal.invariant-loop-i
invariant-loop-i l =
    record {
      behind : l.from ≤ l.i;
      left : Going l.window l.bytes (watching_of l.start l.initial.gathered l.initial.looked (seen_of l.initial.numbers l.initial.mark l.initial.course)) l.from (watching_of l.start l.gathered l.looked (seen_of l.numbers l.mark l.course)) l.i;
      inside : l.i ≤ max l.from (length l.bytes);
    }
