-- The lists of 4, place by place: each number that is out of its range has its line, and no other.
use Prim.Native.Nat.{ℕ, ◌<◌}
use mathlib.Core.Path.{◌≡◌, refl}
use borrow.Author.Tests.{lt-ltb}
use Rattle.units.specs.Numbers.{out_of_range}
use Rattle.command_explain.specs.declared.Explained.{Explained}
use Rattle.command_explain.specs.First.{header_out, header_phrase, second_phrase}
use Rattle.command_explain.specs.Stations.{ranged_out, station_phrase}
use Rattle.command_explain.specs.Promised.{Listed, HeaderListed}

pub listed : (e : Explained) → e.number ≡ out_of_range → (i j : ℕ) → Listed e i j
unfolding station_phrase ranged_out
listed e four i j = record { out = λ o. rw (four, o) refl; inside = λ o. rw (four, o) refl }

pub header_listed : (e : Explained) → e.number ≡ out_of_range → (k : ℕ) → k < 4 → HeaderListed e k
unfolding second_phrase header_phrase header_out
header_listed e four k few =
    record {
      out = λ o. rw (four, lt-ltb k 4 few, o) refl;
      inside = λ o. rw (four, lt-ltb k 4 few, o) refl;
    }
