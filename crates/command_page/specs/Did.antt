-- The parts of what each station did, in all records or in those before the named one; and which rotations are drawn.
use Rattle.std.specs.Prelude.{ℕ, ◌+◌, cond, Option, None, Some, ◌==◌, nat_lt}
use Rattle.units.specs.Places.{at}
use Rattle.tallies.specs.Laps.{wrapped}
use Rattle.tallies.specs.Tallies.{visits_column, through_column, longest_column, most_column, synchronous_column, asynchronous_column}
use Rattle.picture_stream.specs.declared.Window.{Window}
use Rattle.text.specs.Phrases.{bare, one, two, three, four}
use Rattle.text.specs.declared.phrases.Phrase.{Phrase}
use Rattle.command_page.specs.declared.Form.{Form}
use Rattle.command_page.specs.declared.Form.TheVariants as form
use Rattle.command_page.specs.declared.Account.{Account}

-- over which records
unfoldable pub did_begin : ℕ → ℕ → ℕ → Phrase Form
did_begin rule records named =
    cond (rule == 0) (one form.DidAll records) (two form.DidBefore records named)

-- a column's number of station i
abbrev pub did : Account → ℕ → ℕ → ℕ
did x column i = at x.numbers (column + i)

-- the longest time between two visits beside its bound; a station with one visit or none has none
unfoldable pub longest_part : ℕ → ℕ → ℕ → Phrase Form
longest_part visits longest bound =
    cond (nat_lt visits 2) (one form.DidNoTwo bound) (two form.DidLongest longest bound)

-- visits, and those while it was switched through; the longest time; the most synchronous time in a visit beside S, and all that it sent
unfoldable pub did_part : Account → ℕ → ℕ → Phrase Form
did_part x i j =
    cond (j == 0) (three form.DidVisits i (did x visits_column i) (did x through_column i))
    (cond (j == 1) (longest_part (did x visits_column i) (did x longest_column i) x.sums.bound)
    (four form.DidSent (did x most_column i) (at x.alloc.s i) (did x synchronous_column i) (did x asynchronous_column i)))

-- the rotations that are drawn, from 1, of how many
unfoldable pub rotations_part : Window → ℕ → Phrase Form
rotations_part x lines =
    cond (lines == 0) (bare form.NoRotation)
    (three form.Rotations (wrapped (x.first + 1)) x.end lines)

unfoldable pub last_part : Account → ℕ → Option (Phrase Form)
last_part x k =
    cond (k == 0) (Some (bare form.DidEnd)) (cond (k == 1) (Some (rotations_part x.window x.lines)) None)
