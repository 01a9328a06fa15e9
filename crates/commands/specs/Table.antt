-- The table of the commands: their words, and how many words may follow each. `commands.txt` has the same for the script.
use Rattle.std.specs.Prelude.{ℕ, ◌≡◌, List, [], ◌∷◌, Option, slice_get}
use Rattle.commands.specs.declared.Command.{Command}
use Rattle.commands.specs.declared.Command.TheVariants.{Plan, PlanSheet, Explain, Tune, Compose, Show, Run, Log, Inspect, Page, Diff, Hopper, HopperSheet, Refit, EmptyStore, Keep, Kept, Versions, Version, Help}

-- all of them, in the order of the table
abbrev pub commands : List Command
commands = Plan ∷ PlanSheet ∷ Explain ∷ Tune ∷ Compose ∷ Show ∷ Run ∷ Log ∷ Inspect ∷ Page ∷ Diff ∷ Hopper ∷ HopperSheet ∷ Refit ∷ EmptyStore ∷ Keep ∷ Kept ∷ Versions ∷ Version ∷ Help ∷ []

-- the command at a place of the table; behind the last of them there is none
abbrev pub command_at : ℕ → Option Command
command_at place = slice_get commands place

-- the word of a command, byte by byte
abbrev pub word_of : Command → List ℕ
word_of Plan = 112 ∷ 108 ∷ 97 ∷ 110 ∷ []
word_of PlanSheet = 112 ∷ 108 ∷ 97 ∷ 110 ∷ 45 ∷ 115 ∷ 104 ∷ 101 ∷ 101 ∷ 116 ∷ []
word_of Explain = 101 ∷ 120 ∷ 112 ∷ 108 ∷ 97 ∷ 105 ∷ 110 ∷ []
word_of Tune = 116 ∷ 117 ∷ 110 ∷ 101 ∷ []
word_of Compose = 99 ∷ 111 ∷ 109 ∷ 112 ∷ 111 ∷ 115 ∷ 101 ∷ []
word_of Show = 115 ∷ 104 ∷ 111 ∷ 119 ∷ []
word_of Run = 114 ∷ 117 ∷ 110 ∷ []
word_of Log = 108 ∷ 111 ∷ 103 ∷ []
word_of Inspect = 105 ∷ 110 ∷ 115 ∷ 112 ∷ 101 ∷ 99 ∷ 116 ∷ []
word_of Page = 112 ∷ 97 ∷ 103 ∷ 101 ∷ []
word_of Diff = 100 ∷ 105 ∷ 102 ∷ 102 ∷ []
word_of Hopper = 104 ∷ 111 ∷ 112 ∷ 112 ∷ 101 ∷ 114 ∷ []
word_of HopperSheet = 104 ∷ 111 ∷ 112 ∷ 112 ∷ 101 ∷ 114 ∷ 45 ∷ 115 ∷ 104 ∷ 101 ∷ 101 ∷ 116 ∷ []
word_of Refit = 114 ∷ 101 ∷ 102 ∷ 105 ∷ 116 ∷ []
word_of EmptyStore = 101 ∷ 109 ∷ 112 ∷ 116 ∷ 121 ∷ 45 ∷ 115 ∷ 116 ∷ 111 ∷ 114 ∷ 101 ∷ []
word_of Keep = 107 ∷ 101 ∷ 101 ∷ 112 ∷ []
word_of Kept = 107 ∷ 101 ∷ 112 ∷ 116 ∷ []
word_of Versions = 118 ∷ 101 ∷ 114 ∷ 115 ∷ 105 ∷ 111 ∷ 110 ∷ 115 ∷ []
word_of Version = 118 ∷ 101 ∷ 114 ∷ 115 ∷ 105 ∷ 111 ∷ 110 ∷ []
word_of Help = 104 ∷ 101 ∷ 108 ∷ 112 ∷ []

-- the least words that may follow a command
abbrev pub least_of : Command → ℕ
least_of Plan = 0
least_of PlanSheet = 0
least_of Explain = 0
least_of Tune = 0
least_of Compose = 0
least_of Show = 0
least_of Run = 1
least_of Log = 1
least_of Inspect = 0
least_of Page = 1
least_of Diff = 2
least_of Hopper = 0
least_of HopperSheet = 0
least_of Refit = 1
least_of EmptyStore = 1
least_of Keep = 1
least_of Kept = 2
least_of Versions = 1
least_of Version = 0
least_of Help = 0

-- the most words that may follow it
abbrev pub most_of : Command → ℕ
most_of Plan = 0
most_of PlanSheet = 0
most_of Explain = 0
most_of Tune = 2
most_of Compose = 0
most_of Show = 0
most_of Run = 1
most_of Log = 1
most_of Inspect = 1
most_of Page = 2
most_of Diff = 2
most_of Hopper = 0
most_of HopperSheet = 0
most_of Refit = 1
most_of EmptyStore = 1
most_of Keep = 1
most_of Kept = 2
most_of Versions = 1
most_of Version = 0
most_of Help = 0

-- the two, as they are answered
pub record Follows (c : Command) (least most : ℕ) : Type 0 where
  pub low : least ≡ least_of c
  pub high : most ≡ most_of c
