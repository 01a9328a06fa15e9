-- What `kept` writes: the plan sheet of the version that is asked for, as it stands in the store; or the refusal and no byte.
use Rattle.std.specs.Prelude.{ℕ, zero, suc, ◌+◌, ◌≤◌, ◌≡◌, List, length}
use Rattle.versions.specs.Answers.{found_version}
use Rattle.versions.specs.declared.FoundVersion.{FoundVersion}
use Rattle.command_versions.specs.VersionWord.{version_asked}
use Rattle.command_versions.specs.declared.KeptPlan.{KeptPlan}

-- from its first byte up to its end; refused: 0 and 0
unfoldable pub kept_with : ℕ → FoundVersion → KeptPlan
kept_with zero found = record { from = found.place; end = found.place + found.length; number = 0 }
kept_with (suc k) found = record { from = 0; end = 0; number = suc k }

abbrev pub kept_plan : List ℕ → List ℕ → KeptPlan
kept_plan bs word = kept_with (found_version bs (version_asked word)).number (found_version bs (version_asked word))

-- the answer, whose bytes lie inside the store, for whoever writes them
pub record KeptAt (bs word : List ℕ) (r : KeptPlan) : Type 0 where
  pub answer : r ≡ kept_plan bs word
  pub order : r.from ≤ r.end
  pub inside : r.end ≤ length bs
