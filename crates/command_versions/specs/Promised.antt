-- What is promised of what the commands on a store put out; `proofs/Promised.antt` proves it.
use Rattle.std.specs.Prelude.{ℕ, ◌≤◌, ◌<◌, ◌≡◌, List, [], ◌≢◌}
use Rattle.text.specs.Text.{decimal_of, refused_line}
use Rattle.text.specs.Promised.{value_on}
use Rattle.versions.specs.Layout.{last_version}
use Rattle.versions.specs.Answers.{versions_in}
use Rattle.command_versions.specs.VersionsText.{versions_printed}
use Rattle.command_versions.specs.VersionWord.{version_asked}

pub record Promised : Type 0 where
  -- an area that is no store prints `refused 2`
  pub refused : (bs : List ℕ) → (versions_in bs).number ≢ 0 → versions_printed bs ≡ refused_line (versions_in bs).number
  -- a store that keeps none prints nothing
  pub none : (bs : List ℕ) → (versions_in bs).number ≡ 0 → (versions_in bs).oldest ≡ 0 → versions_printed bs ≡ []
  -- a word asks for the version whose number its digits write, with zeros in front or without; one of more than 32 bits for 0, which no version has (`find_zero` of version_rules)
  pub asked : (word : List ℕ) → value_on 0 word ≤ last_version → version_asked word ≡ value_on 0 word
  pub asked_above : (word : List ℕ) → last_version < value_on 0 word → version_asked word ≡ 0
  -- so the number that `keep` and `versions` print asks for that very version
  pub printed : (n : ℕ) → n ≤ last_version → version_asked (decimal_of n) ≡ n
