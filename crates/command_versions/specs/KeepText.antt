-- What `keep` prints: `version` and the number that the plan got, or `refused` and why it was not stored.
use Rattle.std.specs.Prelude.{ℕ, List, [], ◌∷◌}
use Rattle.text.specs.Text.{decimal_of, line, text_or}
use Rattle.versions.specs.declared.StoredPlan.{StoredPlan}

-- "version"
abbrev pub version_word : List ℕ
version_word = 118 ∷ 101 ∷ 114 ∷ 115 ∷ 105 ∷ 111 ∷ 110 ∷ []

abbrev pub stored_line : ℕ → List ℕ
stored_line version = line (version_word ∷ decimal_of version ∷ [])

abbrev pub keep_printed : StoredPlan → List ℕ
keep_printed stored = text_or stored.number (stored_line stored.version)
