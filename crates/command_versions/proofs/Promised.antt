-- Everything that `specs/Promised.antt` lists, proved.
use Prim.Native.Nat.{ℕ, ◌≤◌, ◌<◌}
use mathlib.Core.Path.{◌≡◌, refl, ◌∙◌}
use mathlib.Core.List.{List, []}
use native.Mathlib.Omega.{arith}
use borrow.Author.Tests.{eq-eqb, ne_eqb}
use Rattle.fields.proofs.RowLaws.{rows_none}
use Rattle.text.specs.Text.{decimal_of}
use Rattle.text.proofs.TextLaws.{text_accepted, text_refused}
use Rattle.text.specs.Promised.{value_on}
use Rattle.number_words.specs.Words.{value_in}
use Rattle.number_words.proofs.Promised.{promised as words-promised}
use Rattle.text.proofs.Promised.{promised as text-promised}
use Rattle.versions.specs.Layout.{last_version}
use Rattle.versions.specs.Answers.{versions_in}
use Rattle.command_versions.specs.VersionsText.{count_from, version_lines}
use Rattle.command_versions.specs.VersionWord.{version_asked}
use Rattle.command_versions.specs.Promised.{Promised}

none_listed : (bs : List ℕ) → (versions_in bs).oldest ≡ 0 → version_lines bs ≡ []
unfolding count_from
none_listed bs e = rw (eq-eqb _ _ e) (rows_none _)

asked : (word : List ℕ) → value_on 0 word ≤ last_version → version_asked word ≡ value_on 0 word
asked word l =
    let v = value_in word in
    let is : v ≡ value_on 0 word = omega (arith, words-promised.written word) in
    rw (ne_eqb v 4_294_967_296 (λ e. omega arith)) is

asked_above : (word : List ℕ) → last_version < value_on 0 word → version_asked word ≡ 0
asked_above word l = rw (eq-eqb (value_in word) 4_294_967_296 (omega (arith, words-promised.written word))) refl

printed : (n : ℕ) → n ≤ last_version → version_asked (decimal_of n) ≡ n
printed n l =
    let is = text-promised.decimal n (omega arith) in
    asked (decimal_of n) (omega (arith, is)) ∙ is

pub promised : Promised
promised =
    record {
      refused = λ bs k. text_refused _ _ k;
      none = λ bs k e. text_accepted _ _ k ∙ none_listed bs e;
      asked = asked;
      asked_above = asked_above;
      printed = printed;
    }
