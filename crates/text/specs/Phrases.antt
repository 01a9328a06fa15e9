-- A form of words, by its name, and the numbers that stand in it in their order; behind the last of them zeros.
use Rattle.std.specs.Prelude.{ℕ, Bool, cond, List, [], ◌∷◌, replicate}
use Rattle.text.specs.declared.phrases.Phrase.{Phrase}

-- a form with its six numbers
abbrev pub phrase : {F : Type 0} → F → List ℕ → Phrase F
phrase form numbers = record { form = form; numbers = numbers }

-- without numbers
abbrev pub bare : {F : Type 0} → F → Phrase F
bare form = phrase form (replicate 6 0)

-- with one, two, three and four
abbrev pub one : {F : Type 0} → F → ℕ → Phrase F
one form x = phrase form (x ∷ 0 ∷ 0 ∷ 0 ∷ 0 ∷ 0 ∷ [])

abbrev pub two : {F : Type 0} → F → ℕ → ℕ → Phrase F
two form x y = phrase form (x ∷ y ∷ 0 ∷ 0 ∷ 0 ∷ 0 ∷ [])

abbrev pub three : {F : Type 0} → F → ℕ → ℕ → ℕ → Phrase F
three form x y z = phrase form (x ∷ y ∷ z ∷ 0 ∷ 0 ∷ 0 ∷ [])

abbrev pub four : {F : Type 0} → F → ℕ → ℕ → ℕ → ℕ → Phrase F
four form w x y z = phrase form (w ∷ x ∷ y ∷ z ∷ 0 ∷ 0 ∷ [])

-- one of two without numbers: the first where it is so
abbrev pub either : {F : Type 0} → Bool → F → F → Phrase F
either so first second = cond so (bare first) (bare second)
