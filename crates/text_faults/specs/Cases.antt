-- Cases that a person can check by hand.
use Rattle.std.specs.Prelude.{ℕ, ◌≡◌, Bool, true, false, None, Some, List, [], ◌∷◌, take}
use Rattle.text_faults.specs.declared.Form.{Form}
use Rattle.text_faults.specs.declared.Form.TheVariants.{Word, Number, Byte, End}
use Rattle.text_faults.specs.Watching.{watch_of}
use Rattle.text_faults.specs.Expected.{expected_of}

-- the first line cannot be read; whether a word is at fault, and what was expected at which place
pub record Fault (text : List ℕ) (stuck : Bool) (form : Form) (place : ℕ) : Type 0 where
  pub line : (watch_of text).unread ≡ Some 1
  pub at_fault : (watch_of text).found.stuck ≡ stuck
  pub expected : expected_of (watch_of text) ≡ record { form = form; place = place }

-- each line can be read, and in this one this number is out of its range
pub record Out (text : List ℕ) (line number : ℕ) : Type 0 where
  pub unread : (watch_of text).unread ≡ None
  pub in_line : (watch_of text).out ≡ line
  pub is : (watch_of text).number ≡ number

pub record Cases : Type 0 where
  -- `tttt 1`: a word that no line begins with
  pub no_word : Fault (116 ∷ 116 ∷ 116 ∷ 116 ∷ 32 ∷ 49 ∷ []) true Word 0
  -- `ttrt x12`: no number
  pub no_number : Fault (116 ∷ 116 ∷ 114 ∷ 116 ∷ 32 ∷ 120 ∷ 49 ∷ 50 ∷ []) true Number 1
  -- `mark 0 256`: a number of more than a byte
  pub too_long : Fault (109 ∷ 97 ∷ 114 ∷ 107 ∷ 32 ∷ 48 ∷ 32 ∷ 50 ∷ 53 ∷ 54 ∷ []) true Byte 2
  -- `ttrt 1 2`: a number too many
  pub too_many : Fault (116 ∷ 116 ∷ 114 ∷ 116 ∷ 32 ∷ 49 ∷ 32 ∷ 50 ∷ []) true End 2
  -- `visit 1 2`: a number is missing: the third
  pub too_few : Fault (118 ∷ 105 ∷ 115 ∷ 105 ∷ 116 ∷ 32 ∷ 49 ∷ 32 ∷ 50 ∷ []) false Number 3
  -- of `ttrt x12` the word is x12
  pub word : take 3 (watch_of (116 ∷ 116 ∷ 114 ∷ 116 ∷ 32 ∷ 120 ∷ 49 ∷ 50 ∷ [])).found.bytes ≡ 120 ∷ 49 ∷ 50 ∷ []
  -- `ttrt 5` and `mode 1`: the mode of the second line
  pub mode_one : Out (116 ∷ 116 ∷ 114 ∷ 116 ∷ 32 ∷ 53 ∷ 10 ∷ 109 ∷ 111 ∷ 100 ∷ 101 ∷ 32 ∷ 49 ∷ []) 2 2
