-- Words, by their bytes.
use Rattle.std.specs.Prelude.{ℕ, ◌-◌, ◌≤◌, ◌≡◌, Bool, cond, ◌&&◌, List, [], ◌∷◌, map, eqb, leb, length, take, drop, replicate}
use Rattle.units.specs.Places.{at, all_below}

-- two words are the same: as long, and the same byte at each place
unfoldable pub same_bytes : List ℕ → List ℕ → Bool
same_bytes v w = eqb (length v) (length w) && all_below (length v) (λ i. eqb (at v i) (at w i))

-- "--status-on-3": the caller has opened descriptor 3, and asks for the status there
abbrev pub status_word : List ℕ
status_word = 45 ∷ 45 ∷ 115 ∷ 116 ∷ 97 ∷ 116 ∷ 117 ∷ 115 ∷ 45 ∷ 111 ∷ 110 ∷ 45 ∷ 51 ∷ []

-- a byte as it is shown: a printed character, 33 to 126, as it is, any other as "?"
unfoldable pub shown_byte : ℕ → ℕ
shown_byte b = cond (leb 33 b && leb b 126) b 63

-- how a word that is no command is named: its first 64 bytes, each as it is shown
unfoldable pub name_of : List ℕ → List ℕ
name_of word = map shown_byte (take 64 word)

-- the first r of the 64 bytes are the word's name, and the others are 0
pub record Named (word bytes : List ℕ) (r : ℕ) : Type 0 where
  pub name : take r bytes ≡ name_of word
  pub rest : drop r bytes ≡ replicate (64 - r) 0
  -- they are there; both lines say so, for whoever lends the first r bytes
  pub fits : r ≤ length bytes
  pub counts : r ≡ length (take r bytes)
