-- The laws of how a word is named, for the proof of `name_of`. No rule stands here.
use Prim.Native.Nat.{ℕ, suc, ◌+◌, ◌-◌, ◌<◌, ◌≤◌, min}
use mathlib.Core.Path.{◌≡◌, refl, sym, ◌∙◌}
use mathlib.Core.List.{List, [], ◌∷◌, map, map-append}
use mathlib.Core.Logic.{⊎_elim}
use native.Mathlib.Numerals.{add-one}
use native.Mathlib.Omega.{arith}
use lib.ListN.{length, take, drop, set, get_or, replicate}
use lib.Seq.{take-suc, take-suc-set, take_all, drop-set-lt, drop-drop}
use Rattle.units.proofs.SmallLaws.{below_or_not}
use Rattle.commands.specs.Words.{shown_byte}

-- the first i bytes of the word have been put
abbrev pub Shown : List ℕ → List ℕ → ℕ → Type 0
Shown word bytes i = take i bytes ≡ map shown_byte (take i word)

-- one byte more
pub shown_next : (word bytes : List ℕ) (i b : ℕ) → i < length word → i < length bytes → b ≡ shown_byte (get_or word i 0) → Shown word bytes i
    → Shown word (set bytes i b) (i + 1)
shown_next word bytes i b w p e s =
    rw (add-one, take-suc-set bytes i b p, take-suc word i 0 w, map-append shown_byte (take i word) (get_or word i 0 ∷ []), s, e) refl

-- and 0 behind it
pub zero_next : (bytes : List ℕ) (i b : ℕ) → i < 64 → drop i bytes ≡ replicate (64 - i) 0 → drop (i + 1) (set bytes i b) ≡ replicate (64 - (i + 1)) 0
zero_next bytes i b l z =
    let more : 64 - i ≡ suc (64 - (i + 1)) = omega arith in
    drop-set-lt (i + 1) bytes i b (omega arith) ∙ sym (drop-drop 1 i bytes) ∙ rw (z, more) refl

-- as many bytes as the name has are the first 64, or all
pub all_of_it : (word : List ℕ) → take (min 64 (length word)) word ≡ take 64 word
all_of_it word =
    ⊎_elim (λ (b : length word < 64).
    let e : min 64 (length word) ≡ length word = omega arith in
    rw e (take_all (length word) word (omega arith) ∙ sym (take_all 64 word (omega arith))))
    (λ (b : 64 ≤ length word). let e : min 64 (length word) ≡ 64 = omega arith in rw e refl)
    (below_or_not (length word) 64)
