-- A text that is read byte after byte: each byte moves a state, and something may go out at it.
use Rattle.std.specs.Prelude.{ℕ, Bool, false, ◌||◌, List, [], ◌∷◌, ◌++◌}

-- the state behind all the bytes
unfoldable pub moved_over : {S : Type 0} → (S → ℕ → S) → S → List ℕ → S
moved_over move s [] = s
moved_over move s (b ∷ bs) = moved_over move (move s b) bs

-- all that goes out at them, one after another
unfoldable pub out_over : {S A : Type 0} → (S → ℕ → S) → (S → ℕ → List A) → S → List ℕ → List A
out_over move out s [] = []
out_over move out s (b ∷ bs) = out s b ++ out_over move out (move s b) bs

-- the test holds at one of them
unfoldable pub some_over : {S : Type 0} → (S → ℕ → S) → (S → ℕ → Bool) → S → List ℕ → Bool
some_over move test s [] = false
some_over move test s (b ∷ bs) = test s b || some_over move test (move s b) bs
