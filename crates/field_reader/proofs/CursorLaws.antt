-- The laws of the cursor.
use Prim.Native.Nat.{ℕ}
use mathlib.Core.Path.{◌≡◌, refl}
use mathlib.Core.Logic.{◌≢◌}
use borrow.Author.Tests.{ne_eqb}
use Rattle.fields.specs.declared.Field.{Field}
use Rattle.field_reader.specs.Cursor.{cursor_after}

-- a refused field leaves the cursor
pub stays : (at : ℕ) (field : Field) → field.number ≢ 0 → cursor_after at field ≡ at
unfolding cursor_after
stays at field h = rw (ne_eqb _ _ h) refl

-- an accepted field moves it to the next one
pub moves : (at : ℕ) (field : Field) → field.number ≡ 0 → cursor_after at field ≡ field.next
unfolding cursor_after
moves at field h = rw h refl
