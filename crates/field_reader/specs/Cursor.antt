-- A reader of a sheet: the lent bytes and a cursor. What it hands out is the field at the cursor; an accepted field moves the cursor to the next field, a refused one leaves it.
use Rattle.std.specs.Prelude.{ℕ, ◌≡◌, cond, eqb, List}
use Rattle.fields.specs.Fields.{field_at}
use Rattle.fields.specs.declared.Passed.{Passed}
use Rattle.fields.specs.declared.Field.{Field}
use Rattle.field_reader.specs.declared.Reader.{Reader}
use Rattle.field_reader.specs.declared.Step.{Step}

-- where the cursor stands after a field: at the next field if this one was accepted, else where it stood
unfoldable pub cursor_after : ℕ → Field → ℕ
cursor_after at field = cond (eqb field.number 0) field.next at

-- what the reader hands out: the field at its cursor, tested against what may stand behind the fields that have passed
abbrev pub field_of : Reader → Passed → Field
field_of reader passed = field_at reader.sheet.now reader.at passed

-- advancing: the field at the cursor is handed out, the cursor moves over it, and the bytes are the same
pub record Advanced (entry : Reader) (passed : Passed) (exit : Reader) (field : Field) : Type 0 where
  pub handed : field ≡ field_of entry passed
  pub cursor : exit.at ≡ cursor_after entry.at (field_of entry passed)
  pub bytes : exit.sheet ≡ entry.sheet

-- a step from a place of the bytes: the field there, and where the cursor stands after it
abbrev pub step_of : List ℕ → ℕ → Passed → Step
step_of bs at passed = record { field = field_at bs at passed; at = cursor_after at (field_at bs at passed) }
