-- What is promised of the reader and of the walk over a sheet beside the contracts; `proofs/Promised.antt` proves it.
use Rattle.std.specs.Prelude.{ℕ, ◌+◌, ◌≤◌, ◌≡◌, Bool, true, List, ◌↔◌, ◌≢◌, length}
use Rattle.fields.specs.Fields.{tag_at, behind, allowed_at}
use Rattle.fields.specs.declared.Passed.{Passed}
use Rattle.field_reader.specs.Cursor.{cursor_after, field_of}
use Rattle.field_reader.specs.Scanned.{scanned}
use Rattle.field_reader.specs.FirstFault.{WellFormed, FirstFault, WholeSheet}
use Rattle.field_reader.specs.declared.Reader.{Reader}

-- an accepted field stands whole in the bytes, with a tag and a length that may stand there; it is handed out with its tag and its body's place, and the cursor moves just behind it
pub record HandedWhole (reader : Reader) (passed : Passed) : Type 0 where
  pub may_stand_lem : allowed_at reader.sheet.now reader.at passed ≡ true
  pub tag : (field_of reader passed).tag ≡ tag_at reader.sheet.now reader.at
  pub body : (field_of reader passed).body ≡ reader.at + 3
  pub cursor : cursor_after reader.at (field_of reader passed) ≡ behind reader.sheet.now reader.at
  pub inside : cursor_after reader.at (field_of reader passed) ≤ length reader.sheet.now

pub record Promised : Type 0 where
  -- a field that the reader hands out lies inside the bytes, and the cursor moves just behind it
  pub accepted : (reader : Reader) (passed : Passed) → (field_of reader passed).number ≡ 0 → HandedWhole reader passed
  -- a refused field leaves the cursor
  pub refused : (reader : Reader) (passed : Passed)
      → (field_of reader passed).number ≢ 0 → cursor_after reader.at (field_of reader passed) ≡ reader.at
  -- what the walk handed out: all fields from the start up to the place where it stopped, each whole and allowed at its place; `passed` says which they are
  pub handed : (plan : Bool) (bs : List ℕ) → WellFormed plan bs (scanned plan bs).passed (scanned plan bs).at
  -- its number is 1, 2 or 3 exactly by the first fault from the left, and 0 exactly if there is none
  pub first_fault : (plan : Bool) (bs : List ℕ) (k : ℕ) → k ≢ 0 → ((scanned plan bs).number ≡ k) ↔ FirstFault plan bs k
  pub none : (plan : Bool) (bs : List ℕ) → ((scanned plan bs).number ≡ 0) ↔ WholeSheet plan bs
  -- it stops at the first fault, or at the end field where there is none, and `passed` are the fields before that place
  pub fault_there : (plan : Bool) (bs : List ℕ) (k : ℕ) (f : FirstFault plan bs k)
      → scanned plan bs ≡ record { number = k; passed = f.passed; at = f.place }
  pub end_there : (plan : Bool) (bs : List ℕ) (w : WholeSheet plan bs)
      → scanned plan bs ≡ record { number = 0; passed = w.passed; at = w.place }
