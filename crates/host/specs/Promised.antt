-- What is promised of the entry that a host is handed; `proofs/Promised.antt` proves it.
use Rattle.std.specs.Prelude.{ℕ, ◌+◌, ◌≡◌, true, false, List}
use Rattle.log_records.specs.Visit.{blank_visit, visit_at, visit_stands}
use Rattle.log_records.specs.Mark.{blank_mark, mark_at, mark_stands}
use Rattle.log_records.specs.Entry.{next_entry}
use Rattle.host.specs.Told.{no_entry, told}

pub record Promised : Type 0 where
  -- where the field of a visit stands: kind 16, the visit, and the place behind its 20 bytes
  pub visit : (bytes : List ℕ) (a : ℕ) → visit_stands bytes a ≡ true
      → told (next_entry bytes a) ≡ record { kind = 16; visit = visit_at bytes a; mark = blank_mark; next = a + 20 }
  -- where that of a mark stands: kind 17, the mark, and the place behind its 5 bytes
  pub mark : (bytes : List ℕ) (a : ℕ) → mark_stands bytes a ≡ true
      → told (next_entry bytes a) ≡ record { kind = 17; visit = blank_visit; mark = mark_at bytes a; next = a + 5 }
  -- and elsewhere kind 0
  pub none : (bytes : List ℕ) (a : ℕ)
      → visit_stands bytes a ≡ false → mark_stands bytes a ≡ false → told (next_entry bytes a) ≡ no_entry
