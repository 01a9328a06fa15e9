-- What stands behind a plan's fields in a log, read byte after byte: fields of records, then the end. A log has any length, so it comes in pieces, and a piece may end anywhere.
use Rattle.std.specs.Prelude.{ℕ, ◌+◌, Bool, true, false, cond, ◌||◌, List, [], ◌∷◌, ◌++◌, leb, eqb, replicate, set}
use Rattle.units.specs.Numbers.{cut_short, wrong_shape, runs_on, accepted}
use Rattle.sheets.specs.Reading.{then_number}
use Rattle.log_records.specs.Visit.{visit_length}
use Rattle.log_records.specs.Entry.{blank_entry, next_entry}
use Rattle.log_records.specs.declared.Entry.{Entry}
use Rattle.log_records.specs.declared.NextEntry.{NextEntry}
use Rattle.logs.specs.Records.{is_record, record_size}
use Rattle.logs.specs.Walked.{is_end}
use Rattle.log_stream.specs.declared.Gathered.{Gathered}

-- so many bytes of a log are read first, for its plan. The fields of the longest plan are 3,353 bytes, and a record behind them at most 20
abbrev pub first_size : ℕ
first_size = 3_400

-- ---- what is kept

-- no byte of a field was read yet
abbrev pub nothing_read : Gathered
nothing_read = record { bytes = replicate 20 0; count = 0; ended = false; number = 0 }

-- the bytes are all that the record has that they hold: behind them are zeros, and a field's first three bytes say how many it has
abbrev pub is_whole : Gathered → Bool
is_whole v = eqb v.count (record_size v.bytes 0)

-- behind a whole record the next byte begins another field; no field has more bytes than a visit's
unfoldable pub at_field : Gathered → Gathered
at_field v = cond (is_whole v || leb visit_length v.count) nothing_read v

-- one byte more of the field
abbrev pub with_byte : Gathered → ℕ → Gathered
with_byte v b =
    record { bytes = set v.bytes v.count b; count = v.count + 1; ended = v.ended; number = v.number }

-- a fault was found; nothing further is looked at
abbrev pub faulty : Gathered → ℕ → Gathered
faulty v number = record { bytes = v.bytes; count = v.count; ended = v.ended; number = number }

-- the end field has passed
abbrev pub end_passed : Gathered → Gathered
end_passed v = record { bytes = v.bytes; count = v.count; ended = true; number = v.number }

-- three bytes tell which field it is: a record's, the end, or one that may not stand there
unfoldable pub told : Gathered → Gathered
told v =
    cond (eqb v.count 3)
    (cond (is_record v.bytes 0) v (cond (is_end v.bytes 0) (end_passed v) (faulty v wrong_shape)))
    v

-- one byte more: a byte behind the end is a fault, and any other belongs to a field
unfoldable pub stepped : Gathered → ℕ → Gathered
stepped v b =
    cond (eqb v.number 0)
    (cond v.ended (faulty v runs_on) (told (with_byte (at_field v) b)))
    v

-- the number if the log ends here: 2 or 3 where a fault was found; 1 where the end field has not passed
abbrev pub number_of : Gathered → ℕ
number_of v = then_number v.number (cond v.ended accepted cut_short)

-- ---- what is handed out

-- the record whose last byte was just read, and how many bytes its field has; the blank entry and 0 where there is none
unfoldable pub entry_in : Gathered → NextEntry
entry_in v = cond (is_whole v) (next_entry v.bytes 0) (record { entry = blank_entry; next = 0 })

-- one entry, or none
unfoldable pub entries_of : NextEntry → List Entry
entries_of n = cond (eqb n.next 0) [] (n.entry ∷ [])

-- ---- all the bytes

-- what is kept behind them
unfoldable pub read_over : Gathered → List ℕ → Gathered
read_over v [] = v
read_over v (b ∷ bs) = read_over (stepped v b) bs

-- the entries that are handed out on the way, in their order
unfoldable pub handed_over : Gathered → List ℕ → List Entry
handed_over v [] = []
handed_over v (b ∷ bs) = entries_of (entry_in (stepped v b)) ++ handed_over (stepped v b) bs
