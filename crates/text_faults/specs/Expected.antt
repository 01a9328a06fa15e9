-- What was expected where a line can no longer be read.
use Rattle.std.specs.Prelude.{ℕ, cond, leb, eqb}
use Rattle.text_faults.specs.Lines.{most_of, is_byte, place_of}
use Rattle.text_faults.specs.declared.Form.{Form}
use Rattle.text_faults.specs.declared.Form.TheVariants.{Word, Number, Byte, End}
use Rattle.text_faults.specs.declared.Expected.{Expected}
use Rattle.text_faults.specs.declared.Watch.{Watch}

-- at a place of a line: a line's word at the first; behind the last number that its word has, the end of the line; else a number
unfoldable pub form_at : ℕ → ℕ → Form
form_at word place =
    cond (eqb place 0) Word
    (cond (leb place (most_of word)) (cond (is_byte word place) Byte Number) End)

abbrev pub expected_at : ℕ → ℕ → Expected
expected_at word place = record { form = form_at word place; place = place }

-- at the word with which the line can no longer be read; where it only ends too early, behind its last word
unfoldable pub expected_of : Watch → Expected
expected_of w =
    cond w.found.stuck (expected_at w.scan.word w.found.place) (expected_at w.scan.word (place_of w.scan))
