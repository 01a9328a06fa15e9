-- The cases, computed.
use mathlib.Core.Path.{refl}
use Rattle.command_compose.specs.Compose as compose
use Rattle.line_reader.specs.Scan.{letter_read, number_begun, digit_read, character_read, stepped}
use Rattle.text_faults.specs.Lines.{is_single, least_of, most_of, is_byte, limit_of, fits, begins, is_read, place_of}
use Rattle.text_faults.specs.Words.{shown, with_byte, word_ended, found_on}
use Rattle.text_faults.specs.Ranges.{unless, station_out, number_out}
use Rattle.text_faults.specs.Watching.{line_ended, watched, watch_after}
use Rattle.text_faults.specs.Expected.{form_at, expected_of}
use Rattle.text_faults.specs.Cases.{Cases}

pub cases_hold : Cases
unfolding letter_read number_begun digit_read character_read stepped is_single least_of most_of is_byte limit_of fits begins is_read place_of shown with_byte word_ended found_on unless station_out number_out line_ended watched watch_after form_at expected_of
cases_hold =
    record {
      no_word = record { line = refl; at_fault = refl; expected = refl };
      no_number = record { line = refl; at_fault = refl; expected = refl };
      too_long = record { line = refl; at_fault = refl; expected = refl };
      too_many = record { line = refl; at_fault = refl; expected = refl };
      too_few = record { line = refl; at_fault = refl; expected = refl };
      word = refl;
      mode_one = record { unread = refl; in_line = refl; is = refl };
    }
