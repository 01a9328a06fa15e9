-- A text that is watched as it is read, byte after byte: the first line that cannot be read, with its word; the first line with a number out of its range.
use Rattle.std.specs.Prelude.{ℕ, cond, not, None, Some, is_none, ◌&&◌, List, [], ◌∷◌, ◌++◌, eqb}
use Rattle.text.specs.Text.{newline}
use Rattle.line_reader.specs.Scan.{fresh_scan, stepped}
use Rattle.line_reader.specs.Scan as lines
use Rattle.text_faults.specs.Lines.{is_read}
use Rattle.text_faults.specs.Words.{nothing_found, word_ended, found_on}
use Rattle.text_faults.specs.Ranges.{number_out}
use Rattle.text_faults.specs.declared.Watch.{Watch}

-- no line was read yet
abbrev pub watch_start : Watch
watch_start = record { found = nothing_found 0; scan = fresh_scan; line = 1; unread = None; out = 0; number = 0 }

-- the next line, with this first line and number out of their ranges
abbrev pub next_line : Watch → ℕ → ℕ → Watch
next_line w out number =
    record {
      found = nothing_found 0;
      scan = fresh_scan;
      line = lines.next_line w.line;
      unread = w.unread;
      out = out;
      number = number;
    }

-- the line cannot be read: it is named, with its word
abbrev pub unread_line : Watch → Watch
unread_line w =
    record {
      found = word_ended w.found w.scan;
      scan = w.scan;
      line = w.line;
      unread = Some w.line;
      out = w.out;
      number = w.number;
    }

-- a line ends; the first with a number out of its range stays named
unfoldable pub line_ended : Watch → Watch
line_ended w =
    cond (is_read w.scan)
    (cond (eqb w.out 0 && not (eqb (number_out w.scan) 0)) (next_line w w.line (number_out w.scan))
    (next_line w w.out w.number))
    (unread_line w)

-- one byte more; behind a line that cannot be read nothing is looked at
unfoldable pub watched : Watch → ℕ → Watch
watched w b =
    cond (is_none w.unread)
    (cond (eqb b newline) (line_ended w)
    (record {
      found = found_on w.found w.scan b;
      scan = stepped w.scan b;
      line = w.line;
      unread = w.unread;
      out = w.out;
      number = w.number;
    }))
    w

unfoldable pub watch_after : Watch → List ℕ → Watch
watch_after w [] = w
watch_after w (b ∷ bs) = watch_after (watched w b) bs

-- a whole text, whose last line may lack its newline
abbrev pub watch_of : List ℕ → Watch
watch_of text = watch_after watch_start (text ++ (newline ∷ []))
