-- The first number of a line that is out of its range: 1 TTRT, 2 the mode, 3 F, 4 g, 5 w, 6 C, 7 D, 8 P, 9 S; 0 where none is.
use Rattle.std.specs.Prelude.{ℕ, Bool, cond, not, List, leb, ltb, eqb}
use Rattle.units.specs.Numbers.{most_ttrt, last_mode, most_frame, most_grid, most_walk, most_c, most_d, most_p, most_s}
use Rattle.units.specs.Judging.{between}
use Rattle.units.specs.Places.{at}
use Rattle.line_reader.specs.Scan.{code_of}
use Rattle.line_reader.specs.declared.Scan.{Scan}
use Rattle.command_compose.specs.Compose.{ttrt_word, mode_word, frame_word, grid_word, station_word}

unfoldable pub unless : Bool → ℕ → ℕ
unless holds number = cond holds 0 number

-- of a station: w, C, D, P, and S, which is 0 where it has none
unfoldable pub station_out : List ℕ → ℕ
station_out values =
    cond (ltb most_walk (at values 0)) 5
    (cond (ltb most_c (at values 1)) 6
    (cond (not (between 1 most_d (at values 2))) 7
    (cond (not (between (at values 2) most_p (at values 3))) 8 (unless (leb (at values 4) most_s) 9))))

-- of a line that can be read; the mode, F and g may be left out, which means 1, and so may not say it
unfoldable pub number_out : Scan → ℕ
number_out s =
    cond (eqb s.word (code_of ttrt_word)) (unless (between 1 most_ttrt (at s.values 0)) 1)
    (cond (eqb s.word (code_of mode_word)) (unless (between 2 last_mode (at s.values 0)) 2)
    (cond (eqb s.word (code_of frame_word)) (unless (between 2 most_frame (at s.values 0)) 3)
    (cond (eqb s.word (code_of grid_word)) (unless (between 2 most_grid (at s.values 0)) 4)
    (cond (eqb s.word (code_of station_word)) (station_out s.values) 0))))
