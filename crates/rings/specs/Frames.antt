-- What is asked for at a visit, and what is sent of it: frames of one length, each begun while the time used is below the limit, and finished once begun.
use Rattle.std.specs.Prelude.{ℕ, zero, suc, ◌+◌, ◌*◌, cond, ltb}
use Rattle.rings.specs.declared.Ask.{Ask}

-- how many of this many frames are sent, with this much time used already: the next one starts while that is below the limit
unfoldable pub frames_from : ℕ → ℕ → ℕ → ℕ → ℕ
frames_from limit length used zero = 0
frames_from limit length used (suc more) = cond (ltb used limit) (1 + frames_from limit length (used + length) more) 0

-- how many of the frames asked for are sent at this limit
abbrev pub frames_sent : ℕ → Ask → ℕ
frames_sent limit ask = frames_from limit ask.length 0 ask.frames

-- and how long they take
abbrev pub frames_time : ℕ → Ask → ℕ
frames_time limit ask = frames_sent limit ask * ask.length
