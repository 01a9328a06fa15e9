-- A 32-bit counter, which runs past its top to 0.
use Rattle.std.specs.Prelude.{ℕ, ◌+◌, ◌-◌, ◌%◌, ◌^◌}

-- what it shows this many ticks later
abbrev pub ticks_later : ℕ → ℕ → ℕ
ticks_later c ticks = (c + ticks) % 2 ^ 32

-- the ticks from one showing to another
abbrev pub ticks_between : ℕ → ℕ → ℕ
ticks_between earlier later = (later + (2 ^ 32 - earlier)) % 2 ^ 32
