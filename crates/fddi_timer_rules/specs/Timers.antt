-- A station's timer and its late count, together as one number: how long the timer has run, with TTRT for each time that it is late.
use Rattle.std.specs.Prelude.{ℕ, zero, suc, ◌+◌, ◌-◌, ◌*◌, ◌/◌, ◌%◌, cond, leb, eqb}

pub record Timer : Type 0 where
  pub count : ℕ
  pub timer : ℕ

-- how long it has run: TTRT·count + timer
abbrev pub ran : ℕ → Timer → ℕ
ran ttrt t = ttrt * t.count + t.timer

-- one tick: the timer runs up and, on reaching TTRT, goes to 0 and raises the count
unfoldable pub ticked : ℕ → Timer → Timer
ticked ttrt t =
    cond (eqb (t.timer + 1) ttrt) (record { count = t.count + 1; timer = 0 })
    (record { count = t.count; timer = t.timer + 1 })

-- x ticks, one after another
unfoldable pub ticks : ℕ → ℕ → Timer → Timer
ticks ttrt zero t = t
ticks ttrt (suc x) t = ticked ttrt (ticks ttrt x t)

-- x ticks later, at once: it has reached TTRT (timer + x) / TTRT times, and the rest is on the timer. `Promised` says that these are x ticks
unfoldable pub later : ℕ → ℕ → Timer → Timer
later ttrt x t = record { count = t.count + (t.timer + x) / ttrt; timer = (t.timer + x) % ttrt }

-- a timer that starts at x with count 0; one that starts at TTRT becomes 0 with count 1
unfoldable pub started_at : ℕ → ℕ → Timer
started_at ttrt x = cond (eqb x ttrt) (record { count = 1; timer = 0 }) (record { count = 0; timer = x })

-- a token comes: with the count above 0 the count falls by 1 and the timer runs on; else the timer goes to 0
unfoldable pub visited : Timer → Timer
visited t = record { count = t.count - 1; timer = cond (leb t.count 0) 0 t.timer }

-- what is offered of asynchronous time: with the count above 0 nothing, else TTRT less the timer
unfoldable pub offered : ℕ → Timer → ℕ
offered ttrt t = cond (leb t.count 0) (ttrt - t.timer) 0
