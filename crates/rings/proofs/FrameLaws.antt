-- The laws of frames: their number is the smaller of those asked for and limit / length rounded up.
use Prim.Native.Nat.{ℕ, zero, suc, ◌+◌, ◌-◌, ◌*◌, ◌≤◌, ◌<◌, min}
use mathlib.Core.Path.{◌≡◌, sym, ap, ◌∙◌}
use mathlib.Core.Logic.{⊎_elim}
use native.Mathlib.Omega.{arith}
use native.Mathlib.Nat.{div-mul-le_self, mul_comm, mul-le-mul_right, mul-zero}
use borrow.Author.Tests.{lt-ltb, le-ltb}
use Rattle.units.specs.Small.{rounded_up}
use Rattle.units.proofs.SmallLaws.{below_or_not, one_more_lem, shares_enough, shares_least}
use Rattle.rings.specs.Frames.{frames_from, frames_sent, frames_time}
use Rattle.rings.specs.declared.Ask.{Ask}

-- nothing is shared among anybody: 0
share_none : (b : ℕ) → 0 < b → rounded_up 0 b ≡ 0
share_none b pos = omega (arith, shares_least 0 b 0 pos (omega arith))

-- one share less is one divisor less
share_step : (a b : ℕ) → 0 < b → 0 < a → rounded_up a b ≡ 1 + rounded_up (a - b) b
share_step a b pos some =
    let y = rounded_up (a - b) b in
    let z = rounded_up a b in
    let up : z ≤ y + 1 =
    shares_least a b (y + 1) pos (omega (arith, shares_enough (a - b) b pos, mul_comm b (y + 1), one_more_lem y b, mul_comm b y)) in
    let first : 1 ≤ z =
    ⊎_elim (λ (l : 0 < z). omega arith)
    (λ (l : z ≤ 0). let e : z ≡ 0 = omega arith in let n : b * z ≡ 0 = rw e (mul-zero b) in absurd (omega (arith, shares_enough a b pos)))
    (below_or_not 0 z) in
    let before : z - 1 + 1 ≡ z = omega arith in
    let split : b * z ≡ (z - 1) * b + b = mul_comm b z ∙ ap (λ (k : ℕ). k * b) (sym before) ∙ one_more_lem (z - 1) b in
    let down : y ≤ z - 1 = shares_least (a - b) b (z - 1) pos (omega (arith, shares_enough a b pos, split, mul_comm b (z - 1))) in
    omega arith

-- the count step by step is the closed form
pub frames_closed : (limit length : ℕ) → 0 < length → (used asked : ℕ) → frames_from limit length used asked ≡ min asked (rounded_up (limit - used) length)
unfolding frames_from
frames_closed limit length pos used zero = omega arith
frames_closed limit length pos used (suc more) =
    ⊎_elim (λ (l : used < limit).
    let rest : limit - (used + length) ≡ limit - used - length = omega arith in
    let after = frames_closed limit length pos (used + length) more in
    let step = share_step (limit - used) length pos (omega arith) in
    rw (lt-ltb used limit l, after, rest, step) (omega arith))
    (λ (l : limit ≤ used).
    let none : limit - used ≡ 0 = omega arith in
    rw (le-ltb used limit l, none, share_none length pos) (omega arith))
    (below_or_not used limit)

-- at the visit's limit
pub frames_sent_lem : (limit : ℕ) (ask : Ask) → 0 < ask.length → frames_sent limit ask ≡ min ask.frames (rounded_up limit ask.length)
frames_sent_lem limit ask pos =
    let all : limit - 0 ≡ limit = omega arith in
    frames_closed limit ask.length pos 0 ask.frames ∙ rw all

-- what is sent runs on past the limit by less than one frame
pub frames_within : (limit : ℕ) (ask : Ask) → 0 < ask.length → frames_time limit ask ≤ limit + (ask.length - 1)
frames_within limit ask pos =
    let l = ask.length in
    let most : frames_sent limit ask ≤ rounded_up limit l = omega (arith, frames_sent_lem limit ask pos) in
    omega (arith, mul-le-mul_right l most, div-mul-le_self (limit + (l - 1)) l)

-- where nothing is offered, nothing is sent
pub frames_none : (ask : Ask) → frames_time 0 ask ≡ 0
unfolding frames_from
frames_none ask = go ask.frames
  where
    go : (asked : ℕ) → frames_from 0 ask.length 0 asked * ask.length ≡ 0
    go zero = omega arith
    go (suc more) = omega arith

-- frames of one tick stop at any tick: the smaller of the limit and the ticks asked for
pub ticks_sent : (limit : ℕ) (ask : Ask) → ask.length ≡ 1 → frames_time limit ask ≡ min limit ask.frames
ticks_sent limit ask e =
    let closed = frames_sent_lem limit ask (rw e (omega arith)) in
    let one : rounded_up limit 1 ≡ limit = omega (arith, shares_enough limit 1 (omega arith), shares_least limit 1 limit (omega arith) (omega arith)) in
    rw (closed, e, one) (omega arith)
