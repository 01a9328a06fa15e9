-- A ring of parts that stand one by one, and a call on a ring that is lent.
use Rattle.std.specs.Prelude.{ℕ, ◌≤◌, ◌<◌, ◌≡◌, List}
use Rattle.units.specs.Numbers.{most_clock}
use Rattle.units.specs.Places.{at}
use Rattle.units.specs.declared.Station.{Station}
use Rattle.sets.specs.Lent.{set_of}
use Rattle.sets.specs.declared.Head.{Head}
use Rattle.plans.specs.Lent.{alloc_of}
use Rattle.rings.specs.State.{made}
use Rattle.rings.specs.Steps.{Ask, visited}
use Rattle.rings.specs.HandingIn.{handed_in}
use Rattle.rings.specs.Marking.{marked, unmarked}
use Rattle.rings.specs.declared.Message.{Message}
use Rattle.rings.specs.declared.VisitAnswer.{VisitAnswer}
use Rattle.rings.specs.declared.MarkAnswer.{MarkAnswer}
use Rattle.rings.specs.declared.Ring.{Ring}

-- the ring of these parts: w, C, D and P; S; then the arrays that a ring changes; the header, and the numbers
abbrev pub ring_of : List ℕ
    → List ℕ → List ℕ → List ℕ → List ℕ → List ℕ → List ℕ → List ℕ → List ℕ → List ℕ → List ℕ → List ℕ → List ℕ → Head
    → ℕ → ℕ → ℕ → ℕ → ℕ
    → Ring
ring_of w c d p s trt late sent rest arrival had mark last head n token clock visits unused =
    made
    (set_of head n w c d p)
    (alloc_of s)
    (record { trt = trt; late = late; unused = unused })
    (record { rest = rest; arrival = arrival; had = had; mark = mark })
    (record { sent = sent; last = last; token = token; clock = clock; visits = visits })

-- every stored arrival of the n stations is in range, and there is a place for each
abbrev pub ArrivalsFit : ℕ → List ℕ → Type 0
ArrivalsFit n arrival = (n ≤ 128) × ((i : ℕ) → i < n → at arrival i ≤ most_clock)

-- ---- a call on a lent ring: the ring is r before it and r' behind it, and what is answered

pub record VisitedOn (r : Ring) (ask : Ask) (r' : Ring) (a : VisitAnswer) : Type 0 where
  pub ring : r' ≡ (visited r ask).ring
  pub answered : a ≡ (visited r ask).answer

pub record HandedInOn (r : Ring) (message : Message) (r' : Ring) (number : ℕ) : Type 0 where
  pub ring : r' ≡ (handed_in r message).ring
  pub answered : number ≡ (handed_in r message).number

pub record MarkedOn (r : Ring) (station : Station) (r' : Ring) (a : MarkAnswer) : Type 0 where
  pub ring : r' ≡ (marked r station).ring
  pub answered : a ≡ (marked r station).answer

pub record UnmarkedOn (r : Ring) (station : Station) (r' : Ring) (number : ℕ) : Type 0 where
  pub ring : r' ≡ (unmarked r station).ring
  pub answered : number ≡ (unmarked r station).number
