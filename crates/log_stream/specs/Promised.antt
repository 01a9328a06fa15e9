-- What is promised of a log that is read in pieces; `proofs/Promised.antt` proves it.
use Rattle.std.specs.Prelude.{ℕ, ◌≤◌, ◌≡◌, List, ◌++◌, length, drop}
use Rattle.logs.specs.Walked.{walked}
use Rattle.logs.specs.Reading.{handed_from}
use Rattle.log_stream.specs.Pieces.{nothing_read, number_of, read_over, handed_over}
use Rattle.log_stream.specs.declared.Gathered.{Gathered}

pub record Promised : Type 0 where
  -- a piece may end anywhere: what is kept between two pieces is all that the second needs
  pub pieces_read : (v : Gathered) (first rest : List ℕ) → read_over v (first ++ rest) ≡ read_over (read_over v first) rest
  pub pieces_handed : (v : Gathered) (first rest : List ℕ)
      → handed_over v (first ++ rest) ≡ handed_over v first ++ handed_over (read_over v first) rest
  -- and the answer is that of reading the whole log: from the place where its records begin, the number of the first fault from the left
  pub same_number : (bs : List ℕ) (a : ℕ)
      → a ≤ length bs → number_of (read_over nothing_read (drop a bs)) ≡ (walked bs a).number
  -- and the same entries in their order
  pub same_entries : (bs : List ℕ) (a : ℕ)
      → a ≤ length bs → handed_over nothing_read (drop a bs) ≡ handed_from (walked bs a).records bs a
