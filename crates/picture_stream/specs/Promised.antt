-- What is promised of a log that is read for its picture; `proofs/Promised.antt` proves it.
use Rattle.std.specs.Prelude.{◌≡◌, ℕ, ◌+◌, ◌-◌, ◌^◌, ◌<◌, ◌≤◌, min, max, true, cond, ◌≢◌, IsSome, IsNone, List, [], ◌∷◌, ◌++◌, length, take}
use Rattle.sets.specs.declared.Set.{Set}
use Rattle.plans.specs.declared.Alloc.{Alloc}
use Rattle.log_records.specs.declared.Entry.{Entry}
use Rattle.logs.specs.Reading.{read_log, entries_in}
use Rattle.inspection.specs.Records.{inspection_of}
use Rattle.inspection.specs.Findings.{finding_in}
use Rattle.inspection_stream.specs.Inspecting.{inspect_over, inspect_start}
use Rattle.inspection_stream.specs.Promised.{Enough}
use Rattle.tallies.specs.Laps.{no_lap, lapped, lapped_all}
use Rattle.tallies.specs.Tallies.{switched_by, nothing_seen, seen_all}
use Rattle.tallies.specs.Shown.{Known}
use Rattle.tallies.specs.declared.Lap.{Lap}
use Rattle.tallies.specs.declared.Seen.{Seen}
use Rattle.picture_stream.specs.Watching.{is_drawn, handed_out, handed, watched_from, watch_over, drawn_over, watch_all, drawn_all, lines_in, window_of}
use Rattle.picture_stream.specs.declared.Window.{Window}
use Rattle.picture_stream.specs.declared.Watching.{Watching}
use Rattle.tallies.specs.declared.Drawn.{Drawn}
use Rattle.picture_stream.specs.declared.Watched.{Watched}

-- the records of a list that are drawn, in their order, none left out: each with how far those before it have come and whether its station is switched through then
unfoldable pub drawn_in : Window → ℕ → List ℕ → Lap → List ℕ → List Entry → List Drawn
drawn_in x n w l mark [] = []
drawn_in x n w l mark (e ∷ es) =
    cond (is_drawn x l e) (handed_out mark l e ∷ []) []
    ++ drawn_in x n w (lapped n w l e) (switched_by mark e) es

-- all that is read from one place on is read up to the record where reading stopped, and from there on
pub record GoesOn (x : Window) (k : Watching) (at : ℕ) (bs : List ℕ) (r : Watched) : Type 0 where
  pub rest : List ℕ
  pub passed : List ℕ
  pub cut : bs ≡ passed ++ rest
  pub place : r.at ≡ at + length passed
  pub read : watch_over k bs ≡ watch_over r.watching rest
  pub drawn : drawn_over x k bs ≡ handed r.drawn ++ drawn_over x r.watching rest
  -- where it did not stop, nothing is left; where it did, it has moved
  pub all : IsNone r.drawn → rest ≡ []
  pub moved : IsSome r.drawn → 1 ≤ length passed

-- the records that keep every rule, and what was seen of them
pub record KeptSeen (t : Set) (a : Alloc) (es : List Entry) (s : Seen) : Type 0 where
  pub kept : List Entry
  pub behind : List Entry
  pub place : es ≡ kept ++ behind
  pub rule : (inspection_of t a kept).rule ≡ 0
  -- none is left out: the next one, if there is one, is the named record
  pub named : (e : Entry) (more : List Entry) → behind ≡ e ∷ more → (inspection_of t a (kept ++ (e ∷ []))).rule ≢ 0
  -- each of them is of one of 128 stations, so that the numbers of each station are those of `StationShown`
  pub known : Known kept
  pub numbers : s.numbers ≡ (seen_all t.n t.w nothing_seen kept).numbers
  pub lap : s.course.kept ≡ (seen_all t.n t.w nothing_seen kept).course.all
  pub all : s.course.all ≡ (seen_all t.n t.w nothing_seen es).course.all

-- the rotation, counted from 0, of the record with this number, counted from 1: how far those before it have come
abbrev pub rotation_of : Set → List Entry → ℕ → ℕ
rotation_of t es number = (lapped_all t.n t.w no_lap (take (number - 1) es)).rotation

-- the rotations of these records that are drawn
pub record WindowShown (t : Set) (es : List Entry) (x : Window) : Type 0 where
  -- at most 60
  pub most : x.end ≤ x.first + 60
  -- where no record is named: the first ones
  pub first_lines : x.named ≡ 0
      → (x.first ≡ 0) × (x.end ≡ min 60 (lines_in (lapped_all t.n t.w no_lap es)))
  -- where one is: its rotation is one of them, and at most two behind it are
  pub named_in : x.named ≢ 0 → (x.first ≤ rotation_of t es x.named) × (rotation_of t es x.named < x.end)
  pub two_behind : x.named ≢ 0 → x.end ≤ rotation_of t es x.named + 3
  -- no line is behind the log's last, which is the named record's at least
  pub there : x.named ≢ 0
      → x.end ≤ max (lines_in (lapped_all t.n t.w no_lap es)) (rotation_of t es x.named + 1)
  -- and the named record is drawn, a visit or a mark
  pub named_drawn : (before : List Entry) (e : Entry) (behind : List Entry)
      → es ≡ before ++ e ∷ behind → x.named ≡ length before + 1
      → is_drawn x (lapped_all t.n t.w no_lap before) e ≡ true

pub record Promised : Type 0 where
  -- a piece may end anywhere
  pub pieces : (k : Watching) (first rest : List ℕ) → watch_over k (first ++ rest) ≡ watch_over (watch_over k first) rest
  pub drawn_pieces : (x : Window) (k : Watching) (first rest : List ℕ)
      → drawn_over x k (first ++ rest) ≡ drawn_over x k first ++ drawn_over x (watch_over k first) rest
  -- the inspection is that of `inspect`
  pub inspects : (k : Watching) (bs : List ℕ) → (watch_over k bs).inspecting ≡ inspect_over k.inspecting bs
  pub inspects_all : (bs : List ℕ)
      → (watch_all bs).inspecting ≡ inspect_start bs
  -- the first piece may be any that is enough, 3,400 bytes, and what comes behind it goes on as if all had been the first piece
  pub first_piece : (head rest : List ℕ) → Enough head rest → watch_over (watch_all head) rest ≡ watch_all (head ++ rest)
  pub drawn_first : (x : Window) (head rest : List ℕ)
      → Enough head rest → drawn_all x head ++ drawn_over x (watch_all head) rest ≡ drawn_all x (head ++ rest)
  -- what a stop hands out, and what is left behind it
  pub goes_on : (x : Window) (k : Watching) (at : ℕ) (bs : List ℕ) → GoesOn x k at bs (watched_from x k at bs)
  -- of a log that is read: the numbers are those of the records before the named one, of all where none is named
  pub kept_seen : (bs : List ℕ) → (read_log bs).number ≡ 0
      → KeptSeen (read_log bs).set (read_log bs).alloc (entries_in bs) (watch_all bs).seen
  -- and the records that are drawn are those of its records that the window has
  pub drawn : (x : Window) (bs : List ℕ) → (read_log bs).number ≡ 0
      → drawn_all x bs
      ≡ drawn_in x (read_log bs).set.n (read_log bs).set.w nothing_seen.course.all nothing_seen.mark (entries_in bs)
  -- the window that is drawn of it, and the record that it names: the finding's
  pub window : (bs : List ℕ) → (read_log bs).number ≡ 0 → (read_log bs).records + 2 < 2 ^ 64
      → WindowShown (read_log bs).set (entries_in bs) (window_of (watch_all bs))
  pub window_named : (bs : List ℕ) → (read_log bs).number ≡ 0 → (window_of (watch_all bs)).named ≡ (finding_in bs).«record»
