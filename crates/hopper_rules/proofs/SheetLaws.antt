-- The set of a list keeps every range of the planner, since its numbers are the product's; so its sheet is laid out and reads back.
use Prim.Native.Nat.{ℕ, zero, suc, ◌+◌, ◌≤◌, ◌<◌}
use mathlib.Core.Path.{◌≡◌, refl, sym, ap, ◌∙◌}
use mathlib.Core.Bool.{Bool, true, false, cond}
use mathlib.Core.List.{List, ◌++◌, append-nil}
use native.Mathlib.Omega.{arith}
use lib.Dec.{eqb}
use lib.ListN.{length, take, drop}
use lib.Seq.{take_at}
use Rattle.units.specs.Places.{at, fill, zeros, sum_below}
use Rattle.units.proofs.PlaceLaws.{fill_inside, fill_same, sum_same}
use Rattle.sets.specs.Header.{head_of, head_number}
use Rattle.sets.specs.Rules.{tau, CountAllowed, NumbersAllowed}
use Rattle.sets.specs.Judged.{judged}
use Rattle.sets.specs.declared.Set.{Set}
use Rattle.sets.proofs.Promised.{promised as of-sets}
use Rattle.plans.specs.Planned.{blank_alloc}
use Rattle.fields.specs.Rows.{rows}
use Rattle.fields.specs.Bytes.{bytes_of}
use Rattle.fields.specs.Fields.{mode_tag}
use Rattle.fields.proofs.SegmentLaws.{rows_same}
use Rattle.sheets.specs.Layout.{mark, station_with, station_bytes, head_up_to}
use Rattle.sheets.specs.Reading.{read_request}
use Rattle.sheets.specs.Writing.{write_answer, buffer_after, request_written}
use Rattle.sheets.specs.declared.Written.{Written}
use Rattle.sheet_rules.specs.Promised.{first_places, request_length}
use Rattle.sheet_rules.proofs.Promised.{promised as of-sheets}
use Rattle.hopper.specs.Wagons.{ListFits}
use Rattle.hopper.specs.Requests.{longest_at, set_of, list_sheet}
use Rattle.hopper.specs.declared.WagonList.{WagonList}
use Rattle.hopper_rules.specs.Promised.{HopperNumbers, wagon_bytes, list_length}

-- ---- the numbers of the set

-- a column of the set holds what it was filled with
column : (n : ℕ) (f : ℕ → ℕ) → n ≤ 12 → (i : ℕ) → i < n → at (fill n f zeros) i ≡ f i
column n f few i l = fill_inside n f zeros i l (omega arith)

-- and filled again it is the same
column_again : (n : ℕ) (f : ℕ → ℕ) → n ≤ 12 → fill n (at (fill n f zeros)) zeros ≡ fill n f zeros
column_again n f few = fill_same n (at (fill n f zeros)) f zeros (column n f few)

pub has_numbers : (l : WagonList) → ListFits l → HopperNumbers l (set_of l)
has_numbers l h =
    let few = h.count.1 in
    record {
      header = refl;
      count = refl;
      walk = column l.n (λ i. 1) few;
      longest = column l.n (longest_at l) few;
      deadline = column l.n (λ i. 500) few;
      gap = column l.n (λ i. 500) few;
    }

-- a tick for each wagon
ones : (n : ℕ) → sum_below n (λ i. 1) ≡ n
unfolding sum_below
ones zero = refl
ones (suc n) = omega (arith, ones n)

-- τ is the number of wagons
pub walk_time : (l : WagonList) → ListFits l → tau (set_of l) ≡ l.n
walk_time l h = sum_same l.n (at (set_of l).w) (λ i. 1) (has_numbers l h).walk ∙ ones l.n

pub longest_small : (l : WagonList) → ListFits l → (i : ℕ) → i < l.n → longest_at l i ≤ 40
longest_small l h i b = let f = h.wagons i b in omega arith

count_allowed_lem : (l : WagonList) → ListFits l → CountAllowed (set_of l)
count_allowed_lem l h = let f = h.count in (omega arith, omega arith)

numbers_allowed_lem : (l : WagonList) → ListFits l → NumbersAllowed (set_of l)
numbers_allowed_lem l h =
    let has = has_numbers l h in
    record {
      header =
          record {
            ttrt = (omega arith, omega arith);
            mode = (omega arith, omega arith);
            frame = (omega arith, omega arith);
            grid = (omega arith, omega arith);
          };
      stations = λ i b.
          let walk = has.walk i b in
          let longest = has.longest i b in
          let deadline = has.deadline i b in
          let small = longest_small l h i b in
          record {
            walk = rw walk (omega arith);
            longest = rw longest (omega arith);
            deadline = rw deadline (omega arith, omega arith);
            gap = rw deadline (omega arith, omega arith);
          };
    }

-- the planner has nothing against the numbers of the set
pub judged_none : (l : WagonList) → ListFits l → judged (set_of l) ≡ 0
judged_none l h =
    let τ = walk_time l h in
    let f = h.count in
    (of-sets.none (set_of l)).1 (count_allowed_lem l h, (numbers_allowed_lem l h, (omega arith, omega arith)))

-- ---- the sheet

pub first_again : (l : WagonList) → ListFits l → first_places (set_of l) ≡ set_of l
first_again l h =
    let few = h.count.1 in
    rw (column_again l.n (λ i. 1) few, column_again l.n (longest_at l) few, column_again l.n (λ i. 500) few) refl

pub sheet_length_lem : (l : WagonList) → length (list_sheet l) ≡ list_length l
sheet_length_lem l = of-sheets.request_length_lem (set_of l) ∙ omega (arith, of-sheets.header_length (set_of l).head)

-- an accepted writing puts the sheet in front
buffer_of : (k size : ℕ) (sheet out : List ℕ) → (write_answer k size).number ≡ 0 → buffer_after k sheet out ≡ sheet ++ drop (length sheet) out
unfolding write_answer buffer_after
buffer_of zero size sheet out h = refl
buffer_of (suc k) size sheet out h = absurd (omega arith)

module _ (l : WagonList) (h : ListFits l) (out : List ℕ) (fits : list_length l ≤ length out) where
  long : request_length (set_of l) ≡ list_length l
  long = sym (of-sheets.request_length_lem (set_of l)) ∙ sheet_length_lem l

  pub answer_written : (request_written (set_of l) out).answer ≡ record { length = list_length l; number = 0 }
  answer_written = rw (sym long) (of-sheets.request_back (set_of l) out (judged_none l h) (omega (arith, long))).0

  pub buffer_written : (request_written (set_of l) out).buffer ≡ list_sheet l ++ drop (list_length l) out
  buffer_written =
      buffer_of _ _ (list_sheet l) out (ap (λ (w : Written). w.number) answer_written)
      ∙ ap (λ (n : ℕ). list_sheet l ++ drop n out) (sheet_length_lem l)

  -- what was written, its first bytes taken, is the sheet
  pub taken : take (list_length l) (request_written (set_of l) out).buffer ≡ list_sheet l
  taken = ap (take (list_length l)) buffer_written ∙ take_at (list_sheet l) _ (list_length l) (sheet_length_lem l)

  pub read_written : read_request (list_sheet l) ≡ record { set = set_of l; number = 0 }
  read_written =
      ap read_request (sym taken)
      ∙ ap (λ (n : ℕ). read_request (take n (request_written (set_of l) out).buffer)) (sym long)
      ∙ (of-sheets.request_back (set_of l) out (judged_none l h) (omega (arith, long))).1
      ∙ ap (λ (t : Set). record { set = t; number = 0 }) (first_again l h)

pub read_back : (l : WagonList) → ListFits l → read_request (list_sheet l) ≡ record { set = set_of l; number = 0 }
read_back l h = read_written l h (list_sheet l) (omega (arith, sheet_length_lem l))

-- ---- its bytes

one_of : (a b : Bool) → ◌≡◌ {A = ℕ} (cond a 1 (cond b 1 1)) 1
one_of true b = refl
one_of false true = refl
one_of false false = refl

-- mode, F and g are what their absence means
none_further : (ttrt tag : ℕ) → head_number (head_of ttrt) tag ≡ 1
unfolding head_number
none_further ttrt tag = one_of (eqb tag 4) (eqb tag 5)

station_bytes_lem : (l : WagonList) → ListFits l → (i : ℕ) → i < l.n → station_bytes (set_of l) i ≡ wagon_bytes l i
unfolding station_with
station_bytes_lem l h i b =
    let has = has_numbers l h in
    rw (has.walk i b, has.longest i b, has.deadline i b) refl

pub sheet_bytes : (l : WagonList) → ListFits l → list_sheet l ≡ mark 1 4 ++ bytes_of 250 ++ rows l.n (wagon_bytes l) ++ mark 255 0
unfolding head_up_to bytes_of rows
sheet_bytes l h =
    of-sheets.as_before false (set_of l) blank_alloc 0 (omega arith) (λ j low high. none_further 250 (mode_tag + j))
    ∙ ap (λ (front : List ℕ). front ++ mark 255 0) (append-nil (mark 1 4 ++ bytes_of 250 ++ rows l.n (station_bytes (set_of l))))
    ∙ ap (λ (stations : List ℕ). mark 1 4 ++ bytes_of 250 ++ stations ++ mark 255 0) (rows_same l.n _ _ (station_bytes_lem l h))
