-- The rows of what each station did are those of the log's records: of those before the named one, of all where none is named.
use Rattle.std.proofs.Common.{◌≡◌, ℕ, ◌+◌, ◌<◌, Bool, true, eqb, Some, List, sym, refl, ap, ◌∙◌, subst, arith, eqb-true}
use mathlib.Core.Bool.{false≢true}
use Rattle.units.specs.Places.{at}
use Rattle.units.proofs.JudgingLaws.{and-true}
use Rattle.sheets.specs.declared.ReadPlan.{ReadPlan}
use Rattle.log_records.specs.declared.Entry.{Entry}
use Rattle.logs.specs.Reading.{read_log}
use Rattle.inspection_stream.specs.Inspecting.{inspect_number}
use Rattle.inspection_stream.specs.declared.Inspecting.{Inspecting}
use Rattle.inspection_stream.proofs.WholeLaws.{number_whole}
use Rattle.tallies.specs.Laps.{wrapped}
use Rattle.tallies.specs.Tallies.{visits_column, through_column, longest_column, most_column, synchronous_column, asynchronous_column, nothing_seen, seen_all}
use Rattle.tallies.specs.Shown.{visits_of, through_of, most_of, synchronous_of, asynchronous_of, Longest}
use Rattle.tallies.specs.Promised.{StationShown}
use Rattle.tallies.proofs.Promised.{promised as of-tallies}
use Rattle.picture_stream.specs.Watching.{watch_all}
use Rattle.picture_stream.proofs.Promised.{promised as of-stream}
use Rattle.text.specs.Phrases.{three, four}
use Rattle.command_page.specs.declared.Outcome.{Outcome}
use Rattle.command_page.specs.declared.Outcome.TheVariants as outcome
use Rattle.command_page.specs.declared.Form.TheVariants as form
use Rattle.command_page.specs.declared.Account.{Account}
use Rattle.command_page.specs.Account.{outcome_of, account_of}
use Rattle.command_page.specs.Named.{is_judged}
use Rattle.command_page.specs.Did.{did, longest_part, did_part}
use Rattle.command_page.specs.Parts.{stations_of}
use Rattle.command_page.specs.Promised.{did_row, LongestRow, RowsShown, TableShown}
use Rattle.command_page.proofs.AccountLaws.{only_accepted, says_broken}
use Rattle.command_page.proofs.PartLaws.{did_row_lem}

-- ---- a log whose records were judged was read

judged_read : (given : Bool) (p : ReadPlan) (k : Inspecting) (o : Outcome) → outcome_of given p k ≡ o → is_judged o ≡ true → inspect_number k ≡ 0
judged_read given p k outcome.PlanRefused e h = absurd (false≢true h)
judged_read given p k outcome.Refused e h = absurd (false≢true h)
judged_read given p k outcome.Another e h = absurd (false≢true h)
judged_read given p k outcome.Broken e h = ((says_broken given p k).0 e).1.0
judged_read given p k outcome.Accepted e h = eqb-true _ _ (and-true (eqb (inspect_number k) 0) (eqb k.looked.inspection.rule 0) (only_accepted given p k e).found).0

log_read : (given : Bool) (p : ReadPlan) (bs : List ℕ) → is_judged (outcome_of given p (watch_all bs).inspecting) ≡ true → (read_log bs).number ≡ 0
log_read given p bs h =
    sym (number_whole bs)
    ∙ ap inspect_number (sym (of-stream.inspects_all bs))
    ∙ judged_read given p (watch_all bs).inspecting _ refl h

-- ---- the rows of a station

module _ (x : Account) (judged : is_judged x.outcome ≡ true) (n : ℕ) (w : List ℕ) (es : List Entry) (numbers : x.numbers ≡ (seen_all n w nothing_seen es).numbers) (i : ℕ) (there : i < stations_of x) (s : StationShown n w es i) where
  -- a column's number is that of the records
  column : (c y : ℕ) → at (seen_all n w nothing_seen es).numbers (c + i) ≡ y → did x c i ≡ y
  column c y e = ap (λ (xs : List ℕ). at xs (c + i)) numbers ∙ e

  visits_row : did_row x i 0 ≡ Some (three form.DidVisits i (wrapped (visits_of i es)) (wrapped (through_of i 0 es)))
  unfolding did_part
  visits_row = did_row_lem x judged i 0 there (omega arith) ∙ rw (column visits_column _ s.visits, column through_column _ s.through) refl

  sent_row : did_row x i 2 ≡ Some (four form.DidSent (most_of i es) (at x.alloc.s i) (wrapped (synchronous_of i es)) (wrapped (asynchronous_of i es)))
  unfolding did_part
  sent_row =
      did_row_lem x judged i 2 there (omega arith)
      ∙ rw (column most_column _ s.most, column synchronous_column _ s.synchronous, column asynchronous_column _ s.asynchronous) refl

  longest_row : did_row x i 1 ≡ Some (longest_part (wrapped (visits_of i es)) (did x longest_column i) x.sums.bound)
  unfolding did_part
  longest_row = did_row_lem x judged i 1 there (omega arith) ∙ ap (λ (v : ℕ). Some (longest_part v (did x longest_column i) x.sums.bound)) (column visits_column _ s.visits)

  longest_of_lem : Longest w i es (did x longest_column i) → LongestRow x w es i
  longest_of_lem h =
      record {
        longest = did x longest_column i;
        is = h;
        row = longest_row;
      }

  rows : RowsShown x w es i
  rows =
      record {
        visits = visits_row;
        sent = sent_row;
        longest = λ few short. longest_of_lem (subst (Longest w i es) (sym (column longest_column _ refl)) (s.longest few short));
      }

-- ---- of a log

pub table_shown : (given : Bool) (p : ReadPlan) (bs : List ℕ) → is_judged (outcome_of given p (watch_all bs).inspecting) ≡ true → TableShown bs (account_of given p (watch_all bs))
table_shown given p bs judged =
    let x = account_of given p (watch_all bs) in
    let k = of-stream.kept_seen bs (log_read given p bs judged) in
    let n = (read_log bs).set.n in
    let w = (read_log bs).set.w in
    record {
      seen = k;
      rows = λ i there. rows x judged n w k.kept k.numbers i there (of-tallies.stations n w k.kept k.known i (omega arith));
    }
