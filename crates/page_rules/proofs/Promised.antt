-- The promises hold because the table's numbers are those of the records, and an accepted log's records keep these bounds.
use Prim.Native.Nat.{ℕ, ◌+◌, ◌^◌, ◌≤◌, ◌<◌}
use mathlib.Core.Path.{◌≡◌, refl, sym, ap, subst, ◌∙◌}
use mathlib.Core.Bool.{Bool, true}
use mathlib.Core.List.{List, ◌++◌, append-nil}
use native.Mathlib.Omega.{arith}
use borrow.Author.Tests.{eqb-true}
use lib.Dec.{eqb}
use lib.ListN.{length}
use Rattle.units.specs.Places.{at}
use Rattle.units.proofs.JudgingLaws.{and-true}
use Rattle.fields.specs.Bytes.{AllBytes}
use Rattle.sets.specs.declared.Set.{Set}
use Rattle.plans.specs.declared.Alloc.{Alloc}
use Rattle.sheets.specs.declared.ReadPlan.{ReadPlan}
use Rattle.log_records.specs.declared.Entry.{Entry}
use Rattle.logs.specs.Reading.{read_log, entries_in}
use Rattle.inspection.specs.Opening.{begun}
use Rattle.inspection.specs.Records.{inspection_of}
use Rattle.inspection.specs.Findings.{found_in, finding_in}
use Rattle.inspection.specs.declared.Inspection.{Inspection}
use Rattle.inspection.specs.declared.Finding.{Finding}
use Rattle.inspection.proofs.FindingLaws.{finding_read}
use Rattle.inspection_stream.specs.Inspecting.{inspect_number}
use Rattle.inspection_stream.specs.declared.Inspecting.{Inspecting}
use Rattle.inspection_stream.proofs.Promised.{promised as of-inspection}
use Rattle.inspection_rules.proofs.Logs.{log_recorded}
use Rattle.accepted_log_rules.specs.Shows.{Shows, longest_gap}
use Rattle.accepted_log_rules.proofs.Promised.{promised as of-logs}
use Rattle.tallies.specs.Tallies.{longest_column, most_column, nothing_seen, seen_all}
use Rattle.tallies.specs.Shown.{Known, moment}
use Rattle.tallies.specs.Promised.{StationShown}
use Rattle.tallies.proofs.Promised.{promised as of-tallies}
use Rattle.picture_stream.specs.Watching.{watch_all}
use Rattle.picture_stream.specs.Promised.{KeptSeen}
use Rattle.picture_stream.proofs.Promised.{promised as of-stream}
use Rattle.picture_stream.proofs.KnownLaws.{plan_accepted}
use Rattle.command_page.specs.Account.{outcome_of, bound_ticks, bound_of, account_of}
use Rattle.command_page.specs.Did.{did}
use Rattle.command_page.specs.Parts.{stations_of}
use Rattle.command_page.specs.declared.Account.{Account}
use Rattle.command_page.specs.declared.Outcome.TheVariants as outcome
use Rattle.command_page.proofs.Promised.{promised as of-page}
use Rattle.page_rules.specs.Promised.{WithinBounds, Promised}
use Rattle.page_rules.proofs.ShownLaws.{longest_within, most_within, none_behind}

-- the bound of the page is the longest wait
bound_same : (t : Set) (a : Alloc) → bound_ticks t a ≡ longest_gap t a
unfolding bound_ticks longest_gap
bound_same t a = refl

module _ (given : Bool) (p : ReadPlan) (bs : List ℕ) (bytes : AllBytes bs) (short : length bs < 2 ^ 64) (says : outcome_of given p (watch_all bs).inspecting ≡ outcome.Accepted) (early : moment (read_log bs).set.w (entries_in bs) < 2 ^ 64) where
  abbrev x : Account
  x = account_of given p (watch_all bs)

  abbrev k : Inspecting
  k = (watch_all bs).inspecting

  abbrev t : Set
  t = (read_log bs).set

  abbrev a : Alloc
  a = (read_log bs).alloc

  abbrev es : List Entry
  es = entries_in bs

  tests : (eqb (inspect_number k) 0 ≡ true) × (eqb k.looked.inspection.rule 0 ≡ true)
  tests = and-true (eqb (inspect_number k) 0) (eqb k.looked.inspection.rule 0) (of-page.only_accepted given p k says).found

  read : (read_log bs).number ≡ 0
  read = sym (of-inspection.same_number bs) ∙ ap inspect_number (sym (of-stream.inspects_all bs)) ∙ eqb-true _ _ tests.0

  kept : (inspection_of t a es).rule ≡ 0
  kept =
      ap (λ (i : Inspection). i.rule) (sym (of-inspection.same_inspection bs read))
      ∙ ap (λ (i : Inspecting). i.looked.inspection.rule) (sym (of-stream.inspects_all bs))
      ∙ eqb-true _ _ tests.1

  found : finding_in bs ≡ found_in bs
  found = finding_read (read_log bs).number (found_in bs) read

  shown : Shows t a es
  shown = of-logs.log_shows bs bytes short (ap (λ (f : Finding). f.number) found) (ap (λ (f : Finding). f.rule) found ∙ kept)

  -- ---- all records are seen

  ks : KeptSeen t a es (watch_all bs).seen
  ks = of-stream.kept_seen bs read

  all_kept : ks.kept ≡ es
  all_kept =
      let none = none_behind t a (begun t a) ks.kept ks.behind (ap (λ (xs : List Entry). (inspection_of t a xs).rule) (sym ks.place) ∙ kept) ks.named in
      sym (ks.place ∙ ap (λ (xs : List Entry). ks.kept ++ xs) none ∙ append-nil ks.kept)

  column : (c i : ℕ) → did x c i ≡ at (seen_all t.n t.w nothing_seen es).numbers (c + i)
  column c i =
      ap (λ (xs : List ℕ). at xs (c + i)) ks.numbers
      ∙ ap (λ (xs : List Entry). at (seen_all t.n t.w nothing_seen xs).numbers (c + i)) all_kept

  -- ---- the plan of the page is the log's

  set_same : x.set ≡ t
  set_same = ap (λ (i : Inspecting). i.start.set) (of-stream.inspects_all bs) ∙ (of-inspection.same_plan_read bs read).0

  alloc_same : x.alloc ≡ a
  alloc_same = ap (λ (i : Inspecting). i.start.alloc) (of-stream.inspects_all bs) ∙ (of-inspection.same_plan_read bs read).1

  bound_is : x.sums.bound ≡ longest_gap t a
  bound_is =
      ap (λ (u : Set). bound_of u x.alloc) set_same
      ∙ ap (bound_of t) alloc_same
      ∙ of-page.bound t a (plan_accepted bs read)
      ∙ bound_same t a

  module _ (i : ℕ) (there : i < stations_of x) where
    s : StationShown t.n t.w es i
    s = of-tallies.stations t.n t.w es (subst Known all_kept ks.known) i (omega arith)

    longest : did x longest_column i ≤ x.sums.bound
    longest = omega (arith, column longest_column i, bound_is, longest_within t a es shown i _ (s.longest (log_recorded bs read bytes short).few early))

    most : did x most_column i ≤ at x.alloc.s i
    most =
        let share = most_within i (at a.s i) es (λ before v b e. subst (λ (j : ℕ). v.synchronous ≤ at a.s j) e (shown.share before v b)) in
        omega (arith, column most_column i, s.most, share, ap (λ (b : Alloc). at b.s i) alloc_same)

    pub within_bounds : WithinBounds (account_of given p (watch_all bs)) i
    within_bounds =
        record {
          longest = longest;
          most = most;
        }

pub promised : Promised
promised =
    record {
      within = within_bounds;
    }
