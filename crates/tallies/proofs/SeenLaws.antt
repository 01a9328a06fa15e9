-- One record more: what was seen behind it, by whether a rule is broken.
use Rattle.std.proofs.Common.{◌≡◌, ℕ, ◌+◌, not, eqb, ◌≢◌, List, set, refl, eq-eqb, ne_eqb}
use Rattle.units.specs.Places.{at}
use Rattle.log_records.specs.declared.VisitEntry.{VisitEntry}
use Rattle.log_records.specs.declared.Entry.{Entry}
use Rattle.log_records.specs.declared.Entry.TheVariants.{Visit, Mark}
use Rattle.tallies.specs.Laps.{lapped}
use Rattle.tallies.specs.Tallies.{visits_column, through_column, last_column, longest_column, most_column, synchronous_column, asynchronous_column, place_of, added_at, raised_at, gap_of, switch_of, visit_tallied, tallied, clock_after, switched_by, is_through, seen_of, seen, SeenOn}
use Rattle.tallies.specs.Shown.{station_of}
use Rattle.tallies.specs.declared.Lap.{Lap}
use Rattle.tallies.specs.declared.Course.{Course}

-- the mark of its station, whichever kind it is
pub through_at : (mark : List ℕ) (e : Entry) → not (eqb (at mark (station_of e)) 0) ≡ is_through mark e
through_at mark (Visit v) = refl
through_at mark (Mark m) = refl

-- the numbers behind a visit, by its place and its station's mark
pub visit_tallied_lem : (numbers mark : List ℕ) (clock : ℕ) (v : VisitEntry) (p through : ℕ) → p ≡ place_of v.station → through ≡ at mark p → visit_tallied numbers p through clock v ≡ tallied numbers mark clock (Visit v)
visit_tallied_lem numbers mark clock v p through there was = rw (was, there) refl

-- the numbers, one after another
pub visit_counted : (xs : List ℕ) (p mark clock : ℕ) (v : VisitEntry) {gap through sync async : ℕ} {raised once counted most sent all : List ℕ}
    → gap ≡ gap_of (at xs (visits_column + p)) (at xs (last_column + p)) clock
    → raised ≡ raised_at xs (longest_column + p) gap
    → once ≡ added_at (set raised (last_column + p) clock) (visits_column + p) 1
    → through ≡ switch_of mark
    → counted ≡ added_at once (through_column + p) through
    → sync ≡ v.synchronous
    → most ≡ raised_at counted (most_column + p) sync
    → sent ≡ added_at most (synchronous_column + p) sync
    → async ≡ v.asynchronous
    → all ≡ added_at sent (asynchronous_column + p) async
    → all ≡ visit_tallied xs p mark clock v
unfolding visit_tallied
visit_counted xs p mark clock v g e₁ e₂ t e₃ s e₄ e₅ a e₆ = rw (e₆, e₅, e₄, e₃, e₂, e₁, g, t, s, a) refl

module _ (n : ℕ) (w : List ℕ) (rule : ℕ) (numbers mark : List ℕ) (course : Course) (e : Entry) {all : Lap} (came : all ≡ lapped n w course.all e) where
  pub seen_broken : {marks : List ℕ} → rule ≢ 0 → marks ≡ switched_by mark e → SeenOn n w rule (seen_of numbers mark course) e (seen_of numbers marks (record { clock = course.clock; kept = course.kept; all = all }))
  unfolding seen
  seen_broken some marked = record { is = rw (ne_eqb rule 0 some, came, marked) refl }

  pub seen_kept : {xs marks : List ℕ} {clock : ℕ} → rule ≡ 0 → xs ≡ tallied numbers mark course.clock e → marks ≡ switched_by mark e → clock ≡ clock_after w course.clock e → SeenOn n w rule (seen_of numbers mark course) e (seen_of xs marks (record { clock = clock; kept = all; all = all }))
  unfolding seen
  seen_kept none counted marked later = record { is = rw (eq-eqb rule 0 none, came, counted, marked, later) refl }
