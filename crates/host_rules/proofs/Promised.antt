-- Everything that `specs/Promised.antt` lists, proved. The ring or the inspection, and the answer, are the call's by definition; a refused call gives it back, whatever its number.
use Prim.Native.Nat.{ℕ, zero, suc}
use mathlib.Core.Path.{◌≡◌, refl}
use mathlib.Core.Logic.{◌≢◌}
use Rattle.rings.specs.Steps.{Ask, visit_number, visited_with}
use Rattle.rings.specs.HandingIn.{hand_in_number, taken_with}
use Rattle.units.specs.declared.Station.{Station}
use Rattle.rings.specs.Marking.{mark_number, marked_with, unmarked_with}
use Rattle.rings.proofs.MarkLaws.{withdrawal_number}
use Rattle.rings.specs.declared.Ring.{Ring}
use Rattle.rings.specs.declared.Message.{Message}
use Rattle.log_records.specs.declared.Entry.{Entry}
use Rattle.inspection.specs.Kept.{entry_of, record_number, recorded_with, answered_with}
use Rattle.inspection.specs.declared.KeptInspection.{KeptInspection}
use Rattle.host_rules.specs.Promised.{Promised}

-- a visit that is not answered 0 gives the ring back
visit_refused : (k : ℕ) (r : Ring) (ask : Ask) → (visited_with k r ask).answer.number ≢ 0 → (visited_with k r ask).ring ≡ r
unfolding visited_with
visit_refused zero r ask n = absurd (n refl)
visit_refused (suc k) r ask n = refl

-- and so does a handing in
message_refused : (k : ℕ) (r : Ring) (m : Message) → (taken_with k r m).number ≢ 0 → (taken_with k r m).ring ≡ r
unfolding taken_with
message_refused zero r m n = absurd (n refl)
message_refused (suc k) r m n = refl

-- and a marking
mark_refused : (k : ℕ) (r : Ring) (s : Station) → (marked_with k r s).answer.number ≢ 0 → (marked_with k r s).ring ≡ r
unfolding marked_with
mark_refused zero r s n = absurd (n (withdrawal_number r s.0))
mark_refused (suc k) r s n = refl

-- and taking the mark off
unmark_refused : (k : ℕ) (r : Ring) (s : Station) → (unmarked_with k r s).number ≢ 0 → (unmarked_with k r s).ring ≡ r
unfolding unmarked_with
unmark_refused zero r s n = absurd (n refl)
unmark_refused (suc k) r s n = refl

-- and a record
record_refused : (k : ℕ) (i : KeptInspection) (e : Entry) → (answered_with k i e).number ≢ 0 → recorded_with k i e ≡ i
unfolding recorded_with answered_with
record_refused zero i e n = absurd (n refl)
record_refused (suc k) i e n = refl

pub promised : Promised
promised =
    record {
      visit = λ r ask. record { ring = refl; answered = refl; refused = visit_refused (visit_number r ask) r ask };
      hand_in = λ r m. record { ring = refl; answered = refl; refused = message_refused (hand_in_number r m) r m };
      mark = λ r s. record { ring = refl; answered = refl; refused = mark_refused (mark_number r s) r s };
      unmark = λ r s. record { ring = refl; answered = refl; refused = unmark_refused (mark_number r s) r s };
      inspect = λ i x. record { kept = refl; answered = refl; refused = record_refused (record_number i.n x) i (entry_of x) };
    }
