-- The promises hold because an accepted log's records could be given, and such records show it.
use Prim.Native.Nat.{ℕ, ◌^◌, ◌<◌}
use mathlib.Core.Path.{◌≡◌, sym, ap, ◌∙◌}
use mathlib.Core.List.{List}
use mathlib.Core.Logic.{◌≢◌, ⊎_elim}
use lib.ListN.{length}
use Rattle.fields.specs.Bytes.{AllBytes}
use Rattle.logs.specs.Reading.{read_log, entries_in}
use Rattle.promises.proofs.Course.{same_or_not}
use Rattle.inspection.specs.Findings.{finding_in}
use Rattle.inspection.specs.declared.Finding.{Finding}
use Rattle.inspection_rules.proofs.Promised as inspections
use Rattle.inspection_rules.proofs.Logs.{log_plan}
use Rattle.accepted_log_rules.specs.Shows.{Shows}
use Rattle.accepted_log_rules.specs.Promised.{Promised}
use Rattle.accepted_log_rules.proofs.Shown.{shows}
use Rattle.accepted_log_rules.proofs.Witness.{tight}

-- a finding without a number is of a log that was read
was_read : (bs : List ℕ) → (finding_in bs).number ≡ 0 → (read_log bs).number ≡ 0
was_read bs z =
    ⊎_elim (λ (e : (read_log bs).number ≡ 0). e)
    (λ (d : (read_log bs).number ≢ 0). sym (ap (λ (f : Finding). f.number) ((inspections.promised).log_refused bs d)) ∙ z)
    (same_or_not (read_log bs).number 0)

log_shows : (bs : List ℕ) → AllBytes bs → length bs < 2 ^ 64 → (finding_in bs).number ≡ 0 → (finding_in bs).rule ≡ 0
    → Shows (read_log bs).set (read_log bs).alloc (entries_in bs)
log_shows bs bytes short number rule =
    let read = was_read bs number in
    shows (read_log bs).set (read_log bs).alloc (log_plan bs read bytes short) (entries_in bs) (((inspections.promised).log_accepted bs bytes short read).0 rule)

pub promised : Promised
promised =
    record {
      shown = λ t a es h g. shows t a h es g;
      log_shows = log_shows;
      tight = tight;
    }
