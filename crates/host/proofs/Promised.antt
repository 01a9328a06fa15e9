-- The entry is told by its kind, and the place behind a field is never 0.
use Prim.Native.Nat.{ℕ, ◌+◌, ◌<◌}
use mathlib.Core.Path.{◌≡◌, refl}
use native.Mathlib.Omega.{arith}
use borrow.Author.Tests.{ne_eqb}
use Rattle.log_records.specs.Entry.{blank_entry}
use Rattle.log_records.specs.declared.Entry.{Entry}
use Rattle.log_records.proofs.EntryLaws.{handed_visit, handed_mark, handed_none}
use Rattle.inspection.specs.Kept.{told_of}
use Rattle.host.specs.Told.{no_entry, told}
use Rattle.host.specs.Promised.{Promised}

told_entry : (entry : Entry) (next : ℕ) → 0 < next → told (record { entry = entry; next = next }) ≡ told_of entry next
unfolding told
told_entry entry next behind = rw (ne_eqb next 0 (λ none. omega arith)) refl

told_none : told (record { entry = blank_entry; next = 0 }) ≡ no_entry
unfolding told
told_none = refl

pub promised : Promised
unfolding told_of
promised =
    record {
      visit = λ bytes a h. rw (handed_visit bytes a h) (told_entry _ (a + 20) (omega arith));
      mark = λ bytes a h. rw (handed_mark bytes a h) (told_entry _ (a + 5) (omega arith));
      none = λ bytes a v m. rw (handed_none bytes a v m) told_none;
    }
