-- What is promised of an accepted log, of any maker's recorder and of any length; `proofs/Promised.antt` proves it. The plan is any that is judged 0, in every mode.
use Rattle.std.specs.Prelude.{ℕ, ◌^◌, ◌<◌, ◌≡◌, List, length}
use Rattle.sets.specs.declared.Set.{Set}
use Rattle.plans.specs.Planned.{judged_plan}
use Rattle.plans.specs.declared.Alloc.{Alloc}
use Rattle.log_records.specs.declared.Entry.{Entry}
use Rattle.fields.specs.Bytes.{AllBytes}
use Rattle.logs.specs.Reading.{read_log, entries_in}
use Rattle.inspection.specs.Findings.{finding_in}
use Rattle.inspection_rules.specs.Gives.{Gives}
use Rattle.accepted_log_rules.specs.Shows.{Shows}
use Rattle.accepted_log_rules.specs.Witness.{Tight}

pub record Promised : Type 0 where
  -- records that a run of the plan could give show all of it, marks among them
  pub shown : (t : Set) (a : Alloc) (es : List Entry) → judged_plan t a ≡ 0 → Gives t a es → Shows t a es
  -- so does every log that is accepted, of its own plan: any bytes that are read and in which no rule is named. `AllBytes` and the length hold of any slice that is lent
  pub log_shows : (bs : List ℕ) → AllBytes bs → length bs < 2 ^ 64 → (finding_in bs).number ≡ 0 → (finding_in bs).rule ≡ 0
      → Shows (read_log bs).set (read_log bs).alloc (entries_in bs)
  -- no smaller numbers could be promised: there are accepted logs that reach them
  pub tight : Tight
