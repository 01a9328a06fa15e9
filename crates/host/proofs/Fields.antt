-- What the toolchain says of each struct that a host in C passes, lends or is handed: its size, and where each of its fields begins.
-- The host's test holds the twins of include/olivastrum.h to these lines.
use Prim.Native.Nat.{ℕ, zero, suc}
use mathlib.Core.Path.{◌≡◌, refl}
use mathlib.Core.Option.{Option, none, some}
use mathlib.Core.List.{List, [], ◌∷◌, ◌++◌}
use mir.Syntax.{Ty}
use prog.Memory.{size, field_of}
use Rattle.sets.proofs.Head.TheLaws as Head
use Rattle.sets.proofs.Set.TheLaws as Set
use Rattle.plans.proofs.Alloc.TheLaws as Alloc
use Rattle.plans.proofs.Planned.TheLaws as Planned
use Rattle.sheets.proofs.ReadRequest.TheLaws as ReadRequest
use Rattle.sheets.proofs.ReadPlan.TheLaws as ReadPlan
use Rattle.sheets.proofs.Written.TheLaws as Written
use Rattle.rings.proofs.Ring.TheLaws as Ring
use Rattle.rings.proofs.Ask.TheLaws as Ask
use Rattle.rings.proofs.Message.TheLaws as Message
use Rattle.rings.proofs.VisitRecord.TheLaws as VisitRecord
use Rattle.rings.proofs.VisitAnswer.TheLaws as VisitAnswer
use Rattle.rings.proofs.MarkAnswer.TheLaws as MarkAnswer
use Rattle.rings.proofs.Opened.TheLaws as Opened
use Rattle.log_records.proofs.VisitEntry.TheLaws as VisitEntry
use Rattle.log_records.proofs.MarkEntry.TheLaws as MarkEntry
use Rattle.logs.proofs.ReadLog.TheLaws as ReadLog
use Rattle.logs.proofs.Recorder.TheLaws as Recorder
use Rattle.inspection.proofs.Finding.TheLaws as Finding
use Rattle.inspection.proofs.LogEntry.TheLaws as LogEntry
use Rattle.inspection.proofs.Progress.TheLaws as Progress
use Rattle.inspection.proofs.KeptInspection.TheLaws as KeptInspection
use Rattle.inspection.proofs.BegunInspection.TheLaws as BegunInspection
use Rattle.inspection.proofs.RecordFinding.TheLaws as RecordFinding
use Rattle.versions.proofs.StoredPlan.TheLaws as StoredPlan
use Rattle.versions.proofs.FoundVersion.TheLaws as FoundVersion
use Rattle.versions.proofs.VersionsIn.TheLaws as VersionsIn
use Rattle.hopper.proofs.Wagon.TheLaws as Wagon
use Rattle.hopper.proofs.WagonList.TheLaws as WagonList
use Rattle.hopper.proofs.Train.TheLaws as Train
use Rattle.hopper.proofs.Coupled.TheLaws as Coupled
use Rattle.plan_inspections.proofs.PlanFinding.TheLaws as PlanFinding

abbrev place : Option (Ty × ℕ) → ℕ
place none = 0
place (some f) = f.1

-- where the first n fields begin
abbrev places : Ty → ℕ → List ℕ
places τ zero = []
places τ (suc n) = places τ n ++ (place (field_of τ n) ∷ [])

-- the size, then where each of the n fields begins
abbrev layout : Ty → ℕ → List ℕ
layout τ n = size τ ∷ places τ n

head : layout Head.mir 4 ≡ 16 ∷ 0 ∷ 4 ∷ 8 ∷ 12 ∷ []
head = refl

set : layout Set.mir 6 ≡ 2068 ∷ 0 ∷ 16 ∷ 20 ∷ 532 ∷ 1044 ∷ 1556 ∷ []
set = refl

alloc : layout Alloc.mir 1 ≡ 512 ∷ 0 ∷ []
alloc = refl

planned : layout Planned.mir 2 ≡ 516 ∷ 0 ∷ 512 ∷ []
planned = refl

read_request : layout ReadRequest.mir 2 ≡ 2072 ∷ 0 ∷ 2068 ∷ []
read_request = refl

read_plan : layout ReadPlan.mir 3 ≡ 2584 ∷ 0 ∷ 2068 ∷ 2580 ∷ []
read_plan = refl

written : layout Written.mir 2 ≡ 16 ∷ 0 ∷ 8 ∷ []
written = refl

ring : layout Ring.mir 14 ≡ 6960 ∷ 0 ∷ 2068 ∷ 2580 ∷ 3092 ∷ 3604 ∷ 4116 ∷ 4628 ∷ 4632 ∷ 5656 ∷ 5784 ∷ 5912 ∷ 6936 ∷ 6944 ∷ 6952 ∷ []
ring = refl

ask : layout Ask.mir 2 ≡ 8 ∷ 0 ∷ 4 ∷ []
ask = refl

message : layout Message.mir 3 ≡ 24 ∷ 0 ∷ 8 ∷ 16 ∷ []
message = refl

visit_record : layout VisitRecord.mir 9 ≡ 72 ∷ 0 ∷ 8 ∷ 16 ∷ 24 ∷ 32 ∷ 40 ∷ 48 ∷ 56 ∷ 64 ∷ []
visit_record = refl

visit_answer : layout VisitAnswer.mir 2 ≡ 80 ∷ 0 ∷ 72 ∷ []
visit_answer = refl

mark_answer : layout MarkAnswer.mir 4 ≡ 24 ∷ 0 ∷ 8 ∷ 16 ∷ 17 ∷ []
mark_answer = refl

opened : layout Opened.mir 2 ≡ 6968 ∷ 0 ∷ 6960 ∷ []
opened = refl

visit_entry : layout VisitEntry.mir 5 ≡ 20 ∷ 0 ∷ 4 ∷ 8 ∷ 12 ∷ 16 ∷ []
visit_entry = refl

mark_entry : layout MarkEntry.mir 2 ≡ 8 ∷ 0 ∷ 4 ∷ []
mark_entry = refl

log_entry : layout LogEntry.mir 4 ≡ 40 ∷ 0 ∷ 4 ∷ 24 ∷ 32 ∷ []
log_entry = refl

read_log : layout ReadLog.mir 5 ≡ 2608 ∷ 0 ∷ 2068 ∷ 2584 ∷ 2592 ∷ 2600 ∷ []
read_log = refl

recorder : layout Recorder.mir 4 ≡ 24 ∷ 0 ∷ 8 ∷ 16 ∷ 20 ∷ []
recorder = refl

finding : layout Finding.mir 4 ≡ 24 ∷ 0 ∷ 8 ∷ 16 ∷ 17 ∷ []
finding = refl

progress : layout Progress.mir 8 ≡ 32 ∷ 0 ∷ 8 ∷ 12 ∷ 16 ∷ 20 ∷ 24 ∷ 28 ∷ 29 ∷ []
progress = refl

kept_inspection : layout KeptInspection.mir 8 ≡ 2232 ∷ 0 ∷ 16 ∷ 20 ∷ 532 ∷ 1044 ∷ 1556 ∷ 2068 ∷ 2200 ∷ []
kept_inspection = refl

begun_inspection : layout BegunInspection.mir 2 ≡ 2240 ∷ 0 ∷ 2232 ∷ []
begun_inspection = refl

record_finding : layout RecordFinding.mir 5 ≡ 24 ∷ 0 ∷ 8 ∷ 12 ∷ 16 ∷ 17 ∷ []
record_finding = refl

stored_plan : layout StoredPlan.mir 2 ≡ 8 ∷ 0 ∷ 4 ∷ []
stored_plan = refl

found_version : layout FoundVersion.mir 3 ≡ 24 ∷ 0 ∷ 8 ∷ 16 ∷ []
found_version = refl

versions_in : layout VersionsIn.mir 3 ≡ 12 ∷ 0 ∷ 4 ∷ 8 ∷ []
versions_in = refl

wagon : layout Wagon.mir 3 ≡ 12 ∷ 0 ∷ 4 ∷ 8 ∷ []
wagon = refl

wagon_list : layout WagonList.mir 4 ≡ 148 ∷ 0 ∷ 4 ∷ 52 ∷ 100 ∷ []
wagon_list = refl

train : layout Train.mir 2 ≡ 660 ∷ 0 ∷ 148 ∷ []
train = refl

coupled : layout Coupled.mir 2 ≡ 664 ∷ 0 ∷ 660 ∷ []
coupled = refl

plan_finding : layout PlanFinding.mir 7 ≡ 32 ∷ 0 ∷ 8 ∷ 16 ∷ 24 ∷ 25 ∷ 26 ∷ 27 ∷ []
plan_finding = refl
