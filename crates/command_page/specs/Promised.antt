-- What is promised of the page's parts beside the contracts; `proofs/Promised.antt` proves it.
use Rattle.std.specs.Prelude.{◌≡◌, ℕ, ◌+◌, ◌-◌, ◌*◌, ◌^◌, ◌<◌, ◌≤◌, Bool, true, false, ◌≢◌, ◌↔◌, List, ◌++◌, length, drop, Some, Option, None}
use Rattle.units.specs.Numbers.{accepted, fddi}
use Rattle.units.specs.Places.{at, zeros}
use Rattle.sets.specs.declared.Set.{Set}
use Rattle.plans.specs.Planned.{judged_plan}
use Rattle.plans.specs.declared.Alloc.{Alloc}
use Rattle.sheets.specs.declared.ReadPlan.{ReadPlan}
use Rattle.log_records.specs.declared.Entry.{Entry}
use Rattle.logs.specs.Reading.{read_log, entries_in}
use Rattle.inspection.specs.declared.Inspection.{Inspection}
use Rattle.inspection_stream.specs.Inspecting.{inspect_number}
use Rattle.inspection_stream.specs.declared.Inspecting.{Inspecting}
use Rattle.command_inspect.specs.FindingText.{is_accepted}
use Rattle.tallies.specs.Laps.{wrapped, no_lap}
use Rattle.tallies.specs.Shown.{moment, visits_of, through_of, most_of, synchronous_of, asynchronous_of, Longest}
use Rattle.tallies.specs.declared.Drawn.{Drawn}
use Rattle.picture_stream.specs.Watching.{watched_from, drawn_over, watch_all, window_of}
use Rattle.picture_stream.specs.Promised.{drawn_in, KeptSeen}
use Rattle.picture_stream.specs.declared.Window.{Window}
use Rattle.picture_stream.specs.declared.Watching.{Watching}
use Rattle.picture_stream.specs.declared.Watched.{Watched}
use Rattle.pictures.specs.Parts.{no_pen, pen_after}
use Rattle.pictures.specs.Picture.{parts_of, parts_over, picture_of, line_marks}
use Rattle.pictures.specs.declared.Scene.{Scene}
use Rattle.pictures.specs.declared.Pen.{Pen}
use Rattle.text.specs.Phrases.{three, four}
use Rattle.text.specs.declared.phrases.Phrase.{Phrase}
use Rattle.command_page.specs.declared.Outcome.TheVariants as outcome
use Rattle.command_page.specs.declared.Form.{Form}
use Rattle.command_page.specs.declared.Form.TheVariants as form
use Rattle.command_page.specs.declared.Account.{Account}
use Rattle.command_page.specs.Account.{is_other, outcome_of, refusal_of, bound_ticks, bound_of, due_of, account_of}
use Rattle.command_page.specs.Parts.{first_count, stations_of, part_at}
use Rattle.command_page.specs.Named.{is_judged}
use Rattle.command_page.specs.Plan.{station_part}
use Rattle.command_page.specs.Did.{longest_part, did_part}
use Rattle.command_page.specs.Picture.{picture_in, GoneOver, lines_from}

-- the log is accepted: it is read and keeps every rule, and where it is held to a plan sheet, that is read and its plan is the same
pub record Accepting (given : Bool) (p : ReadPlan) (k : Inspecting) : Type 0 where
  pub found : is_accepted k ≡ true
  pub plan : given ≡ true → (p.number ≡ accepted) × (is_other p k ≡ false)

-- the plan sheet is refused: `inspect PLAN` says `plan refused`
abbrev pub PlanRefusing : Bool → ReadPlan → Type 0
PlanRefusing given p = (given ≡ true) × (p.number ≢ accepted)

-- the log is refused, and the plan sheet, where there is one, is not: `inspect` says `refused`
abbrev pub Refusing : Bool → ReadPlan → Inspecting → Type 0
Refusing given p k = (given ≡ true → p.number ≡ accepted) × (inspect_number k ≢ accepted)

-- both are read, and their plans differ: `inspect PLAN` says `another plan`
abbrev pub Differing : Bool → ReadPlan → Inspecting → Type 0
Differing given p k =
    (given ≡ true) × ((p.number ≡ accepted) × ((inspect_number k ≡ accepted) × (is_other p k ≡ true)))

-- the log is read and held to the same plan, and a record breaks a rule: `inspect` names it
abbrev pub Breaking : Bool → ReadPlan → Inspecting → Type 0
Breaking given p k =
    (given ≡ true → (p.number ≡ accepted) × (is_other p k ≡ false))
    × ((inspect_number k ≡ accepted) × (k.looked.inspection.rule ≢ 0))

-- row j of what station i did: its visits, the longest time between two of them, and what it sent
abbrev pub did_row : Account → ℕ → ℕ → Option (Phrase Form)
did_row x i j = part_at x (first_count + stations_of x + 8 + (3 * i + j))

-- the row of the longest time between two visits of station i in these records, beside its bound
pub record LongestRow (x : Account) (w : List ℕ) (es : List Entry) (i : ℕ) : Type 0 where
  pub longest : ℕ
  pub is : Longest w i es longest
  pub row : did_row x i 1 ≡ Some (longest_part (wrapped (visits_of i es)) longest x.sums.bound)

-- the rows of station i are those of these records
pub record RowsShown (x : Account) (w : List ℕ) (es : List Entry) (i : ℕ) : Type 0 where
  pub visits : did_row x i 0
      ≡ Some (three form.DidVisits i (wrapped (visits_of i es)) (wrapped (through_of i 0 es)))
  -- of fewer than 2 ^ 64 records that took less than 2 ^ 64 ticks
  pub longest : length es < 2 ^ 64 → moment w es < 2 ^ 64 → LongestRow x w es i
  pub sent : did_row x i 2
      ≡ Some (four form.DidSent (most_of i es) (at x.alloc.s i) (wrapped (synchronous_of i es)) (wrapped (asynchronous_of i es)))

-- the table of what each station did is that of a log's records before the named one, of all where none is named
pub record TableShown (bs : List ℕ) (x : Account) : Type 0 where
  pub seen : KeptSeen (read_log bs).set (read_log bs).alloc (entries_in bs) (watch_all bs).seen
  pub rows : (i : ℕ) → i < stations_of x → RowsShown x (read_log bs).set.w seen.kept i

pub record Promised : Type 0 where
  -- the page says that the log is accepted exactly where `inspect` does, with a plan sheet and without one
  pub says_accepted : (given : Bool) (p : ReadPlan) (k : Inspecting) → Accepting given p k → outcome_of given p k ≡ outcome.Accepted
  pub only_accepted : (given : Bool) (p : ReadPlan) (k : Inspecting) → outcome_of given p k ≡ outcome.Accepted → Accepting given p k
  -- and each of its other four words exactly where `inspect` says so
  pub says_plan_refused : (given : Bool) (p : ReadPlan) (k : Inspecting)
      → (outcome_of given p k ≡ outcome.PlanRefused) ↔ PlanRefusing given p
  pub says_refused : (given : Bool) (p : ReadPlan) (k : Inspecting)
      → (outcome_of given p k ≡ outcome.Refused) ↔ Refusing given p k
  pub says_another : (given : Bool) (p : ReadPlan) (k : Inspecting)
      → (outcome_of given p k ≡ outcome.Another) ↔ Differing given p k
  pub says_broken : (given : Bool) (p : ReadPlan) (k : Inspecting)
      → (outcome_of given p k ≡ outcome.Broken) ↔ Breaking given p k
  -- with the number of the refusal: the plan sheet's, else the log's
  pub plan_number_lem : (given : Bool) (p : ReadPlan) (k : Inspecting)
      → outcome_of given p k ≡ outcome.PlanRefused → refusal_of given p k ≡ p.number
  pub log_number_lem : (given : Bool) (p : ReadPlan) (k : Inspecting)
      → outcome_of given p k ≡ outcome.Refused → refusal_of given p k ≡ inspect_number k
  -- where the limit of the named record comes from: timely-token TTRT − (F − 1) − u − TRT held at 0; FDDI TTRT less what the timer has run; of a station that is switched through 0
  pub timely_limit_lem : (s : Inspection) (t : Set) (a : Alloc) → (due_of s t a).through ≡ false → t.head.mode ≢ fddi
      → (due_of s t a).expected.limit ≡ t.head.ttrt - (t.head.frame - 1) - (due_of s t a).unused - (due_of s t a).run
  pub fddi_limit_lem : (s : Inspection) (t : Set) (a : Alloc) → (due_of s t a).through ≡ false → t.head.mode ≡ fddi
      → (due_of s t a).expected.limit ≡ t.head.ttrt - (due_of s t a).run
  pub through_limit : (s : Inspection) (t : Set) (a : Alloc) → (due_of s t a).through ≡ true
      → ((due_of s t a).expected.limit ≡ 0) × ((due_of s t a).expected.share ≡ 0)
  -- the bound of every plan that is accepted is the whole one
  pub bound : (t : Set) (a : Alloc) → judged_plan t a ≡ 0 → bound_of t a ≡ bound_ticks t a
  -- every station has its row of the plan and its row of what it did, in their order
  pub stations : (x : Account) → is_judged x.outcome ≡ true → (i : ℕ) → i < stations_of x
      → part_at x (first_count + i) ≡ Some (station_part x.set x.alloc i)
  pub dids : (x : Account) → is_judged x.outcome ≡ true → (i j : ℕ) → i < stations_of x → j < 3
      → did_row x i j ≡ Some (did_part x i j)
  -- and from a log's bytes on, whatever they are: where the records were judged, each number of these rows is that of the records
  pub table : (given : Bool) (p : ReadPlan) (bs : List ℕ)
      → is_judged (outcome_of given p (watch_all bs).inspecting) ≡ true
      → TableShown bs (account_of given p (watch_all bs))
  -- the picture goes on from stop to stop: the parts of the record at which reading stops, then those behind it, with the pen behind that record
  pub draws_on : (c : Scene) (x : Window) (k : Watching) (p : Pen) (at : ℕ) (bs : List ℕ) (r : Watched) (d : Drawn)
      → r ≡ watched_from x k at (drop at bs) → r.drawn ≡ Some d
      → parts_over c p (drawn_over x k (drop at bs))
      ≡ parts_of c p d ++ parts_over c (pen_after c p d) (drawn_over x r.watching (drop r.at bs))
  -- and from piece to piece
  pub goes_over : (c : Scene) (x : Window) (k k₁ k₂ : Watching) (p p₁ p₂ : Pen) (first rest : List ℕ)
      → GoneOver c x k p first k₁ p₁ → GoneOver c x k₁ p₁ rest k₂ p₂ → GoneOver c x k p (first ++ rest) k₂ p₂
  -- of a log whose records were judged the whole picture is that of the records of its window, in their order, none left out
  pub picture : (c : Scene) (x : Window) (bs : List ℕ) → (read_log bs).number ≡ 0
      → picture_in c x bs
      ≡ picture_of c no_pen (drawn_in x (read_log bs).set.n (read_log bs).set.w no_lap zeros (entries_in bs))
  -- in it each rotation of the window begins one line, with its number, and ends it, in their order
  pub lines : (c : Scene) (bs : List ℕ) → (read_log bs).number ≡ 0 → (read_log bs).records + 2 < 2 ^ 64
      → c.n ≡ (read_log bs).set.n
      → let x = window_of (watch_all bs) in line_marks (picture_in c x bs) ≡ lines_from x.first (x.end - x.first)
  -- where the records were not judged, nothing is said of them
  pub not_judged : (x : Account) → is_judged x.outcome ≡ false → (k : ℕ) → 2 ≤ k → part_at x k ≡ None
