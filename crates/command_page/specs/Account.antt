-- What the page's parts are made of: the answer, the plan as a whole, what the named record must have, and what was seen.
use Rattle.std.specs.Prelude.{ℕ, ◌+◌, ◌-◌, ◌^◌, min, Bool, cond, not, ◌&&◌, ◌==◌}
use Rattle.units.specs.Numbers.{accepted, fddi, earlier}
use Rattle.units.specs.Places.{at, sum_below}
use Rattle.sets.specs.Rules.{tau}
use Rattle.sets.specs.declared.Set.{Set}
use Rattle.plans.specs.Rules.{spare_time}
use Rattle.plans.specs.declared.Alloc.{Alloc}
use Rattle.sheets.specs.declared.ReadPlan.{ReadPlan}
use Rattle.differences.specs.Differences.{is_same_plan}
use Rattle.inspection.specs.Counter.{ticks_later, ticks_between}
use Rattle.inspection.specs.Rules.{place, expected}
use Rattle.inspection.specs.Findings.{broken_record}
use Rattle.inspection.specs.declared.Inspection.{Inspection}
use Rattle.inspection_stream.specs.Inspecting.{inspect_number}
use Rattle.inspection_stream.specs.declared.Inspecting.{Inspecting}
use Rattle.picture_stream.specs.Watching.{window_of, lines_of}
use Rattle.picture_stream.specs.declared.Watching.{Watching}
use Rattle.pictures.specs.declared.Scene.{Scene}
use Rattle.command_page.specs.declared.Outcome.{Outcome}
use Rattle.command_page.specs.declared.Outcome.TheVariants as outcome
use Rattle.command_page.specs.declared.Due.{Due}
use Rattle.command_page.specs.declared.Sums.{Sums}
use Rattle.command_page.specs.declared.Account.{Account}

-- ---- the answer

-- the log's plan is not that of the plan sheet
abbrev pub is_other : ReadPlan → Inspecting → Bool
is_other p k = not (is_same_plan p.set p.alloc k.start.set k.start.alloc)

-- the plan sheet's refusal, the log's, another plan, a broken rule, or none; the plan sheet plays a part only where it is given
unfoldable pub outcome_of : Bool → ReadPlan → Inspecting → Outcome
outcome_of given p k =
    cond (given && not (p.number == accepted)) outcome.PlanRefused
    (cond (not (inspect_number k == accepted)) outcome.Refused
    (cond (given && is_other p k) outcome.Another
    (cond (k.looked.inspection.rule == 0) outcome.Accepted outcome.Broken)))

-- the number of the refusal
unfoldable pub refusal_of : Bool → ReadPlan → Inspecting → ℕ
refusal_of given p k = cond (given && not (p.number == accepted)) p.number (inspect_number k)

-- ---- the plan as a whole

-- within how many ticks the token is back: TTRT; in FDDI TTRT, the sum of S and F − 1
unfoldable pub bound_ticks : Set → Alloc → ℕ
bound_ticks t a =
    cond (t.head.mode == fddi) (t.head.ttrt + sum_below t.n (at a.s) + (t.head.frame - 1)) t.head.ttrt

-- as a number of 32 bits, which every plan's is
abbrev pub bound_of : Set → Alloc → ℕ
bound_of t a = min (bound_ticks t a) (2 ^ 32 - 1)

abbrev pub sums_of : Set → Alloc → Sums
sums_of t a =
    record {
      sum = sum_below t.n (at a.s);
      tau = tau t;
      spare = spare_time t (at a.s);
      burst = spare_time t (at a.s) + (t.head.frame - 1);
      bound = bound_of t a;
    }

-- ---- what the record behind those of an inspection must have, and where it comes from

abbrev pub due_of : Inspection → Set → Alloc → Due
due_of s t a =
    record {
      expected = expected s t a;
      start = ticks_later s.course.start s.course.span;
      unused = s.course.unused;
      run = ticks_between (at s.base (place s)) s.course.clock;
      through = not (at s.mark (place s) == 0);
    }

-- ---- all of it

abbrev pub account_of : Bool → ReadPlan → Watching → Account
account_of given p k =
    let inspecting = k.inspecting in
    let t = inspecting.start.set in
    let a = inspecting.start.alloc in
    let s = inspecting.looked.inspection in
    record {
      outcome = outcome_of given p inspecting;
      number = refusal_of given p inspecting;
      set = t;
      alloc = a;
      sums = sums_of t a;
      named = broken_record s;
      rule = s.rule;
      last = inspecting.looked.last;
      due = due_of s t a;
      records = s.records;
      numbers = k.seen.numbers;
      window = window_of k;
      lines = lines_of k;
    }

-- what the picture is drawn by
abbrev pub scene_of : Account → Scene
scene_of x =
    record {
      bound = x.sums.bound;
      earlier = (x.set.head.mode == earlier);
      n = x.set.n;
      w = x.set.w;
      named = x.named;
    }
