-- What every run of an FDDI ring keeps beside what every run keeps: the stations' numbers, and with them how far apart the token's arrivals are.
use Prim.Native.Nat.{ℕ, ◌+◌, ◌≤◌}
use mathlib.Core.Path.{◌≡◌, refl, sym, ap, ◌∙◌}
use mathlib.Core.List.{List}
use native.Mathlib.Omega.{arith}
use Rattle.units.specs.declared.Station.{Station}
use Rattle.sets.specs.Rules.{tau}
use Rattle.sets.specs.declared.Set.{Set}
use Rattle.plans.specs.declared.Alloc.{Alloc}
use Rattle.rings.specs.Steps.{Ask, visit_number}
use Rattle.rings.specs.Timers.{Fddi, silent_trt}
use Rattle.rings.specs.HandingIn.{hand_in_number}
use Rattle.rings.specs.Marking.{marked, unmarked}
use Rattle.rings.specs.declared.Ring.{Ring}
use Rattle.rings.specs.declared.Message.{Message}
use Rattle.promises.specs.Run.{Call, Event, Run, opened, run_of, ring_of, records_in, records, records_of}
use Rattle.promises.specs.History.{overrun_of, latest_of, Each}
use Rattle.promises.specs.Facts.{timing, VisitLaps, Switching}
use Rattle.promises.specs.Valid.{Apart, FirstWithin, NeverLate, FddiKept, all_shares}
use Rattle.promises.proofs.Lists.{each_of}
use Rattle.promises.proofs.Course.{Plan}
use Rattle.promises.proofs.Laps.{Lapped, latest_within, late_small, rise_small, lapped_kept, first_within}
use Rattle.promises.proofs.Steps.{visit_laps, mark_switching, unmark_switching}
use Rattle.promises.proofs.Opening.{opened_places, opened_range, opened_lapped, opened_stored, opened_told, opened_passed, opened_clear, opened_mark}
use Rattle.promises.proofs.Soundness.{is_sound_lem, lapped_sound}
use Rattle.promises.proofs.Runs.{Kept, made, moved_run, held_run, marked_run, unmarked_run, kept_marked, kept_unmarked, course_facts, next_stored, next_range, kept_moved, message_facts, kept_held, Steady, steady_run}

-- TTRT + the sum of S + (F − 1)
abbrev most : Set → Alloc → ℕ
most t a = t.head.ttrt + all_shares t a + overrun_of t

pub record Older (t : Set) (a : Alloc) (s : Run) : Type 0 where
  pub common : Kept t a s
  pub lapped : Lapped t a (timing s.ring) (records s)
  pub apart : Each (Apart (most t a)) (records s)
  pub first : Each (FirstWithin t (most t a)) (records s)

module _ (t : Set) (a : Alloc) (P : Plan t a) (s : Run) (K : Older t a s) where
  lap_facts : (ask : Ask) → visit_number s.ring ask ≡ 0 → VisitLaps t a (timing s.ring) (timing (moved_run s ask).ring) (made s ask)
  lap_facts ask go = visit_laps s.ring K.common.places ask go t a K.common.course.set K.common.course.alloc K.lapped.mode

  -- the token's station was visited at most so long ago
  made_apart : (ask : Ask) → visit_number s.ring ask ≡ 0 → Apart (most t a) (made s ask) (records s)
  made_apart ask go u e =
      let C = course_facts t a P s K.common ask go in
      let own = ap (λ (i : ℕ). latest_of i (records s)) (sym C.station) ∙ e in
      omega (arith, C.start, latest_within t a (timing s.ring) (records s) P K.lapped s.ring.token K.common.course.token u own)

  -- or, at its first visit, passed by the silent rotation at most so long ago
  made_first : (ask : Ask) → visit_number s.ring ask ≡ 0 → FirstWithin t (most t a) (made s ask) (records s)
  made_first ask go e =
      let C = course_facts t a P s K.common ask go in
      let own = ap (λ (i : ℕ). latest_of i (records s)) (sym C.station) ∙ e in
      omega (arith, C.start, ap (silent_trt t) C.station, first_within t a (timing s.ring) (records s) P K.lapped s.ring.token K.common.course.token own)

  older_moved : (ask : Ask) → visit_number s.ring ask ≡ 0 → Older t a (moved_run s ask)
  older_moved ask go =
      let r = timing s.ring in
      let q = timing (moved_run s ask).ring in
      let C = course_facts t a P s K.common ask go in
      let lapped = lapped_kept t a r q (made s ask) (records s) P K.lapped C (lap_facts ask go) in
      let short = rise_small t a r q (made s ask) (records s) P K.lapped C (lap_facts ask go) in
      let timers = lapped_sound t a (moved_run s ask).ring (records (moved_run s ask)) P lapped in
      let sound = is_sound_lem t a (moved_run s ask).ring (records (moved_run s ask)) P lapped.course (next_range t a P s K.common ask go short) timers (next_stored t a P s K.common ask go) in
      record {
        common = kept_moved t a P s K.common ask go short sound;
        lapped = lapped;
        apart = (made_apart ask go, K.apart);
        first = (made_first ask go, K.first);
      }

  older_held : (m : Message) → hand_in_number s.ring m ≡ 0 → Older t a (held_run s m)
  older_held m e =
      record {
        common = kept_held t a P s K.common m e;
        lapped = rw (message_facts t a P s K.common m e).timing_same K.lapped;
        apart = K.apart;
        first = K.first;
      }

  -- a mark set or taken off
  older_switched : (q : Ring) → Switching s.ring q → (es : List Event) → records_in es ≡ records s → Kept t a (record { ring = q; events = es }) → Older t a (record { ring = q; events = es })
  older_switched q W es same common =
      record { common = common; lapped = rw (same, W.timing_same) K.lapped; apart = rw same K.apart; first = rw same K.first }

  older_marked : (p : Station) → (marked s.ring p).answer.number ≡ 0 → Older t a (marked_run s p)
  older_marked p e =
      older_switched (marked s.ring p).ring (mark_switching s.ring K.common.places p) (marked_run s p).events refl (kept_marked t a P s K.common p e)

  older_unmarked : (p : Station) → (unmarked s.ring p).number ≡ 0 → Older t a (unmarked_run s p)
  older_unmarked p e =
      older_switched (unmarked s.ring p).ring (unmark_switching s.ring K.common.places p) (unmarked_run s p).events refl (kept_unmarked t a P s K.common p e)

pub older_steady : (t : Set) (a : Alloc) → Plan t a → Steady t a (Older t a)
older_steady t a P = record { common = λ s K. K.common; moves = older_moved t a P; takes = older_held t a P; marks = older_marked t a P; unmarks = older_unmarked t a P }

older_opened : (t : Set) (a : Alloc) → Plan t a → Fddi t → Older t a (opened t a)
older_opened t a P e =
    let lapped = opened_lapped t a P e in
    let timers = lapped_sound t a (opened t a).ring (records (opened t a)) P lapped in
    record {
      common =
          record {
            places = opened_places t a P;
            course = lapped.course;
            range = opened_range t a P;
            stored = opened_stored t a P;
            told = opened_told t a P;
            passed = opened_passed t a P;
            clear = opened_clear t a P;
            walked = tt;
            marks = λ i l. opened_mark t a P i;
            marks_told = tt;
            turns = tt;
            shares = tt;
            sound = is_sound_lem t a (opened t a).ring (records (opened t a)) P lapped.course (opened_range t a P) timers (opened_stored t a P);
          };
      lapped = lapped;
      apart = tt;
      first = tt;
    }

pub older : (t : Set) (a : Alloc) → Plan t a → Fddi t → (calls : List Call) → Older t a (run_of t a calls)
older t a P e calls = steady_run t a P (Older t a) (older_steady t a P) (opened t a) (older_opened t a P e) calls

-- ---- what is promised

-- arrivals that are at most so much apart are at most more apart
wider : (t : Set) (a : Alloc) (x y : ℕ) → x ≤ y → NeverLate t a x → NeverLate t a y
wider t a x y l N =
    record {
      apart = λ calls. each_of (λ v before k u e. omega (arith, k u e)) (records_of t a calls) (N.apart calls);
      since = λ calls i b u e. omega (arith, N.since calls i b u e);
    }

pub fddi_kept : (t : Set) (a : Alloc) → Plan t a → Fddi t → FddiKept t a
fddi_kept t a P e =
    let sooner : NeverLate t a (most t a) = record {
      apart = λ calls. (older t a P e calls).apart;
      since = λ calls i l u g. latest_within t a (timing (ring_of t a calls)) (records_of t a calls) P (older t a P e calls).lapped i l u g;
    } in
    record {
      never_late = wider t a (most t a) (t.head.ttrt + all_shares t a + tau t + overrun_of t) (omega arith) sooner;
      sooner = sooner;
      first = λ calls. (older t a P e calls).first;
      first_since = λ calls. first_within t a (timing (ring_of t a calls)) (records_of t a calls) P (older t a P e calls).lapped;
      lates = λ calls. late_small t a (timing (ring_of t a calls)) (records_of t a calls) P (older t a P e calls).lapped;
    }
