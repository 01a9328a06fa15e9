-- An accepted visit does the five steps because the moved ring is made of them; a sound ring's differences lose nothing.
use Prim.Native.Nat.{ℕ, suc, ◌+◌, ◌-◌, ◌≤◌, ◌<◌}
use mathlib.Core.Path.{◌≡◌, refl, sym, ap, ◌∙◌}
use mathlib.Core.Bool.{true, false}
use mathlib.Core.List.{List}
use mathlib.Core.Logic.{◌⊎◌, ◌≢◌, ⊎_elim}
use native.Mathlib.Omega.{arith}
use borrow.Author.Tests.{leb-true, ltb-true, eqb-true, le-leb, lt-ltb, le-ltb, eq-eqb}
use lib.IntN.{pos, negsuc, sub_ℕ}
use lib.ListN.{length, set, length-set}
use lib.Seq.{get_or-set_same, get_or-set_other}
use Rattle.units.specs.Places.{at, raise}
use Rattle.units.proofs.PlaceLaws.{sum_part_lem, raise_inside, raise_length}
use Rattle.units.proofs.SmallLaws.{below_or_not}
use Rattle.units.proofs.JudgingLaws.{true_or_false, true_and, and-true}
use Rattle.rings.specs.State.{count, ttrt, following, share, unused_at, holds, Shaped, timers_of}
use Rattle.fddi_timer_rules.specs.Timers.{Timer, visited}
use Rattle.fddi_timer_rules.proofs.Timers.{later_ticks}
use Rattle.rings.specs.Timers.{limit, Fddi, rise, rise_since, timer_of, token_came, time_passed, timely_after}
use Rattle.rings.specs.Sound.{Sound}
use Rattle.rings.specs.Steps.{Ask, LengthNamed, sync_start, serves, sync_sent, async_sent, next_token, moved, completes, record_of}
use Rattle.ring_rules.specs.Promised.{Amounts, TimelyMoved, FddiMoved, Moved, Completed, NoneCompleted, Done}
use Rattle.rings.proofs.FrameLaws.{frames_sent_lem, frames_within, frames_none, ticks_sent}
use Rattle.rings.proofs.TimerLaws.{lead_within, fddi_or_not, limit_marked, limit_unmarked, offer_fddi, offer_timely, after_fddi, after_timely, came_late, came_early, offered_late, offered_early}
use Rattle.rings.proofs.ShapeLaws.{moved_shaped}
use Rattle.rings.proofs.StationLaws.{timer_here, timer_there, moved_long}
use Rattle.rings.proofs.RingLaws.{sound_plan, most_marked, most_unmarked, served, not_served, sync_most, sync_within}
use Rattle.rings.specs.declared.Ring.{Ring}

-- the margin is exact on both sides of 0
pub margin_kept : (deadline finish k : ℕ) → deadline ≡ finish + k → sub_ℕ deadline finish ≡ pos k
margin_kept deadline finish k e =
    let d : deadline - finish ≡ k = omega arith in
    rw (le-ltb deadline finish (omega arith)) (ap pos d)

pub margin_late : (deadline finish k : ℕ) → finish ≡ deadline + suc k → sub_ℕ deadline finish ≡ negsuc k
margin_late deadline finish k e =
    let d : finish - suc deadline ≡ k = omega arith in
    rw (lt-ltb deadline finish (omega arith)) (ap negsuc d)

-- an FDDI ring's u stays
unused_stays : (r : Ring) → Fddi r.set → (sync async : ℕ) → (moved r sync async).unused ≡ r.unused
unfolding moved time_passed token_came
unused_stays r e sync async = rw (after_fddi r e sync async)

module _ (r : Ring) (ask : Ask) (L : Shaped r) (s : Sound r) (named : LengthNamed r ask) where
  -- the token's station is one of the places
  inside : r.token < 128
  inside = omega (arith, s.token, (sound_plan r s).0.1)

  -- what is served has arrived by the start of the synchronous part
  not_before : (async : ℕ) → serves r async ≡ true → sync_start r async < at r.arrival r.token → ⊥
  not_before async e l =
      let n : at r.arrival r.token ≤ sync_start r async = leb-true _ _ (and-true (holds r r.token) _ e).1 in
      omega arith

  amounts : Amounts r ask (record_of r (sync_sent r (async_sent r ask)) (async_sent r ask))
  unfolding record_of
  amounts =
      record {
        limit = λ u n. limit_unmarked r u ∙ offer_timely r n;
        limit_late = λ u e l. limit_unmarked r u ∙ offer_fddi r e ∙ offered_late (ttrt r) (timer_of (timers_of r) r.token) l;
        limit_early = λ u e z. limit_unmarked r u ∙ offer_fddi r e ∙ offered_early (ttrt r) (timer_of (timers_of r) r.token) z;
        served = λ u h l. served r (async_sent r ask) (true_and _ _ (lt-ltb _ _ h) (le-leb _ _ l)) ∙ rw (most_unmarked r u) refl;
        early = λ l. ⊎_elim (λ (e : serves r (async_sent r ask) ≡ true). absurd (not_before (async_sent r ask) e l))
            (λ (e : serves r (async_sent r ask) ≡ false). not_served r (async_sent r ask) e)
            (true_or_false (serves r (async_sent r ask)));
        none = λ e. omega (arith, (sync_within r (async_sent r ask)).1);
        marked_limit = limit_marked r;
        marked_sync = λ m. omega (arith, (sync_most r (async_sent r ask)).0, most_marked r m);
        marked_async = λ m. rw (limit_marked r m) (frames_none ask);
        frames = refl;
        counted = frames_sent_lem (limit r) ask named.0;
        within = omega (arith, frames_within (limit r) ask named.0, named.1);
        shut = λ e. rw e (frames_none ask);
        ticks = λ e. ticks_sent (limit r) ask e;
      }

  -- the TRTs after a visit: all have risen by x, this station's by y
  abbrev risen : ℕ → ℕ → List ℕ
  risen x y = set (raise (count r) x r.trt) r.token y

  risen_long : (x y : ℕ) → length (risen x y) ≡ 128
  risen_long x y = length-set (raise (count r) x r.trt) r.token y ∙ (raise_length (count r) x r.trt ∙ L.trt)

  trt_here : (x y : ℕ) → at (risen x y) r.token ≡ y
  trt_here x y = get_or-set_same (raise (count r) x r.trt) r.token y 0 (omega (arith, inside, raise_length (count r) x r.trt, L.trt))

  trt_there : (x y i : ℕ) → i < count r → i ≢ r.token → at (risen x y) i ≡ at r.trt i + x
  trt_there x y i l n =
      get_or-set_other (raise (count r) x r.trt) r.token i y 0 (omega arith) ∙ raise_inside (count r) x r.trt i l (omega (arith, (sound_plan r s).0.1, L.trt))

  next_on : r.token + 1 < count r → next_token r ≡ r.token + 1
  unfolding following
  next_on l = rw (lt-ltb (r.token + 1) (count r) l)

  next_round : r.token + 1 ≡ count r → next_token r ≡ 0
  unfolding following
  next_round e = rw (le-ltb (r.token + 1) (count r) (omega arith))

  -- what remains of the held message
  rest_here : at (moved r (sync_sent r (async_sent r ask)) (async_sent r ask)).rest r.token ≡ at r.rest r.token - sync_sent r (async_sent r ask)
  unfolding moved
  rest_here = get_or-set_same r.rest r.token (at r.rest r.token - sync_sent r (async_sent r ask)) 0 (omega (arith, inside, L.rest))

  -- ---- the timers, by the mode

  module _ (sync async : ℕ) where
    timely_moved : ¬ Fddi r.set → sync ≤ share r r.token → TimelyMoved r (moved r sync async) (record_of r sync async)
    unfolding moved record_of timely_after
    timely_moved n within =
        let old : unused_at r r.token ≤ r.unused = omega (arith, (s.timers.timely n).unused, sum_part_lem (count r) (unused_at r) r.token s.token) in
        let sents : at r.sent r.token ≤ share r r.token = s.sents r.token s.token in
        rw (after_timely r n sync async)
        (record {
          unused = omega arith;
          trt_here = omega (arith, trt_here (rise r sync async) (rise_since r sync async), lead_within r.set async);
          trt_there = trt_there (rise r sync async) (rise_since r sync async);
          late = refl;
        })

    -- a token leaves a timer below TTRT
    visited_below : (ttrt : ℕ) (t : Timer) → t.timer < ttrt → (visited t).timer < ttrt
    visited_below ttrt t l =
        ⊎_elim (λ (b : 0 < t.count). rw (came_late t b) l) (λ (b : t.count ≤ 0). rw (came_early t (omega arith)) (omega arith)) (below_or_not 0 t.count)

    fddi_moved : Fddi r.set → FddiMoved r (moved r sync async) (record_of r sync async)
    unfolding record_of
    fddi_moved e =
        let below = (s.timers.fddi e).timers in
        let on = later_ticks (ttrt r) (rise r sync async) in
        record {
          timer_here = timer_here r L s e sync async ∙ on _ (visited_below (ttrt r) _ (below r.token s.token));
          timer_there = λ i l d. timer_there r L s e sync async i l d ∙ on _ (below i l);
          unused = unused_stays r e sync async;
        }

    timers_long : (length (moved r sync async).trt ≡ 128) × (length (moved r sync async).late ≡ 128)
    unfolding moved timely_after
    timers_long =
        ⊎_elim (λ e. moved_long r L s e sync async)
        (λ n. rw (after_timely r n sync async) (risen_long (rise r sync async) (rise_since r sync async), L.late))
        (fddi_or_not r.set)

  changed : Moved r (moved r (sync_sent r (async_sent r ask)) (async_sent r ask)) (record_of r (sync_sent r (async_sent r ask)) (async_sent r ask))
  unfolding moved record_of
  changed =
      let within = sync_within r (async_sent r ask) in
      record {
        timely = λ n. timely_moved (sync_sent r (async_sent r ask)) (async_sent r ask) n within.0;
        fddi = fddi_moved (sync_sent r (async_sent r ask)) (async_sent r ask);
        sent = get_or-set_same r.sent r.token (sync_sent r (async_sent r ask)) 0 (omega (arith, inside, L.sent));
        rest = omega (arith, rest_here);
        clock = refl;
        on = next_on;
        round = next_round;
        visits = refl;
        last = get_or-set_same r.last r.token (sync_start r (async_sent r ask)) 0 (omega (arith, inside, L.last));
        set = refl;
        alloc = refl;
        arrival = refl;
        had = refl;
        mark = refl;
        sents = λ j n. get_or-set_other r.sent r.token j (sync_sent r (async_sent r ask)) 0 (omega arith);
        rests = λ j n. get_or-set_other r.rest r.token j _ 0 (omega arith);
        lasts = λ j n. get_or-set_other r.last r.token j (sync_start r (async_sent r ask)) 0 (omega arith);
        shaped = let long = timers_long (sync_sent r (async_sent r ask)) (async_sent r ask) in moved_shaped r L _ _ long.0 long.1;
      }

  completed : 0 < at r.rest r.token → at (moved r (sync_sent r (async_sent r ask)) (async_sent r ask)).rest r.token ≡ 0
      → Completed r (record_of r (sync_sent r (async_sent r ask)) (async_sent r ask))
  unfolding record_of
  completed h e =
      let yes : completes r (sync_sent r (async_sent r ask)) ≡ true = true_and _ _ (lt-ltb _ _ h) (eq-eqb _ _ (sym rest_here ∙ e)) in
      record { flag = rw yes; finish = rw yes; margin = rw yes }

  left : (at r.rest r.token ≡ 0) ⊎ (0 < at (moved r (sync_sent r (async_sent r ask)) (async_sent r ask)).rest r.token)
      → NoneCompleted (record_of r (sync_sent r (async_sent r ask)) (async_sent r ask))
  unfolding record_of
  left w =
      let no : completes r (sync_sent r (async_sent r ask)) ≡ false =
      ⊎_elim (λ (e : completes r (sync_sent r (async_sent r ask)) ≡ true).
      let both = and-true (holds r r.token) _ e in
      let some : 0 < at r.rest r.token = ltb-true _ _ both.0 in
      let nothing : at r.rest r.token - sync_sent r (async_sent r ask) ≡ 0 = eqb-true _ _ both.1 in
      absurd (⊎_elim (λ (n : at r.rest r.token ≡ 0). omega arith)
      (λ (n : 0 < at (moved r (sync_sent r (async_sent r ask)) (async_sent r ask)).rest r.token). omega (arith, rest_here))
      w))
      (λ (e : completes r (sync_sent r (async_sent r ask)) ≡ false). e)
      (true_or_false (completes r (sync_sent r (async_sent r ask)))) in
      record { flag = rw no; finish = rw no; margin = rw no }

  pub done : Done r ask (moved r (sync_sent r (async_sent r ask)) (async_sent r ask)) (record_of r (sync_sent r (async_sent r ask)) (async_sent r ask))
  unfolding record_of
  done =
      record {
        station = refl;
        start = refl;
        trt = refl;
        amounts = amounts;
        moved = changed;
        completed = completed;
        left = left;
      }
