-- The promises of this layer, proved.
use Rattle.std.proofs.Common.{◌≡◌, ℕ, ◌≤◌, List, drop, sym, refl, ap, ◌∙◌, subst}
use Rattle.sets.specs.declared.Set.{Set}
use Rattle.sheets.specs.Reading.{plan_start}
use Rattle.logs.specs.Reading.{read_log, entries_in}
use Rattle.inspection.specs.Opening.{begun}
use Rattle.inspection_stream.specs.Inspecting.{none_looked}
use Rattle.inspection_stream.proofs.WholeLaws.{handed_read, plan_read_lem}
use Rattle.tallies.specs.Tallies.{nothing_seen}
use Rattle.picture_stream.specs.Watching.{watch_start, watch_over, drawn_over, watch_all}
use Rattle.picture_stream.specs.Promised.{drawn_in, KeptSeen, Promised}
use Rattle.picture_stream.specs.declared.Window.{Window}
use Rattle.picture_stream.specs.declared.Watching.{Watching}
use Rattle.picture_stream.proofs.OverLaws.{watch_append, drawn_append, seen_over, over_is, inspects_over, drawn_is, first_piece, drawn_first}
use Rattle.picture_stream.proofs.KeptLaws.{kept_from, laps_of_all}
use Rattle.picture_stream.proofs.KnownLaws.{few_stations, all_known}
use Rattle.picture_stream.proofs.WindowLaws.{named_is, window_shown}
use Rattle.picture_stream.proofs.StopLaws.{goes_on}

module _ (bs : List ℕ) (z : (read_log bs).number ≡ 0) where
  seen_read : (watch_over (watch_start bs) (drop (plan_start bs).at bs)).seen ≡ seen_over (plan_start bs).set (plan_start bs).alloc (none_looked (plan_start bs).set (plan_start bs).alloc) nothing_seen (entries_in bs)
  seen_read =
      let s = plan_start bs in
      ap (λ (k : Watching). k.seen) (over_is (watch_start bs) (drop s.at bs))
      ∙ ap (seen_over s.set s.alloc (none_looked s.set s.alloc) nothing_seen) (handed_read bs z)

  kept_seen : KeptSeen (read_log bs).set (read_log bs).alloc (entries_in bs) (watch_all bs).seen
  unfolding begun
  kept_seen =
      let t = (plan_start bs).set in
      let a = (plan_start bs).alloc in
      let l = none_looked t a in
      let k = kept_from t a l nothing_seen (entries_in bs) refl refl in
      let plan = plan_read_lem bs z in
      rw (← plan.0, ← plan.1, seen_read) record {
        kept = k.kept;
        behind = k.behind;
        place = k.place;
        rule = k.rule;
        named = k.named;
        known = all_known t a (subst (λ (u : Set). u.n ≤ 128) (sym plan.0) (few_stations bs z)) l.inspection k.kept refl k.rule;
        numbers = k.numbers;
        lap = k.lap;
        all = laps_of_all t a l nothing_seen (entries_in bs);
      }

  drawn_read : (x : Window) → drawn_over x (watch_start bs) (drop (plan_start bs).at bs) ≡ drawn_in x (read_log bs).set.n (read_log bs).set.w nothing_seen.course.all nothing_seen.mark (entries_in bs)
  drawn_read x =
      let s = plan_start bs in
      rw (← (plan_read_lem bs z).0)
      (drawn_is x (watch_start bs) (drop s.at bs) ∙ ap (drawn_in x s.set.n s.set.w nothing_seen.course.all nothing_seen.mark) (handed_read bs z))

pub promised : Promised
promised =
    record {
      pieces = watch_append;
      drawn_pieces = drawn_append;
      inspects = inspects_over;
      inspects_all = λ bs. inspects_over (watch_start bs) (drop (plan_start bs).at bs);
      first_piece = first_piece;
      drawn_first = λ x head rest enough. drawn_first head rest enough x;
      goes_on = goes_on;
      kept_seen = kept_seen;
      drawn = λ x bs z. drawn_read bs z x;
      window = λ bs z few. window_shown bs z few (kept_seen bs z);
      window_named = named_is;
    }
