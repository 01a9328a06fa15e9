-- Everything that `specs/Promised.antt` lists, proved.
use mathlib.Core.Path.{◌≡◌, refl, sym, ap, ◌∙◌}
use native.Mathlib.Omega.{arith}
use Rattle.units.specs.Places.{zeros, sum_below, all_below, fill}
use Rattle.units.specs.Judging.{or_else}
use Rattle.sets.specs.Rules.{head_in_range, station_in_range}
use Rattle.sets.specs.Judged.{judged_then}
use Rattle.plans.specs.Rules.{time_at}
use Rattle.plans.specs.Planned.{answered, smallest_with}
use Rattle.hopper.specs.Wagons.{wagon_fits, judged_list}
use Rattle.hopper.specs.Requests.{list_planned, planned_with}
use Rattle.hopper.proofs.WagonLaws.{list_fits}
use Rattle.hopper.proofs.RequestLaws.{request_given}
use Rattle.hopper_rules.specs.Promised.{Promised, Fitted, twelve, planner_on}
use Rattle.hopper_rules.proofs.SheetLaws.{has_numbers, sheet_bytes, read_back}
use Rattle.hopper_rules.proofs.AnswerLaws.{answer_two, answer_four, answer_six, answer_only, answer_blank, planner_on_lem, sheet_written, sheet_taken, sheet_short, none_written}
use Rattle.hopper_rules.proofs.ShareLaws.{shares_half, has_room}
use Rattle.hopper_rules.proofs.ChangeLaws.{refused_stays, accepted_moves, kept_after, coupled_moves, coupled_says, coupled_stays, wagon_moves, change_two, change_four, change_nine, change_planned, more_stands, no_thirteenth, none_left}

fitted : Fitted
fitted =
    record {
      bare = λ b. omega arith;
      brake = λ b. omega arith;
      door = λ b. omega arith;
      both = λ b. omega arith;
    }

-- ---- the examples, computed

full : (list_planned (twelve 1)).number ≡ 6
unfolding planned_with judged_list wagon_fits answered time_at smallest_with or_else fill judged_then all_below sum_below head_in_range station_in_range
full = refl

fit : list_planned (twelve 0) ≡ record { alloc = record { s = fill 12 (λ i. 19) zeros }; number = 0 }
unfolding planned_with judged_list wagon_fits answered time_at smallest_with or_else fill judged_then all_below sum_below head_in_range station_in_range
fit = refl

pub promised : Promised
promised =
    record {
      two = answer_two;
      four = answer_four;
      six = answer_six;
      only = answer_only;
      numbers = has_numbers;
      fitted = fitted;
      bytes = sheet_bytes;
      read = read_back;
      request = λ l h. request_given l ((list_fits l).1 h);
      written = λ l out h fits. sheet_written l out h fits;
      short = sheet_short;
      no_sheet = λ l out unfit. none_written l out unfit;
      no_plan = answer_blank;
      planners = planner_on_lem;
      planners_written = λ l out h fits. planner_on_lem l h ∙ ap planner_on (sym (sheet_taken l out h fits));
      shares = shares_half;
      room = has_room;
      coupled_train = coupled_moves;
      coupled_number = coupled_says;
      coupled_blank = coupled_stays;
      in_force = λ l cs h. kept_after _ cs (coupled_moves l h).1;
      refused_change = refused_stays;
      accepted_change = accepted_moves;
      wagon_changed = wagon_moves;
      wagon_two = change_two;
      wagon_four = change_four;
      wagon_nine = change_nine;
      wagon_planned = change_planned;
      one_more_lem = more_stands;
      thirteenth = no_thirteenth;
      last_off_lem = λ l i h. (omega arith, refl);
      only_one_off = none_left;
      twelve_full = full;
      twelve_fit = fit;
    }
