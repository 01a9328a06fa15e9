-- What `specs/Promised.antt` promises.
use Rattle.std.proofs.Common.{◌≡◌, ◌-◌, true, false, ◌≢◌, ap, ◌∙◌}
use Rattle.units.specs.Numbers.{fddi}
use Rattle.sets.specs.declared.Set.{Set}
use Rattle.plans.specs.declared.Alloc.{Alloc}
use Rattle.inspection.specs.declared.Inspection.{Inspection}
use Rattle.picture_stream.proofs.Promised.{promised as of-stream}
use Rattle.pictures.specs.Parts.{no_pen}
use Rattle.pictures.specs.Picture.{picture_of}
use Rattle.command_page.specs.Account.{due_of}
use Rattle.command_page.specs.Promised.{Promised}
use Rattle.command_page.proofs.AccountLaws.{says_accepted, only_accepted, says_plan_refused, says_refused, says_another, says_broken, plan_number_lem, log_number_lem, not_through, when_through, timely_with, fddi_with, bound_whole}
use Rattle.command_page.proofs.PartLaws.{station_row, did_row_lem, none_at}
use Rattle.command_page.proofs.RowLaws.{table_shown}
use Rattle.command_page.proofs.PictureLaws.{gone_then, draws_on}
use Rattle.command_page.proofs.LogLines.{lines_drawn}

timely_limit_lem : (s : Inspection) (t : Set) (a : Alloc) → (due_of s t a).through ≡ false → t.head.mode ≢ fddi
    → (due_of s t a).expected.limit ≡ t.head.ttrt - (t.head.frame - 1) - (due_of s t a).unused - (due_of s t a).run
timely_limit_lem s t a e n = not_through _ _ e ∙ timely_with t.head _ _ n

fddi_limit_lem : (s : Inspection) (t : Set) (a : Alloc) → (due_of s t a).through ≡ false → t.head.mode ≡ fddi
    → (due_of s t a).expected.limit ≡ t.head.ttrt - (due_of s t a).run
fddi_limit_lem s t a e f = not_through _ _ e ∙ fddi_with t.head _ _ f

through_limit : (s : Inspection) (t : Set) (a : Alloc) → (due_of s t a).through ≡ true
    → ((due_of s t a).expected.limit ≡ 0) × ((due_of s t a).expected.share ≡ 0)
through_limit s t a e = (when_through _ _ e, when_through _ _ e)

pub promised : Promised
promised =
    record {
      says_accepted = says_accepted;
      only_accepted = only_accepted;
      says_plan_refused = says_plan_refused;
      says_refused = says_refused;
      says_another = says_another;
      says_broken = says_broken;
      plan_number_lem = plan_number_lem;
      log_number_lem = log_number_lem;
      timely_limit_lem = timely_limit_lem;
      fddi_limit_lem = fddi_limit_lem;
      through_limit = through_limit;
      bound = bound_whole;
      stations = station_row;
      dids = did_row_lem;
      table = table_shown;
      draws_on = draws_on;
      goes_over = gone_then;
      picture = λ c x bs z. ap (picture_of c no_pen) (of-stream.drawn x bs z);
      lines = lines_drawn;
      not_judged = none_at;
    }
