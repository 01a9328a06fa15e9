-- What `specs/Promised.antt` promises.
use Prim.Native.Nat.{ℕ}
use mathlib.Core.Path.{◌≡◌, refl}
use mathlib.Core.Bool.{false}
use mathlib.Core.List.{List}
use Rattle.reasons.specs.Shortages.{shortage_of}
use Rattle.command_explain.specs.Sheet.{is_plan, account_of, explained}
use Rattle.command_explain.specs.Promised.{Promised}
use Rattle.command_explain.proofs.NumberLaws.{as_request_lem, as_plan}
use Rattle.command_explain.proofs.PlaceLaws as places
use Rattle.command_explain.proofs.KindLaws.{kinds_all}
use Rattle.command_explain.proofs.ListedLaws.{listed, header_listed}
use Rattle.command_explain.proofs.RangeLaws.{four}
use Rattle.command_explain.proofs.SaidLaws.{said, said_ttrt}

missing : (bs : List ℕ) → is_plan bs ≡ false → (explained bs).sums.missing ≡ (shortage_of (explained bs).set).missing
unfolding account_of
missing bs e = rw e refl

pub promised : Promised
promised =
    record {
      request = as_request_lem;
      plan = as_plan;
      place = places.place;
      passed = places.passed;
      kinds_all = kinds_all;
      listed = listed;
      header_listed = header_listed;
      missing = missing;
      said_ttrt = said_ttrt;
      said = said;
      four = four;
    }
