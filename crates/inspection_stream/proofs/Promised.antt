-- Everything that `specs/Promised.antt` lists, proved.
use Rattle.inspection_stream.specs.Promised.{Promised}
use Rattle.inspection_stream.proofs.WholeLaws.{over_append, start_stays, first_then, number_whole, fault_stays, plan_read_lem, inspection_read, rule_read, record_read, records_read_lem, broken_read}

pub promised : Promised
promised =
    record {
      pieces = over_append;
      first_piece = first_then;
      same_plan = start_stays;
      same_number = number_whole;
      fault_ends = fault_stays;
      same_plan_read = plan_read_lem;
      same_inspection = inspection_read;
      same_rule = rule_read;
      same_record = record_read;
      same_records = records_read_lem;
      same_broken = broken_read;
    }
