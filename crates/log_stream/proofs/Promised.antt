-- Everything that `specs/Promised.antt` lists, proved.
use Rattle.log_stream.specs.Promised.{Promised}
use Rattle.log_stream.proofs.FieldLaws.{read_append, handed_append}
use Rattle.log_stream.proofs.WholeLaws.{whole_read}

pub promised : Promised
promised =
    record {
      pieces_read = read_append;
      pieces_handed = handed_append;
      same_number = λ bs a l. (whole_read bs a l).ends;
      same_entries = λ bs a l. (whole_read bs a l).hands;
    }
