-- The promises of the reader and of the walk over a sheet, proved.
use mathlib.Core.Path.{◌≡◌, sym, ap, ◌∙◌}
use native.Mathlib.Omega.{arith}
use Rattle.fields.specs.Fields.{behind}
use Rattle.fields.proofs.FieldLaws.{field_says, field_handed, handed_number}
use Rattle.fields.specs.declared.Field.{Field}
use Rattle.fields.specs.declared.Passed.{Passed}
use Rattle.field_reader.specs.Cursor.{cursor_after, field_of}
use Rattle.field_reader.specs.Promised.{HandedWhole, Promised}
use Rattle.field_reader.specs.declared.Reader.{Reader}
use Rattle.field_reader.specs.declared.Scanned.{Scanned}
use Rattle.field_reader.proofs.CursorLaws.{stays}
use Rattle.field_reader.proofs.ScannedLaws.{cursor_behind, fault_there, end_there, stopped, shape_fault, shape_whole}

handed_out_lem : (reader : Reader) (passed : Passed) → (field_of reader passed).number ≡ 0 → HandedWhole reader passed
handed_out_lem reader passed z =
    let bs = reader.sheet.now in
    let w = field_says bs reader.at passed (sym (handed_number _ _ _ _) ∙ z) in
    let e = field_handed bs reader.at passed w in
    let c : cursor_after reader.at (field_of reader passed) ≡ behind reader.sheet.now reader.at = cursor_behind bs reader.at passed w in
    record {
      may_stand_lem = w.allowed;
      tag = ap (λ (f : Field). f.tag) e;
      body = ap (λ (f : Field). f.body) e;
      cursor = c;
      inside = omega (arith, c, w.inside);
    }

pub promised : Promised
promised =
    record {
      accepted = handed_out_lem;
      refused = λ reader passed h. stays reader.at (field_of reader passed) h;
      handed = λ plan bs. (stopped plan bs).before;
      first_fault = λ plan bs k some. (shape_fault plan bs k some, λ f. ap (λ (r : Scanned). r.number) (fault_there plan bs k f));
      none = λ plan bs. (shape_whole plan bs, λ w. ap (λ (r : Scanned). r.number) (end_there plan bs w));
      fault_there = fault_there;
      end_there = end_there;
    }
