-- `read_columns` is right because it reads the header and the five columns at their places, one after another.
use mathlib.Core.Path.{refl}
use Rattle.sheets.proofs.reading.read_columns.Goals as goal

pub returns-clause-set : goal.returns-clause-set
returns-clause-set c =
    rw (
      c.read_head-t.ensures,
      c.read_column.ensures,
      c.read_column-2.ensures,
      c.read_column-3.ensures,
      c.read_column-4.ensures,
      c.requires.1.0,
    )
    refl
