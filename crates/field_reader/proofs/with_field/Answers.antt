-- `with_field` is right because it asks for the station's tag and then the allocation's, as the definition does.
use mathlib.Core.Path.{refl}
use borrow.Author.Tests.{eq-eqb, ne_eqb}
use Rattle.field_reader.specs.Scanned.{with_field}
use Rattle.field_reader.proofs.with_field.Goals as goal

pub returns-then-tag-eq-STATION_TAG : goal.returns-then-tag-eq-STATION_TAG
unfolding with_field
returns-then-tag-eq-STATION_TAG c =
    rw (eq-eqb _ _ c.if-tag-eq-STATION_TAG.true) refl

pub returns-then-tag-eq-ALLOCATION_TAG : goal.returns-then-tag-eq-ALLOCATION_TAG
unfolding with_field
returns-then-tag-eq-ALLOCATION_TAG c =
    rw (ne_eqb _ _ c.if-tag-eq-STATION_TAG.false, eq-eqb _ _ c.if-tag-eq-ALLOCATION_TAG.true) refl

pub returns : goal.returns
unfolding with_field
returns c =
    rw (ne_eqb _ _ c.if-tag-eq-STATION_TAG.false, ne_eqb _ _ c.if-tag-eq-ALLOCATION_TAG.false) refl
