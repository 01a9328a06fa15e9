-- `version_stands` is right because it goes by the tests of the definition, in their order.
use Prim.Native.Nat.{ℕ, ◌+◌, ◌-◌}
use mathlib.Core.Path.{◌≡◌, sym, ap, ◌∙◌}
use mathlib.Core.List.{List}
use native.Mathlib.Omega.{arith}
use lib.ListN.{take, drop}
use Rattle.fields.specs.Bytes.{number_at}
use Rattle.fields.specs.Fields.{size_at}
use Rattle.sheets.specs.Reading.{number_or_zero}
use Rattle.versions.specs.Area.{is_plan}
use Rattle.versions.proofs.AreaLaws.{FieldHere, field_here, number_there, stands_not, stands_other, stands_plan}
use Rattle.versions.proofs.area.version_stands.Goals as goal

-- the number that is read is that of the field
number_read : {bs : List ℕ} {at read : ℕ} → FieldHere bs at → read ≡ number_or_zero bs (at + 3) → read ≡ number_at bs (at + 3)
number_read here e = e ∙ number_there _ _ (omega (arith, here.start))

pub returns-then-not-version_fits : goal.returns-then-not-version_fits
returns-then-not-version_fits c =
    sym (stands_not _ _ _ (sym c.version_fits.ensures ∙ c.if-not-version_fits.true))

pub overflow_add-at : goal.overflow_add-at
overflow_add-at c =
    let here = field_here _ _ (sym c.version_fits.ensures ∙ c.if-not-version_fits.false) in
    omega (arith, here.inside)

pub returns-then-from-number : goal.returns-then-from-number
returns-then-from-number c =
    let fits = sym c.version_fits.ensures ∙ c.if-not-version_fits.false in
    let read = c.from.ensures ∙ number_read (field_here _ _ fits) c.number_from-there.ensures in
    sym (stands_other _ _ _ fits (λ n. c.if-from-number.true (read ∙ n)))

pub size_at-size-requires : goal.size_at-size-requires
size_at-size-requires c =
    let here = field_here _ _ (sym c.version_fits.ensures ∙ c.if-not-version_fits.false) in
    omega (arith, here.start)

pub overflow_add-at-2 : goal.overflow_add-at-2
overflow_add-at-2 c =
    let here = field_here _ _ (sym c.version_fits.ensures ∙ c.if-not-version_fits.false) in
    omega (arith, here.start)

pub overflow_add-at-3 : goal.overflow_add-at-3
overflow_add-at-3 c =
    let here = field_here _ _ (sym c.version_fits.ensures ∙ c.if-not-version_fits.false) in
    omega (arith, here.start)

pub overflow_add-at-4 : goal.overflow_add-at-4
overflow_add-at-4 c =
    let here = field_here _ _ (sym c.version_fits.ensures ∙ c.if-not-version_fits.false) in
    omega (arith, here.inside, c.size_at-size.ensures.is)

pub is_plan-requires : goal.is_plan-requires
is_plan-requires c =
    let here = field_here _ _ (sym c.version_fits.ensures ∙ c.if-not-version_fits.false) in
    (omega (arith, here.some, c.size_at-size.ensures.is), omega (arith, here.inside, c.size_at-size.ensures.is))

pub returns : goal.returns
returns c =
    let fits = sym c.version_fits.ensures ∙ c.if-not-version_fits.false in
    let read = c.from.ensures ∙ number_read (field_here _ _ fits) c.number_from-there.ensures in
    let args = c.args in
    let bs = args.area.now in
    let part : args.at + 3 + c.size_at-size.result - (args.at + 7) ≡ size_at args.area.now args.at - 4 = omega (arith, c.size_at-size.ensures.is) in
    c.is_plan.ensures
    ∙ ap (λ (k : ℕ). is_plan (take k (drop (args.at + 7) bs))) part
    ∙ sym (stands_plan bs args.at args.number fits (sym read ∙ c.if-from-number.false))
