-- What is printed of the first bytes is printed of all: they give the same plan (`sheets/proofs/FirstLaws.antt`), and a record or the end behind its fields lies among them, with more bytes behind.
use Prim.Native.Nat.{ℕ, ◌+◌, ◌≤◌}
use mathlib.Core.Path.{◌≡◌, refl, sym, ap, ◌∙◌}
use mathlib.Core.Bool.{Bool, true, false, not, ◌&&◌}
use mathlib.Core.List.{List, ◌++◌}
use mathlib.Core.Logic.{⊎_elim}
use native.Mathlib.Omega.{arith}
use borrow.Author.Tests.{le-leb, lt-leb, not-false}
use lib.Dec.{eqb}
use lib.ListN.{length, length-append}
use Rattle.units.proofs.JudgingLaws.{true_or_false}
use Rattle.fields.specs.Fields.{left}
use Rattle.field_reader.specs.Scanned.{scanned}
use Rattle.sheets.specs.Layout.{plan_read}
use Rattle.sheets.specs.Reading.{plan_passed, plan_start}
use Rattle.sheets.proofs.FirstLaws.{plan_stops, at_same, size_same, scan_same, set_same, alloc_same, read_same as sheet_same, start_same, start_at}
use Rattle.log_records.specs.Visit.{visit_stands}
use Rattle.log_records.specs.Mark.{mark_stands}
use Rattle.logs.specs.Records.{record_size}
use Rattle.logs.specs.Walked.{stop_number, walk_from, walked, log_walked}
use Rattle.logs.specs.Reading.{read_log}
use Rattle.logs.proofs.ReadingLaws.{start_says}
use Rattle.log_stream.specs.Pieces.{first_size}
use Rattle.sheet_text_rules.specs.ShowText.{show_printed, shown_number}
use Rattle.command_show_log.specs.LogShown.{is_log, plain_text, shown_number_of, head_text, first_number}

-- no record stands behind the fields of a plan, where all have passed and it is no log
pub no_record_lem : (bs : List ℕ) → (plan_start bs).passed ≡ true → is_log bs ≡ false → eqb (record_size bs (scanned true bs).at) 0 ≡ true
no_record_lem bs all plain =
    not-false _ (ap (λ (a : ℕ). not (eqb (record_size bs a) 0)) (sym (start_at bs)) ∙ ap (λ (b : Bool). b && not (eqb (record_size bs (plan_start bs).at) 0)) (sym all) ∙ plain)

module _ (head rest : List ℕ) (long : first_size ≤ length head) where
  -- they are enough for a plan
  plan_long : plan_read ≤ length head
  plan_long = omega arith

  -- ---- behind the plan's fields

  module _ (a : ℕ) (short : a ≤ 3_353) where
    record_same : record_size (head ++ rest) a ≡ record_size head a
    unfolding record_size visit_stands mark_stands
    record_same =
        rw (
          le-leb (a + 20) (length (head ++ rest)) (omega (arith, length-append head rest)),
          le-leb (a + 20) (length head) (omega arith),
          le-leb (a + 5) (length (head ++ rest)) (omega (arith, length-append head rest)),
          le-leb (a + 5) (length head) (omega arith),
          at_same head rest a (omega arith),
          size_same head rest a (omega arith),
        ) refl

    stop_same : stop_number (head ++ rest) a ≡ stop_number head a
    unfolding stop_number
    stop_same =
        rw (
          le-leb 3 (left (head ++ rest) a) (omega (arith, length-append head rest)),
          le-leb 3 (left head a) (omega arith),
          at_same head rest a (omega arith),
          size_same head rest a (omega arith),
          lt-leb (length (head ++ rest)) (a + 3) (omega (arith, length-append head rest)),
          lt-leb (length head) (a + 3) (omega arith),
        ) refl

  pub log_same : is_log (head ++ rest) ≡ is_log head
  log_same = rw (start_same head rest plan_long, record_same (plan_start head).at (omega (arith, start_at head, plan_stops head))) refl

  -- ---- no log: the same is read

  read_same : (plan_start head).passed ≡ true → is_log head ≡ false → read_log (head ++ rest) ≡ read_log head
  unfolding read_log log_walked walked walk_from
  read_same all plain =
      let a = (scanned true head).at in
      let short = plan_stops head in
      let passed : plan_passed (scanned true head).passed ≡ true = sym (start_says head) ∙ all in
      rw (
        scan_same head rest true plan_long,
        passed,
        record_same a short,
        no_record_lem head all plain,
        stop_same a short,
        set_same head rest true plan_long,
        alloc_same head rest true plan_long,
      ) refl

  plain_same : is_log head ≡ false → plain_text (head ++ rest) ≡ plain_text head
  unfolding plain_text show_printed
  plain_same plain =
      ⊎_elim (λ (all : (plan_start head).passed ≡ true). rw (start_same head rest plan_long, all, read_same all plain) refl)
      (λ (e : (plan_start head).passed ≡ false). rw (start_same head rest plan_long, e, sheet_same head rest false (omega arith), sheet_same head rest true plan_long) refl)
      (true_or_false (plan_start head).passed)

  pub number_same : first_number (head ++ rest) ≡ first_number head
  unfolding first_number shown_number_of shown_number
  number_same =
      ⊎_elim (λ (e : is_log head ≡ true). rw (log_same, e) refl)
      (λ (e : is_log head ≡ false).
      ⊎_elim (λ (all : (plan_start head).passed ≡ true). rw (log_same, e, start_same head rest plan_long, all, read_same all e) refl)
      (λ (none : (plan_start head).passed ≡ false). rw (log_same, e, start_same head rest plan_long, none, sheet_same head rest false (omega arith), sheet_same head rest true plan_long) refl)
      (true_or_false (plan_start head).passed))
      (true_or_false (is_log head))

  pub text_same : head_text (head ++ rest) ≡ head_text head
  unfolding head_text
  text_same =
      ⊎_elim (λ (e : is_log head ≡ true). rw (log_same, e, start_same head rest plan_long) refl) (λ (e : is_log head ≡ false). rw (log_same, e, plain_same e) refl)
      (true_or_false (is_log head))
