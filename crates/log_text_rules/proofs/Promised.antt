-- A log with a record is printed as its text by what `command_show_log` promises, one without as its plan; `compose` makes of that text the log that was read, and that is the bytes themselves.
use Prim.Native.Nat.{ℕ}
use mathlib.Core.Path.{◌≡◌, refl, sym, ap, subst, ◌∙◌}
use mathlib.Core.Bool.{true, false}
use mathlib.Core.Logic.{⊎_elim}
use mathlib.Core.List.{List, [], ◌++◌, append-nil}
use Rattle.units.proofs.JudgingLaws.{true_or_false}
use Rattle.fields.specs.Bytes.{AllBytes}
use Rattle.field_reader.specs.Scanned.{scanned}
use Rattle.sheets.specs.Reading.{plan_passed, plan_start}
use Rattle.logs.specs.Layout.{log_of}
use Rattle.logs.specs.Walked.{walk_from, walked, log_walked}
use Rattle.logs.specs.Reading.{read_log, handed_from, entries_in}
use Rattle.logs.specs.declared.ReadLog.{ReadLog}
use Rattle.logs.proofs.ReadingLaws.{start_says}
use Rattle.log_rules.proofs.AgainLaws.{stops, may_end, was_read, was_whole, log_again, judged_again, entries_fit}
use Rattle.text.proofs.TextLaws.{text_accepted}
use Rattle.command_compose.specs.Sent.{Makes}
use Rattle.sheet_text_rules.specs.ShowText.{sheet_text, plan_lines_of}
use Rattle.sheet_text_rules.specs.LogText.{entry_lines, log_text}
use Rattle.sheet_text_rules.proofs.Promised as outputs
use Rattle.command_show_log.specs.LogShown.{is_log, plain_text, shown_of}
use Rattle.command_show_log.proofs.ShowLaws.{plan_lines_lem, head_plain}
use Rattle.command_show_log.proofs.FirstLaws.{no_record_lem}
use Rattle.command_show_log.proofs.Promised as shows
use Rattle.log_text_rules.specs.Promised.{Promised}

module _ (bs : List ℕ) (h : (read_log bs).number ≡ 0) where
  -- all fields of its plan have passed
  all_passed : plan_passed (scanned true bs).passed ≡ true
  all_passed = ap plan_passed (stops bs (was_whole bs h)).0 ∙ may_end bs (was_whole bs h)

  passed : (plan_start bs).passed ≡ true
  passed = start_says bs ∙ all_passed

  -- no record stands behind them
  module _ (plain : is_log bs ≡ false) where
    no_records : (log_walked bs).records ≡ 0
    unfolding log_walked walked walk_from
    no_records = rw (all_passed, no_record_lem bs passed plain) refl

    no_entries : entries_in bs ≡ []
    unfolding handed_from
    no_entries = ap (λ (n : ℕ). handed_from n bs (read_log bs).first) (ap (λ (r : ReadLog). r.records) (was_read bs h) ∙ no_records)

    plain_lines : plain_text bs ≡ plan_lines_of (read_log bs).set (read_log bs).alloc
    unfolding plain_text
    plain_lines = rw passed (text_accepted (read_log bs).number (plan_lines_of (read_log bs).set (read_log bs).alloc) h)

    as_plan : shown_of bs ≡ log_text (read_log bs).set (read_log bs).alloc (entries_in bs)
    unfolding shown_of log_text entry_lines
    as_plan =
        rw plain
        (sym (head_plain bs plain) ∙ plain_lines ∙ plan_lines_lem _ _ (judged_again bs h)
        ∙ sym (append-nil (sheet_text true (read_log bs).set (read_log bs).alloc))
        ∙ ap (λ (es : List _). sheet_text true (read_log bs).set (read_log bs).alloc ++ entry_lines es) (sym no_entries))

  text_shown : shown_of bs ≡ log_text (read_log bs).set (read_log bs).alloc (entries_in bs)
  text_shown =
      ⊎_elim (λ (e : is_log bs ≡ true). (shows.promised).accepted_shown bs e h) (λ (e : is_log bs ≡ false). as_plan e) (true_or_false (is_log bs))

same_again : (bs : List ℕ) → AllBytes bs → (read_log bs).number ≡ 0 → Makes (shown_of bs) bs
same_again bs bytes h =
    let t = (read_log bs).set in
    let a = (read_log bs).alloc in
    let es = entries_in bs in
    let made : Makes (log_text t a es) (log_of t a es) = (outputs.promised).log_compose t a es (judged_again bs h) (entries_fit bs bytes h) in
    rw (text_shown bs h) (subst (Makes (log_text t a es)) (sym (log_again bs bytes h)) made)

pub promised : Promised
promised =
    record {
      log_text_lem = text_shown;
      show_compose = same_again;
    }
