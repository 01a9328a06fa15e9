-- The first line that cannot be read: it is kept once it is named, and nothing is named before.
use Prim.Native.Nat.{ℕ}
use mathlib.Core.Path.{◌≡◌, refl, sym, ap, ◌∙◌}
use mathlib.Core.Bool.{Bool, true, false, true≢false, cond, ◌&&◌, ◌||◌}
use mathlib.Core.List.{List, [], ◌∷◌, ◌++◌}
use mathlib.Core.Logic.{⊎_elim, ◌↔◌}
use Rattle.std.specs.Prelude.{Option, None, Some, is_some, is_none}
use Rattle.std.proofs.Math.Bool.{and-false}
use Rattle.units.proofs.JudgingLaws.{true_or_false}
use Rattle.text.specs.Text.{newline}
use Rattle.command_run.specs.Bytes.{moved_over, some_over}
use Rattle.command_run.specs.Runs.{unread_at, run_after, some_unread}
use Rattle.command_run.specs.declared.Run.{Run}
use Rattle.command_run.proofs.ByteLaws.{moved_append}
use Rattle.command_log.specs.LogBytes.{first_unread, record_on, record_after}
use Rattle.command_log.specs.declared.Recording.{Recording}
use Rattle.command_log_rules.proofs.LoggedLaws.{run_same}

-- ---- one byte more

-- a line is named
abbrev Named : Recording → Type 0
Named k = is_some k.unread ≡ true

-- what is named stays named
stays_named : (known : Option ℕ) (line : ℕ) (unread : Bool) → is_some known ≡ true → cond (unread && is_none known) (Some line) known ≡ known
stays_named None line unread e = absurd (true≢false (sym e))
stays_named (Some n) line unread e = rw (and-false unread) refl

on_kept : (k : Recording) (b : ℕ) → Named k → (record_on k b).unread ≡ k.unread
unfolding record_on first_unread
on_kept k b e = stays_named k.unread k.run.line (unread_at k.run b) e

-- where each line can be read nothing is named
on_quiet : (k : Recording) (b : ℕ) → unread_at k.run b ≡ false → (record_on k b).unread ≡ k.unread
unfolding record_on first_unread
on_quiet k b q = rw q refl

-- the line is named
on_named : (k : Recording) (b : ℕ) → k.unread ≡ None → unread_at k.run b ≡ true → (record_on k b).unread ≡ Some k.run.line
unfolding record_on first_unread
on_named k b z t = rw (t, z) refl

-- so that a line which cannot be read leaves one named
one_named : (o : Option ℕ) (line : ℕ) → is_some (cond (is_none o) (Some line) o) ≡ true
one_named None line = refl
one_named (Some n) line = refl

on_some : (k : Recording) (b : ℕ) → unread_at k.run b ≡ true → Named (record_on k b)
unfolding record_on first_unread
on_some k b t = rw t (one_named k.unread k.run.line)

-- ---- a text

kept : (k : Recording) (text : List ℕ) → Named k → (record_after k text).unread ≡ k.unread
unfolding moved_over
kept k [] e = refl
kept k (b ∷ text) e =
    let on = on_kept k b e in
    kept (record_on k b) text (rw on e) ∙ on

or_none_lem : (a b : Bool) → (a || b) ≡ false → (a ≡ false) × (b ≡ false)
or_none_lem true b h = absurd (true≢false h)
or_none_lem false b h = (refl, h)

quiet : (k : Recording) (text : List ℕ) → some_unread k.run text ≡ false → (record_after k text).unread ≡ k.unread
unfolding moved_over some_over record_on
quiet k [] h = refl
quiet k (b ∷ text) h =
    let both = or_none_lem (unread_at k.run b) _ h in
    quiet (record_on k b) text both.1 ∙ on_quiet k b both.0

named : (k : Recording) (text : List ℕ) → some_unread k.run text ≡ true → Named (record_after k text)
unfolding moved_over some_over record_on
named k [] h = absurd (true≢false (sym h))
named k (b ∷ text) h =
    ⊎_elim
    (λ (t : unread_at k.run b ≡ true).
    let there = on_some k b t in
    rw (kept (record_on k b) text there) there)
    (λ (t : unread_at k.run b ≡ false). named (record_on k b) text (rw t at h))
    (true_or_false (unread_at k.run b))

-- ---- what is promised

pub none_named : (k : Recording) (text : List ℕ) → k.unread ≡ None → ((record_after k text).unread ≡ None) ↔ (some_unread k.run text ≡ false)
none_named k text z = (
  λ (e : (record_after k text).unread ≡ None). ⊎_elim (λ (t : some_unread k.run text ≡ true). absurd (true≢false (sym (named k text t) ∙ ap is_some e))) (λ (t : some_unread k.run text ≡ false). t) (true_or_false (some_unread k.run text)),
  λ (h : some_unread k.run text ≡ false). quiet k text h ∙ z,
)

pub first_named : (k : Recording) (text first rest : List ℕ) → k.unread ≡ None → text ≡ first ++ (newline ∷ rest)
    → some_unread k.run first ≡ false → unread_at (run_after k.run first) newline ≡ true
    → (record_after k text).unread ≡ Some (run_after k.run first).line
unfolding moved_over
first_named k text first rest z e none there =
    let m = record_after k first in
    let same : (record_after k first).run ≡ run_after k.run first = run_same k first in
    let it = on_named m newline (quiet k first none ∙ z) (rw same there) in
    rw e
    (ap (λ (x : Recording). x.unread) (moved_append record_on k first (newline ∷ rest))
    ∙ kept (record_on m newline) rest (ap is_some it)
    ∙ it
    ∙ ap (λ (x : Run). Some x.line) same)
