-- The lines of a log's records, one byte more of it, and what its first bytes say.
use Prim.Native.Nat.{ℕ, zero, suc, ◌+◌, ◌*◌, ◌≤◌, ◌<◌, min}
use mathlib.Core.Path.{◌≡◌, refl, sym, ap, ◌∙◌}
use mathlib.Core.Bool.{Bool, true, false, not, ◌&&◌}
use mathlib.Core.List.{List, [], ◌∷◌, ◌++◌, append_assoc, append-nil}
use mathlib.Core.Logic.{◌≢◌, ⊎_elim}
use native.Mathlib.Omega.{arith}
use borrow.Author.Tests.{eq-eqb, ne_eqb, le-leb, lt-ltb, le-ltb}
use lib.Dec.{eqb}
use lib.ListN.{length, take}
use lib.Seq.{take_all, take-length}
use Rattle.std.proofs.lemmas.List.{take_more}
use Rattle.units.specs.Places.{at}
use Rattle.units.proofs.SmallLaws.{below_or_not}
use Rattle.sets.specs.declared.Set.{Set}
use Rattle.plans.specs.Planned.{judged_plan}
use Rattle.plans.specs.declared.Alloc.{Alloc}
use Rattle.sheets.specs.Reading.{judged_sheet, plan_start}
use Rattle.sheets.proofs.ReadLaws.{judged_kept}
use Rattle.sheets.specs.declared.PlanStart.{PlanStart}
use Rattle.log_records.specs.Entry.{next_entry}
use Rattle.log_records.specs.declared.Entry.{Entry}
use Rattle.log_records.specs.declared.NextEntry.{NextEntry}
use Rattle.log_records.proofs.EntryLaws.{Standing, a_visit_lem, a_mark_lem, nothing, standing, handed_visit, handed_mark, handed_none}
use Rattle.logs.specs.Records.{record_size}
use Rattle.logs.proofs.RecordLaws.{visit_size_lem, mark_size_lem, no_size}
use Rattle.logs.specs.Reading.{read_log}
use Rattle.logs.specs.declared.ReadLog.{ReadLog}
use Rattle.log_stream.specs.Pieces.{stepped, entry_in, entries_of, read_over, handed_over}
use Rattle.log_stream.proofs.FieldLaws.{read_append, handed_append}
use Rattle.log_stream.specs.declared.Gathered.{Gathered}
use Rattle.text.specs.Text.{text_or, page_size, PutShort, Printed, number_on}
use Rattle.text.specs.Pages.{HasRoom, Puts}
use Rattle.text.specs.declared.Page.{Page}
use Rattle.text.proofs.TextLaws.{put_none, printed, not_printed}
use Rattle.text.proofs.PageLaws.{puts_then, puts_as}
use Rattle.sheet_text_rules.specs.ShowText.{sheet_text, plan_lines_of, show_printed, shown_number}
use Rattle.sheet_text_rules.specs.LogText.{entry_line, entry_lines}
use Rattle.command_show_log.specs.LogShown.{is_log, plan_text, plain_text, shown_number_of, head_text, first_number, lines_for, show_after, shown_over, piece_size, piece_of, ShownOn}
use Rattle.command_show_log.specs.declared.Showing.{Showing}
use Rattle.command_show_log.specs.declared.Shown.{Shown}

-- ---- a text under another name

pub printed_as : {s t before after : List ℕ} {r : ℕ} → Printed s before after r → s ≡ t → Printed t before after r
printed_as {s} {t} {before} {after} {r} p e = rw (← e) p

-- the number on a page that is large enough, and on one that is not
pub number_large : {n k : ℕ} (page : List ℕ) → page_size ≤ length page → n ≡ k → n ≡ number_on k page
unfolding number_on
number_large page large e = rw (le-ltb (length page) page_size large) e

pub number_small : (k : ℕ) (page : List ℕ) → length page < page_size → 14 ≡ number_on k page
unfolding number_on
number_small k page small = rw (lt-ltb (length page) page_size small) refl

pub put_nothing : (page : List ℕ) → PutShort 0 page 0 [] page 0
put_nothing page = record { put = put_none page 0; short = omega arith }

pub printed_none : (page : List ℕ) → page_size ≤ length page → Printed [] page page 0
printed_none page large = printed (put_nothing page) refl large (omega arith)

-- ---- the lines

pub lines_refused : (k : ℕ) (es : List Entry) → k ≢ 0 → lines_for k es ≡ []
unfolding lines_for
lines_refused zero es z = absurd (z refl)
lines_refused (suc k) es z = refl

pub lines_accepted : (k : ℕ) (es : List Entry) → k ≡ 0 → lines_for k es ≡ entry_lines es
unfolding lines_for
lines_accepted zero es z = refl
lines_accepted (suc k) es z = absurd (omega arith)

of_append : (first rest : List Entry) → entry_lines (first ++ rest) ≡ entry_lines first ++ entry_lines rest
unfolding entry_lines
of_append [] rest = refl
of_append (e ∷ first) rest = rw (of_append first rest) (sym (append_assoc (entry_line e) (entry_lines first) (entry_lines rest)))

pub lines_append : (k : ℕ) (first rest : List Entry) → lines_for k (first ++ rest) ≡ lines_for k first ++ lines_for k rest
unfolding lines_for
lines_append zero first rest = of_append first rest
lines_append (suc k) first rest = refl

module _ (k : ℕ) (n : NextEntry) (z : k ≡ 0) where
  pub lines_none : n.next ≡ 0 → lines_for k (entries_of n) ≡ []
  unfolding entries_of entry_lines
  lines_none e = lines_accepted k (entries_of n) z ∙ rw (eq-eqb n.next 0 e) refl

  pub lines_one : n.next ≢ 0 → lines_for k (entries_of n) ≡ entry_line n.entry
  unfolding entries_of entry_lines
  lines_one e = lines_accepted k (entries_of n) z ∙ rw (ne_eqb n.next 0 e) (append-nil (entry_line n.entry))

-- the lines of a plan that is accepted: it has no more stations than a plan may have
pub plan_lines_lem : (t : Set) (a : Alloc) → judged_plan t a ≡ 0 → plan_lines_of t a ≡ sheet_text true t a
unfolding plan_lines_of judged_sheet
plan_lines_lem t a judged = rw (le-leb t.n 128 (judged_kept true t a judged).count.1) refl

-- ---- one byte more

read_snoc : (v : Gathered) (bs : List ℕ) (b : ℕ) → read_over v (bs ++ b ∷ []) ≡ stepped (read_over v bs) b
unfolding read_over
read_snoc v bs b = read_append v bs (b ∷ [])

handed_snoc : (v : Gathered) (bs : List ℕ) (b : ℕ) → handed_over v (bs ++ b ∷ []) ≡ handed_over v bs ++ entries_of (entry_in (stepped (read_over v bs) b))
unfolding handed_over
handed_snoc v bs b = handed_append v bs (b ∷ []) ∙ ap (λ (es : List Entry). handed_over v bs ++ es) (append-nil (entries_of (entry_in (stepped (read_over v bs) b))))

pub turn : (bs : List ℕ) (page₀ page page' : Page) (number : ℕ) (start v v' : Gathered) (i : ℕ) → i < length bs → HasRoom (126 * i + 126) page₀ → v ≡ read_over start (take i bs)
    → Puts (126 * i) page₀ (lines_for number (handed_over start (take i bs))) page → v' ≡ stepped v (at bs i) → Puts 126 page (lines_for number (entries_of (entry_in v'))) page'
    → (v' ≡ read_over start (take (i + 1) bs)) × Puts (126 * (i + 1)) page₀ (lines_for number (handed_over start (take (i + 1) bs))) page'
turn bs page₀ page page' number start v v' i l room ev p e q =
    let b = at bs i in
    let xs = take i bs in
    let more : take (i + 1) bs ≡ take i bs ++ at bs i ∷ [] = take_more bs i 0 l in
    let there : v' ≡ stepped (read_over start (take i bs)) (at bs i) = e ∙ ap (λ (z : Gathered). stepped z b) ev in
    let lines : lines_for number (handed_over start xs) ++ lines_for number (entries_of (entry_in v')) ≡ lines_for number (handed_over start (xs ++ b ∷ [])) =
    ap (λ (z : Gathered). lines_for number (handed_over start xs) ++ lines_for number (entries_of (entry_in z))) there
    ∙ sym (lines_append number (handed_over start xs) (entries_of (entry_in (stepped (read_over start xs) b))))
    ∙ ap (lines_for number) (sym (handed_snoc start xs b)) in
    rw more (there ∙ sym (read_snoc start xs b), puts_as (puts_then p q room) lines (omega arith))

-- ---- a piece

pub shown_none : (k : Showing) (bs page : List ℕ) → length page < page_size → ShownOn k bs page page (record { showing = k; length = 0 })
unfolding piece_of read_over
shown_none k bs page small = record { behind = rw (lt-ltb (length page) page_size small) refl; shown = not_printed small }

take_some : (bs : List ℕ) (k : ℕ) → take (min (length bs) k) bs ≡ take k bs
take_some bs k =
    ⊎_elim (λ (b : length bs < k).
    let e : min (length bs) k ≡ length bs = omega arith in
    rw (e, take-length bs) (sym (take_all k bs (omega arith))))
    (λ (b : k ≤ length bs). let e : min (length bs) k ≡ k = omega arith in rw e)
    (below_or_not (length bs) k)

pub shown_piece : (k : Showing) (bs : List ℕ) (end : ℕ) (before after : List ℕ) (r : Shown) → end ≡ min (length bs) piece_size
    → page_size ≤ length before → r.showing ≡ show_after k (take end bs) → Printed (shown_over k (take end bs)) before after r.length → ShownOn k bs before after r
unfolding piece_of
shown_piece k bs end before after r e large behind shown =
    let piece : take end bs ≡ take piece_size bs = ap (λ (n : ℕ). take n bs) e ∙ take_some bs piece_size in
    let whole = le-ltb (length before) page_size large in
    record {
      behind = rw whole (behind ∙ ap (show_after k) piece);
      shown = rw whole (printed_as shown (ap (shown_over k) piece));
    }

-- ---- the first bytes

-- a place behind a record is none at 0
next_stands : (bs : List ℕ) (a : ℕ) → eqb (next_entry bs a).next 0 ≡ eqb (record_size bs a) 0
next_stands bs a = go (standing bs a)
  where
    go : Standing bs a → eqb (next_entry bs a).next 0 ≡ eqb (record_size bs a) 0
    go (a_visit_lem h) = rw (handed_visit bs a h, visit_size_lem bs a h) (ne_eqb (a + 20) 0 (omega arith))
    go (a_mark_lem h) = rw (handed_mark bs a h, mark_size_lem bs a h) (ne_eqb (a + 5) 0 (omega arith))
    go (nothing v m) = rw (handed_none bs a v m, no_size bs a v m) refl

pub log_same : (bs : List ℕ) (p : PlanStart) (n : NextEntry) → p ≡ plan_start bs → n ≡ next_entry bs p.at → (p.passed && not (eqb n.next 0)) ≡ is_log bs
log_same bs p n e f =
    ap (λ (x : NextEntry). p.passed && not (eqb x.next 0)) f ∙ ap (λ (b : Bool). p.passed && not b) (next_stands bs p.at) ∙ ap (λ (x : PlanStart). x.passed && not (eqb (record_size bs x.at) 0)) e

module _ (bs : List ℕ) where
  pub plain_ever : (plan_start bs).passed ≡ false → show_printed bs ≡ plain_text bs
  unfolding plain_text
  plain_ever e = rw e refl

  pub plain_read : (r : ReadLog) → (plan_start bs).passed ≡ true → r ≡ read_log bs → text_or r.number (plan_lines_of r.set r.alloc) ≡ plain_text bs
  unfolding plain_text
  plain_read r e same = rw e (ap (λ (x : ReadLog). text_or x.number (plan_lines_of x.set x.alloc)) same)

  pub number_ever : (plan_start bs).passed ≡ false → shown_number bs ≡ shown_number_of bs
  unfolding shown_number_of
  number_ever e = rw e refl

  pub number_read : (r : ReadLog) → (plan_start bs).passed ≡ true → r ≡ read_log bs → r.number ≡ shown_number_of bs
  unfolding shown_number_of
  number_read r e same = rw e (ap (λ (x : ReadLog). x.number) same)

  pub number_plain : is_log bs ≡ false → shown_number_of bs ≡ first_number bs
  unfolding first_number
  number_plain e = rw e refl

  pub number_log : is_log bs ≡ true → 0 ≡ first_number bs
  unfolding first_number
  number_log e = rw e refl

  pub head_plain : is_log bs ≡ false → plain_text bs ≡ head_text bs
  unfolding head_text
  head_plain e = rw e refl

  pub head_log : (p : PlanStart) → is_log bs ≡ true → p ≡ plan_start bs → plan_text p.number p.set p.alloc ≡ head_text bs
  unfolding head_text
  head_log p e same = rw e (ap (λ (x : PlanStart). plan_text x.number x.set x.alloc) same)
