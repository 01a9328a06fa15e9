-- The laws of what goes out of a log while its text is read: how much a line lets out, and that nothing does before the first record.
use Prim.Native.Nat.{ℕ, ◌+◌, ◌≤◌, ◌<◌}
use mathlib.Core.Path.{◌≡◌, refl, sym, ap, ◌∙◌}
use mathlib.Core.Bool.{Bool, true, false, true≢false, cond, not, ◌&&◌, ◌||◌}
use mathlib.Core.List.{List, [], ◌∷◌, ◌++◌, append_assoc, append-nil}
use mathlib.Core.Logic.{◌⊎◌, inl, inr, ⊎_elim, ◌≢◌}
use native.Mathlib.Omega.{arith}
use borrow.Author.Tests.{leb-true, eqb-true, eq-eqb, ne_eqb, le-leb, lt-ltb, le-ltb, not-true}
use lib.Dec.{leb, ltb, eqb}
use lib.ListN.{length, take, drop, length-append}
use lib.Seq.{length-take-le}
use Rattle.std.specs.Prelude.{Option, None, Some, is_some, is_none}
use Rattle.std.specs.Option.{option_or}
use Rattle.std.proofs.lemmas.List.{length-take}
use Rattle.units.specs.Places.{at}
use Rattle.units.proofs.JudgingLaws.{held, passed, and-true, true_or_false}
use Rattle.units.proofs.SmallLaws.{below_or_not}
use Rattle.sets.specs.declared.Set.{Set}
use Rattle.plans.specs.Planned.{judged_plan}
use Rattle.plans.specs.declared.Alloc.{Alloc}
use Rattle.fields.specs.Fields.{mode_tag}
use Rattle.fields.proofs.RowLaws.{laid_first}
use Rattle.fields.proofs.HeaderLaws.{same_or_not}
use Rattle.log_records.specs.Visit.{visit_length}
use Rattle.log_records.specs.Entry.{entry_bytes}
use Rattle.log_records.specs.declared.Entry.{Entry}
use Rattle.log_records.specs.declared.Entry.TheVariants.{Visit, Mark}
use Rattle.log_records.proofs.VisitLaws.{visit_length_lem}
use Rattle.log_records.proofs.MarkLaws.{mark_length_lem}
use Rattle.sheets.specs.Layout.{end_bytes, fields_of}
use Rattle.sheets.specs.Reading.{judged_sheet}
use Rattle.sheets.specs.Writing.{refused_writing, write_answer, room_number, laid_after, WroteFields, PutAt}
use Rattle.sheets.proofs.ReadLaws.{judged_kept}
use Rattle.sheets.proofs.WritingLaws.{head_small, fields_long, answer_refused, answer_accepted, answer_number, number_none, fields_end, fields_there}
use Rattle.sheets.specs.declared.Written.{Written}
use Rattle.text.specs.Text.{newline, Put, PutShort, page_size}
use Rattle.text.proofs.TextLaws.{put_none, printed, not_printed}
use Rattle.line_reader.specs.Scan.{fresh_scan, stepped, code_of, is_readable, is_empty_line}
use Rattle.line_reader.proofs.ScanLaws.{stepped_over, has_no_end, first_and_rest}
use Rattle.line_reader.specs.declared.Scan.{Scan}
use Rattle.command_compose.specs.Compose.{visit_word, mark_word, is_line, is_ttrt, line_tag, is_station, is_plan_station, is_visit_line, is_mark_line, is_record_line, NumbersFit, misplaced, with_ttrt, with_further, with_station, logged_kind, with_record, with_unread, record_drafted, line_drafted, on_next_line, compose_start, compose_on, compose_after, is_whole, composed_answer, composed_buffer, WroteDraft, draft_of}
use Rattle.command_compose.proofs.ComposeLaws.{line_fits, text_goes_on, text_line_ends, at_rest}
use Rattle.command_compose.specs.Sent.{visit_in, mark_in, entry_in, goes_out, plan_sent, sent_by, sent_at, sent_over, end_answer, end_buffer, WroteEnd, PlanRoom, LineRoom, piece_size, most_fields, most_sent, ComposedPiece, piece_of, ComposedOn, sent_of, no_record, Broken}
use Rattle.command_compose.specs.declared.Draft.{Draft}
use Rattle.command_compose.specs.declared.Composing.{Composing}
use Rattle.command_compose.specs.declared.Composed.{Composed}

-- ---- a record's line

-- a line that is read has its word
line_worded : (s : Scan) (code count : ℕ) → is_line s code count ≡ true → (is_readable s ≡ true) × (s.word ≡ code)
line_worded s code count h =
    let readable = and-true (is_readable s) _ h in
    (readable.0, eqb-true s.word code (and-true (eqb s.word code) _ readable.1).0)

module _ (s : Scan) (h : is_record_line s ≡ true) where
  -- it is a visit's or a mark's
  visit_or_mark : (is_line s (code_of visit_word) 5 ≡ true) ⊎ (is_line s (code_of mark_word) 2 ≡ true)
  visit_or_mark =
      ⊎_elim (λ (v : is_visit_line s ≡ true). inl (and-true (is_line s (code_of visit_word) 5) _ v).0)
      (λ (v : is_visit_line s ≡ false).
      let m : is_mark_line s ≡ true = rw v at h in
      inr (and-true (is_line s (code_of mark_word) 2) _ m).0)
      (true_or_false (is_visit_line s))

  pub record_fits : NumbersFit s
  record_fits = ⊎_elim (line_fits s (code_of visit_word) 5) (line_fits s (code_of mark_word) 2) visit_or_mark

  -- it is no other line
  pub record_drafted_lem : (d : Draft) → line_drafted d s ≡ with_record d
  unfolding line_drafted record_drafted line_tag
  record_drafted_lem d =
      ⊎_elim (λ (v : is_line s (code_of visit_word) 5 ≡ true). let worded = line_worded s (code_of visit_word) 5 v in rw (h, worded.0, worded.1) refl)
      (λ (m : is_line s (code_of mark_word) 2 ≡ true). let worded = line_worded s (code_of mark_word) 2 m in rw (h, worded.0, worded.1) refl)
      visit_or_mark

-- the entry that it names
module _ (s : Scan) where
  pub entry_visit : is_visit_line s ≡ true → entry_in s ≡ Visit (visit_in s)
  unfolding entry_in
  entry_visit v = rw v refl

  pub entry_mark : is_visit_line s ≡ false → entry_in s ≡ Mark (mark_in s)
  unfolding entry_in
  entry_mark v = rw v refl

-- what holds of a draft behind every kind of line holds behind a line
either : (P : Draft → Type 0) (b : Bool) (x y : Draft) → P x → P y → P (cond b x y)
either P true x y p q = p
either P false x y p q = q

module _ (P : Draft → Type 0) (d : Draft) (s : Scan) where
  behind_line : (is_empty_line s ≡ true → P d) → P (with_ttrt d (at s.values 0)) → P (with_further d (line_tag s) (at s.values 0))
      → P (with_station d s 1) → P (with_station d s 2) → P (record_drafted d s) → P (line_drafted d s)
  unfolding line_drafted
  behind_line same ttrt further station planned recorded =
      let some =
      either P (is_ttrt s) _ _ ttrt
      (either P (leb mode_tag (line_tag s)) _ _ further (either P (is_station s) _ _ station (either P (is_plan_station s) _ _ planned recorded))) in
      ⊎_elim (λ (e : is_empty_line s ≡ true). rw e (same e)) (λ (e : is_empty_line s ≡ false). rw e some) (true_or_false (is_empty_line s))

-- ---- the kind of the stations

and-false : (b : Bool) → (b && false) ≡ false
and-false true = refl
and-false false = refl

-- behind a record it stays
module _ (d : Draft) (s : Scan) (logged : 3 ≤ d.kind) where
  SameKind : Draft → Type 0
  SameKind x = x.kind ≡ d.kind

  -- no station stands there
  station_stays : (kind : ℕ) → kind ≤ 2 → SameKind (with_station d s kind)
  unfolding SameKind with_station
  station_stays kind l =
      let few = and-false (ltb d.set.n 128) in
      let nowhere = and-false (leb 1 d.head) in
      rw (ne_eqb d.kind 0 (omega arith), ne_eqb d.kind kind (omega arith), few, nowhere) refl

  record_stays : (with_record d).kind ≡ d.kind
  unfolding with_record
  record_stays = rw (ne_eqb d.kind 2 (omega arith), le-ltb d.kind 3 logged) refl

  pub kind_stays : (line_drafted d s).kind ≡ d.kind
  unfolding SameKind with_ttrt with_further record_drafted with_unread
  kind_stays =
      behind_line SameKind d s (λ e. refl) (either SameKind (eqb d.head 0) _ _ refl refl)
      (either SameKind (leb 1 d.head && (ltb d.head (line_tag s) && eqb d.set.n 0)) _ _ refl refl)
      (station_stays 1 (omega arith)) (station_stays 2 (omega arith))
      (either SameKind (is_record_line s) _ _ record_stays refl)

-- a line that is no record makes no log
module _ (d : Draft) (s : Scan) (other : is_record_line s ≡ false) (before : d.kind ≤ 2) where
  NoLog : Draft → Type 0
  NoLog x = x.kind ≤ 2

  station_none : (kind : ℕ) → kind ≤ 2 → NoLog (with_station d s kind)
  unfolding NoLog with_station
  station_none kind l = either NoLog (leb 1 d.head && (ltb d.set.n 128 && (eqb d.kind 0 || eqb d.kind kind))) _ _ l before

  record_none : NoLog (record_drafted d s)
  unfolding NoLog record_drafted with_unread
  record_none = rw other before

  pub no_log : (line_drafted d s).kind ≤ 2
  unfolding NoLog with_ttrt with_further
  no_log =
      behind_line NoLog d s (λ e. before) (either NoLog (eqb d.head 0) _ _ before before)
      (either NoLog (leb 1 d.head && (ltb d.head (line_tag s) && eqb d.set.n 0)) _ _ before before)
      (station_none 1 (omega arith)) (station_none 2 (omega arith)) record_none

-- ---- a broken text

pub broken_whole : (d : Draft) → Broken d → is_whole d ≡ false
broken_whole d (inl u) = rw u refl
broken_whole d (inr w) = rw w (and-false (is_none d.unread))

-- behind a line that cannot be read one is named
one_named : (known : Option ℕ) (line : ℕ) → is_some (option_or known (Some line)) ≡ true
one_named None line = refl
one_named (Some n) line = refl

module _ (d : Draft) (s : Scan) (b : Broken d) where
  misplaced_too : Broken (misplaced d)
  misplaced_too = inr refl

  unread_too : Broken (with_unread d)
  unfolding with_unread
  unread_too = inl (one_named d.unread d.line)

  record_too : Broken (with_record d)
  unfolding with_record
  record_too = either Broken (eqb d.kind 2) _ _ b (either Broken (ltb d.kind 3) _ _ misplaced_too b)

  pub stays_broken : Broken (line_drafted d s)
  unfolding with_ttrt with_further with_station record_drafted
  stays_broken =
      behind_line Broken d s (λ e. b) (either Broken (eqb d.head 0) _ _ b misplaced_too)
      (either Broken (leb 1 d.head && (ltb d.head (line_tag s) && eqb d.set.n 0)) _ _ b misplaced_too)
      (either Broken (leb 1 d.head && (ltb d.set.n 128 && (eqb d.kind 0 || eqb d.kind 1))) _ _ b misplaced_too)
      (either Broken (leb 1 d.head && (ltb d.set.n 128 && (eqb d.kind 0 || eqb d.kind 2))) _ _ b misplaced_too)
      (either Broken (is_record_line s) _ _ record_too unread_too)

-- ---- what a line lets out

accepted_plan : (t : Set) (a : Alloc) → logged_kind t a ≡ 3 → judged_sheet true t a ≡ 0
unfolding logged_kind judged_sheet
accepted_plan t a h =
    ⊎_elim (λ (e : eqb (judged_plan t a) 0 ≡ true). eqb-true (judged_plan t a) 0 e)
    (λ (e : eqb (judged_plan t a) 0 ≡ false). let wrong : ◌≡◌ {A = ℕ} 4 3 = rw e at h in absurd (omega arith))
    (true_or_false (eqb (judged_plan t a) 0))

-- where bytes go out behind a record, its plan was accepted
module _ (d : Draft) (out : goes_out (with_record d) ≡ true) where
  pub out_kind : (with_record d).kind ≡ 3
  out_kind = eqb-true (with_record d).kind 3 (and-true (is_whole (with_record d)) _ out).1

  first_kind : d.kind ≡ 2 → (with_record d).kind ≡ logged_kind d.set d.alloc
  unfolding with_record
  first_kind e = rw (eq-eqb d.kind 2 e) refl

  pub out_judged : d.kind ≡ 2 → judged_sheet true d.set d.alloc ≡ 0
  out_judged e = accepted_plan d.set d.alloc (sym (first_kind e) ∙ out_kind)

-- and behind the first record of an accepted plan they do
pub first_out : (d : Draft) → is_whole d ≡ true → d.kind ≡ 2 → judged_sheet true d.set d.alloc ≡ 0 → goes_out (with_record d) ≡ true
unfolding with_record logged_kind judged_sheet
first_out d whole planned judged = rw (eq-eqb d.kind 2 planned, eq-eqb (judged_plan d.set d.alloc) 0 judged, whole) refl

pub fields_few : (t : Set) (a : Alloc) → judged_sheet true t a ≡ 0 → length (fields_of true t a) ≤ most_fields
fields_few t a h = omega (arith, fields_long true t a, (judged_kept true t a h).count.1, head_small t.head 3)

-- the plan's fields where the stations are a plan's, and else nothing
pub plan_first : (d : Draft) → d.kind ≡ 2 → plan_sent d ≡ fields_of true d.set d.alloc
unfolding plan_sent
plan_first d e = rw (eq-eqb d.kind 2 e) refl

pub plan_none : (d : Draft) → d.kind ≢ 2 → plan_sent d ≡ []
unfolding plan_sent
plan_none d e = rw (ne_eqb d.kind 2 e) refl

pub sent_record : (d : Draft) (s : Scan) → is_record_line s ≡ true → goes_out (with_record d) ≡ true → sent_by d s ≡ plan_sent d ++ entry_bytes (entry_in s)
unfolding sent_by
sent_record d s h out = rw (h, out) refl

pub sent_other : (d : Draft) (s : Scan) → is_record_line s ≡ false → sent_by d s ≡ []
unfolding sent_by
sent_other d s h = rw h refl

pub sent_stopped : (d : Draft) (s : Scan) → goes_out (with_record d) ≡ false → sent_by d s ≡ []
unfolding sent_by
sent_stopped d s out = rw (out, and-false (is_record_line s)) refl

-- ---- put into a page

-- a field that has room
pub field_put : {before after : List ℕ} {a number : ℕ} (field : List ℕ) (size : ℕ) → length field ≡ size → PutAt a field 3 before after number → a + size + 3 ≤ length before → Put before a field after (a + size)
unfolding laid_after
field_put {before} {after} {a} field size long p room =
    let fits : room_number (a + length field + 3) (length before) ≡ 0 =
    held (leb (a + length field + 3) (length before)) 14 0 (le-leb (a + length field + 3) (length before) (omega arith)) in
    record { page = rw fits at p.buffer; next = omega arith }

module _ (d : Draft) (a : ℕ) (before : List ℕ) (room : PlanRoom d a before) where
  -- the plan's fields at the start of the page
  pub plan_put : (after : List ℕ) (w : Written) → d.kind ≡ 2 → WroteFields true d.set d.alloc before after w → Put before a (plan_sent d) after w.length
  plan_put after w k wrote =
      let judged = room.judged k in
      let few = fields_few d.set d.alloc judged in
      let long = fields_long true d.set d.alloc in
      let here = room.first k in
      let none : w.number ≡ 0 = ap (λ (x : Written). x.number) wrote.answer ∙ answer_number _ _ ∙ number_none true d.set d.alloc before judged (omega (arith, room.large)) in
      let there = fields_there true d.set d.alloc before after w wrote none in
      let end = fields_end true d.set d.alloc before after w wrote none in
      rw (plan_first d k, here) (record { page = there; next = omega arith })

  -- behind the first record nothing is put
  pub no_plan_put : d.kind ≢ 2 → Put before a (plan_sent d) before a
  no_plan_put k = rw (plan_none d k) (put_none before a)

-- a record's field has room behind them
pub plan_room : (d : Draft) (a : ℕ) (page : List ℕ) → LineRoom d a page → (d.kind ≡ 2 → judged_sheet true d.set d.alloc ≡ 0) → a + length (plan_sent d) + 23 ≤ length page
plan_room d a page room judged =
    ⊎_elim (λ (e : d.kind ≡ 2).
    omega (arith, ap length (plan_first d e), fields_few d.set d.alloc (judged e), room.first (omega arith), room.large))
    (λ (e : d.kind ≢ 2). omega (arith, ap length (plan_none d e), room.room))
    (same_or_not d.kind 2)

-- ---- how much a line lets out

-- no record's field has more bytes than a visit's
pub field_short : (e : Entry) → length (entry_bytes e) ≤ visit_length
field_short (Visit v) = omega (arith, visit_length_lem v)
field_short (Mark m) = omega (arith, mark_length_lem m)

-- how many bytes it has, and that before the first record it has none
pub record LineSent (d : Draft) (s : Scan) : Type 0 where
  pub long : length (sent_by d s) ≤ most_fields + visit_length
  pub short : 3 ≤ d.kind → length (sent_by d s) ≤ 20
  pub silent : (line_drafted d s).kind ≤ 2 → length (sent_by d s) ≡ 0
  pub kinds : (line_drafted d s).kind ≤ 2 → d.kind ≤ 2

module _ (d : Draft) (s : Scan) where
  kinds_rise : (line_drafted d s).kind ≤ 2 → d.kind ≤ 2
  kinds_rise l =
      ⊎_elim (λ (b : d.kind < 3). omega arith) (λ (b : 3 ≤ d.kind). absurd (omega (arith, kind_stays d s b))) (below_or_not d.kind 3)

  nothing_sent : sent_by d s ≡ [] → LineSent d s
  nothing_sent e =
      let none = ap length e in
      record { long = omega arith; short = λ h. omega arith; silent = λ l. none; kinds = kinds_rise }

  plan_long : (d.kind ≡ 2 → judged_sheet true d.set d.alloc ≡ 0) → length (plan_sent d) ≤ most_fields
  plan_long judged =
      ⊎_elim (λ (e : d.kind ≡ 2). omega (arith, ap length (plan_first d e), fields_few d.set d.alloc (judged e)))
      (λ (e : d.kind ≢ 2). omega (arith, ap length (plan_none d e)))
      (same_or_not d.kind 2)

  record_sent : is_record_line s ≡ true → goes_out (with_record d) ≡ true → LineSent d s
  record_sent h out =
      let size = ap length (sent_record d s h out) ∙ length-append (plan_sent d) (entry_bytes (entry_in s)) in
      let field = field_short (entry_in s) in
      let drafted = ap (λ (x : Draft). x.kind) (record_drafted_lem s h d) ∙ out_kind d out in
      record {
        long = omega (arith, plan_long (out_judged d out));
        short = λ h. omega (arith, ap length (plan_none d (omega arith)));
        silent = λ l. absurd (omega arith);
        kinds = kinds_rise;
      }

  pub line_sent : LineSent d s
  line_sent =
      ⊎_elim (λ (h : is_record_line s ≡ true).
      ⊎_elim (λ (out : goes_out (with_record d) ≡ true). record_sent h out)
      (λ (out : goes_out (with_record d) ≡ false). nothing_sent (sent_stopped d s out))
      (true_or_false (goes_out (with_record d))))
      (λ (h : is_record_line s ≡ false). nothing_sent (sent_other d s h))
      (true_or_false (is_record_line s))

-- ---- the text, byte after byte

pub sent_snoc : (c : Composing) (bs : List ℕ) (b : ℕ) → sent_over c (bs ++ b ∷ []) ≡ sent_over c bs ++ sent_at (compose_after c bs) b
unfolding compose_after sent_over
sent_snoc c [] b = append-nil (sent_at c b)
sent_snoc c (x ∷ bs) b =
    rw (sent_snoc (compose_on c x) bs b) (sym (append_assoc (sent_at c x) (sent_over (compose_on c x) bs) (sent_at (compose_after (compose_on c x) bs) b)))

-- it may be read in pieces
pub sent_append : (c : Composing) (first rest : List ℕ) → sent_over c (first ++ rest) ≡ sent_over c first ++ sent_over (compose_after c first) rest
unfolding compose_after sent_over
sent_append c [] rest = refl
sent_append c (b ∷ first) rest =
    rw (sent_append (compose_on c b) first rest) (sym (append_assoc (sent_at c b) (sent_over (compose_on c b) first) (sent_over (compose_after (compose_on c b) first) rest)))

pub sent_goes_on : (c : Composing) (b : ℕ) → b ≢ newline → sent_at c b ≡ []
unfolding sent_at
sent_goes_on c b e = rw (ne_eqb b newline e) refl

pub sent_line_ends : (c : Composing) (b : ℕ) → b ≡ newline → sent_at c b ≡ sent_by c.draft c.scan
unfolding sent_at
sent_line_ends c b e = rw (eq-eqb b newline e) refl

-- ---- a piece of the text

pub composed_none : (c : Composing) (text page : List ℕ) → length page < page_size → ComposedOn c text page page (record { composing = c; length = 0 })
unfolding piece_of compose_after
composed_none c text page small = record { behind = rw (lt-ltb (length page) page_size small); sent = not_printed small }

pub piece_few : (text piece : List ℕ) → piece ≡ take piece_size text → length piece ≤ piece_size
piece_few text piece e = rw (e, length-take) (omega arith)

pub composed_piece : (c : Composing) (text piece before after : List ℕ) (r : Composed)
    → piece ≡ take piece_size text → page_size ≤ length before → ComposedPiece c piece before after r → ComposedOn c text before after r
unfolding piece_of
composed_piece c text piece before after r e large h =
    let whole = le-ltb (length before) page_size large in
    let put : PutShort (most_sent piece_size) before 0 (sent_over c piece) after r.length = record { put = h.sent; short = omega (arith, h.sent.next, h.short) } in
    record {
      behind = rw whole (h.behind ∙ ap (compose_after c) e);
      sent = rw whole (printed put (ap (sent_over c) e) large (omega arith));
    }

-- ---- a whole line

-- a line lets out what was scanned of it
pub sent_line : (c : Composing) (bs : List ℕ) → has_no_end bs ≡ true → sent_over c (bs ++ (newline ∷ [])) ≡ sent_by c.draft (stepped_over c.scan bs)
unfolding sent_over stepped_over
sent_line c [] h = append-nil (sent_at c newline) ∙ sent_line_ends c newline refl
sent_line c (b ∷ bs) h =
    let inside = first_and_rest b bs h in
    rw (sent_goes_on c b inside.0) (ap (λ (x : Composing). sent_over x (bs ++ (newline ∷ []))) (text_goes_on c b inside.0))
    ∙ sent_line (record { draft = c.draft; scan = stepped c.scan b }) bs inside.1

-- one newline more between two lines lets out nothing
pub sent_newline : (d : Draft) → sent_over (at_rest d) (newline ∷ []) ≡ []
unfolding has_no_end stepped_over
sent_newline d = sent_line (at_rest d) [] refl ∙ sent_other d fresh_scan refl

no_bytes : (xs : List ℕ) → length xs ≡ 0 → xs ≡ []
no_bytes [] e = refl
no_bytes (x ∷ xs) e = absurd (omega (arith, e))

-- before the first record nothing has gone out
module _ (c : Composing) (b : ℕ) (l : (compose_on c b).draft.kind ≤ 2) where
  byte_silent : (c.draft.kind ≤ 2) × (sent_at c b ≡ [])
  byte_silent =
      ⊎_elim (λ (e : b ≡ newline).
      let was : (line_drafted c.draft c.scan).kind ≤ 2 = omega (arith, l, ap (λ (x : Composing). x.draft.kind) (text_line_ends c b e)) in
      let sent = line_sent c.draft c.scan in
      (sent.kinds was, sent_line_ends c b e ∙ no_bytes _ (sent.silent was)))
      (λ (e : b ≢ newline). (omega (arith, l, ap (λ (x : Composing). x.draft.kind) (text_goes_on c b e)), sent_goes_on c b e))
      (same_or_not b newline)

pub text_silent : (c : Composing) (bs : List ℕ) → (compose_after c bs).draft.kind ≤ 2 → (c.draft.kind ≤ 2) × (sent_over c bs ≡ [])
unfolding compose_after sent_over
text_silent c [] l = (l, refl)
text_silent c (b ∷ bs) l =
    let rest = text_silent (compose_on c b) bs l in
    let byte = byte_silent c b rest.0 in
    (byte.0, rw (byte.1, rest.1) refl)

-- ---- the last bytes

module _ (d : Draft) (out : List ℕ) where
  pub end_of_log : goes_out d ≡ true → 3 ≤ length out → (end_answer d out ≡ record { length = 3; number = 0 }) × (end_buffer d out ≡ end_bytes ++ drop 3 out)
  unfolding end_answer end_buffer write_answer laid_after
  end_of_log g room =
      let fits : room_number 3 (length out) ≡ 0 = held (leb 3 (length out)) 14 0 (le-leb 3 (length out) room) in
      (rw (g, fits) refl, rw (g, fits) (laid_first out end_bytes))

  pub end_of_sheet : goes_out d ≡ false → (end_answer d out ≡ composed_answer d out) × (end_buffer d out ≡ composed_buffer d out)
  unfolding end_answer end_buffer
  end_of_sheet g = (rw g refl, rw g refl)

module _ (d : Draft) (before after : List ℕ) where
  pub ended_sheet : (w : Written) → goes_out d ≡ false → WroteDraft d before after w → WroteEnd d before after w
  ended_sheet w g x =
      let same = end_of_sheet d before g in
      record { answer = x.answer ∙ sym same.0; buffer = x.buffer ∙ sym same.1; fits = x.fits; counts = x.counts }

  module _ (number : ℕ) (g : goes_out d ≡ true) (p : PutAt 0 end_bytes 0 before after number) where
    end_buffer_lem : after ≡ end_buffer d before
    unfolding end_buffer
    end_buffer_lem = rw g p.buffer

    end_answer_lem : end_answer d before ≡ write_answer number 3
    unfolding end_answer
    end_answer_lem = rw (g, p.answer) refl

    pub end_refused : number ≢ 0 → WroteEnd d before after (record { length = 0; number = number })
    end_refused k = record { answer = sym (end_answer_lem ∙ answer_refused number 3 k); buffer = end_buffer_lem; fits = omega arith; counts = refl }

    pub ended_log : number ≡ 0 → length after ≡ length before → WroteEnd d before after (record { length = 3; number = number })
    ended_log k same =
        let room : 3 ≤ length before = leb-true 3 (length before) (passed (leb 3 (length before)) 14 0 (omega arith) (sym p.answer ∙ k)).0 in
        let inside : 3 ≤ length after = omega arith in
        record {
          answer = ap (λ (n : ℕ). record { length = 3; number = n }) k ∙ sym (end_answer_lem ∙ answer_accepted number 3 k);
          buffer = end_buffer_lem;
          fits = inside;
          counts = sym (length-take-le 3 after inside);
        }

pub not_a_log : (d : Draft) → d.kind ≤ 2 → goes_out d ≡ false
not_a_log d l = rw (ne_eqb d.kind 3 (omega arith)) (and-false (is_whole d))

-- ---- texts that are no logs

-- what a byte keeps of the draft
on_byte : (P : Draft → Type 0) (c : Composing) (b : ℕ) → P c.draft → P (on_next_line (line_drafted c.draft c.scan)) → P (compose_on c b).draft
unfolding compose_on
on_byte P c b same line =
    ⊎_elim (λ (e : eqb b newline ≡ true). rw e line) (λ (e : eqb b newline ≡ false). rw e same) (true_or_false (eqb b newline))

-- a text of a draft that lets nothing out at any line
module _ (P : Draft → Type 0) (line : (d : Draft) (s : Scan) → P d → P (on_next_line (line_drafted d s))) (silent : (d : Draft) (s : Scan) → P d → sent_by d s ≡ []) where
  byte_nothing : (c : Composing) (b : ℕ) → P c.draft → sent_at c b ≡ []
  unfolding sent_at
  byte_nothing c b p =
      ⊎_elim (λ (e : eqb b newline ≡ true). rw e (silent c.draft c.scan p)) (λ (e : eqb b newline ≡ false). rw e refl) (true_or_false (eqb b newline))

  pub nothing_out : (c : Composing) (bs : List ℕ) → P c.draft → (sent_over c bs ≡ []) × P (compose_after c bs).draft
  unfolding compose_after sent_over
  nothing_out c [] p = (refl, p)
  nothing_out c (b ∷ bs) p =
      let rest = nothing_out (compose_on c b) bs (on_byte P c b p (line c.draft c.scan p)) in
      (rw (byte_nothing c b p, rest.0) refl, rest.1)

broken_sent : (d : Draft) (s : Scan) → Broken d → sent_by d s ≡ []
broken_sent d s b = sent_stopped d s (rw (broken_whole (with_record d) (record_too d s b)) refl)

pub broken_text_lem : (c : Composing) (bs : List ℕ) → Broken c.draft → (sent_over c bs ≡ []) × Broken (compose_after c bs).draft
broken_text_lem = nothing_out Broken stays_broken broken_sent

OfRefused : Draft → Type 0
OfRefused d = d.kind ≡ 4

refused_sent : (d : Draft) (s : Scan) → d.kind ≡ 4 → sent_by d s ≡ []
refused_sent d s k =
    let other : (with_record d).kind ≢ 3 = omega (arith, k, record_stays d s (omega arith)) in
    sent_stopped d s (rw (ne_eqb (with_record d).kind 3 other) (and-false (is_whole (with_record d))))

pub refused_plan_text : (c : Composing) (bs : List ℕ) → c.draft.kind ≡ 4 → (sent_over c bs ≡ []) × ((compose_after c bs).draft.kind ≡ 4)
unfolding OfRefused
refused_plan_text = nothing_out OfRefused (λ d s k. kind_stays d s (omega (arith, k)) ∙ k) refused_sent

pub broken_end : (d : Draft) (out : List ℕ) → Broken d → (end_answer d out ≡ refused_writing 2) × (end_buffer d out ≡ out)
unfolding end_answer end_buffer composed_answer composed_buffer
broken_end d out b = let e = broken_whole d b in (rw e refl, rw e refl)

-- no line of it is a record
module _ (c : Composing) (b : ℕ) (h : cond (eqb b newline) (not (is_record_line c.scan)) true ≡ true) (few : c.draft.kind ≤ 2) where
  other_byte : (sent_at c b ≡ []) × ((compose_on c b).draft.kind ≤ 2)
  unfolding sent_at compose_on
  other_byte =
      ⊎_elim (λ (e : eqb b newline ≡ true).
      let other = not-true (is_record_line c.scan) (rw e at h) in
      rw e (sent_other c.draft c.scan other, no_log c.draft c.scan other few))
      (λ (e : eqb b newline ≡ false). rw e (refl, few))
      (true_or_false (eqb b newline))

other_text : (c : Composing) (bs : List ℕ) → no_record c bs ≡ true → c.draft.kind ≤ 2 → (compose_after c bs).draft.kind ≤ 2
unfolding no_record compose_after
other_text c [] h few = few
other_text c (b ∷ bs) h few =
    let both = and-true (cond (eqb b newline) (not (is_record_line c.scan)) true) _ h in
    other_text (compose_on c b) bs both.1 (other_byte c b both.0 few).1

-- so its last bytes are its sheet
pub no_record_text : (text out : List ℕ) → no_record compose_start (text ++ (newline ∷ [])) ≡ true
    → (sent_of text ≡ []) × (end_answer (draft_of text) out ≡ composed_answer (draft_of text) out) × (end_buffer (draft_of text) out ≡ composed_buffer (draft_of text) out)
no_record_text text out h =
    let few = other_text compose_start (text ++ (newline ∷ [])) h (omega arith) in
    let sheet = end_of_sheet (draft_of text) out (not_a_log (draft_of text) few) in
    ((text_silent compose_start (text ++ (newline ∷ [])) few).1, sheet.0, sheet.1)

-- ---- numbers that are too large

module _ (s : Scan) where
  pub wide_station : 256 ≤ at s.values 0 → is_record_line s ≡ false
  wide_station l = rw (le-ltb (at s.values 0) 256 l, and-false (is_line s (code_of visit_word) 5), and-false (is_line s (code_of mark_word) 2)) refl

  pub wide_mark : s.word ≡ code_of mark_word → 256 ≤ at s.values 1 → is_record_line s ≡ false
  wide_mark w l =
      ⊎_elim (λ (v : is_visit_line s ≡ true).
      let visit = (line_worded s (code_of visit_word) 5 (and-true (is_line s (code_of visit_word) 5) _ v).0).1 in
      absurd (omega (arith, w, visit)))
      (λ (v : is_visit_line s ≡ false).
      rw (v, le-ltb (at s.values 1) 256 l, and-false (ltb (at s.values 0) 256), and-false (is_line s (code_of mark_word) 2)) refl)
      (true_or_false (is_visit_line s))

-- ---- lines out of place

pub early_record : (d : Draft) → d.kind < 2 → Broken (with_record d)
unfolding with_record
early_record d l = rw (ne_eqb d.kind 2 (omega arith), lt-ltb d.kind 3 (omega arith)) (inr refl)

-- behind a record
module _ (d : Draft) (s : Scan) (logged : 3 ≤ d.kind) where
  misplaced_here : Broken (misplaced d)
  misplaced_here = inr refl

  station_late : (kind : ℕ) → kind ≤ 2 → Broken (with_station d s kind)
  unfolding with_station
  station_late kind l =
      let few = and-false (ltb d.set.n 128) in
      let nowhere = and-false (leb 1 d.head) in
      rw (ne_eqb d.kind 0 (omega arith), ne_eqb d.kind kind (omega arith), few, nowhere) misplaced_here

  ttrt_late : 1 ≤ d.head → (ttrt : ℕ) → Broken (with_ttrt d ttrt)
  unfolding with_ttrt
  ttrt_late some ttrt = rw (ne_eqb d.head 0 (omega arith)) misplaced_here

  further_late : d.set.n ≢ 0 → (tag number : ℕ) → Broken (with_further d tag number)
  unfolding with_further
  further_late some tag number =
      let above = and-false (ltb d.head tag) in
      let nowhere = and-false (leb 1 d.head) in
      rw (ne_eqb d.set.n 0 some, above, nowhere) misplaced_here

  unread_late : d.line ≢ 0 → Broken (with_unread d)
  unfolding with_unread
  unread_late some = inl (one_named d.unread d.line)

  other_late : d.line ≢ 0 → is_record_line s ≡ false → Broken (record_drafted d s)
  unfolding record_drafted
  other_late some other = rw other (unread_late some)

  pub late_line : 1 ≤ d.head → d.set.n ≢ 0 → d.line ≢ 0 → is_empty_line s ≡ false → is_record_line s ≡ false → Broken (line_drafted d s)
  late_line head some counted full other =
      behind_line Broken d s (λ e. absurd (true≢false (sym e ∙ full))) (ttrt_late head _) (further_late some _ _)
      (station_late 1 (omega arith)) (station_late 2 (omega arith)) (other_late counted other)
