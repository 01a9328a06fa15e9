-- Where no line had a number out of its range, every number of the draft is in its range, and so `compose` does not refuse it with 4.
use Prim.Native.Nat.{ℕ, zero, suc, ◌+◌, ◌≤◌, ◌<◌}
use mathlib.Core.Path.{◌≡◌, refl, sym, ap, ◌∙◌}
use mathlib.Core.Bool.{Bool, true, false, cond, not, ◌&&◌, ◌||◌, false≢true, true≢false}
use mathlib.Core.List.{List, [], ◌∷◌, ◌++◌}
use mathlib.Core.Logic.{⊎_elim, ◌≢◌}
use native.Mathlib.Omega.{arith}
use Rattle.std.specs.Prelude.{Option, Some, is_none}
use lib.Dec.{leb, ltb, eqb}
use lib.ListN.{length, length-set, set}
use lib.Seq.{get_or-set_same, get_or-set_other}
use borrow.Author.Tests.{eq-eqb, ne_eqb, eqb-true, ltb-true, ltb-false, leb-true, not-false}
use Rattle.units.specs.Numbers.{accepted, buffer_too_short, most_ttrt, last_mode, most_frame, most_grid, most_walk, most_c, most_d, most_p, most_s}
use Rattle.units.specs.Judging.{or_else}
use Rattle.units.specs.Places.{at}
use Rattle.units.proofs.JudgingLaws.{true_or_false, and-true, decides_between}
use Rattle.units.proofs.SmallLaws.{below_or_not}
use Rattle.fields.specs.Fields.{head_tag, mode_tag}
use Rattle.fields.specs.Header.{header_number}
use Rattle.sets.specs.Header.{head_of, with_head_number}
use Rattle.sets.specs.Rules.{HeadInRange, StationInRange, NumbersAllowed}
use Rattle.sets.proofs.SetLaws.{judged_four}
use Rattle.plans.proofs.PlanLaws.{given_four}
use Rattle.sheets.specs.Reading.{then_number, judged_sheet}
use Rattle.sheets.specs.Writing.{write_answer}
use Rattle.command_compose.specs.Sent.{goes_out, end_answer}
use Rattle.sets.specs.declared.Head.{Head}
use Rattle.line_reader.specs.Scan.{code_of, is_readable}
use Rattle.line_reader.specs.declared.Scan.{Scan}
use Rattle.command_compose.specs.Compose.{ttrt_word, mode_word, frame_word, grid_word, station_word, all_fit, is_line, is_ttrt, line_tag, with_ttrt, with_further, with_station, with_record, set_and, alloc_and, line_drafted, on_next_line, compose_start, compose_on, compose_after, is_whole, composed_answer, draft_of, blank_draft, headed_by, misplaced}
use Rattle.command_compose.specs.declared.Draft.{Draft}
use Rattle.command_compose.specs.declared.Composing.{Composing}
use Rattle.text_faults.specs.declared.Watch.{Watch}
use Rattle.text_faults.proofs.LineLaws.{known, read_same}
use Rattle.text_faults.proofs.AlikeLaws.{by_line, Alike, alike_on, alike_start, alike}
use Rattle.text.specs.Text.{newline}
use Rattle.text_faults.specs.Lines.{is_read}
use Rattle.text_faults.specs.Watching as watching
use Rattle.text_faults.specs.Watching.{watch_start, line_ended, watched, watch_after, watch_of}
use Rattle.text_faults.specs.Ranges.{unless, station_out, number_out}

-- every number of a draft is in its range, and its arrays have 128 places
pub record Good (d : Draft) : Type 0 where
  pub header : 1 ≤ d.head → HeadInRange d.set.head
  pub stations : (i : ℕ) → i < d.set.n → StationInRange (at d.set.w i) (at d.set.c i) (at d.set.d i) (at d.set.p i)
  pub shares : (i : ℕ) → i < d.set.n → at d.alloc.s i ≤ most_s
  pub long_w : length d.set.w ≡ 128
  pub long_c : length d.set.c ≡ 128
  pub long_d : length d.set.d ≡ 128
  pub long_p : length d.set.p ≡ 128
  pub long_s : length d.alloc.s ≡ 128

-- the same numbers, and another line, kind or place
pub as_before : (d : Draft) (line : ℕ) (unread : Option ℕ) (kind : ℕ) (wrong : Bool) → Good d → Good (record { set = d.set; alloc = d.alloc; line = line; unread = unread; head = d.head; kind = kind; wrong = wrong })
as_before d line unread kind wrong g =
    record {
      header = g.header;
      stations = g.stations;
      shares = g.shares;
      long_w = g.long_w;
      long_c = g.long_c;
      long_d = g.long_d;
      long_p = g.long_p;
      long_s = g.long_s;
    }

pub blank_good : Good blank_draft
blank_good =
    record {
      header = λ l. absurd (omega arith);
      stations = λ i l. absurd (omega arith);
      shares = λ i l. absurd (omega arith);
      long_w = refl;
      long_c = refl;
      long_d = refl;
      long_p = refl;
      long_s = refl;
    }

either : (b : Bool) (x y : Draft) → (b ≡ true → Good x) → Good y → Good (cond b x y)
either true x y g h = g refl
either false x y g h = h

holds : (b : Bool) (n : ℕ) → 1 ≤ n → unless b n ≡ 0 → b ≡ true
unfolding unless
holds true n l e = refl
holds false n l e = absurd (omega arith)

-- ---- the header

with_head : (d : Draft) (tag : ℕ) (h : Head) → Good d → HeadInRange h → Good (headed_by d tag h)
with_head d tag h g r =
    record {
      header = λ l. r;
      stations = g.stations;
      shares = g.shares;
      long_w = g.long_w;
      long_c = g.long_c;
      long_d = g.long_d;
      long_p = g.long_p;
      long_s = g.long_s;
    }

-- the word of a line
word_is : (s : Scan) (code n : ℕ) → is_line s code n ≡ true → s.word ≡ code
word_is s code n e = eqb-true _ _ (and-true (eqb s.word code) (eqb s.count n && all_fit s) (and-true (is_readable s) _ e).1).0

module _ (d : Draft) (s : Scan) (g : Good d) (fine : number_out s ≡ 0) where
  good_misplaced : Good (misplaced d)
  good_misplaced = as_before d d.line d.unread d.kind true g

  good_ttrt : is_ttrt s ≡ true → Good (with_ttrt d (at s.values 0))
  unfolding with_ttrt number_out
  good_ttrt e =
      let w = word_is s (code_of ttrt_word) 1 e in
      let r = (decides_between 1 most_ttrt (at s.values 0)).0 (holds _ 1 (omega arith) (rw w at fine)) in
      either (eqb d.head 0) _ _
      (λ t. with_head d head_tag (head_of (at s.values 0)) g (record { ttrt = r; mode = (omega arith, omega arith); frame = (omega arith, omega arith); grid = (omega arith, omega arith) }))
      good_misplaced

  -- a further line of the header, where the header that it makes of one in range is in range
  further_by : (tag : ℕ) → (HeadInRange d.set.head → HeadInRange (with_head_number d.set.head tag (header_number true (at s.values 0)))) → Good (with_further d tag (at s.values 0))
  unfolding with_further
  further_by tag makes =
      either (leb head_tag d.head && (ltb d.head tag && eqb d.set.n 0)) _ _
      (λ t. with_head d tag _ g (makes (g.header (leb-true _ _ (and-true _ _ t).0))))
      good_misplaced

  -- a number of 2 or more is given as it stands
  as_given : 2 ≤ at s.values 0 → header_number true (at s.values 0) ≡ at s.values 0
  unfolding header_number
  as_given l = rw (ne_eqb (at s.values 0) 1 (omega arith)) refl

  good_mode : s.word ≡ code_of mode_word → Good (with_further d 4 (at s.values 0))
  unfolding number_out with_head_number
  good_mode w =
      let r = (decides_between 2 last_mode (at s.values 0)).0 (holds _ 2 (omega arith) (rw w at fine)) in
      further_by 4 (λ h. rw (as_given r.0) (record { ttrt = h.ttrt; mode = (omega (arith, r.0), r.1); frame = h.frame; grid = h.grid }))

  good_frame : s.word ≡ code_of frame_word → Good (with_further d 5 (at s.values 0))
  unfolding number_out with_head_number
  good_frame w =
      let r = (decides_between 2 most_frame (at s.values 0)).0 (holds _ 3 (omega arith) (rw w at fine)) in
      further_by 5 (λ h. rw (as_given r.0) (record { ttrt = h.ttrt; mode = h.mode; frame = (omega (arith, r.0), r.1); grid = h.grid }))

  good_grid : s.word ≡ code_of grid_word → Good (with_further d 6 (at s.values 0))
  unfolding number_out with_head_number
  good_grid w =
      let r = (decides_between 2 most_grid (at s.values 0)).0 (holds _ 4 (omega arith) (rw w at fine)) in
      further_by 6 (λ h. rw (as_given r.0) (record { ttrt = h.ttrt; mode = h.mode; frame = h.frame; grid = (omega (arith, r.0), r.1) }))

  good_further : leb mode_tag (line_tag s) ≡ true → Good (with_further d (line_tag s) (at s.values 0))
  unfolding line_tag
  good_further e =
      ⊎_elim (λ (t : is_line s (code_of mode_word) 1 ≡ true). rw t (good_mode (word_is s _ 1 t)))
      (λ (m : is_line s (code_of mode_word) 1 ≡ false).
      ⊎_elim (λ (t : is_line s (code_of frame_word) 1 ≡ true). rw (m, t) (good_frame (word_is s _ 1 t)))
      (λ (f : is_line s (code_of frame_word) 1 ≡ false).
      ⊎_elim (λ (t : is_line s (code_of grid_word) 1 ≡ true). rw (m, f, t) (good_grid (word_is s _ 1 t)))
      (λ (n : is_line s (code_of grid_word) 1 ≡ false). absurd (false≢true (rw (m, f, n) at e)))
      (true_or_false (is_line s (code_of grid_word) 1)))
      (true_or_false (is_line s (code_of frame_word) 1)))
      (true_or_false (is_line s (code_of mode_word) 1))

-- ---- a station

record StationFine (values : List ℕ) : Type 0 where
  walk : at values 0 ≤ most_walk
  longest : at values 1 ≤ most_c
  deadline : (1 ≤ at values 2) × (at values 2 ≤ most_d)
  gap : (at values 2 ≤ at values 3) × (at values 3 ≤ most_p)
  share : at values 4 ≤ most_s

-- the first test that fails gives its number
first_four : (a b c e : Bool) (f : ℕ) → cond a 5 (cond b 6 (cond c 7 (cond e 8 f))) ≡ 0 → (a ≡ false) × ((b ≡ false) × ((c ≡ false) × ((e ≡ false) × (f ≡ 0))))
first_four true b c e f z = absurd (omega arith)
first_four false true c e f z = absurd (omega arith)
first_four false false true e f z = absurd (omega arith)
first_four false false false true f z = absurd (omega arith)
first_four false false false false f z = (refl, (refl, (refl, (refl, z))))

station_fine : (values : List ℕ) → station_out values ≡ 0 → StationFine values
unfolding station_out
station_fine values z =
    let t = first_four _ _ _ _ _ z in
    record {
      walk = ltb-false _ _ t.0;
      longest = ltb-false _ _ t.1.0;
      deadline = (decides_between _ _ _).0 (not-false _ t.1.1.0);
      gap = (decides_between _ _ _).0 (not-false _ t.1.1.1.0);
      share = leb-true _ _ (holds _ 9 (omega arith) t.1.1.1.1);
    }

-- what holds of the old places and of the next one holds of all
at_next : (xs : List ℕ) (n v i : ℕ) → length xs ≡ 128 → n < 128 → i ≡ n → at (set xs n v) i ≡ v
at_next xs n v i long few e = rw e (get_or-set_same xs n v 0 (omega arith))

at_old : (xs : List ℕ) (n v i : ℕ) → i < n → at (set xs n v) i ≡ at xs i
at_old xs n v i l = get_or-set_other xs n i v 0 (λ e. omega arith)

module _ (d : Draft) (s : Scan) (g : Good d) (fine : number_out s ≡ 0) where
  with_station_lem : (few : d.set.n < 128) → StationFine s.values → (kind : ℕ)
      → Good (record { set = set_and d.set s; alloc = alloc_and d.alloc d.set.n s; line = d.line; unread = d.unread; head = d.head; kind = kind; wrong = d.wrong })
  with_station_lem few f kind =
      let n = d.set.n in
      let v : ℕ → ℕ = λ j. at s.values j in
      record {
        header = g.header;
        stations =
            λ i l.
            ⊎_elim (λ (b : i < n).
            rw (at_old d.set.w n (v 0) i b, at_old d.set.c n (v 1) i b, at_old d.set.d n (v 2) i b, at_old d.set.p n (v 3) i b) (g.stations i b))
            (λ (b : n ≤ i).
            let e : i ≡ n = omega arith in
            rw (at_next d.set.w n (v 0) i g.long_w few e, at_next d.set.c n (v 1) i g.long_c few e, at_next d.set.d n (v 2) i g.long_d few e, at_next d.set.p n (v 3) i g.long_p few e)
            (record { walk = f.walk; longest = f.longest; deadline = f.deadline; gap = f.gap }))
            (below_or_not i n);
        shares =
            λ i l.
            ⊎_elim (λ (b : i < n). rw (at_old d.alloc.s n (v 4) i b) (g.shares i b))
            (λ (b : n ≤ i). let e : i ≡ n = omega arith in rw (at_next d.alloc.s n (v 4) i g.long_s few e) f.share)
            (below_or_not i n);
        long_w = length-set d.set.w n (v 0) ∙ g.long_w;
        long_c = length-set d.set.c n (v 1) ∙ g.long_c;
        long_d = length-set d.set.d n (v 2) ∙ g.long_d;
        long_p = length-set d.set.p n (v 3) ∙ g.long_p;
        long_s = length-set d.alloc.s n (v 4) ∙ g.long_s;
      }

  good_station : s.word ≡ code_of station_word → (kind : ℕ) → Good (with_station d s kind)
  unfolding with_station number_out
  good_station w kind =
      either (leb head_tag d.head && (ltb d.set.n 128 && (eqb d.kind 0 || eqb d.kind kind))) _ _
      (λ t. with_station_lem (ltb-true _ _ (and-true (ltb d.set.n 128) (eqb d.kind 0 || eqb d.kind kind) (and-true (leb head_tag d.head) _ t).1).0) (station_fine s.values (rw w at fine)) kind)
      (as_before d d.line d.unread d.kind true g)

  good_record : Good (with_record d)
  unfolding with_record
  good_record =
      either (eqb d.kind 2) _ _ (λ t. as_before d d.line d.unread _ d.wrong g)
      (either (ltb d.kind 3) _ _ (λ t. as_before d d.line d.unread d.kind true g) g)

  good_line : known s ≡ true → Good (line_drafted d s)
  good_line k =
      by_line d s Good k g (good_ttrt d s g fine) (good_further d s g fine) (λ e. good_station (word_is s _ 4 e) 1) (λ e. good_station (word_is s _ 5 e) 2) good_record

-- ---- the text

-- no line had a number out of its range
abbrev Fine : Watch → Composing → Type 0
Fine w c = is_none w.unread ≡ true → w.out ≡ 0 → Good c.draft

-- a line that was read and is not named had none
not_named : (a b : Bool) (x y : Watch) → (cond (a && b) x y).out ≡ 0 → x.out ≢ 0 → (y.out ≡ 0) × (a && b ≡ false)
not_named true true x y e n = absurd (n e)
not_named true false x y e n = (e, refl)
not_named false b x y e n = (e, refl)

unread_line_lem : (w : Watch) → is_read w.scan ≡ false → (line_ended w).unread ≡ Some w.line
unfolding line_ended
unread_line_lem w r = rw r refl

-- a line that was read
line_fine : (w : Watch) (c : Composing) → Alike w c → Fine w c → is_none w.unread ≡ true → is_read w.scan ≡ true → (line_ended w).out ≡ 0 → Good (on_next_line (line_drafted c.draft c.scan))
unfolding line_ended
line_fine w c a f z r o =
    let line = a.line z in
    let some = a.some in
    let number = number_out w.scan in
    let t = not_named (eqb w.out 0) (not (eqb number 0)) (watching.next_line w w.line number) (watching.next_line w w.out w.number) (rw r at o) (λ e. omega (arith, e, line, some)) in
    let within : number ≡ 0 = eqb-true _ _ (not-false _ (rw (eq-eqb _ _ t.0) at t.1)) in
    let here = a.scan z in
    let k : known c.scan ≡ true = ap known (sym here) ∙ sym (read_same w.scan) ∙ r in
    as_before (line_drafted c.draft c.scan) _ _ _ _ (good_line c.draft c.scan (f z t.0) (ap number_out (sym here) ∙ within) k)

fine_on : (w : Watch) (c : Composing) (b : ℕ) → Alike w c → Fine w c → Fine (watched w b) (compose_on c b)
unfolding watched compose_on
fine_on w c b a f =
    ⊎_elim (λ (z : is_none w.unread ≡ true).
    ⊎_elim (λ (n : eqb b newline ≡ true).
    ⊎_elim (λ (r : is_read w.scan ≡ true). rw (z, n) (λ u o. line_fine w c a f z r o))
    (λ (r : is_read w.scan ≡ false). rw (z, n) (λ u o. absurd (false≢true (rw (unread_line_lem w r) at u))))
    (true_or_false (is_read w.scan)))
    (λ (n : eqb b newline ≡ false). rw (z, n) f)
    (true_or_false (eqb b newline)))
    (λ (z : is_none w.unread ≡ false). rw z (λ u o. absurd (true≢false (sym u ∙ z))))
    (true_or_false (is_none w.unread))

fine_after : (w : Watch) (c : Composing) (bs : List ℕ) → Alike w c → Fine w c → Fine (watch_after w bs) (compose_after c bs)
unfolding watch_after compose_after
fine_after w c [] a f = f
fine_after w c (b ∷ bs) a f = fine_after (watched w b) (compose_on c b) bs (alike_on w c b a) (fine_on w c b a f)

good_text : (text : List ℕ) → is_none (watch_of text).unread ≡ true → (watch_of text).out ≡ 0 → Good (draft_of text)
good_text text = fine_after watch_start compose_start (text ++ (newline ∷ [])) alike_start (λ u o. blank_good)

-- ---- 4

written_four : (k size : ℕ) → (write_answer k size).number ≡ k
unfolding write_answer
written_four zero size = refl
written_four (suc k) size = refl

then_four : (k : ℕ) (room : Bool) → then_number k (or_else room buffer_too_short accepted) ≡ 4 → k ≡ 4
unfolding then_number or_else
then_four zero true e = absurd (omega arith)
then_four zero false e = absurd (omega arith)
then_four (suc k) room e = e

room_four : (room : Bool) → or_else room buffer_too_short accepted ≢ 4
unfolding or_else
room_four true e = omega arith
room_four false e = omega arith

-- a good draft is not refused with 4
not_four : (d : Draft) (out : List ℕ) → Good d → (end_answer d out).number ≢ 4
unfolding end_answer composed_answer judged_sheet
not_four d out g e =
    ⊎_elim (λ (l : goes_out d ≡ true). room_four _ (sym (written_four _ 3) ∙ rw l at e))
    (λ (l : goes_out d ≡ false).
    ⊎_elim (λ (h : is_whole d ≡ true).
    let head = g.header (leb-true _ _ (and-true (not d.wrong) (leb head_tag d.head) (and-true (is_none d.unread) _ h).1).1) in
    let numbers : NumbersAllowed d.set = record { header = head; stations = g.stations } in
    ⊎_elim (λ (p : leb 2 d.kind ≡ true). ((given_four d.set d.alloc).0 (then_four _ _ (sym (written_four _ _) ∙ rw (l, h, p) at e))).1 (numbers, g.shares))
    (λ (p : leb 2 d.kind ≡ false). ((judged_four d.set).0 (then_four _ _ (sym (written_four _ _) ∙ rw (l, h, p) at e))).1 numbers)
    (true_or_false (leb 2 d.kind)))
    (λ (h : is_whole d ≡ false). let z : ◌≡◌ {A = ℕ} 2 4 = rw (l, h) at e in omega arith)
    (true_or_false (is_whole d)))
    (true_or_false (goes_out d))

-- a text with a line that cannot be read is refused with 2
not_whole : (d : Draft) (out : List ℕ) → is_none d.unread ≡ false → (end_answer d out).number ≢ 4
unfolding end_answer composed_answer
not_whole d out n e = let z : ◌≡◌ {A = ℕ} 2 4 = rw n at e in omega arith

pub out_named : (text out : List ℕ) → (end_answer (draft_of text) out).number ≡ 4 → (watch_of text).out ≢ 0
out_named text out e o =
    ⊎_elim (λ (z : is_none (watch_of text).unread ≡ true). not_four (draft_of text) out (good_text text z o) e)
    (λ (n : is_none (watch_of text).unread ≡ false). not_whole (draft_of text) out (rw (alike text).unread at n) e)
    (true_or_false (is_none (watch_of text).unread))
