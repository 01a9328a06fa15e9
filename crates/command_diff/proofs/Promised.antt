-- Everything that `specs/Promised.antt` lists, proved.
use Prim.Native.Nat.{ℕ, zero, suc, ◌+◌, ◌^◌, ◌≤◌, ◌<◌}
use mathlib.Core.Path.{◌≡◌, refl, sym, ap, subst, ◌∙◌}
use mathlib.Core.Bool.{Bool, true, false, false≢true}
use mathlib.Core.List.{List, [], ◌∷◌, ◌++◌}
use mathlib.Core.Logic.{◌≢◌, ◌↔◌, ⊎_elim}
use native.Mathlib.Omega.{arith}
use borrow.Author.Tests.{eqb-true, eqb-false, ltb-true, ne_eqb, lt-leb, le-leb, lt-ltb, le-ltb}
use lib.Dec.{eqb}
use lib.ListN.{length, take, drop, get_or, length-append}
use lib.Seq.{take_at}
use Rattle.units.specs.Numbers.{most_stations}
use Rattle.units.proofs.SmallLaws.{below_or_not}
use Rattle.units.proofs.JudgingLaws.{true_or_false, and-true}
use Rattle.sets.specs.Rules.{HeadInRange}
use Rattle.sets.specs.declared.Head.{Head}
use Rattle.sets.specs.declared.Set.{Set}
use Rattle.plans.specs.declared.Alloc.{Alloc}
use Rattle.fields.specs.Bytes.{AllBytes}
use Rattle.sets.specs.Header.{head_number}
use Rattle.sheets.specs.Layout.{plan_read}
use Rattle.sheets.specs.Reading.{set_in, read_answer, read_sheet, read_plan}
use Rattle.sheets.proofs.ReadLaws.{Kept, judged_kept, then_none, read_accepted, read_number_lem}
use Rattle.sheets.specs.declared.ReadPlan.{ReadPlan}
use Rattle.sheets.specs.declared.Written.{Written}
use Rattle.sheet_rules.specs.Promised.{There}
use Rattle.sheet_rules.proofs.Promised as sheet-rules
use Rattle.text.specs.Text.{decimal_within, line_on, line, page_size, page_with, length_on, Printed}
use Rattle.differences.specs.Views.{nth_of, header_of, number_of, view_of, SamePlan}
use Rattle.differences.specs.Differences.{Difference, in_header, in_station, one_sided, alone, Differs, In}
use Rattle.differences.proofs.NoneLaws.{is_none_lem, none_is}
use Rattle.differences.proofs.Promised as difference-rules
use Rattle.command_diff.specs.DiffText.{letter_word, side_word, old_word, new_word, same_word, words_of, line_of, lines_of, diff_text, lines_size, LinesPut, side_refused, diff_printed, is_same, DiffedOn}
use Rattle.command_diff.specs.declared.Diffed.{Diffed}
use Rattle.command_diff.specs.Promised.{Writable, AllWritable, plan_in, differences_in, ListsIn, BothPlans, SaysSame, Promised}
use Rattle.command_diff.proofs.BackLaws.{same_alone, text_tells}
use Rattle.command_diff.proofs.WorkedLaws.{worked, worked_back, refusal_line, new_refusal_line}
use Rattle.command_diff.proofs.AnswerLaws.{or_refused, or_accepted, few_read}

-- ---- the numbers of an accepted plan are small

answer_kept : (k : ℕ) (t : Set) (a : Alloc) → (k ≡ 0 → Kept true t a) → (read_answer k t a).number ≡ 0 → Kept true (read_answer k t a).set (read_answer k t a).alloc
unfolding read_answer
answer_kept zero t a h e = h refl
answer_kept (suc k) t a h e = absurd (omega (arith, e))

plan_kept : (bs : List ℕ) → (read_plan bs).number ≡ 0 → Kept true (read_plan bs).set (read_plan bs).alloc
unfolding read_sheet
plan_kept bs e = answer_kept _ _ _ (λ z. judged_kept true _ _ (then_none _ _ z).1) e

header_small : (h : Head) → HeadInRange h → (tag : ℕ) → header_of h tag < 2 ^ 64
unfolding header_of head_number
header_small h r tag =
    ⊎_elim (λ (a : eqb tag 1 ≡ true). rw a (omega (arith, r.ttrt.1)))
    (λ (a : eqb tag 1 ≡ false).
    rw a
    (⊎_elim (λ (b : eqb tag 4 ≡ true). rw b (omega (arith, r.mode.1)))
    (λ (b : eqb tag 4 ≡ false).
    rw b
    (⊎_elim (λ (c : eqb tag 5 ≡ true). rw c (omega (arith, r.frame.1))) (λ (c : eqb tag 5 ≡ false). rw c (omega (arith, r.grid.1))) (true_or_false (eqb tag 5))))
    (true_or_false (eqb tag 4))))
    (true_or_false (eqb tag 1))

nth_small : (w c d p s j : ℕ) → w < 2 ^ 64 → c < 2 ^ 64 → d < 2 ^ 64 → p < 2 ^ 64 → s < 2 ^ 64 → nth_of w c d p s j < 2 ^ 64
unfolding nth_of
nth_small w c d p s zero l m n o q = l
nth_small w c d p s (suc zero) l m n o q = m
nth_small w c d p s (suc (suc zero)) l m n o q = n
nth_small w c d p s (suc (suc (suc zero))) l m n o q = o
nth_small w c d p s (suc (suc (suc (suc j)))) l m n o q = q

module _ (t : Set) (a : Alloc) (k : Kept true t a) where
  station_small : (i : ℕ) → i < t.n → (j : ℕ) → number_of t a i j < 2 ^ 64
  station_small i l j =
      let s = k.numbers.stations i l in
      nth_small _ _ _ _ _ j (omega (arith, s.walk)) (omega (arith, s.longest)) (omega (arith, s.deadline.1)) (omega (arith, s.gap.1)) (omega (arith, k.allocations refl i l))

  alone_small : (new : Bool) (i : ℕ) → i < t.n → Writable (alone new (number_of t a) i)
  alone_small new i l =
      let f = station_small i l in
      let few = k.count.1 in
      ((omega (arith, few), f 0), (f 1, f 2), f 3, f 4)

module _ (t : Set) (a : Alloc) (u : Set) (b : Alloc) (k : Kept true t a) (l : Kept true u b) where
  writable : (d : Difference) → Differs (view_of t a) (view_of u b) d → Writable d
  writable (in_header tag old new) D = (
    ⊎_elim (λ e. omega (arith, e)) (λ e. omega (arith, e.1)) D.0,
    rw D.1.0 (header_small t.head k.numbers.header tag),
    rw D.1.1 (header_small u.head l.numbers.header tag),
  )
  writable (in_station i j old new) D =
      let in-old : i < t.n = ltb-true i t.n D.0.0 in
      let in-new : i < u.n = ltb-true i u.n D.0.1 in
      ((omega (arith, in-old, k.count.1), D.1), rw D.2.0 (station_small t a k i in-old j), rw D.2.1 (station_small u b l i in-new j))
  writable (one_sided true i p q r s x) D = subst Writable (sym D.1) (alone_small u b l true i (ltb-true i u.n D.0.1))
  writable (one_sided false i p q r s x) D = subst Writable (sym D.1) (alone_small t a k false i (ltb-true i t.n D.0.0))

-- ---- two files

module _ (old new : List ℕ) where
  lists_in : ListsIn old new (differences_in old new)
  lists_in =
      let p = read_plan old in
      let q = read_plan new in
      (difference-rules.promised).lists p.set p.alloc q.set q.alloc (few_read p old refl) (few_read q new refl)

  all_writable : (read_plan old).number ≡ 0 → (read_plan new).number ≡ 0 → AllWritable (differences_in old new)
  all_writable a b d i =
      let p = read_plan old in
      let q = read_plan new in
      writable p.set p.alloc q.set q.alloc (plan_kept old a) (plan_kept new b) d (lists_in.differs d i)

  refused_old : (read_plan old).number ≢ 0 → diff_printed old new ≡ side_refused old_word (read_plan old).number
  refused_old n = or_refused old_word _ _ n

  refused_new : (read_plan old).number ≡ 0 → (read_plan new).number ≢ 0 → diff_printed old new ≡ side_refused new_word (read_plan new).number
  refused_new a n = or_accepted old_word _ _ a ∙ or_refused new_word _ _ n

  printed_differences : (read_plan old).number ≡ 0 → (read_plan new).number ≡ 0 → diff_printed old new ≡ diff_text (differences_in old new)
  printed_differences a b = or_accepted old_word _ _ a ∙ or_accepted new_word _ _ b

  only_list : (ds : List Difference) → BothPlans old new → AllWritable ds → (diff_printed old new ≡ diff_text ds) ↔ ListsIn old new ds
  only_list ds b W =
      let p = read_plan old in
      let q = read_plan new in
      let said = printed_differences b.0 b.1 in (
        λ e. subst (ListsIn old new) (text_tells (differences_in old new) ds (all_writable b.0 b.1) W (sym said ∙ e)) lists_in,
        λ L. said ∙ ap diff_text (sym ((difference-rules.promised).one_list p.set p.alloc q.set q.alloc ds (few_read p old refl) (few_read q new refl) L)),
      )

  all_listed : (d : Difference) → Differs (plan_in old) (plan_in new) d → In d (differences_in old new)
  all_listed d D =
      let p = read_plan old in
      let q = read_plan new in
      (difference-rules.promised).all_listed p.set p.alloc q.set q.alloc d (few_read p old refl) (few_read q new refl) D

-- `same` is the text of no differences alone
text_none : diff_text [] ≡ line (same_word ∷ [])
unfolding diff_text
text_none = refl

none_told : (ds : List Difference) → diff_text ds ≡ line (same_word ∷ []) → ds ≡ []
unfolding diff_text lines_of
none_told [] e = refl
none_told (d ∷ ds) e = absurd (same_alone d (lines_of ds) (sym e))

-- ---- the same bytes

-- what stands in front of two equal lists, if it is as long
front_same : (x y s r : List ℕ) → length x ≡ length y → x ++ s ≡ y ++ r → x ≡ y
front_same x y s r l e = sym (take_at x s (length x) refl) ∙ ap (take (length x)) e ∙ take_at y r (length x) (sym l)

module _ (old new : List ℕ) (a : (read_plan old).number ≡ 0) (b : (read_plan new).number ≡ 0) where
  abbrev p : ReadPlan
  p = read_plan old

  abbrev q : ReadPlan
  q = read_plan new

  none_listed : (differences_in old new ≡ []) ↔ SamePlan (plan_in old) (plan_in new)
  none_listed = (difference-rules.promised).none_listed p.set p.alloc q.set q.alloc (few_read p old refl) (few_read q new refl)

  plans_same : SaysSame (diff_printed old new) → SamePlan (plan_in old) (plan_in new)
  plans_same e = none_listed.0 (none_told _ (sym (printed_differences old new a b) ∙ e))

  same_plans : SamePlan (plan_in old) (plan_in new) → SaysSame (diff_printed old new)
  same_plans same = printed_differences old new a b ∙ ap diff_text (none_listed.1 same) ∙ text_none

  bytes_same : AllBytes old → AllBytes new → SamePlan (plan_in old) (plan_in new) → old ≡ new
  bytes_same x y same =
      let parts = ((difference-rules.promised).same_plan p.set p.alloc q.set q.alloc).0 same in
      let long = length-append old new in
      let first = (sheet-rules.promised).plan_again old (old ++ new) x a (omega (arith, long)) in
      let second = (sheet-rules.promised).plan_again new (old ++ new) y b (omega (arith, long)) in
      let both = (sheet-rules.promised).plan_first_places p.set q.set p.alloc q.alloc (old ++ new) parts.0 parts.1 in
      front_same old new _ _ (ap (λ (r : Written). r.length) (sym first.0 ∙ both.0 ∙ second.0)) (sym first.1 ∙ both.1 ∙ second.1)

-- ---- `same`, told and printed

old_not_same : (n : ℕ) → side_refused old_word n ≡ line (same_word ∷ []) → ⊥
unfolding line line_on
old_not_same n e = omega (arith, ap (λ (z : List ℕ). get_or z 0 0) e)

new_not_same : (n : ℕ) → side_refused new_word n ≡ line (same_word ∷ []) → ⊥
unfolding line line_on
new_not_same n e = omega (arith, ap (λ (z : List ℕ). get_or z 0 0) e)

module _ (old new : List ℕ) where
  told_printed : is_same (read_plan old) (read_plan new) ≡ true → diff_printed old new ≡ line (same_word ∷ [])
  told_printed e =
      let p = and-true _ _ e in
      let q = and-true _ _ p.1 in
      printed_differences old new (eqb-true _ _ p.0) (eqb-true _ _ q.0) ∙ ap diff_text (is_none_lem _ q.1) ∙ text_none

  printed_told : diff_printed old new ≡ line (same_word ∷ []) → is_same (read_plan old) (read_plan new) ≡ true
  printed_told e =
      ⊎_elim (λ (a : eqb (read_plan old).number 0 ≡ true).
      ⊎_elim (λ (b : eqb (read_plan new).number 0 ≡ true).
      let none = none_told _ (sym (printed_differences old new (eqb-true _ _ a) (eqb-true _ _ b)) ∙ e) in
      rw (a, b) (none_is _ none))
      (λ (b : eqb (read_plan new).number 0 ≡ false). absurd (new_not_same _ (sym (refused_new old new (eqb-true _ _ a) (eqb-false _ _ b)) ∙ e)))
      (true_or_false (eqb (read_plan new).number 0)))
      (λ (a : eqb (read_plan old).number 0 ≡ false). absurd (old_not_same _ (sym (refused_old old new (eqb-false _ _ a)) ∙ e)))
      (true_or_false (eqb (read_plan old).number 0))

  -- both are accepted where `same` is printed
  both_plans : SaysSame (diff_printed old new) → BothPlans old new
  both_plans e = let p = and-true _ _ (printed_told e) in (eqb-true _ _ p.0, eqb-true _ _ (and-true _ _ p.1).0)

  same_files : SaysSame (diff_printed old new) ↔ (BothPlans old new × SamePlan (plan_in old) (plan_in new))
  same_files = (
    λ e. let b = both_plans e in (b, plans_same old new b.0 b.1 e),
    λ s. same_plans old new s.0.0 s.0.1 s.1,
  )

  same_bytes_lem : AllBytes old → AllBytes new → SaysSame (diff_printed old new) ↔ (((read_plan old).number ≡ 0) × (old ≡ new))
  same_bytes_lem x y = (
    λ e. let s = same_files.0 e in (s.0.0, bytes_same old new s.0.0 s.0.1 x y s.1),
    λ s. same_files.1 ((s.0, rw (← s.1) s.0), rw s.1 (record { header = λ tag T. refl; stations = λ i. refl; numbers = λ i j h l. refl })),
  )

-- ---- what is handed back

-- nothing is not `same`
empty_not_same : SaysSame [] → ⊥
unfolding line line_on
empty_not_same e = omega (arith, ap length e)

-- the bytes of the page that are the answer
on_page : {text before after : List ℕ} {r : ℕ} → Printed text before after r → page_size ≤ length before → take r after ≡ text
unfolding page_with length_on
on_page {text} {before} {after} {r} p large =
    let e = le-ltb (length before) page_size large in
    let size : r ≡ length text = rw e at p.size in
    let page : after ≡ text ++ drop (length text) before = rw e at p.page in
    ap (λ (xs : List ℕ). take r xs) page ∙ take_at text _ r (sym size)

off_page : {text before after : List ℕ} {r : ℕ} → Printed text before after r → length before < page_size → take r after ≡ []
unfolding length_on
off_page {text} {before} {after} {r} p small =
    let size : r ≡ 0 = rw (lt-ltb (length before) page_size small) at p.size in
    ap (λ (k : ℕ). take k after) size

module _ (old new before after : List ℕ) (r : Diffed) (d : DiffedOn (read_plan old) (read_plan new) before after r) where
  large_told : page_size ≤ length before → (r.same ≡ true) ↔ SaysSame (take r.length after)
  large_told large =
      let same : r.same ≡ is_same (read_plan old) (read_plan new) = rw (le-leb page_size (length before) large) at d.same in
      let text = on_page d.printed large in
      (λ e. text ∙ told_printed old new (sym same ∙ e), λ e. same ∙ printed_told old new (sym text ∙ e))

  small_told : length before < page_size → (r.same ≡ true) ↔ SaysSame (take r.length after)
  small_told small =
      let same : r.same ≡ false = rw (lt-leb page_size (length before) small) at d.same in
      let text = off_page d.printed small in
      (λ e. absurd (false≢true (sym same ∙ e)), λ e. absurd (empty_not_same (sym text ∙ e)))

  same_told : (r.same ≡ true) ↔ SaysSame (take r.length after)
  same_told = ⊎_elim (λ (l : length before < page_size). small_told l) (λ l. large_told l) (below_or_not (length before) page_size)

-- ---- an absent field

read_set : (bs : List ℕ) → (read_plan bs).number ≡ 0 → (read_plan bs).set ≡ set_in true bs
unfolding read_sheet
read_set bs e = ap (λ (p : ReadPlan). p.set) (read_accepted _ _ _ (sym (read_number_lem _ _ _) ∙ e))

further : (h : Head) (tag : ℕ) → 4 ≤ tag → header_of h tag ≡ head_number h tag
unfolding header_of
further h tag l = rw (ne_eqb tag 1 (omega arith)) refl

absent_one : (bs : List ℕ) (tag : ℕ) → (read_plan bs).number ≡ 0 → 4 ≤ tag → tag ≤ 6 → ¬ There bs tag → (plan_in bs).header tag ≡ 1
absent_one bs tag e l m n =
    further (read_plan bs).set.head tag l ∙ ap (λ (t : Set). head_number t.head tag) (read_set bs e) ∙ (sheet-rules.promised).header_absent true bs tag l m n

-- ---- the lines of 02

header_line : line_of (in_header 5 1 40) ≡ 53 ∷ 32 ∷ 49 ∷ 32 ∷ 52 ∷ 48 ∷ 10 ∷ []
unfolding words_of line line_on decimal_within
header_line = refl

station_line_lem : line_of (in_station 3 4 20 25) ≡ 51 ∷ 32 ∷ 83 ∷ 32 ∷ 50 ∷ 48 ∷ 32 ∷ 50 ∷ 53 ∷ 10 ∷ []
unfolding words_of letter_word line line_on decimal_within
station_line_lem = refl

alone_line : line_of (one_sided true 4 0 20 100 100 20)
    ≡ 52 ∷ 32 ∷ 110 ∷ 101 ∷ 119 ∷ 32 ∷ 48 ∷ 32 ∷ 50 ∷ 48 ∷ 32 ∷ 49 ∷ 48 ∷ 48 ∷ 32 ∷ 49 ∷ 48 ∷ 48 ∷ 32 ∷ 50 ∷ 48 ∷ 10 ∷ []
unfolding words_of side_word line line_on decimal_within
alone_line = refl

enough_read : (old new : List ℕ) (n m : ℕ) → plan_read ≤ n → plan_read ≤ m → diff_printed (take n old) (take m new) ≡ diff_printed old new
enough_read old new n m l k = rw ((sheet-rules.promised).plan_read_lem n l old, (sheet-rules.promised).plan_read_lem m k new) refl

-- ---- lines from a place on are decided

module _ (t : Set) (a : Alloc) (u : Set) (b : Alloc) (before : List ℕ) (place : ℕ) (after after' : List ℕ) (r r' : ℕ) where
  lines_decided : LinesPut t a u b before place after r → LinesPut t a u b before place after' r' → (after ≡ after') × (r ≡ r')
  lines_decided p q =
      ⊎_elim (λ (x : most_stations < t.n). both (p.old_many x) (q.old_many x))
      (λ (few : t.n ≤ most_stations).
      ⊎_elim (λ (x : most_stations < u.n). both (p.new_many x) (q.new_many x))
      (λ (many : u.n ≤ most_stations).
      ⊎_elim (λ (x : length before < place + lines_size). both (p.full x) (q.full x))
      (λ (room : place + lines_size ≤ length before).
      let v = (p.put few many room).put in
      let w = (q.put few many room).put in
      (v.page ∙ sym w.page, v.next ∙ sym w.next))
      (below_or_not (length before) (place + lines_size)))
      (below_or_not most_stations u.n))
      (below_or_not most_stations t.n)
    where
      both : (after ≡ before) × (r ≡ place) → (after' ≡ before) × (r' ≡ place) → (after ≡ after') × (r ≡ r')
      both x y = (x.0 ∙ sym y.0, x.1 ∙ sym y.1)

pub promised : Promised
promised =
    record {
      header_line = header_line;
      station_line_lem = station_line_lem;
      alone_line = alone_line;
      worked = worked;
      worked_back = worked_back;
      refusal_line = refusal_line;
      new_refusal_line = new_refusal_line;
      read_back = text_tells;
      compared = λ old new b. (printed_differences old new b.0 b.1, lists_in old new, all_writable old new b.0 b.1);
      only_list = only_list;
      all_listed = all_listed;
      absent_one = absent_one;
      old_refused_lem = refused_old;
      new_refused_lem = refused_new;
      same_files = same_files;
      same_bytes_lem = same_bytes_lem;
      same_told = same_told;
      lines_decided = lines_decided;
      enough_read = enough_read;
    }
