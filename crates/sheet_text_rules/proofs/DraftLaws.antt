-- The draft of the text that `show` prints: behind the header's lines and k stations' lines it holds the header, the first k stations, and for a plan their allocations.
use Prim.Native.Nat.{ℕ, zero, suc, ◌+◌, ◌^◌, ◌≤◌, ◌<◌}
use mathlib.Core.Path.{◌≡◌, refl, sym, ap, subst, ◌∙◌}
use mathlib.Core.Bool.{Bool, true, false, cond, ◌||◌}
use mathlib.Core.List.{List, [], ◌∷◌, ◌++◌}
use mathlib.Core.Logic.{⊎_elim, ◌≢◌}
use native.Mathlib.Omega.{arith}
use Rattle.std.specs.Prelude.{None}
use native.Mathlib.Numerals.{add-one}
use borrow.Author.Tests.{le-leb, lt-ltb, eq-eqb, ne_eqb}
use lib.Dec.{leb, eqb}
use lib.ListN.{length}
use Rattle.units.specs.Places.{at, fill}
use Rattle.units.proofs.JudgingLaws.{true_or_false}
use Rattle.units.proofs.SmallLaws.{below_or_not}
use Rattle.sets.specs.Header.{head_number}
use Rattle.sets.specs.Judged.{zeros}
use Rattle.sets.specs.declared.Head.{Head}
use Rattle.sets.specs.declared.Set.{Set}
use Rattle.sets.proofs.HeaderLaws.{head_so_far, so_far_absent, so_far_all}
use Rattle.plans.specs.Planned.{blank_alloc}
use Rattle.plans.specs.declared.Alloc.{Alloc}
use Rattle.fields.specs.Rows.{rows}
use Rattle.fields.specs.Fields.{mode_tag, frame_tag, grid_tag}
use Rattle.fields.specs.Header.{further_count, absent}
use Rattle.fields.proofs.HeaderLaws.{same_or_not, header_there}
use Rattle.text.specs.Text.{newline}
use Rattle.line_reader.specs.Scan.{fresh_scan, letter_read, character_read, stepped, code_of, next_line}
use Rattle.line_reader.proofs.ScanLaws.{stepped_over, with_numbers, word_scan, typed, AllSmall, small_none, small_and, typed_read, line_typed, has_no_end, no_end_typed}
use Rattle.command_compose.specs.Compose.{ttrt_word, word_of, station_word, line_tag, blank_draft, with_ttrt, with_further, with_station, line_drafted, on_next_line, compose_start, compose_after}
use Rattle.sheet_text_rules.specs.ShowText.{ttrt_line, further_line, head_lines, share_words, station_line, sheet_text}
use Rattle.sheet_text_rules.proofs.ShowLaws.{line_none, line_some}
use Rattle.command_compose.proofs.ComposeLaws.{compose_append, compose_line, at_rest}
use Rattle.line_reader.specs.declared.Scan.{Scan}
use Rattle.command_compose.specs.declared.Draft.{Draft}
use Rattle.command_compose.specs.declared.Composing.{Composing}

-- ---- the words

ttrt_word_lem : stepped_over fresh_scan ttrt_word ≡ word_scan ttrt_word
unfolding stepped_over stepped character_read letter_read
ttrt_word_lem = refl

station_word_lem : stepped_over fresh_scan station_word ≡ word_scan station_word
unfolding stepped_over stepped character_read letter_read
station_word_lem = refl

-- a word can be read
pub record Readable (word : List ℕ) : Type 0 where
  pub stepped_over_lem : stepped_over fresh_scan word ≡ word_scan word
  pub some : code_of word ≢ 0
  pub inside : has_no_end word ≡ true

-- that of a further line of the header can
further_word : (tag : ℕ) → Readable (word_of tag)
unfolding word_of stepped_over stepped character_read letter_read has_no_end
further_word tag =
    ⊎_elim (λ (e : eqb tag mode_tag ≡ true). rw e (record { stepped_over_lem = refl; some = omega arith; inside = refl }))
    (λ (e : eqb tag mode_tag ≡ false).
    ⊎_elim (λ (f : eqb tag frame_tag ≡ true). rw (e, f) (record { stepped_over_lem = refl; some = omega arith; inside = refl }))
    (λ (f : eqb tag frame_tag ≡ false). rw (e, f) (record { stepped_over_lem = refl; some = omega arith; inside = refl }))
    (true_or_false (eqb tag frame_tag)))
    (true_or_false (eqb tag mode_tag))

-- ---- one line

pub typed_composed : (d : Draft) (word ns : List ℕ) → stepped_over fresh_scan word ≡ word_scan word → code_of word ≢ 0 → has_no_end word ≡ true → length ns ≤ 5 → AllSmall ns
    → compose_after (at_rest d) (typed word ns ++ (newline ∷ [])) ≡ at_rest (on_next_line (line_drafted d (with_numbers (word_scan word) ns)))
typed_composed d word ns e w inside few small =
    compose_line (at_rest d) (typed word ns) (no_end_typed word ns inside)
    ∙ ap (λ (s : Scan). at_rest (on_next_line (line_drafted d s))) (typed_read word ns e w few small)

-- ---- the header's lines

ttrt_drafted : (d : Draft) (ttrt : ℕ) → ttrt < 2 ^ 32 → line_drafted d (with_numbers (word_scan ttrt_word) (ttrt ∷ [])) ≡ with_ttrt d ttrt
unfolding line_drafted with_numbers
ttrt_drafted d ttrt l = rw (lt-ltb ttrt (2 ^ 32) l)

ttrt_composed : (d : Draft) (ttrt : ℕ) → ttrt < 2 ^ 32 → compose_after (at_rest d) (ttrt_line ttrt) ≡ at_rest (on_next_line (with_ttrt d ttrt))
unfolding has_no_end
ttrt_composed d ttrt l =
    rw (line_typed ttrt_word (ttrt ∷ []))
    (typed_composed d ttrt_word (ttrt ∷ []) ttrt_word_lem (omega arith) refl (omega arith) (small_and ttrt [] (omega arith) small_none)
    ∙ ap (λ (x : Draft). at_rest (on_next_line x)) (ttrt_drafted d ttrt l))

-- a further line of the header gives its tag its number
module _ (d : Draft) (number : ℕ) (l : number < 2 ^ 32) where
  Drafts : ℕ → Type 0
  Drafts tag = line_drafted d (with_numbers (word_scan (word_of tag)) (number ∷ [])) ≡ with_further d tag number

  mode_drafted : Drafts mode_tag
  unfolding Drafts line_drafted with_numbers line_tag word_of
  mode_drafted = rw (lt-ltb number (2 ^ 32) l)

  frame_drafted : Drafts frame_tag
  unfolding Drafts line_drafted with_numbers line_tag word_of
  frame_drafted = rw (lt-ltb number (2 ^ 32) l)

  grid_drafted : Drafts grid_tag
  unfolding Drafts line_drafted with_numbers line_tag word_of
  grid_drafted = rw (lt-ltb number (2 ^ 32) l)

  further_drafted : (tag : ℕ) → mode_tag ≤ tag → tag ≤ grid_tag → Drafts tag
  further_drafted tag low high =
      ⊎_elim (λ (b : tag < 5). let e : mode_tag ≡ tag = omega arith in subst Drafts e mode_drafted)
      (λ (b : 5 ≤ tag).
      ⊎_elim (λ (d : tag < 6). let e : frame_tag ≡ tag = omega arith in subst Drafts e frame_drafted)
      (λ (d : 6 ≤ tag). let e : grid_tag ≡ tag = omega arith in subst Drafts e grid_drafted)
      (below_or_not tag 6))
      (below_or_not tag 5)

further_composed : (d : Draft) (tag number : ℕ) → mode_tag ≤ tag → tag ≤ grid_tag → number < 2 ^ 32 → number ≢ absent
    → compose_after (at_rest d) (further_line tag number) ≡ at_rest (on_next_line (with_further d tag number))
unfolding Drafts
further_composed d tag number low high l other =
    let w = further_word tag in
    let few : length (number ∷ []) ≤ 5 = omega arith in
    ap (compose_after (at_rest d)) (line_some tag number other ∙ line_typed (word_of tag) (number ∷ []))
    ∙ typed_composed d (word_of tag) (number ∷ []) w.stepped_over_lem w.some w.inside few (small_and number [] (omega arith) small_none)
    ∙ ap (λ (x : Draft). at_rest (on_next_line x)) (further_drafted d number l tag low high)

-- ---- a station's line

-- S, in a plan
unfoldable shares : Bool → ℕ → List ℕ
shares true s = s ∷ []
shares false s = []

-- the numbers of station i
abbrev numbers_at : Bool → Set → Alloc → ℕ → List ℕ
numbers_at plan t a i = at t.w i ∷ at t.c i ∷ at t.d i ∷ at t.p i ∷ shares plan (at a.s i)

-- they are 32-bit numbers
pub record SmallAt (plan : Bool) (t : Set) (a : Alloc) (i : ℕ) : Type 0 where
  pub walk : at t.w i < 2 ^ 32
  pub longest : at t.c i < 2 ^ 32
  pub deadline : at t.d i < 2 ^ 32
  pub gap : at t.p i < 2 ^ 32
  pub share : plan ≡ true → at a.s i < 2 ^ 32

-- what the scan of its line holds
station_scan : Bool → Set → Alloc → ℕ → Scan
station_scan plan t a i = with_numbers (word_scan station_word) (numbers_at plan t a i)

-- a request's stations are of kind 1, a plan's of kind 2
abbrev pub kind_of : Bool → ℕ
kind_of plan = cond plan 2 1

module _ (t : Set) (a : Alloc) (i : ℕ) where
  station_typed : (plan : Bool) → station_line plan t a i ≡ typed station_word (numbers_at plan t a i) ++ (newline ∷ [])
  unfolding station_line share_words shares
  station_typed true = line_typed station_word (numbers_at true t a i)
  station_typed false = line_typed station_word (numbers_at false t a i)

  shares_few : (plan : Bool) → length (shares plan (at a.s i)) ≤ 1
  unfolding shares
  shares_few true = omega arith
  shares_few false = omega arith

  shares_small : (plan : Bool) → SmallAt plan t a i → AllSmall (shares plan (at a.s i))
  unfolding shares
  shares_small true h = small_and (at a.s i) [] (omega (arith, h.share refl)) small_none
  shares_small false h = small_none

  station_drafted : (plan : Bool) (d : Draft) → SmallAt plan t a i → line_drafted d (station_scan plan t a i) ≡ with_station d (station_scan plan t a i) (kind_of plan)
  unfolding line_drafted line_tag with_numbers station_scan shares
  station_drafted true d h =
      rw (
        lt-ltb (at t.w i) (2 ^ 32) h.walk,
        lt-ltb (at t.c i) (2 ^ 32) h.longest,
        lt-ltb (at t.d i) (2 ^ 32) h.deadline,
        lt-ltb (at t.p i) (2 ^ 32) h.gap,
        lt-ltb (at a.s i) (2 ^ 32) (h.share refl),
      )
  station_drafted false d h =
      rw (lt-ltb (at t.w i) (2 ^ 32) h.walk, lt-ltb (at t.c i) (2 ^ 32) h.longest, lt-ltb (at t.d i) (2 ^ 32) h.deadline, lt-ltb (at t.p i) (2 ^ 32) h.gap)

  all_small : (plan : Bool) → SmallAt plan t a i → AllSmall (numbers_at plan t a i)
  all_small plan h zero = omega (arith, h.walk)
  all_small plan h (suc zero) = omega (arith, h.longest)
  all_small plan h (suc (suc zero)) = omega (arith, h.deadline)
  all_small plan h (suc (suc (suc zero))) = omega (arith, h.gap)
  all_small plan h (suc (suc (suc (suc j)))) = shares_small plan h j

  station_composed : (plan : Bool) (d : Draft) → SmallAt plan t a i
      → compose_after (at_rest d) (station_line plan t a i) ≡ at_rest (on_next_line (with_station d (station_scan plan t a i) (kind_of plan)))
  unfolding has_no_end station_scan
  station_composed plan d h =
      rw (station_typed plan)
      (typed_composed d station_word (numbers_at plan t a i) station_word_lem (omega arith) refl (omega (arith, shares_few plan)) (all_small plan h)
      ∙ ap (λ (x : Draft). at_rest (on_next_line x)) (station_drafted plan d h))

-- ---- the draft behind k stations

-- the share that is drafted of station i; none for a request
unfoldable pub share_of : Bool → Alloc → ℕ → ℕ
share_of true a i = at a.s i
share_of false a i = 0

unfoldable pub kind_behind : Bool → ℕ → ℕ
kind_behind plan zero = 0
kind_behind plan (suc k) = kind_of plan

-- the k-th further number is absent, so that no line names it
abbrev no_line : Head → ℕ → Bool
no_line h k = eqb (head_number h (mode_tag + k)) absent

-- the tag of the last of the lines of TTRT and the first k fields behind it
unfoldable pub tag_behind : Head → ℕ → ℕ
tag_behind h zero = 1
tag_behind h (suc k) = cond (no_line h k) (tag_behind h k) (mode_tag + k)

-- the number of the next line
unfoldable pub head_line : Head → ℕ → ℕ
head_line h zero = next_line 1
head_line h (suc k) = cond (no_line h k) (head_line h k) (next_line (head_line h k))

-- the last tag is TTRT's or that of one of these fields
tag_some : (h : Head) (k : ℕ) → 1 ≤ tag_behind h k
unfolding tag_behind
tag_some h zero = omega arith
tag_some h (suc k) =
    ⊎_elim (λ (e : no_line h k ≡ true). rw e (tag_some h k))
    (λ (e : no_line h k ≡ false). rw e (omega arith))
    (true_or_false (no_line h k))

tag_below : (h : Head) (k : ℕ) → tag_behind h k < mode_tag + k
unfolding tag_behind
tag_below h zero = omega arith
tag_below h (suc k) =
    ⊎_elim (λ (e : no_line h k ≡ true). rw e (omega (arith, tag_below h k)))
    (λ (e : no_line h k ≡ false). rw e (omega arith))
    (true_or_false (no_line h k))

pub head_some : (h : Head) → leb 1 (tag_behind h further_count) ≡ true
head_some h = le-leb 1 (tag_behind h further_count) (tag_some h further_count)

-- the number of the line behind k stations
unfoldable pub line_behind : Head → ℕ → ℕ
line_behind h zero = head_line h further_count
line_behind h (suc k) = next_line (line_behind h k)

-- the first k stations of the set, 0 past them
abbrev pub first_stations : Set → ℕ → Set
first_stations t k =
    record {
      head = t.head;
      n = k;
      w = fill k (at t.w) zeros;
      c = fill k (at t.c) zeros;
      d = fill k (at t.d) zeros;
      p = fill k (at t.p) zeros;
    }

unfoldable pub draft_behind : Bool → Set → Alloc → ℕ → Draft
draft_behind plan t a k =
    record {
      set = first_stations t k;
      alloc = record { s = fill k (share_of plan a) zeros };
      line = line_behind t.head k;
      unread = None;
      head = tag_behind t.head further_count;
      kind = kind_behind plan k;
      wrong = false;
    }

-- the stations before are of the same kind
kind_fits : (plan : Bool) (k : ℕ) → (eqb (kind_behind plan k) 0 || eqb (kind_behind plan k) (kind_of plan)) ≡ true
unfolding kind_behind
kind_fits plan zero = refl
kind_fits true (suc k) = refl
kind_fits false (suc k) = refl

-- the draft behind the lines of TTRT and the first k fields behind it
unfoldable head_draft : Head → ℕ → Draft
head_draft h k =
    record {
      set = record { head = head_so_far h k; n = 0; w = zeros; c = zeros; d = zeros; p = zeros };
      alloc = blank_alloc;
      line = head_line h k;
      unread = None;
      head = tag_behind h k;
      kind = 0;
      wrong = false;
    }

-- TTRT's line alone
ttrt_behind : (h : Head) → on_next_line (with_ttrt blank_draft h.ttrt) ≡ head_draft h 0
unfolding with_ttrt head_draft head_so_far tag_behind head_line
ttrt_behind h = refl

module _ (h : Head) (k : ℕ) where
  -- one field more that has no line
  absent_behind : k < further_count → head_number h (mode_tag + k) ≡ absent → head_draft h (suc k) ≡ head_draft h k
  unfolding head_draft tag_behind head_line
  absent_behind l e = rw (so_far_absent h k l e, eq-eqb (head_number h (mode_tag + k)) absent e) refl

  -- and one that has
  other_behind : head_number h (mode_tag + k) ≢ absent → on_next_line (with_further (head_draft h k) (mode_tag + k) (head_number h (mode_tag + k))) ≡ head_draft h (suc k)
  unfolding head_draft with_further head_so_far tag_behind head_line
  other_behind other =
      rw (
        le-leb 1 (tag_behind h k) (tag_some h k),
        lt-ltb (tag_behind h k) (mode_tag + k) (tag_below h k),
        header_there (head_number h (mode_tag + k)) other,
        ne_eqb (head_number h (mode_tag + k)) absent other,
      )
      refl

module _ (h : Head) (small : h.ttrt < 2 ^ 32) (low : (tag : ℕ) → head_number h tag < 2 ^ 32) where
  header_composed : (k : ℕ) → k ≤ further_count → compose_after compose_start (head_lines h k) ≡ at_rest (head_draft h k)
  unfolding head_lines compose_after
  header_composed zero l = ttrt_composed blank_draft h.ttrt small ∙ ap at_rest (ttrt_behind h)
  header_composed (suc k) l =
      let tag = mode_tag + k in
      let number = head_number h tag in
      compose_append compose_start (head_lines h k) (further_line tag number)
      ∙ ap (λ (c : Composing). compose_after c (further_line tag number)) (header_composed k (omega arith))
      ∙ ⊎_elim (λ (e : head_number h (mode_tag + k) ≡ absent).
      ap (compose_after (at_rest (head_draft h k))) (line_none tag number e) ∙ ap at_rest (sym (absent_behind h k l e)))
      (λ (other : head_number h (mode_tag + k) ≢ absent).
      further_composed (head_draft h k) tag number (omega arith) (omega arith) (low tag) other ∙ ap at_rest (other_behind h k other))
      (same_or_not number absent)

module _ (t : Set) (a : Alloc) where
  head_behind : (plan : Bool) → head_draft t.head further_count ≡ draft_behind plan t a 0
  unfolding head_draft draft_behind fill kind_behind line_behind
  head_behind plan = rw (so_far_all t.head) refl

  station_behind : (plan : Bool) (k : ℕ) → k < 128 → on_next_line (with_station (draft_behind plan t a k) (station_scan plan t a k) (kind_of plan)) ≡ draft_behind plan t a (suc k)
  unfolding with_station with_numbers draft_behind station_scan shares share_of fill kind_behind line_behind
  station_behind true k l = rw (head_some t.head, lt-ltb k 128 l, kind_fits true k, add-one k)
  station_behind false k l = rw (head_some t.head, lt-ltb k 128 l, kind_fits false k, add-one k)

  -- ---- the whole text

  rows_behind : (plan : Bool) (k : ℕ) → k ≤ 128 → ((i : ℕ) → i < k → SmallAt plan t a i)
      → compose_after (at_rest (draft_behind plan t a 0)) (rows k (station_line plan t a)) ≡ at_rest (draft_behind plan t a k)
  unfolding rows compose_after
  rows_behind plan zero few small = refl
  rows_behind plan (suc k) few small =
      compose_append (at_rest (draft_behind plan t a 0)) (rows k (station_line plan t a)) (station_line plan t a k)
      ∙ ap (λ (c : Composing). compose_after c (station_line plan t a k)) (rows_behind plan k (omega arith) (λ i l. small i (omega arith)))
      ∙ station_composed t a k plan (draft_behind plan t a k) (small k (omega arith))
      ∙ ap at_rest (station_behind plan k (omega arith))

  pub text_drafted : (plan : Bool) → t.head.ttrt < 2 ^ 32 → ((tag : ℕ) → head_number t.head tag < 2 ^ 32) → t.n ≤ 128 → ((i : ℕ) → i < t.n → SmallAt plan t a i)
      → compose_after compose_start (sheet_text plan t a) ≡ at_rest (draft_behind plan t a t.n)
  unfolding sheet_text
  text_drafted plan l low few small =
      compose_append compose_start (head_lines t.head further_count) (rows t.n (station_line plan t a))
      ∙ ap (λ (c : Composing). compose_after c (rows t.n (station_line plan t a))) (header_composed t.head l low further_count (omega arith) ∙ ap at_rest (head_behind plan))
      ∙ rows_behind plan t.n few small
