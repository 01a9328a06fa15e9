-- The first bytes of a sheet are enough: a field that may stand where the walk over them stops ends within the longest sheet, so before as many bytes as a program reads.
-- So the walk stops at the same place with the same fault, whatever comes behind the first bytes; and what stands before that place stands so in all.
use Prim.Native.Nat.{ℕ, zero, suc, ◌+◌, ◌-◌, ◌*◌, ◌≤◌, ◌<◌}
use mathlib.Core.Path.{◌≡◌, refl, sym, ap, subst, ◌∙◌}
use mathlib.Core.Bool.{Bool, true, false, cond, true≢false}
use mathlib.Core.List.{List, [], ◌++◌, append-nil}
use mathlib.Core.Logic.{◌⊎◌, inl, inr, ◌≢◌, ⊎_elim}
use native.Mathlib.Omega.{arith}
use borrow.Author.Tests.{le-leb}
use lib.ListN.{length, take, drop, length-append, get_or-append, take-append-drop}
use lib.Seq.{length-take-le, drop-drop, drop-length, drop-nil}
use Rattle.units.specs.Places.{at}
use Rattle.units.proofs.PlaceLaws.{fill_same}
use Rattle.units.proofs.JudgingLaws.{true_or_false}
use Rattle.units.proofs.SmallLaws.{below_or_not}
use Rattle.sets.specs.Judged.{zeros}
use Rattle.fields.specs.Bytes.{short_at, number_at, body_at}
use Rattle.fields.specs.Fields.{mode_tag, frame_tag, grid_tag, further_size, allocations_for, tag_at, size_at, allowed_at, FieldWhole}
use Rattle.fields.specs.Header.{further_count, behind_tag, further_place, place_of, given_at}
use Rattle.fields.specs.declared.Passed.{Passed}
use Rattle.fields.proofs.FieldLaws.{allocations_few, further_one, further_four, further_small, Kind, a_head, a_station, an_allocation, an_end, a_further, allowed_kind}
use Rattle.fields.proofs.HeaderLaws.{same_or_not, behind_there, behind_not, place_first, place_next}
use Rattle.field_reader.specs.Scanned.{scanned}
use Rattle.field_reader.specs.FirstFault.{WellFormed, start, more, Fault, no_start, not_allowed, cut_body, follows}
use Rattle.field_reader.proofs.ScannedLaws.{fault_there, stopped}
use Rattle.field_reader.proofs.PassedLaws.{Headed, ttrt_first, and_further, Header, no_header, a_header, Through, through, end_short}
use Rattle.sheets.specs.Layout.{request_read, plan_read}
use Rattle.sheets.specs.Reading.{column, number_in, head_in, set_of, alloc_of, read_sheet, plan_passed, plan_start}

-- how many bytes a program reads of a sheet
abbrev pub read_size : Bool → ℕ
read_size plan = cond plan plan_read request_read

-- ---- how far the fields of a sheet go

-- the header has 7 bytes up to TTRT, and behind the field with a tag at most 7 * tag - 17: 11 behind the mode, 18 behind F, 25 behind g
record HeadedShort (head a : ℕ) : Type 0 where
  some : 1 ≤ head
  high : head ≤ grid_tag
  short : (a ≡ 7) ⊎ ((mode_tag ≤ head) × (a + 17 ≤ 7 * head))

headed_short : (bs : List ℕ) (head a : ℕ) → Headed bs head a → HeadedShort head a
headed_short bs _ _ (ttrt_first w) = record { some = omega arith; high = omega arith; short = inl refl }
headed_short bs _ _ (and_further {head} {a} tag size before f above w) =
    let low = f.low in
    let mode : tag ≡ mode_tag → size ≡ 1 = λ e. f.long ∙ ap further_size e ∙ further_one in
    let other : tag ≢ mode_tag → size ≡ 4 = λ o. f.long ∙ further_four tag o in
    record {
      some = omega arith;
      high = f.high;
      short = inr (
        low,
        ⊎_elim (λ (first : a ≡ 7).
            ⊎_elim (λ (e : tag ≡ mode_tag). omega (arith, mode e)) (λ (o : tag ≢ mode_tag). omega (arith, other o)) (same_or_not tag mode_tag))
            (λ (b : (mode_tag ≤ head) × (a + 17 ≤ 7 * head)). omega (arith, b.0, b.1, f.long, further_small tag))
            (headed_short bs head a before).short,
      );
    }

header_short : (bs : List ℕ) (p : Passed) → Header bs p → p.from ≤ 25
header_short bs p (no_header h f s) = omega arith
header_short bs p (a_header h) =
    let s = headed_short bs p.head p.from h in
    ⊎_elim (λ (first : p.from ≡ 7). omega arith) (λ (b : (mode_tag ≤ p.head) × (p.from + 17 ≤ 7 * p.head)). omega (arith, b.1, s.high)) s.short

-- so a sheet of n stations with its end has fewer bytes than a program reads
pub sheet_short : (plan : Bool) (n : ℕ) → n ≤ 128 → 25 + 19 * n + 7 * allocations_for plan n + 3 < read_size plan
sheet_short true n l = omega arith
sheet_short false n l = omega arith

-- behind the fields that have passed
module _ {plan : Bool} {bs : List ℕ} {p : Passed} {a : ℕ} (t : Through plan bs p a) where
  -- the end of a sheet has room
  place_short : a + 3 < read_size plan
  place_short = omega (arith, t.place, t.most, header_short bs p t.header, sheet_short plan p.stations t.few)

  -- and each field that may stand there
  field_short : (tag size : ℕ) → Kind p tag size → a + 3 + size < read_size plan
  field_short tag size (a_head e s first) = go t.header
    where
      go : Header bs p → a + 3 + size < read_size plan
      go (a_header h) = absurd (true≢false (sym (le-leb 1 p.head (headed_short bs p.head p.from h).some) ∙ first))
      go (no_header h f n) = omega (arith, t.place, t.most, allocations_few plan p.stations, sheet_short plan 1 (omega arith))
  field_short tag size (a_station e s begun few none) =
      omega (arith, t.place, header_short bs p t.header, sheet_short plan (p.stations + 1) (omega arith))
  field_short tag size (an_allocation e s begun room) =
      let due : p.allocations < allocations_for plan p.stations = subst (λ (b : Bool). p.allocations < allocations_for b p.stations) t.kind room in
      omega (arith, t.place, header_short bs p t.header, sheet_short plan p.stations t.few)
  field_short tag size (an_end e s begun some all) = omega (arith, place_short)
  field_short tag size (a_further f begun above none) =
      omega (arith, t.place, t.most, header_short bs p t.header, allocations_few plan p.stations, f.long, further_small tag, sheet_short plan 1 (omega arith))

-- the fields over which the walk goes
pub walked_through : (plan : Bool) (bs : List ℕ) → Through plan bs (scanned plan bs).passed (scanned plan bs).at
walked_through plan bs = through plan bs _ _ (stopped plan bs).before

-- a plan's fields end within 3,353 bytes
pub plan_stops : (bs : List ℕ) → (scanned true bs).at ≤ 3_353
plan_stops bs = omega (arith, place_short (walked_through true bs))

module _ (head rest : List ℕ) where
  -- ---- bytes and numbers among the first bytes

  pub at_same : (i : ℕ) → i < length head → at (head ++ rest) i ≡ at head i
  at_same i l = get_or-append head rest 0 i l

  pub size_same : (a : ℕ) → a + 3 ≤ length head → size_at (head ++ rest) a ≡ size_at head a
  unfolding short_at
  size_same a l = rw (at_same (a + 1) (omega arith), at_same (a + 1 + 1) (omega arith)) refl

  number_same : (a : ℕ) → a + 4 ≤ length head → number_at (head ++ rest) a ≡ number_at head a
  unfolding number_at
  number_same a l = rw (at_same a (omega arith), at_same (a + 1) (omega arith), at_same (a + 2) (omega arith), at_same (a + 3) (omega arith)) refl

  column_same : (from step n : ℕ) → ((i : ℕ) → i < n → from + step * i + 4 ≤ length head) → column (head ++ rest) from step n ≡ column head from step n
  column_same from step n inside = fill_same n _ _ zeros (λ i l. number_same (from + step * i) (inside i l))

  -- ---- fields

  allowed_same : (a : ℕ) (p : Passed) → a + 3 ≤ length head → allowed_at (head ++ rest) a p ≡ allowed_at head a p
  allowed_same a p l = rw (at_same a (omega arith), size_same a l) refl

  whole_same : (a : ℕ) (p : Passed) → FieldWhole head a p → FieldWhole (head ++ rest) a p
  whole_same a p w =
      let inside = w.inside in
      record { inside = omega (arith, size_same a (omega arith), length-append head rest); allowed = allowed_same a p (omega arith) ∙ w.allowed }

  -- fields that are well-formed among the first bytes are so in all, and they end among these
  formed_same : (plan : Bool) (p : Passed) (a : ℕ) → WellFormed plan head p a → WellFormed plan (head ++ rest) p a × (a ≤ length head)
  formed_same plan _ _ start = (start, omega arith)
  formed_same plan _ _ (more {p} {a} before w other) =
      let inside = w.inside in
      let tag : tag_at (head ++ rest) a ≡ tag_at head a = at_same a (omega arith) in
      let size : size_at (head ++ rest) a ≡ size_at head a = size_same a (omega arith) in
      let next = more (formed_same plan p a before).0 (whole_same a p w) (λ e. other (sym tag ∙ e)) in
      (rw (tag, size) at next, inside)

  module _ (plan : Bool) (long : read_size plan ≤ length head) where
    -- there is room for a header and more
    room : 50 ≤ length head
    room = omega (arith, sheet_short plan 2 (omega arith))

    -- ---- the header

    -- each field has the same place, at most 7 bytes behind the one before
    place_same : (k : ℕ) → k ≤ further_count → (further_place (head ++ rest) k ≡ further_place head k) × (further_place head k ≤ 7 + 7 * k)
    unfolding behind_tag
    place_same zero l = (place_first (head ++ rest) ∙ sym (place_first head), omega (arith, place_first head))
    place_same (suc k) l =
        let before = place_same k (omega arith) in
        let tag = mode_tag + k in
        let b = further_place head k in
        let next : further_place head (suc k) ≤ further_place head k + 7 =
        ⊎_elim (λ (e : tag_at head b ≡ tag). omega (arith, place_next head k, behind_there head tag b e, further_small tag))
        (λ (e : tag_at head b ≢ tag). omega (arith, place_next head k, behind_not head tag b e))
        (same_or_not (tag_at head b) tag) in (
          place_next (head ++ rest) k ∙ rw (before.0, at_same b (omega (arith, before.1, room))) refl ∙ sym (place_next head k),
          omega (arith, before.1),
        )

    given_same : (a tag : ℕ) → a + 7 ≤ length head → given_at (head ++ rest) a tag ≡ given_at head a tag
    unfolding body_at
    given_same a tag l = rw (at_same a (omega arith), at_same (a + 3) (omega arith), number_same (a + 3) (omega arith)) refl

    in_same : (tag : ℕ) → tag ≤ grid_tag → number_in (head ++ rest) tag ≡ number_in head tag
    in_same tag l =
        let place = place_same (tag - mode_tag) (omega arith) in
        ap (λ (a : ℕ). given_at (head ++ rest) a tag) place.0 ∙ given_same (place_of head tag) tag (omega (arith, place.1, room))

    head_same : head_in (head ++ rest) ≡ head_in head
    head_same = rw (number_same 3 (omega (arith, room)), in_same mode_tag (omega arith), in_same frame_tag (omega arith), in_same grid_tag (omega arith)) refl

    -- ---- the walk

    abbrev p : Passed
    p = (scanned plan head).passed

    abbrev a : ℕ
    a = (scanned plan head).at

    early : a + 3 < read_size plan
    early = place_short (walked_through plan head)

    fault_same : (k : ℕ) → Fault head a p k → Fault (head ++ rest) a p k
    fault_same _ (no_start short) = absurd (omega (arith, early))
    fault_same _ (not_allowed three wrong) = not_allowed (omega (arith, length-append head rest)) (allowed_same a p (omega (arith, early)) ∙ wrong)
    fault_same _ (cut_body three may cut) = absurd (omega (arith, field_short (walked_through plan head) (tag_at head a) (size_at head a) (allowed_kind p _ _ may)))
    fault_same _ (follows w e runs) =
        follows (whole_same a p w) (at_same a (omega (arith, early)) ∙ e) (omega (arith, size_same a (omega (arith, early)), length-append head rest))

    -- there is one: the bytes are more than a sheet has
    fault : Fault head a p (scanned plan head).number
    fault =
        ⊎_elim (λ f. f.1) (λ z. absurd (omega (arith, z.1.last, end_short _ _ _ z.1.whole.allowed z.1.is_end_lem, early)))
        (stopped plan head).why

    pub scan_same : scanned plan (head ++ rest) ≡ scanned plan head
    scan_same =
        fault_there plan (head ++ rest) (scanned plan head).number
        (record { passed = p; place = a; before = (formed_same plan p a (stopped plan head).before).0; fault = fault_same _ fault })

    -- ---- what is read

    inside : p.from + 19 * p.stations + 7 * p.allocations ≤ length head
    inside = omega (arith, early, (walked_through plan head).place)

    station_same : (k : ℕ) → k ≤ 15 → column (head ++ rest) (p.from + k) 19 p.stations ≡ column head (p.from + k) 19 p.stations
    station_same k l = column_same (p.from + k) 19 p.stations (λ i m. omega (arith, inside))

    pub set_same : set_of (head ++ rest) (scanned plan head).passed ≡ set_of head (scanned plan head).passed
    set_same = rw (head_same, station_same 3 (omega arith), station_same 7 (omega arith), station_same 11 (omega arith), station_same 15 (omega arith)) refl

    pub alloc_same : alloc_of (head ++ rest) (scanned plan head).passed ≡ alloc_of head (scanned plan head).passed
    alloc_same = rw (column_same (p.from + 19 * p.stations + 3) 7 p.allocations (λ i m. omega (arith, inside))) refl

    -- the whole answer
    pub read_same : read_sheet plan (head ++ rest) ≡ read_sheet plan head
    unfolding read_sheet
    read_same = rw (scan_same, set_same, alloc_same) refl

  pub start_same : plan_read ≤ length head → plan_start (head ++ rest) ≡ plan_start head
  unfolding plan_start
  start_same long = rw (scan_same true long, set_same true long, alloc_same true long) refl

-- ---- the first bytes of any

-- what does not change behind the first bytes, if there are so many, is the same where these are all
pub stays : {A : Type 0} (f : List ℕ → A) (n : ℕ) (head rest : List ℕ) → (rest ≡ []) ⊎ (n ≤ length head) → (n ≤ length head → f (head ++ rest) ≡ f head) → f (head ++ rest) ≡ f head
stays f n head rest enough same = ⊎_elim (λ (e : rest ≡ []). ap (λ (x : List ℕ). f (head ++ x)) e ∙ ap f (append-nil head)) same enough

-- the first n bytes of any are n, or all
pub take_or_all : (n : ℕ) (bs : List ℕ) → (drop n bs ≡ []) ⊎ (length (take n bs) ≡ n)
take_or_all n bs =
    let behind = n - length bs in
    ⊎_elim (λ (l : length bs < n).
    let size : n ≡ length bs + (n - length bs) = omega arith in
    inl (ap (λ (k : ℕ). drop k bs) size ∙ sym (drop-drop behind (length bs) bs) ∙ ap (drop behind) (drop-length bs) ∙ drop-nil behind))
    (λ (l : n ≤ length bs). inr (length-take-le n bs l))
    (below_or_not (length bs) n)

-- as many bytes as a program reads are enough for a sheet
pub reads_enough : (plan : Bool) (n : ℕ) → read_size plan ≤ n → (bs : List ℕ) → read_sheet plan (take n bs) ≡ read_sheet plan bs
reads_enough plan n l bs =
    let first = take n bs in
    let rest = drop n bs in
    let enough : (drop n bs ≡ []) ⊎ (n ≤ length (take n bs)) = ⊎_elim (λ e. inl e) (λ e. inr (omega arith)) (take_or_all n bs) in
    sym (stays (read_sheet plan) n first rest enough (λ m. read_same first rest plan (omega arith))) ∙ ap (read_sheet plan) (take-append-drop n bs)

-- ---- where a plan's fields end

-- it is that of the walk, whether all fields have passed or not
pub start_at : (bs : List ℕ) → (plan_start bs).at ≡ (scanned true bs).at
unfolding plan_start
start_at bs =
    ⊎_elim (λ (e : plan_passed (scanned true bs).passed ≡ true). rw e refl) (λ (e : plan_passed (scanned true bs).passed ≡ false). rw e refl)
    (true_or_false (plan_passed (scanned true bs).passed))

-- and lies among the bytes
pub start_inside : (bs : List ℕ) → (plan_start bs).at ≤ length bs
start_inside bs = omega (arith, start_at bs, (formed_same bs [] true _ _ (stopped true bs).before).1)
