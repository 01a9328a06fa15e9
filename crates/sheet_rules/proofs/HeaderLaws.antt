-- The header in the bytes: where TTRT and the fields behind it stand, what is read of them, and that what is read stands there again. One argument over the field k, the mode's being 0.
use Prim.Native.Nat.{ℕ, zero, suc, ◌+◌, ◌-◌, ◌^◌, ◌≤◌, ◌<◌}
use mathlib.Core.Path.{◌≡◌, sym, ap, subst, ◌∙◌}
use mathlib.Core.Bool.{true}
use mathlib.Core.List.{List, ◌++◌, append-nil}
use mathlib.Core.Logic.{◌⊎◌, inl, inr, ⊎_elim, ◌≢◌}
use native.Mathlib.Omega.{arith}
use lib.ListN.{length}
use Rattle.units.specs.Places.{sum_below}
use Rattle.units.proofs.SmallLaws.{below_or_not}
use Rattle.sets.specs.Header.{head_number}
use Rattle.sets.specs.declared.Head.{Head}
use Rattle.fields.specs.Bytes.{number_at, bytes_of, body_of, AllBytes}
use Rattle.fields.specs.Fields.{mode_tag, grid_tag, further_size, tag_at}
use Rattle.fields.specs.Header.{further_count, absent, header_number, behind_tag, further_place, place_of, said_at, given_at}
use Rattle.fields.proofs.SegmentLaws.{Stands, stands_left, stands_right, stands_join}
use Rattle.fields.proofs.ByteLaws.{number_read, number_stands}
use Rattle.fields.proofs.FieldLaws.{Whole, further_small}
use Rattle.fields.proofs.HeaderLaws.{same_or_not, header_there, header_one, header_out_lem, behind_there, behind_not, given_absent, given_there, place_first, place_next, room_in, body_length, body_read, body_stands}
use Rattle.field_reader.proofs.PassedLaws.{HeaderStands}
use Rattle.sheets.specs.Layout.{mark, most_of, further_bytes, head_up_to, head_bytes, length_up_to, head_length}
use Rattle.sheets.specs.Reading.{head_in}
use Rattle.sheets.proofs.ReadingLaws.{number_of, number_at_lem}
use Rattle.sheets.proofs.WritingLaws.{further_none, further_some, length_none, length_some, up_to_none, up_to_more, length_more, up_to_length}
use Rattle.sheet_rules.proofs.StandLaws.{mark_stands_lem, whole_stands}

-- ---- what is read

module _ (bs : List ℕ) where
  module _ (tag : ℕ) (low : mode_tag ≤ tag) (high : tag ≤ grid_tag) where
    -- not there
    pub reads_absent : tag_at bs (place_of bs tag) ≢ tag → head_number (head_in bs) tag ≡ absent
    reads_absent other = number_of bs tag low high ∙ given_absent bs tag (place_of bs tag) other

    reads_there : tag_at bs (place_of bs tag) ≡ tag → head_number (head_in bs) tag ≡ header_number true (said_at bs (place_of bs tag) tag)
    reads_there e = number_of bs tag low high ∙ given_there bs tag (place_of bs tag) e

    -- there, with a number that is not 1
    pub reads_number : tag_at bs (place_of bs tag) ≡ tag → said_at bs (place_of bs tag) tag ≢ absent → head_number (head_in bs) tag ≡ said_at bs (place_of bs tag) tag
    reads_number e other = reads_there e ∙ header_there _ other

    -- there, with a number that is not 2 to the highest: out of range
    pub reads_out : tag_at bs (place_of bs tag) ≡ tag → ¬ ((2 ≤ said_at bs (place_of bs tag) tag) × (said_at bs (place_of bs tag) tag ≤ most_of tag))
        → ¬ ((1 ≤ head_number (head_in bs) tag) × (head_number (head_in bs) tag ≤ most_of tag))
    reads_out e out = subst (λ (n : ℕ). ¬ ((1 ≤ n) × (n ≤ most_of tag))) (sym (reads_there e)) (header_out_lem (most_of tag) _ out)

-- ---- a header that was laid out

-- the number of field k, and its bytes
abbrev head_at : Head → ℕ → ℕ
head_at h k = head_number h (mode_tag + k)

module _ (bs : List ℕ) (h : Head) (stands : Stands bs 0 (head_bytes h)) where
  up_to_stands : (top : ℕ) → Stands bs 0 (head_up_to h top) → (k : ℕ) → k ≤ top → Stands bs 0 (head_up_to h k)
  up_to_stands zero s k l = let e : 0 ≡ k = omega arith in subst (λ (n : ℕ). Stands bs 0 (head_up_to h n)) e s
  up_to_stands (suc top) s k l =
      ⊎_elim (λ (b : k < suc top). up_to_stands top (stands_left bs 0 (head_up_to h top) (further_bytes (mode_tag + top) (head_at h top)) (subst (Stands bs 0) (up_to_more h top) s)) k (omega arith))
      (λ (b : suc top ≤ k). let e : suc top ≡ k = omega arith in subst (λ (n : ℕ). Stands bs 0 (head_up_to h n)) e s)
      (below_or_not k (suc top))

  ttrt_field : Stands bs 0 (mark 1 4 ++ bytes_of h.ttrt)
  ttrt_field = subst (Stands bs 0) (up_to_none h) (up_to_stands further_count stands 0 (omega arith))

  pub laid_ttrt : h.ttrt < 2 ^ 32 → number_at bs 3 ≡ h.ttrt
  unfolding bytes_of
  laid_ttrt small = number_read bs 3 h.ttrt small (stands_right bs 0 (mark 1 4) (bytes_of h.ttrt) ttrt_field)

  -- the place behind the first k fields
  abbrev behind : ℕ → ℕ
  behind k = 7 + length_up_to h k

  field_stands : (k : ℕ) → k < further_count → Stands bs (behind k) (further_bytes (mode_tag + k) (head_at h k))
  field_stands k l =
      let e : 0 + length (head_up_to h k) ≡ behind k = omega (arith, up_to_length h k) in
      subst (λ (a : ℕ). Stands bs a (further_bytes (mode_tag + k) (head_at h k))) e
      (stands_right bs 0 (head_up_to h k) (further_bytes (mode_tag + k) (head_at h k)) (subst (Stands bs 0) (up_to_more h k) (up_to_stands further_count stands (suc k) (omega arith))))

  -- where there is a field, its start and its body stand
  field_parts : (k : ℕ) → k < further_count → head_at h k ≢ absent
      → Stands bs (behind k) (mark (mode_tag + k) (further_size (mode_tag + k))) × Stands bs (behind k + 3) (body_of (further_size (mode_tag + k)) (head_at h k))
  field_parts k l other =
      let m = mark (mode_tag + k) (further_size (mode_tag + k)) in
      let b = body_of (further_size (mode_tag + k)) (head_at h k) in
      let s = subst (Stands bs (behind k)) (further_some (mode_tag + k) (head_at h k) other) (field_stands k l) in
      (stands_left bs (behind k) m b s, stands_right bs (behind k) m b s)

  field_whole : (k : ℕ) → k < further_count → head_at h k ≢ absent → Whole bs (behind k) (mode_tag + k) (further_size (mode_tag + k))
  field_whole k l other =
      let s = field_parts k l other in
      whole_stands bs (behind k) (mode_tag + k) (further_size (mode_tag + k)) s.0 (omega (arith, s.1.fits, body_length (mode_tag + k) (head_at h k)))

  -- behind the header a station stands
  module _ (station : tag_at bs (7 + head_length h) ≡ 2) where
    -- so behind the first k fields stands a station or one of the others
    next_tag : (d k : ℕ) → k + d ≡ further_count → (tag_at bs (behind k) ≡ 2) ⊎ (mode_tag + k ≤ tag_at bs (behind k))
    next_tag zero k e = let all : further_count ≡ k = omega arith in inl (subst (λ (n : ℕ). tag_at bs (behind n) ≡ 2) all station)
    next_tag (suc d) k e =
        ⊎_elim (λ (none : head_at h k ≡ absent).
        let same : behind (suc k) ≡ behind k = omega (arith, length_more h k, length_none (mode_tag + k) (head_at h k) none) in
        ⊎_elim (λ (x : tag_at bs (behind (suc k)) ≡ 2). inl (subst (λ (a : ℕ). tag_at bs a ≡ 2) same x))
        (λ (x : mode_tag + suc k ≤ tag_at bs (behind (suc k))).
        let y : mode_tag + suc k ≤ tag_at bs (behind k) = subst (λ (a : ℕ). mode_tag + suc k ≤ tag_at bs a) same x in
        inr (omega arith))
        (next_tag d (suc k) (omega arith)))
        (λ (other : head_at h k ≢ absent). inr (omega (arith, (field_whole k (omega arith) other).has_tag)))
        (same_or_not (head_at h k) absent)

    -- and a field whose number is 1 is not there
    field_none : (k : ℕ) → k < further_count → head_at h k ≡ absent → tag_at bs (behind k) ≢ mode_tag + k
    field_none k l none e =
        let same : behind (suc k) ≡ behind k = omega (arith, length_more h k, length_none (mode_tag + k) (head_at h k) none) in
        let here : tag_at bs (behind (suc k)) ≡ mode_tag + k = ap (tag_at bs) same ∙ e in
        ⊎_elim (λ (x : tag_at bs (behind (suc k)) ≡ 2). absurd (omega (arith, x, here)))
        (λ (x : mode_tag + suc k ≤ tag_at bs (behind (suc k))). absurd (omega (arith, x, here)))
        (next_tag (further_count - suc k) (suc k) (omega arith))

    -- so each field is looked for where it was laid
    laid_place : (k : ℕ) → k ≤ further_count → further_place bs k ≡ behind k
    unfolding sum_below
    laid_place zero l = place_first bs
    laid_place (suc k) l =
        let before = laid_place k (omega arith) in
        place_next bs k ∙ ap (behind_tag bs (mode_tag + k)) before ∙
        ⊎_elim (λ (none : head_at h k ≡ absent).
        behind_not bs (mode_tag + k) (behind k) (field_none k l none) ∙ sym (omega (arith, length_more h k, length_none (mode_tag + k) (head_at h k) none)))
        (λ (other : head_at h k ≢ absent).
        let long : behind k + 3 + further_size (mode_tag + k) ≡ behind (suc k) = omega (arith, length_more h k, length_some (mode_tag + k) (head_at h k) other) in
        behind_there bs (mode_tag + k) (behind k) (field_whole k l other).has_tag ∙ long)
        (same_or_not (head_at h k) absent)

    -- and its number is read
    pub laid_head : (k : ℕ) → k < further_count → head_number h (mode_tag + k) < room_in (further_size (mode_tag + k)) → head_number (head_in bs) (mode_tag + k) ≡ head_number h (mode_tag + k)
    laid_head k l small =
        number_at_lem bs k l ∙ ap (λ (a : ℕ). given_at bs a (mode_tag + k)) (laid_place k (omega arith)) ∙
        ⊎_elim (λ (none : head_at h k ≡ absent). given_absent bs (mode_tag + k) (behind k) (field_none k l none) ∙ sym none)
        (λ (other : head_at h k ≢ absent).
        let said = body_read (mode_tag + k) bs (behind k + 3) (head_at h k) small (field_parts k l other).1 in
        given_there bs (mode_tag + k) (behind k) (field_whole k l other).has_tag ∙ ap (header_number true) said ∙ header_there (head_at h k) other)
        (same_or_not (head_at h k) absent)

    pub laid_header : HeaderStands bs (7 + head_length h)
    unfolding bytes_of
    laid_header =
        record {
          ttrt = whole_stands bs 0 1 4 (stands_left bs 0 (mark 1 4) (bytes_of h.ttrt) ttrt_field) ttrt_field.fits;
          further = λ k l e.
              let place = laid_place k (omega arith) in
              let here : tag_at bs (behind k) ≡ mode_tag + k = sym (ap (tag_at bs) place) ∙ e in
              subst (λ (a : ℕ). Whole bs a (mode_tag + k) (further_size (mode_tag + k))) (sym place) (field_whole k l (λ none. field_none k l none here));
          behind = sym (laid_place further_count (omega arith));
        }

-- ---- a header that was read, none of its numbers 0

module _ (bs : List ℕ) (bytes : AllBytes bs) (from : ℕ) (header : HeaderStands bs from) (some : (tag : ℕ) → 1 ≤ head_number (head_in bs) tag) where
  read_ttrt : Stands bs 0 (mark 1 4 ++ bytes_of (number_at bs 3))
  read_ttrt =
      let inside = header.ttrt.inside in
      stands_join bs 0 (mark 1 4) (bytes_of (number_at bs 3)) (mark_stands_lem bs 0 1 4 bytes (omega arith) header.ttrt) (number_stands bs 3 bytes (omega arith))

  -- the header up to its first k fields stands in the bytes, and the next is looked for behind them
  Read : ℕ → Type 0
  Read k = Stands bs 0 (head_up_to (head_in bs) k) × (further_place bs k ≡ 7 + length_up_to (head_in bs) k)

  -- one field more that is not there
  read_absent : (k : ℕ) → k < further_count → Read k → tag_at bs (further_place bs k) ≢ mode_tag + k → Read (suc k)
  unfolding Read
  read_absent k l before other =
      let tag = mode_tag + k in
      let none : head_number (head_in bs) (mode_tag + k) ≡ absent = number_at_lem bs k l ∙ given_absent bs tag (further_place bs k) other in
      let number = head_number (head_in bs) tag in
      let same : head_up_to (head_in bs) (suc k) ≡ head_up_to (head_in bs) k =
      up_to_more (head_in bs) k ∙ ap (λ (s : List ℕ). head_up_to (head_in bs) k ++ s) (further_none tag number none) ∙ append-nil (head_up_to (head_in bs) k) in
      let place = place_next bs k ∙ behind_not bs tag (further_place bs k) other in
      (subst (Stands bs 0) (sym same) before.0, omega (arith, place, before.1, length_more (head_in bs) k, length_none tag number none))

  -- and one that is
  read_there : (k : ℕ) → k < further_count → Read k → tag_at bs (further_place bs k) ≡ mode_tag + k → Read (suc k)
  unfolding Read
  read_there k l before e =
      let a = further_place bs k in
      let tag = mode_tag + k in
      let number = head_number (head_in bs) tag in
      let given : head_number (head_in bs) (mode_tag + k) ≡ header_number true (said_at bs (further_place bs k) (mode_tag + k)) = number_at_lem bs k l ∙ given_there bs tag a e in
      let named : said_at bs (further_place bs k) (mode_tag + k) ≢ absent = λ one. absurd (omega (arith, some tag, given, ap (header_number true) one, header_one)) in
      let is : head_number (head_in bs) (mode_tag + k) ≡ said_at bs (further_place bs k) (mode_tag + k) = given ∙ header_there _ named in
      let other : head_number (head_in bs) (mode_tag + k) ≢ absent = λ one. named (sym is ∙ one) in
      let w = header.further k l e in
      let inside = w.inside in
      let start = mark_stands_lem bs a tag (further_size tag) bytes (omega (arith, further_small tag)) w in
      let body = subst (λ (n : ℕ). Stands bs (a + 3) (body_of (further_size tag) n)) (sym is) (body_stands tag bs (a + 3) bytes (omega arith)) in
      let field = stands_join bs a (mark tag (further_size tag)) (body_of (further_size tag) number) start body in
      let here : further_place bs k ≡ 0 + length (head_up_to (head_in bs) k) = omega (arith, before.1, up_to_length (head_in bs) k) in
      let laid = subst (λ (b : ℕ). Stands bs b (further_bytes tag number)) here (subst (Stands bs a) (sym (further_some tag number other)) field) in
      let place = place_next bs k ∙ behind_there bs tag a e in (
        subst (Stands bs 0) (sym (up_to_more (head_in bs) k)) (stands_join bs 0 (head_up_to (head_in bs) k) (further_bytes tag number) before.0 laid),
        omega (arith, place, before.1, length_more (head_in bs) k, length_some tag number other),
      )

  read_up_to : (k : ℕ) → k ≤ further_count → Read k
  unfolding Read sum_below
  read_up_to zero l = (subst (Stands bs 0) (sym (up_to_none (head_in bs))) read_ttrt, place_first bs)
  read_up_to (suc k) l =
      ⊎_elim (λ (e : tag_at bs (further_place bs k) ≡ mode_tag + k). read_there k l (read_up_to k (omega arith)) e)
      (λ (other : tag_at bs (further_place bs k) ≢ mode_tag + k). read_absent k l (read_up_to k (omega arith)) other)
      (same_or_not (tag_at bs (further_place bs k)) (mode_tag + k))

  pub read_header : Stands bs 0 (head_bytes (head_in bs))
  unfolding Read
  read_header = (read_up_to further_count (omega arith)).0

  pub read_from : from ≡ 7 + head_length (head_in bs)
  unfolding Read
  read_from = header.behind ∙ (read_up_to further_count (omega arith)).1
