-- What the fields that have passed say of the bytes: where each station and each allocation stands. And how fields that stand one behind the other pass.
use Prim.Native.Nat.{ℕ, zero, suc, ◌+◌, ◌-◌, ◌*◌, ◌≤◌, ◌<◌}
use mathlib.Core.Path.{◌≡◌, refl, sym, ap, subst, ◌∙◌}
use mathlib.Core.Bool.{Bool, true, false, true≢false}
use mathlib.Core.List.{List}
use mathlib.Core.Logic.{◌⊎◌, inl, inr, ⊎_elim, ◌≢◌}
use native.Mathlib.Omega.{arith}
use lib.Dec.{leb, eqb}
use lib.ListN.{length}
use borrow.Author.Count.{below_more}
use borrow.Author.Tests.{le-leb, ne_eqb}
use Rattle.units.proofs.JudgingLaws.{true_or_false}
use Rattle.units.proofs.SmallLaws.{below_or_not}
use Rattle.fields.specs.Fields.{mode_tag, grid_tag, end_tag, end_size, further_size, allocations_for, due, headed, is_allowed, tag_at, size_at, behind, allowed_at, FieldWhole}
use Rattle.fields.specs.Header.{further_count, behind_tag, further_place}
use Rattle.fields.proofs.HeaderLaws.{same_or_not, behind_there, behind_not, place_first, place_next, place_same}
use Rattle.fields.proofs.FieldLaws.{Whole, allocations_few, Further, Kind, a_head, a_station, an_allocation, an_end, a_further, allowed_kind, kind_allowed}
use Rattle.fields.specs.declared.Passed.{Passed}
use Rattle.field_reader.specs.Scanned.{nothing_passed, with_field, scanned}
use Rattle.field_reader.specs.FirstFault.{WellFormed, start, more, not_allowed, FirstFault, WholeSheet}
use Rattle.field_reader.specs.declared.Scanned.{Scanned}
use Rattle.field_reader.proofs.ScannedLaws.{end_there, shape_whole}

-- ---- one field more, by its tag

module _ (p : Passed) (tag next : ℕ) where
  head_more : tag ≡ 1 → with_field p tag next ≡ record { plan = p.plan; head = 1; from = next; stations = p.stations; allocations = p.allocations }
  unfolding with_field
  head_more e = rw e refl

  station_more : tag ≡ 2 → with_field p tag next ≡ record { plan = p.plan; head = p.head; from = p.from; stations = p.stations + 1; allocations = p.allocations }
  unfolding with_field
  station_more e = rw e refl

  allocation_more : tag ≡ 3 → with_field p tag next ≡ record { plan = p.plan; head = p.head; from = p.from; stations = p.stations; allocations = p.allocations + 1 }
  unfolding with_field
  allocation_more e = rw e refl

  further_more : 3 < tag → with_field p tag next ≡ record { plan = p.plan; head = tag; from = next; stations = p.stations; allocations = p.allocations }
  unfolding with_field
  further_more l =
      let no_station : eqb tag 2 ≡ false = ne_eqb tag 2 (λ e. omega arith) in
      let no_allocation_lem : eqb tag 3 ≡ false = ne_eqb tag 3 (λ e. omega arith) in
      rw (no_station, no_allocation_lem) refl

-- ---- where the fields stand

-- the fields of the header from the start on, one behind the other: the tag of the last, which is the highest, and the place behind it
pub data Headed (bs : List ℕ) : ℕ → ℕ → Type 0 where
  ttrt_first : Whole bs 0 1 4 → Headed bs 1 7
  and_further : {head a : ℕ} (tag size : ℕ) → Headed bs head a → Further tag size → head < tag → Whole bs a tag size → Headed bs tag (a + 3 + size)

headed_some : (bs : List ℕ) (head a : ℕ) → Headed bs head a → 1 ≤ head
headed_some bs _ _ (ttrt_first w) = omega arith
headed_some bs _ _ (and_further tag size before f above w) = omega (arith, f.low)

-- the header: none yet, or some of its fields
pub data Header (bs : List ℕ) (p : Passed) : Type 0 where
  no_header : p.head ≡ 0 → p.from ≡ 0 → p.stations ≡ 0 → Header bs p
  a_header : Headed bs p.head p.from → Header bs p

pub record Through (plan : Bool) (bs : List ℕ) (p : Passed) (a : ℕ) : Type 0 where
  pub kind : p.plan ≡ plan
  pub header : Header bs p
  pub place : a ≡ p.from + 19 * p.stations + 7 * p.allocations
  pub few : p.stations ≤ 128
  pub most : p.allocations ≤ allocations_for plan p.stations
  pub stations : (i : ℕ) → i < p.stations → Whole bs (p.from + 19 * i) 2 16
  pub allocations : (i : ℕ) → i < p.allocations → Whole bs (p.from + 19 * p.stations + 7 * i) 3 4

-- the header of fields that have one
header_of_lem : (bs : List ℕ) (p : Passed) → Header bs p → headed p ≡ true → Headed bs p.head p.from
header_of_lem bs p (no_header h f s) e = absurd (true≢false (sym e ∙ ap (leb 1) h))
header_of_lem bs p (a_header h) e = h

module _ (plan : Bool) (bs : List ℕ) (p : Passed) (a : ℕ) (t : Through plan bs p a) (w : FieldWhole bs a p) where
  -- the field that stands here
  here : (tag size : ℕ) → tag_at bs a ≡ tag → size_at bs a ≡ size → Whole bs a tag size
  here tag size e s = record { inside = omega (arith, w.inside); has_tag = e; has_size = s }

  through_head : tag_at bs a ≡ 1 → size_at bs a ≡ 4 → Header bs p → headed p ≡ false → Through plan bs (with_field p (tag_at bs a) (behind bs a)) (behind bs a)
  through_head e s (a_header h) not-begun = absurd (true≢false (sym (le-leb 1 p.head (headed_some bs p.head p.from h)) ∙ not-begun))
  through_head e s (no_header h f n) not-begun =
      let m : p.allocations ≡ 0 = omega (arith, t.most, allocations_few plan p.stations) in
      let first : a ≡ 0 = omega (arith, t.place) in
      let there : behind bs a ≡ 7 = omega arith in
      subst (λ (q : Passed). Through plan bs q (behind bs a)) (sym (head_more p _ _ e))
      (record {
        kind = t.kind;
        header = a_header (subst (Headed bs 1) (sym there) (ttrt_first (subst (λ (b : ℕ). Whole bs b 1 4) first (here 1 4 e s))));
        place = omega arith;
        few = t.few;
        most = t.most;
        stations = λ i l. absurd (omega arith);
        allocations = λ i l. absurd (omega arith);
      })

  through_station : tag_at bs a ≡ 2 → size_at bs a ≡ 16 → headed p ≡ true → p.stations < 128 → p.allocations ≡ 0 → Through plan bs (with_field p (tag_at bs a) (behind bs a)) (behind bs a)
  through_station e s begun few none =
      let h = header_of_lem bs p t.header begun in
      let there : a ≡ p.from + 19 * p.stations = omega (arith, t.place) in
      subst (λ (q : Passed). Through plan bs q (behind bs a)) (sym (station_more p _ _ e))
      (record {
        kind = t.kind;
        header = a_header h;
        place = omega (arith, there);
        few = omega arith;
        most = omega arith;
        stations = below_more _ _ t.stations (subst (λ (b : ℕ). Whole bs b 2 16) there (here 2 16 e s));
        allocations = λ i l. absurd (omega arith);
      })

  through_allocation : tag_at bs a ≡ 3 → size_at bs a ≡ 4 → headed p ≡ true → p.allocations < due p → Through plan bs (with_field p (tag_at bs a) (behind bs a)) (behind bs a)
  through_allocation e s begun room =
      let h = header_of_lem bs p t.header begun in
      let room' : p.allocations < allocations_for plan p.stations = subst (λ (b : Bool). p.allocations < allocations_for b p.stations) t.kind room in
      subst (λ (q : Passed). Through plan bs q (behind bs a)) (sym (allocation_more p _ _ e))
      (record {
        kind = t.kind;
        header = a_header h;
        place = omega (arith, t.place);
        few = t.few;
        most = omega arith;
        stations = t.stations;
        allocations = below_more _ _ t.allocations (subst (λ (b : ℕ). Whole bs b 3 4) t.place (here 3 4 e s));
      })

  through_further : Further (tag_at bs a) (size_at bs a) → headed p ≡ true → p.head < tag_at bs a → p.stations ≡ 0
      → Through plan bs (with_field p (tag_at bs a) (behind bs a)) (behind bs a)
  through_further f begun above none =
      let m : p.allocations ≡ 0 = omega (arith, t.most, allocations_few plan p.stations) in
      let there : a ≡ p.from = omega (arith, t.place) in
      let before = subst (Headed bs p.head) (sym there) (header_of_lem bs p t.header begun) in
      subst (λ (q : Passed). Through plan bs q (behind bs a)) (sym (further_more p _ _ f.low))
      (record {
        kind = t.kind;
        header = a_header (and_further _ _ before f above (here _ _ refl refl));
        place = omega arith;
        few = t.few;
        most = t.most;
        stations = λ i l. absurd (omega arith);
        allocations = λ i l. absurd (omega arith);
      })

  through_more : tag_at bs a ≢ 255 → Kind p (tag_at bs a) (size_at bs a) → Through plan bs (with_field p (tag_at bs a) (behind bs a)) (behind bs a)
  through_more other (a_head e s not-begun) = through_head e s t.header not-begun
  through_more other (a_station e s begun few none) = through_station e s begun few none
  through_more other (an_allocation e s begun room) = through_allocation e s begun room
  through_more other (an_end e s begun some all) = absurd (other e)
  through_more other (a_further f begun above none) = through_further f begun above none

pub through : (plan : Bool) (bs : List ℕ) (p : Passed) (a : ℕ) → WellFormed plan bs p a → Through plan bs p a
through plan bs _ _ start =
    record {
      kind = refl;
      header = no_header refl refl refl;
      place = refl;
      few = omega arith;
      most = omega arith;
      stations = λ i l. absurd (omega arith);
      allocations = λ i l. absurd (omega arith);
    }
through plan bs _ _ (more {p} {a} before w other) =
    through_more plan bs p a (through plan bs p a before) w other (allowed_kind p (tag_at bs a) (size_at bs a) w.allowed)

-- ---- a whole sheet

-- the first k fields of the header behind TTRT, of which each may be absent, stand before the place a
record UpTo (bs : List ℕ) (k a : ℕ) : Type 0 where
  behind : further_place bs k ≡ a
  whole : (i : ℕ) → i < k → tag_at bs (further_place bs i) ≡ mode_tag + i → Whole bs (further_place bs i) (mode_tag + i) (further_size (mode_tag + i))

module _ (bs : List ℕ) where
  -- where another tag stands, more of them are absent
  up_to_more : (j a : ℕ) → UpTo bs j a → (k : ℕ) → j ≤ k → ((i : ℕ) → j ≤ i → i < k → tag_at bs a ≢ mode_tag + i) → UpTo bs k a
  up_to_more j a u k l none =
      record {
        behind = place_same bs a j u.behind k l none;
        whole = λ i m e.
            ⊎_elim (λ (b : i < j). u.whole i b e)
            (λ (b : j ≤ i).
            let here = place_same bs a j u.behind i b (λ n o p. none n o (omega arith)) in
            absurd (none i b m (sym (ap (tag_at bs) here) ∙ e)))
            (below_or_not i j);
      }

  -- and one that stands there is the next
  up_to_next : (k a : ℕ) → UpTo bs k a → Whole bs a (mode_tag + k) (further_size (mode_tag + k)) → UpTo bs (suc k) (a + 3 + further_size (mode_tag + k))
  up_to_next k a u w =
      record {
        behind = place_next bs k ∙ ap (behind_tag bs (mode_tag + k)) u.behind ∙ behind_there bs (mode_tag + k) a w.has_tag;
        whole = λ i l e.
            ⊎_elim (λ (b : i < k). u.whole i b e)
            (λ (b : k ≤ i).
            let last : k ≡ i = omega arith in
            let here : a ≡ further_place bs i = sym u.behind ∙ ap (further_place bs) last in
            subst (λ (n : ℕ). Whole bs (further_place bs i) (mode_tag + n) (further_size (mode_tag + n))) last
            (subst (λ (b : ℕ). Whole bs b (mode_tag + k) (further_size (mode_tag + k))) here w))
            (below_or_not i k);
      }

  -- a header whose last field has this tag
  headed_up_to : (head a : ℕ) → Headed bs head a → UpTo bs (head + 1 - mode_tag) a
  headed_up_to _ _ (ttrt_first w) = record { behind = place_first bs; whole = λ i l e. absurd (omega arith) }
  headed_up_to _ _ (and_further {head} {a} tag size before f above w) =
      let k = tag - mode_tag in
      let low = f.low in
      let is : tag ≡ mode_tag + (tag - mode_tag) = omega arith in
      let long : size ≡ further_size (mode_tag + (tag - mode_tag)) = f.long ∙ ap further_size is in
      let here : Whole bs a (mode_tag + k) (further_size (mode_tag + k)) = subst (λ (n : ℕ). Whole bs a (mode_tag + k) n) long (subst (λ (n : ℕ). Whole bs a n size) is w) in
      let skipped = up_to_more _ a (headed_up_to head a before) k (omega arith) (λ i l m e. absurd (omega (arith, w.has_tag, e))) in
      let all : suc (tag - mode_tag) ≡ tag + 1 - mode_tag = omega arith in
      subst (λ (n : ℕ). UpTo bs n (a + 3 + size)) all (subst (λ (n : ℕ). UpTo bs (suc k) (a + 3 + n)) (sym long) (up_to_next k a skipped here))

-- TTRT stands at the start; then those of the further fields that are there, one behind the other, and behind them the stations begin
pub record HeaderStands (bs : List ℕ) (from : ℕ) : Type 0 where
  pub ttrt : Whole bs 0 1 4
  pub further : (k : ℕ) → k < further_count → tag_at bs (further_place bs k) ≡ mode_tag + k → Whole bs (further_place bs k) (mode_tag + k) (further_size (mode_tag + k))
  pub behind : from ≡ further_place bs further_count

headed_first : (bs : List ℕ) (head a : ℕ) → Headed bs head a → Whole bs 0 1 4
headed_first bs _ _ (ttrt_first w) = w
headed_first bs _ _ (and_further {head} {a} tag size before f above w) = headed_first bs head a before

headed_low : (bs : List ℕ) (head a : ℕ) → Headed bs head a → head ≤ grid_tag
headed_low bs _ _ (ttrt_first w) = omega arith
headed_low bs _ _ (and_further tag size before f above w) = f.high

header_stands : (bs : List ℕ) (head from : ℕ) → Headed bs head from → tag_at bs from ≡ 2 → HeaderStands bs from
header_stands bs head from h station =
    let low = headed_low bs head from h in
    let all = up_to_more bs _ from (headed_up_to bs head from h) further_count (omega arith) (λ i l m e. absurd (omega (arith, station, e))) in
    record { ttrt = headed_first bs head from h; further = all.whole; behind = sym all.behind }

-- all fields of a sheet but its end have passed: the header, at least one station and all allocations that belong to them
pub record AllPassed (plan : Bool) (bs : List ℕ) (p : Passed) (a : ℕ) : Type 0 where
  pub kind : p.plan ≡ plan
  pub some : 1 ≤ p.stations
  pub few : p.stations ≤ 128
  pub all : p.allocations ≡ allocations_for plan p.stations
  pub header : HeaderStands bs p.from
  pub stations : (i : ℕ) → i < p.stations → Whole bs (p.from + 19 * i) 2 16
  pub allocations : (i : ℕ) → i < p.allocations → Whole bs (p.from + 19 * p.stations + 7 * i) 3 4
  pub place : a ≡ p.from + 19 * p.stations + 7 * p.allocations
  pub inside : a ≤ length bs

-- fields that are whole lie inside the bytes
formed_inside : (plan : Bool) (bs : List ℕ) (p : Passed) (a : ℕ) → WellFormed plan bs p a → a ≤ length bs
formed_inside plan bs _ _ start = omega arith
formed_inside plan bs _ _ (more before w other) = w.inside

-- they have where the end may stand
pub all_passed : (plan : Bool) (bs : List ℕ) (p : Passed) (a : ℕ) → WellFormed plan bs p a → is_allowed p end_tag end_size ≡ true → AllPassed plan bs p a
all_passed plan bs p a before may = go (allowed_kind p end_tag end_size may)
  where
    t : Through plan bs p a
    t = through plan bs p a before

    go : Kind p end_tag end_size → AllPassed plan bs p a
    go (a_head e z not-begun) = absurd (omega arith)
    go (a_station e z begun few none) = absurd (omega arith)
    go (an_allocation e z begun room) = absurd (omega arith)
    go (a_further f begun above none) = absurd (omega (arith, f.high))
    go (an_end e z begun some all) =
        let first : p.from + 19 * 0 ≡ p.from = omega arith in
        record {
          kind = t.kind;
          some = some;
          few = t.few;
          all = all ∙ ap (λ (b : Bool). allocations_for b p.stations) t.kind;
          header = header_stands bs p.head p.from (header_of_lem bs p t.header begun) (subst (λ (b : ℕ). tag_at bs b ≡ 2) first (t.stations 0 some).has_tag);
          stations = t.stations;
          allocations = t.allocations;
          place = t.place;
          inside = formed_inside plan bs p a before;
        }

-- the end of a whole sheet: its tag and its length are those of the end, and it stands behind all other fields
pub record Ended (plan : Bool) (bs : List ℕ) (p : Passed) : Type 0 where
  pub before : AllPassed plan bs p (p.from + 19 * p.stations + 7 * p.allocations)
  pub end : Whole bs (p.from + 19 * p.stations + 7 * p.allocations) 255 0
  -- and nothing follows it
  pub last : length bs ≡ p.from + 19 * p.stations + 7 * p.allocations + 3

-- a field that may stand, with the tag of the end, has the end's length
pub end_short : (p : Passed) (tag size : ℕ) → is_allowed p tag size ≡ true → tag ≡ end_tag → size ≡ end_size
end_short p tag size may e = go (allowed_kind p tag size may)
  where
    go : Kind p tag size → size ≡ end_size
    go (a_head d z not-begun) = absurd (omega arith)
    go (a_station d z begun few none) = absurd (omega arith)
    go (an_allocation d z begun room) = absurd (omega arith)
    go (a_further f begun above none) = absurd (omega (arith, f.high))
    go (an_end d z begun some all) = z

pub whole_ended : (plan : Bool) (bs : List ℕ) (s : WholeSheet plan bs) → Ended plan bs s.passed
whole_ended plan bs s =
    let p = s.passed in
    let a = s.place in
    let z : size_at bs s.place ≡ 0 = end_short p (tag_at bs a) (size_at bs a) s.end_whole.allowed s.end_tag_lem in
    let may : is_allowed s.passed end_tag end_size ≡ true = rw (s.end_tag_lem, z) at s.end_whole.allowed in
    let all = all_passed plan bs p a s.before may in
    record {
      before = subst (AllPassed plan bs p) all.place all;
      end = subst (λ (b : ℕ). Whole bs b 255 0) all.place (record { inside = omega (arith, s.end_whole.inside); has_tag = s.end_tag_lem; has_size = z });
      last = omega (arith, s.nothing_follows, all.place);
    }

-- the walk over a sheet without a fault has gone by all of it
pub scanned_ended : (plan : Bool) (bs : List ℕ) → (scanned plan bs).number ≡ 0 → Ended plan bs (scanned plan bs).passed
scanned_ended plan bs z =
    let w = shape_whole plan bs z in
    subst (λ (r : Scanned). Ended plan bs r.passed) (sym (end_there plan bs w)) (whole_ended plan bs w)

-- ---- fields that stand one behind the other pass

-- the header, n stations and m allocations
abbrev pub passed_all : Bool → ℕ → ℕ → ℕ → ℕ → Passed
passed_all plan head from n m = record { plan = plan; head = head; from = from; stations = n; allocations = m }

module _ (plan : Bool) (bs : List ℕ) where
  -- a whole field of a kind that may stand there
  standing : (p : Passed) (a tag size : ℕ) → Whole bs a tag size → Kind p tag size → FieldWhole bs a p
  standing p a tag size w k =
      record {
        inside = omega (arith, w.inside, w.has_size);
        allowed = rw (w.has_tag, w.has_size) (kind_allowed p tag size k);
      }

  passing : (p : Passed) (a tag size : ℕ) → WellFormed plan bs p a → Whole bs a tag size
      → Kind p tag size → tag ≢ 255 → WellFormed plan bs (with_field p tag (a + 3 + size)) (a + 3 + size)
  passing p a tag size before w k other =
      let b : behind bs a ≡ a + 3 + size = omega (arith, w.has_size) in
      let next = more before (standing p a tag size w k) (λ e. other (sym w.has_tag ∙ e)) in
      rw (w.has_tag, b) at next

  -- the header: TTRT, then the further fields that are there
  module _ (from : ℕ) (h : HeaderStands bs from) where
    -- the first k of them; `head` is the tag of the last that is there
    up_to : ℕ → Type 0
    up_to k = (head : ℕ) × ((1 ≤ head) × ((head < mode_tag + k) × WellFormed plan bs (passed_all plan head (further_place bs k) 0 0) (further_place bs k)))

    first_passes : WellFormed plan bs (passed_all plan 1 (further_place bs 0) 0 0) (further_place bs 0)
    unfolding with_field further_place
    first_passes = passing (nothing_passed plan) 0 1 4 start h.ttrt (a_head refl refl refl) (λ e. omega arith)

    next_passes : (k : ℕ) → k < further_count → up_to k → up_to (suc k)
    unfolding up_to
    next_passes k l (head, (some, (low, before))) =
        let a = further_place bs k in
        let tag = mode_tag + k in
        ⊎_elim (λ (e : tag_at bs (further_place bs k) ≡ mode_tag + k).
        let next = place_next bs k ∙ behind_there bs tag a e in
        let f : Further (mode_tag + k) (further_size (mode_tag + k)) = record { low = omega arith; high = omega arith; long = refl } in
        let passed = passing (passed_all plan head a 0 0) a tag (further_size tag) before (h.further k l e) (a_further f (le-leb 1 head some) low refl) (λ e. omega arith) in
        (tag, (omega arith, (omega arith, rw next (rw (further_more (passed_all plan head a 0 0) tag _ (omega arith)) at passed)))))
        (λ (other : tag_at bs (further_place bs k) ≢ mode_tag + k).
        let next = place_next bs k ∙ behind_not bs tag a other in
        (head, (some, (omega arith, rw next before))))
        (same_or_not (tag_at bs a) tag)

    up_to_passes : (k : ℕ) → k ≤ further_count → up_to k
    unfolding up_to
    up_to_passes zero l = (1, (omega arith, (omega arith, first_passes)))
    up_to_passes (suc k) l = next_passes k (omega arith) (up_to_passes k (omega arith))

    pub header_passes : (head : ℕ) × ((1 ≤ head) × WellFormed plan bs (passed_all plan head from 0 0) from)
    unfolding up_to
    header_passes =
        let all = up_to_passes further_count (omega arith) in
        (all.0, (all.1.0, subst (λ (a : ℕ). WellFormed plan bs (passed_all plan all.0 a 0 0) a) (sym h.behind) all.1.1.1))

  module _ (head from : ℕ) (begun : 1 ≤ head) where
    pub station_passes : (n a : ℕ) → WellFormed plan bs (passed_all plan head from n 0) a → n < 128
        → Whole bs a 2 16 → WellFormed plan bs (passed_all plan head from (n + 1) 0) (a + 3 + 16)
    unfolding with_field
    station_passes n a before few w =
        passing (passed_all plan head from n 0) a 2 16 before w (a_station refl refl (le-leb 1 head begun) few refl) (λ e. omega arith)

    pub allocation_passes : (n m a : ℕ) → WellFormed plan bs (passed_all plan head from n m) a → m < allocations_for plan n
        → Whole bs a 3 4 → WellFormed plan bs (passed_all plan head from n (m + 1)) (a + 3 + 4)
    unfolding with_field
    allocation_passes n m a before room w =
        passing (passed_all plan head from n m) a 3 4 before w (an_allocation refl refl (le-leb 1 head begun) room) (λ e. omega arith)

    -- and the walk goes by all of them, to the end
    pub end_passes : (n m a : ℕ) → WellFormed plan bs (passed_all plan head from n m) a → 1 ≤ n → m ≡ allocations_for plan n
        → Whole bs a 255 0 → length bs ≡ a + 3 → scanned plan bs ≡ record { number = 0; passed = passed_all plan head from n m; at = a }
    end_passes n m a before some all w last =
        end_there plan bs
        (record {
          passed = passed_all plan head from n m;
          place = a;
          before = before;
          end_whole = standing (passed_all plan head from n m) a 255 0 w (an_end refl refl (le-leb 1 head begun) some all);
          end_tag_lem = w.has_tag;
          nothing_follows = omega (arith, w.has_size);
        })

-- ---- a plan is no request

-- the same fields in a request
as_request : Passed → Passed
as_request p = record { plan = false; head = p.head; from = p.from; stations = p.stations; allocations = p.allocations }

module _ (bs : List ℕ) where
  request_more : (p : Passed) (a : ℕ) → FieldWhole bs a p → tag_at bs a ≢ 255 → p.allocations ≡ 0 → WellFormed false bs (as_request p) a → Kind p (tag_at bs a) (size_at bs a)
      → (((with_field p (tag_at bs a) (behind bs a)).allocations ≡ 0) × WellFormed false bs (as_request (with_field p (tag_at bs a) (behind bs a))) (behind bs a)) ⊎ FirstFault false bs 2
  unfolding as_request
  request_more p a w other none before (a_head e s not-begun) =
      let next = more before (record { inside = w.inside; allowed = kind_allowed (as_request p) _ _ (a_head e s not-begun) }) other in
      inl (rw (head_more p _ _ e) none, rw (head_more p _ _ e) (rw (head_more (as_request p) _ _ e) at next))
  request_more p a w other none before (a_station e s begun few none_yet) =
      let next = more before (record { inside = w.inside; allowed = kind_allowed (as_request p) _ _ (a_station e s begun few none_yet) }) other in
      inl (rw (station_more p _ _ e) none, rw (station_more p _ _ e) (rw (station_more (as_request p) _ _ e) at next))
  request_more p a w other none before (a_further f begun above none_yet) =
      let more-tag = f.low in
      let next = more before (record { inside = w.inside; allowed = kind_allowed (as_request p) _ _ (a_further f begun above none_yet) }) other in
      inl (rw (further_more p _ _ more-tag) none, rw (further_more p _ _ more-tag) (rw (further_more (as_request p) _ _ more-tag) at next))
  request_more p a w other none before (an_allocation e s begun room) = inr (record { passed = as_request p; place = a; before = before; fault = not_allowed (omega (arith, w.inside)) wrong })
    where
      in_none : Kind (as_request p) (tag_at bs a) (size_at bs a) → ⊥
      in_none (a_head d s not-begun) = absurd (omega (arith, e, d))
      in_none (a_station d s begun few none_yet) = absurd (omega (arith, e, d))
      in_none (an_allocation d s begun room) = absurd (omega (arith, room))
      in_none (an_end d s begun some all) = absurd (omega (arith, e, d))
      in_none (a_further f begun above none_yet) = absurd (omega (arith, e, f.low))

      wrong : allowed_at bs a (as_request p) ≡ false
      wrong =
          ⊎_elim (λ (y : allowed_at bs a (as_request p) ≡ true). absurd (in_none (allowed_kind (as_request p) _ _ y)))
          (λ (n : allowed_at bs a (as_request p) ≡ false). n)
          (true_or_false (allowed_at bs a (as_request p)))
  request_more p a w other none before (an_end e s begun some all) = absurd (other e)

  as_request_lem : (p : Passed) (a : ℕ) → WellFormed true bs p a → ((p.allocations ≡ 0) × WellFormed false bs (as_request p) a) ⊎ FirstFault false bs 2
  unfolding as_request
  as_request_lem _ _ start = inl (refl, start)
  as_request_lem _ _ (more {p} {a} before w other) =
      ⊎_elim (λ so_far. request_more p a w other so_far.0 so_far.1 (allowed_kind p (tag_at bs a) (size_at bs a) w.allowed)) (λ f. inr f) (as_request_lem p a before)

  pub plan_no_request : WholeSheet true bs → FirstFault false bs 2
  plan_no_request s =
      let e = whole_ended true bs s in
      ⊎_elim (λ none. absurd (omega (arith, none.0, e.before.some, e.before.all))) (λ f. f) (as_request_lem s.passed s.place s.before)
