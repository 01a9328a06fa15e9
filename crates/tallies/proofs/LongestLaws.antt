-- The longest time between two visits of a station: what is kept on the way is the longest of the times that the records show.
use Rattle.std.proofs.Common.{◌≡◌, ℕ, ◌+◌, ◌%◌, ◌^◌, ◌<◌, ◌≤◌, max, cond, eqb, ◌≢◌, ◌⊎◌, List, [], ◌∷◌, ◌++◌, length, sym, refl, ap, ◌∙◌, inl, inr, ⊎_elim, mod-eq_of_lt, arith, eq-eqb, ne_eqb}
use Rattle.units.specs.Places.{at}
use Rattle.units.proofs.SmallLaws.{below_or_not}
use Rattle.log_records.specs.declared.VisitEntry.{VisitEntry}
use Rattle.log_records.specs.declared.MarkEntry.{MarkEntry}
use Rattle.log_records.specs.declared.Entry.{Entry}
use Rattle.log_records.specs.declared.Entry.TheVariants.{Visit, Mark}
use Rattle.tallies.specs.Laps.{wrapped, took_by}
use Rattle.tallies.specs.Tallies.{visits_column, last_column, longest_column, place_of, gap_of, nothing_seen, seen, seen_all}
use Rattle.tallies.specs.Shown.{Known, moment, of_station, visits_of, apart, Happened, Longest}
use Rattle.tallies.specs.declared.Seen.{Seen}
use Rattle.tallies.proofs.VisitLaws.{visits_there, last_there, longest_there, elsewhere}
use Rattle.tallies.proofs.ColumnLaws.{own_place, of_same, of_other, same_or_not, Whole, whole_visit, whole_mark, nothing_at, nothing_whole}

-- ---- the longest time, from the first record on

-- the ticks since the station's last visit began; none before its first one
data Since : Type 0 where
  never : Since
  since : ℕ → Since

abbrev ticks_of : Since → ℕ
ticks_of never = 0
ticks_of (since t) = t

abbrev later : Since → ℕ → Since
later never x = never
later (since t) x = since (t + x)

-- behind a visit
unfoldable then : List ℕ → ℕ → Since → VisitEntry → Since
then w i g v = cond (eqb v.station i) (since (took_by w v)) (later g (took_by w v))

unfoldable longest_from : List ℕ → ℕ → Since → List Entry → ℕ
longest_from w i g [] = 0
longest_from w i g (Visit v ∷ es) = max (of_station i v (ticks_of g)) (longest_from w i (then w i g v) es)
longest_from w i g (Mark m ∷ es) = longest_from w i g es

module _ (w : List ℕ) (i : ℕ) where
  then_same : (g : Since) (v : VisitEntry) → v.station ≡ i → then w i g v ≡ since (took_by w v)
  unfolding then
  then_same g v h = rw (eq-eqb v.station i h) refl

  then_other : (g : Since) (v : VisitEntry) → v.station ≢ i → then w i g v ≡ later g (took_by w v)
  unfolding then
  then_other g v h = rw (ne_eqb v.station i h) refl

  -- ---- no two visits are further apart

  -- no visit of the station is among them
  not_of : (v : VisitEntry) (es : List Entry) → visits_of i (Visit v ∷ es) ≡ 0 → (v.station ≢ i) × (visits_of i es ≡ 0)
  unfolding visits_of
  not_of v es h = (λ e. omega (arith, of_same i v 1 e), omega arith)

  up_to_next : (t : ℕ) (between : List Entry) (v : VisitEntry) (behind : List Entry) → v.station ≡ i → visits_of i between ≡ 0 → t + moment w between ≤ longest_from w i (since t) (between ++ Visit v ∷ behind)
  unfolding longest_from moment visits_of
  up_to_next t [] v behind second none = omega (arith, of_same i v t second)
  up_to_next t (Visit x ∷ between) v behind second none =
      let not = not_of x between none in
      rw (then_other (since t) x not.0) (omega (arith, up_to_next (t + took_by w x) between v behind second not.1))
  up_to_next t (Mark m ∷ between) v behind second none = up_to_next t between v behind second none

  not_longer : (g : Since) (before : List Entry) (u : VisitEntry) (between : List Entry) (v : VisitEntry) (behind : List Entry)
      → u.station ≡ i → v.station ≡ i → visits_of i between ≡ 0 → apart w u between ≤ longest_from w i g (before ++ Visit u ∷ between ++ Visit v ∷ behind)
  unfolding longest_from
  not_longer g [] u between v behind first second none = rw (then_same g u first) (omega (arith, up_to_next (took_by w u) between v behind second none))
  not_longer g (Visit x ∷ before) u between v behind first second none = omega (arith, not_longer (then w i g x) before u between v behind first second none)
  not_longer g (Mark m ∷ before) u between v behind first second none = not_longer g before u between v behind first second none

  -- ---- two are so far apart

  abbrev Ticks : Since → ℕ → Type 0
  Ticks never t = ⊥
  Ticks (since s) t = s ≡ t

  -- this time is from the visit before these records to their first one
  record Pending (g : Since) (es : List Entry) (x : ℕ) : Type 0 where
    ticks : ℕ
    began : Ticks g ticks
    between : List Entry
    v : VisitEntry
    behind : List Entry
    place : es ≡ between ++ Visit v ∷ behind
    second : v.station ≡ i
    none_between : visits_of i between ≡ 0
    is : x ≡ ticks + moment w between

  abbrev Reached : Since → List Entry → ℕ → Type 0
  Reached g es x = Happened w i es x ⊎ ((x ≡ 0) ⊎ Pending g es x)

  happened_on : (e : Entry) (es : List Entry) (x : ℕ) → Happened w i es x → Happened w i (e ∷ es) x
  happened_on e es x h =
      let next = h.next in
      record {
        before = e ∷ h.before;
        u = h.u;
        between = h.between;
        v = h.v;
        next =
            record {
              behind = next.behind;
              place = ap (λ (xs : List Entry). e ∷ xs) next.place;
              first = next.first;
              second = next.second;
              none_between = next.none_between;
            };
        is = h.is;
      }

  -- a mark more in front
  mark_on : (g : Since) (m : MarkEntry) (es : List Entry) (x : ℕ) → Pending g es x → Pending g (Mark m ∷ es) x
  unfolding visits_of moment
  mark_on g m es x p =
      record {
        ticks = p.ticks;
        began = p.began;
        between = Mark m ∷ p.between;
        v = p.v;
        behind = p.behind;
        place = ap (λ (xs : List Entry). Mark m ∷ xs) p.place;
        second = p.second;
        none_between = p.none_between;
        is = p.is;
      }

  -- a visit of another station more in front
  visit_on : (g : Since) (v : VisitEntry) (es : List Entry) (x : ℕ) → v.station ≢ i → Pending (later g (took_by w v)) es x → Pending g (Visit v ∷ es) x
  unfolding visits_of moment
  visit_on never v es x h p = absurd p.began
  visit_on (since t) v es x h p =
      record {
        ticks = t;
        began = refl;
        between = Visit v ∷ p.between;
        v = p.v;
        behind = p.behind;
        place = ap (λ (xs : List Entry). Visit v ∷ xs) p.place;
        second = p.second;
        none_between = omega (arith, of_other i v 1 h, p.none_between);
        is = omega (arith, p.is, p.began);
      }

  -- the visit itself is the one before
  from_here : (v : VisitEntry) (es : List Entry) (x : ℕ) → v.station ≡ i → Pending (since (took_by w v)) es x → Happened w i (Visit v ∷ es) x
  from_here v es x h p =
      record {
        before = [];
        u = v;
        between = p.between;
        v = p.v;
        next =
            record {
              behind = p.behind;
              place = ap (λ (xs : List Entry). Visit v ∷ xs) p.place;
              first = h;
              second = p.second;
              none_between = p.none_between;
            };
        is = omega (arith, p.is, p.began);
      }

  -- the visit is the first one behind these ticks
  to_here : (t : ℕ) (v : VisitEntry) (es : List Entry) → v.station ≡ i → Pending (since t) (Visit v ∷ es) t
  unfolding visits_of moment
  to_here t v es h =
      record {
        ticks = t;
        began = refl;
        between = [];
        v = v;
        behind = es;
        place = refl;
        second = h;
        none_between = refl;
        is = omega arith;
      }

  -- the greater of the time up to this visit and the longest behind it
  one_of : (g : Since) (v : VisitEntry) (es : List Entry) (x : ℕ) → v.station ≡ i → Happened w i (Visit v ∷ es) x ⊎ (x ≡ 0) → Reached g (Visit v ∷ es) (max (ticks_of g) x)
  one_of never v es x h r =
      let same : max 0 x ≡ x = omega arith in
      rw same (⊎_elim (λ b. inl b) (λ z. inr (inl z)) r)
  one_of (since t) v es x h r =
      ⊎_elim (λ (below : x < t). let same : max t x ≡ t = omega arith in rw same (inr (inr (to_here t v es h))))
      (λ (not : t ≤ x). let same : max t x ≡ x = omega arith in rw same (⊎_elim (λ b. inl b) (λ z. inr (inl z)) r))
      (below_or_not x t)

  reached : (g : Since) (es : List Entry) → Reached g es (longest_from w i g es)
  unfolding longest_from
  reached g [] = inr (inl refl)
  reached g (Visit v ∷ es) =
      ⊎_elim
      (λ (h : v.station ≡ i).
      let x = longest_from w i (since (took_by w v)) es in
      rw (of_same i v (ticks_of g) h, then_same g v h)
      (one_of g v es x h (⊎_elim (λ b. inl (happened_on (Visit v) es x b)) (λ r. ⊎_elim (λ z. inr z) (λ p. inl (from_here v es x h p)) r) (reached (since (took_by w v)) es))))
      (λ (h : v.station ≢ i).
      let x = longest_from w i (later g (took_by w v)) es in
      let same : max 0 (longest_from w i (later g (took_by w v)) es) ≡ longest_from w i (later g (took_by w v)) es = omega arith in
      rw (of_other i v (ticks_of g) h, then_other g v h, same)
      (⊎_elim (λ b. inl (happened_on (Visit v) es x b)) (λ r. ⊎_elim (λ z. inr (inl z)) (λ p. inr (inr (visit_on g v es x h p))) r) (reached (later g (took_by w v)) es)))
      (same_or_not i v)
  reached g (Mark m ∷ es) =
      let x = longest_from w i g es in
      ⊎_elim (λ b. inl (happened_on (Mark m) es x b)) (λ r. ⊎_elim (λ z. inr (inl z)) (λ p. inr (inr (mark_on g m es x p))) r) (reached g es)

  -- so it is the longest
  is_longest : (es : List Entry) → Longest w i es (longest_from w i never es)
  is_longest es =
      record {
        none_longer =
            λ before between u v next.
            rw next.place (not_longer never before u between v next.behind next.first next.second next.none_between);
        reached = ⊎_elim (λ b. inl b) (λ r. ⊎_elim (λ z. inr z) (λ p. absurd p.began) r) (reached never es);
      }

-- ---- what is kept on the way

-- the visits, the moment of the last one and the clock say how long ago it was
Stands : ℕ → ℕ → ℕ → Since → Type 0
Stands visits last clock never = visits ≡ 0
Stands visits last clock (since t) = (1 ≤ visits) × (clock ≡ last + t)

gap_is : (visits last clock : ℕ) (g : Since) → clock < 2 ^ 64 → Stands visits last clock g → gap_of visits last clock ≡ ticks_of g
unfolding Stands gap_of
gap_is visits last clock never few h = rw (eq-eqb visits 0 h) refl
gap_is visits last clock (since t) few h = rw (ne_eqb visits 0 (λ e. omega arith)) (omega arith)

stands_later : (visits last clock took : ℕ) (g : Since) → Stands visits last clock g → Stands visits last (clock + took) (later g took)
unfolding Stands
stands_later visits last clock took never h = h
stands_later visits last clock took (since t) h = (h.0, omega arith)

module _ (n : ℕ) (w : List ℕ) (i : ℕ) (inside : i < 128) where
  -- the station's numbers, and the clock
  abbrev visits_at : Seen → ℕ
  visits_at s = at s.numbers (visits_column + i)

  abbrev last_at : Seen → ℕ
  last_at s = at s.numbers (last_column + i)

  abbrev longest_at : Seen → ℕ
  longest_at s = at s.numbers (longest_column + i)

  record Timed (s : Seen) (g : Since) (es : List Entry) : Type 0 where
    whole : Whole i s
    stands : Stands (visits_at s) (last_at s) s.course.clock g
    few : visits_at s + length es < 2 ^ 64
    short : s.course.clock + moment w es < 2 ^ 64

  -- what a visit leaves
  record Behind (s s' : Seen) (g : Since) (v : VisitEntry) (es : List Entry) : Type 0 where
    timed : Timed s' (then w i g v) es
    raised : longest_at s' ≡ max (longest_at s) (of_station i v (ticks_of g))

  same_behind : (s : Seen) (g : Since) (v : VisitEntry) (es : List Entry) → v.station < 128 → v.station ≡ i → Timed s g (Visit v ∷ es) → Behind s (seen n w 0 s (Visit v)) g v es
  unfolding seen moment Stands
  same_behind s g v es known h t =
      let xs = s.numbers in
      let clock = s.course.clock in
      let mark = at s.mark i in
      let here : place_of v.station ≡ i = own_place v.station known ∙ h in
      let long = t.whole.long in
      let risen : wrapped (clock + took_by w v) ≡ clock + took_by w v = mod-eq_of_lt (omega (arith, t.short)) in
      let counted : at (seen n w 0 s (Visit v)).numbers (visits_column + i) ≡ at s.numbers (visits_column + i) + 1 =
      rw here (visits_there xs i mark clock v long inside ∙ mod-eq_of_lt (omega (arith, t.few))) in
      let last : at (seen n w 0 s (Visit v)).numbers (last_column + i) ≡ s.course.clock = rw here (last_there xs i mark clock v long inside) in
      let longest : at (seen n w 0 s (Visit v)).numbers (longest_column + i) ≡ max (at s.numbers (longest_column + i)) (gap_of (visits_at s) (last_at s) s.course.clock) =
      rw here (longest_there xs i mark clock v long inside) in
      record {
        timed =
            record {
              whole = whole_visit n w i inside s v t.whole;
              stands = rw (then_same w i g v h, risen) (omega (arith, counted), omega (arith, last));
              few = omega (arith, counted, t.few);
              short = omega (arith, risen, t.short);
            };
        raised = longest ∙ ap (max (longest_at s)) (gap_is (visits_at s) (last_at s) clock g (omega (arith, t.short)) t.stands ∙ sym (of_same i v (ticks_of g) h));
      }

  other_behind : (s : Seen) (g : Since) (v : VisitEntry) (es : List Entry) → v.station < 128 → v.station ≢ i → Timed s g (Visit v ∷ es) → Behind s (seen n w 0 s (Visit v)) g v es
  unfolding seen moment
  other_behind s g v es known h t =
      let clock = s.course.clock in
      let risen : wrapped (clock + took_by w v) ≡ clock + took_by w v = mod-eq_of_lt (omega (arith, t.short)) in
      let own = own_place v.station known in
      let same : (c : ℕ) → c % 128 ≡ 0 → at (seen n w 0 s (Visit v)).numbers (c + i) ≡ at s.numbers (c + i) =
      λ c whole. rw own (elsewhere s.numbers v.station (at s.mark v.station) clock v t.whole.long known c i whole inside (λ e. h (sym e))) in
      record {
        timed =
            record {
              whole = whole_visit n w i inside s v t.whole;
              stands = rw (then_other w i g v h, risen, same visits_column refl, same last_column refl) (stands_later (visits_at s) (last_at s) clock (took_by w v) g t.stands);
              few = omega (arith, same visits_column refl, t.few);
              short = omega (arith, risen, t.short);
            };
        raised = omega (arith, same longest_column refl, of_other i v (ticks_of g) h);
      }

  mark_behind : (s : Seen) (g : Since) (m : MarkEntry) (es : List Entry) → m.station < 128 → Timed s g (Mark m ∷ es) → Timed (seen n w 0 s (Mark m)) g es
  unfolding seen moment
  mark_behind s g m es known t =
      record {
        whole = whole_mark n w i inside s m known t.whole;
        stands = t.stands;
        few = omega (arith, t.few);
        short = t.short;
      }

  longest_runs : (s : Seen) (g : Since) (es : List Entry) → Known es → Timed s g es → longest_at (seen_all n w s es) ≡ max (longest_at s) (longest_from w i g es)
  unfolding seen_all seen Known longest_from
  longest_runs s g [] known t = omega arith
  longest_runs s g (Visit v ∷ es) known t =
      let b : Behind s (seen n w 0 s (Visit v)) g v es = ⊎_elim (λ h. same_behind s g v es known.0 h t) (λ h. other_behind s g v es known.0 h t) (same_or_not i v) in
      omega (arith, longest_runs (seen n w 0 s (Visit v)) (then w i g v) es known.1 b.timed, b.raised)
  longest_runs s g (Mark m ∷ es) known t = longest_runs (seen n w 0 s (Mark m)) g es known.1 (mark_behind s g m es known.0 t)

  pub longest_shown : (es : List Entry) → Known es → length es < 2 ^ 64 → moment w es < 2 ^ 64 → Longest w i es (longest_at (seen_all n w nothing_seen es))
  unfolding Stands
  longest_shown es known few short =
      let none = nothing_at i inside in
      let runs = longest_runs nothing_seen never es known (record { whole = nothing_whole i inside; stands = none visits_column (omega arith); few = omega (arith, none visits_column (omega arith)); short = omega arith }) in
      let is : longest_at (seen_all n w nothing_seen es) ≡ longest_from w i never es = omega (arith, runs, none longest_column (omega arith)) in
      rw is (is_longest w i es)
