-- What the stations' table shows of some records is what an accepted log shows of them: the same moments, the same visits that follow each other.
use Prim.Native.Nat.{ℕ, ◌+◌, ◌≤◌}
use mathlib.Core.Path.{◌≡◌, refl, sym, ap, ◌∙◌}
use mathlib.Core.List.{List, [], ◌∷◌, ◌++◌, append_assoc}
use mathlib.Core.Logic.{◌≢◌, ⊎_elim}
use native.Mathlib.Omega.{arith}
use borrow.Author.Tests.{eq-eqb, ne_eqb}
use Rattle.sets.specs.declared.Set.{Set}
use Rattle.plans.specs.declared.Alloc.{Alloc}
use Rattle.log_records.specs.declared.VisitEntry.{VisitEntry}
use Rattle.log_records.specs.declared.Entry.{Entry}
use Rattle.log_records.specs.declared.Entry.TheVariants.{Visit, Mark}
use Rattle.field_reader.proofs.ScannedLaws.{zero_or_not}
use Rattle.promises.proofs.Course.{same_or_not}
use Rattle.inspection.specs.Records.{inspected, inspected_all}
use Rattle.inspection.specs.declared.Inspection.{Inspection}
use Rattle.inspection.proofs.RecordLaws.{all_stays}
use Rattle.accepted_log_rules.specs.Shows as shows
use Rattle.accepted_log_rules.proofs.Reading.{moment_join}
use Rattle.tallies.specs.Shown.{moment, of_station, visits_of, most_of, Next, apart, Happened, Longest}

-- ---- the same numbers

moment_same : (t : Set) (es : List Entry) → shows.moment t es ≡ moment t.w es
unfolding shows.moment moment
moment_same t [] = refl
moment_same t (Visit v ∷ es) = omega (arith, moment_same t es)
moment_same t (Mark m ∷ es) = moment_same t es

visits_same : (i : ℕ) (es : List Entry) → shows.visits_of i es ≡ visits_of i es
unfolding shows.visits_of visits_of of_station
visits_same i [] = refl
visits_same i (Visit v ∷ es) = ap (λ (k : ℕ). of_station i v 1 + k) (visits_same i es)
visits_same i (Mark m ∷ es) = visits_same i es

-- ---- two visits that follow each other

module _ (t : Set) (a : Alloc) (es : List Entry) (s : shows.Shows t a es) (i : ℕ) where
  follows : (before between : List Entry) (u v : VisitEntry) → Next i es before u between v → shows.Next es before u between v
  follows before between u v n =
      record {
        later = record {
          place = (n.behind, n.place);
          station = n.second ∙ sym n.first;
        };
        none_between = visits_same u.station between ∙ ap (λ (j : ℕ). visits_of j between) n.first ∙ n.none_between;
      }

  -- are within the longest wait
  apart_within : (before between : List Entry) (u v : VisitEntry) → Next i es before u between v → apart t.w u between ≤ shows.longest_gap t a
  unfolding shows.moment
  apart_within before between u v n =
      omega
      (arith, s.apart before between u v (follows before between u v n), moment_join t before (Visit u ∷ between), moment_same t between)

  pub longest_within : (x : ℕ) → Longest t.w i es x → x ≤ shows.longest_gap t a
  longest_within x l =
      ⊎_elim
      (λ (h : Happened t.w i es x). omega (arith, h.is, apart_within h.before h.between h.u h.v h.next))
      (λ (z : x ≡ 0). omega arith)
      l.reached

-- ---- the most in a visit

module _ (i bound : ℕ) where
  here : (v : VisitEntry) → (v.station ≡ i → v.synchronous ≤ bound) → of_station i v v.synchronous ≤ bound
  unfolding of_station
  here v h =
      ⊎_elim (λ (e : v.station ≡ i). rw (eq-eqb v.station i e) (h e)) (λ (d : v.station ≢ i). rw (ne_eqb v.station i d) (omega arith))
      (same_or_not v.station i)

  pub most_within : (es : List Entry) → ((before : List Entry) (v : VisitEntry) → shows.Behind es before v → v.station ≡ i → v.synchronous ≤ bound) → most_of i es ≤ bound
  unfolding most_of
  most_within [] h = omega arith
  most_within (Visit v ∷ es) h =
      let one = here v (h [] v (es, refl)) in
      let rest = most_within es (λ before u p. h (Visit v ∷ before) u (p.0, ap (λ (xs : List Entry). Visit v ∷ xs) p.1)) in
      omega (arith, one, rest)
  most_within (Mark m ∷ es) h = most_within es (λ before u p. h (Mark m ∷ before) u (p.0, ap (λ (xs : List Entry). Mark m ∷ xs) p.1))

-- ---- where no rule is broken all records are kept

module _ (t : Set) (a : Alloc) where
  not_broken : (s : Inspection) (es : List Entry) → (inspected_all s t a es).rule ≡ 0 → s.rule ≡ 0
  not_broken s es z = ⊎_elim (λ y. y) (λ (some : s.rule ≢ 0). absurd (some (ap (λ (i : Inspection). i.rule) (sym (all_stays s t a es some)) ∙ z))) (zero_or_not s.rule)

  first_kept : (s : Inspection) (xs ys : List Entry) → (inspected_all s t a (xs ++ ys)).rule ≡ 0 → (inspected_all s t a xs).rule ≡ 0
  unfolding inspected_all
  first_kept s [] ys z = not_broken s ys z
  first_kept s (e ∷ xs) ys z = first_kept (inspected s t a e) xs ys z

  pub none_behind : (s : Inspection) (kept behind : List Entry) → (inspected_all s t a (kept ++ behind)).rule ≡ 0
      → ((e : Entry) (more : List Entry) → behind ≡ e ∷ more → (inspected_all s t a (kept ++ (e ∷ []))).rule ≢ 0) → behind ≡ []
  none_behind s kept [] z named = refl
  none_behind s kept (e ∷ more) z named =
      absurd (named e more refl (first_kept s (kept ++ (e ∷ [])) more (ap (λ (xs : List Entry). (inspected_all s t a xs).rule) (append_assoc kept (e ∷ []) more) ∙ z)))
