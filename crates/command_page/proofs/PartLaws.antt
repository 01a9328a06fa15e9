-- Which part stands where: each station's row of the plan and its row of what it did, and nothing where the records were not judged.
use Rattle.std.proofs.Common.{◌≡◌, ℕ, ◌+◌, ◌-◌, ◌*◌, ◌/◌, ◌%◌, ◌<◌, ◌≤◌, Bool, true, false, cond, Option, None, Some, eqb, ltb, refl, ap, ◌∙◌, arith, le-ltb, lt-ltb, ne_eqb}
use Rattle.text.specs.declared.phrases.Phrase.{Phrase}
use Rattle.command_page.specs.declared.Outcome.{Outcome}
use Rattle.command_page.specs.declared.Outcome.TheVariants as outcome
use Rattle.command_page.specs.declared.Form.{Form}
use Rattle.command_page.specs.declared.Account.{Account}
use Rattle.command_page.specs.Named.{is_judged, named_where, rules_where, finding_part}
use Rattle.command_page.specs.Plan.{station_part}
use Rattle.command_page.specs.Did.{did_part}
use Rattle.command_page.specs.Parts.{first_count, stations_of, did_or_last, behind_stations, part_behind, judged_part, part_at}

-- ---- the rows of the stations

module _ (x : Account) (judged : is_judged x.outcome ≡ true) where
  behind_first : (k : ℕ) → part_at x (first_count + k) ≡ part_behind x k
  unfolding part_at judged_part
  behind_first k =
      let behind : first_count + k - 20 ≡ 9 + k = omega arith in
      let same : 9 + k - 9 ≡ k = omega arith in
      rw (le-ltb (first_count + k) 20 (omega arith), judged, behind, le-ltb (9 + k) 9 (omega arith), same) refl

  pub station_row : (i : ℕ) → i < stations_of x → part_at x (first_count + i) ≡ Some (station_part x.set x.alloc i)
  unfolding part_behind
  station_row i there = behind_first i ∙ rw (lt-ltb i (stations_of x) there) refl

  did_at : (i j : ℕ) → i < stations_of x → j < 3 → did_or_last x (3 * i + j) ≡ Some (did_part x i j)
  unfolding did_or_last
  did_at i j there few =
      let whole : (3 * i + j) / 3 ≡ i = omega arith in
      let rest : (3 * i + j) % 3 ≡ j = omega arith in
      rw (whole, rest, lt-ltb i (stations_of x) there) refl

  did_behind : (k : ℕ) → part_behind x (stations_of x + (8 + k)) ≡ did_or_last x k
  unfolding part_behind behind_stations
  did_behind k =
      let past : stations_of x + (8 + k) - stations_of x ≡ 8 + k = omega arith in
      let same : 8 + k - 8 ≡ k = omega arith in
      rw (le-ltb (stations_of x + (8 + k)) (stations_of x) (omega arith), past, le-ltb (8 + k) 8 (omega arith), same) refl

  pub did_row_lem : (i j : ℕ) → i < stations_of x → j < 3 → part_at x (first_count + stations_of x + 8 + (3 * i + j)) ≡ Some (did_part x i j)
  did_row_lem i j there few =
      let place : first_count + stations_of x + 8 + (3 * i + j) ≡ first_count + (stations_of x + (8 + (3 * i + j))) = omega arith in
      ap (part_at x) place ∙ behind_first (stations_of x + (8 + (3 * i + j))) ∙ did_behind (3 * i + j) ∙ did_at i j there few

-- ---- the records were not judged

either_none : (b : Bool) (p q : Option (Phrase Form)) → p ≡ None → q ≡ None → cond b p q ≡ None
either_none true p q h k = h
either_none false p q h k = k

none_named : (o : Outcome) (x : Account) (k : ℕ) → is_judged o ≡ false → named_where o x k ≡ None
none_named outcome.PlanRefused x k e = refl
none_named outcome.Refused x k e = refl
none_named outcome.Another x k e = refl
none_named outcome.Broken x k e = cc
none_named outcome.Accepted x k e = refl

module _ (x : Account) (not_judged : is_judged x.outcome ≡ false) (k : ℕ) (behind : 2 ≤ k) where
  finding_none : finding_part x k ≡ None
  unfolding finding_part rules_where
  finding_none =
      rw (ne_eqb k 0 (λ z. omega arith), ne_eqb k 1 (λ z. omega arith))
      (either_none (eqb k 2) _ _ (rw not_judged refl) (none_named x.outcome x (k - 3) not_judged))

  pub none_at : part_at x k ≡ None
  unfolding part_at
  none_at = either_none (ltb k 20) _ _ finding_none (rw not_judged refl)
