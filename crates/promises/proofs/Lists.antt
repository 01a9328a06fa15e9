-- Each visit of a list, and some visit of it: laws that look at no visit.
use Prim.Native.Nat.{ℕ, zero, suc, ◌≤◌}
use mathlib.Core.Path.{◌≡◌, refl, ap, ◌∙◌}
use mathlib.Core.Bool.{true, false}
use mathlib.Core.List.{List, [], ◌∷◌, ◌++◌}
use mathlib.Core.Logic.{inl, inr, ⊎_elim}
use native.Mathlib.Omega.{arith}
use borrow.Author.Tests.{ne_eqb}
use lib.Dec.{eqb}
use Rattle.units.proofs.JudgingLaws.{true_or_false}
use Rattle.rings.specs.declared.Message.{Message}
use Rattle.rings.specs.declared.VisitRecord.{VisitRecord}
use Rattle.promises.specs.Run.{Event, a_visit, a_message, a_marking, an_unmarking, noted, records_in}
use Rattle.promises.specs.History.{Each, Somewhere, EachMessage, EachVisit, NeverMarked, mark_in, MarksTold}

-- what follows at each visit
pub each_of : {A B : VisitRecord → List VisitRecord → Type 0} → ((v : VisitRecord) (before : List VisitRecord) → A v before → B v before) → (h : List VisitRecord) → Each A h → Each B h
each_of f [] E = tt
each_of f (v ∷ h) E = (f v h E.0, each_of f h E.1)

pub somewhere_of : {A B : VisitRecord → List VisitRecord → Type 0} → ((v : VisitRecord) (before : List VisitRecord) → A v before → B v before) → (h : List VisitRecord) → Somewhere A h → Somewhere B h
somewhere_of f [] e = e
somewhere_of f (v ∷ h) (inl e) = inl (f v h e)
somewhere_of f (v ∷ h) (inr e) = inr (somewhere_of f h e)

-- of two lists, where the visits before do not matter
pub each_append : (A : VisitRecord → Type 0) (h old : List VisitRecord) → Each (λ v before. A v) h → Each (λ v before. A v) old → Each (λ v before. A v) (h ++ old)
each_append A [] old E F = F
each_append A (v ∷ h) old E F = (E.0, each_append A h old E.1 F)

module _ (A B : VisitRecord → List VisitRecord → Type 0) where
  pub each_both : (h : List VisitRecord) → Each A h → Each B h → Each (λ v before. A v before × B v before) h
  each_both [] E F = tt
  each_both (v ∷ h) E F = ((E.0, F.0), each_both h E.1 F.1)

  -- some visit is so, and each visit is so
  pub somewhere_each : (h : List VisitRecord) → Somewhere A h → Each B h → Somewhere (λ v before. A v before × B v before) h
  somewhere_each [] f E = f
  somewhere_each (v ∷ h) (inl f) E = inl (f, E.0)
  somewhere_each (v ∷ h) (inr f) E = inr (somewhere_each h f E.1)

-- ---- messages

pub each_message_of : {A B : Message → Type 0} → ((m : Message) → A m → B m) → (ms : List Message) → EachMessage A ms → EachMessage B ms
each_message_of f [] E = tt
each_message_of f (m ∷ ms) E = (f m E.0, each_message_of f ms E.1)

-- ---- events

pub records_append : (new old : List Event) → records_in (new ++ old) ≡ records_in new ++ records_in old
records_append [] old = refl
records_append (a_visit on v ∷ new) old = ap (λ (l : List VisitRecord). v ∷ l) (records_append new old)
records_append (a_message m ∷ new) old = records_append new old
records_append (a_marking p a ∷ new) old = records_append new old
records_append (an_unmarking p ∷ new) old = records_append new old

-- what follows at each visit, with its mark and without
pub each_visit_of : {A B : ℕ → VisitRecord → List VisitRecord → Type 0} → ((on : ℕ) (v : VisitRecord) (before : List VisitRecord) → A on v before → B on v before)
    → (h : List Event) → EachVisit A h → EachVisit B h
each_visit_of f [] E = tt
each_visit_of f (a_visit on v ∷ h) E = (f on v (records_in h) E.0, each_visit_of f h E.1)
each_visit_of f (a_message m ∷ h) E = each_visit_of f h E
each_visit_of f (a_marking p a ∷ h) E = each_visit_of f h E
each_visit_of f (an_unmarking p ∷ h) E = each_visit_of f h E

pub each_record_of : {A : ℕ → VisitRecord → List VisitRecord → Type 0} {B : VisitRecord → List VisitRecord → Type 0}
    → ((on : ℕ) (v : VisitRecord) (before : List VisitRecord) → A on v before → B v before) → (h : List Event) → EachVisit A h → Each B (records_in h)
each_record_of f [] E = tt
each_record_of f (a_visit on v ∷ h) E = (f on v (records_in h) E.0, each_record_of f h E.1)
each_record_of f (a_message m ∷ h) E = each_record_of f h E
each_record_of f (a_marking p a ∷ h) E = each_record_of f h E
each_record_of f (an_unmarking p ∷ h) E = each_record_of f h E

-- an accepted visit is a record more, a refused one none
pub noted_records : (k on : ℕ) (v : VisitRecord) (before : List Event) → records_in (noted k (a_visit on v) before) ≡ noted k v (records_in before)
unfolding noted
noted_records zero on v before = refl
noted_records (suc k) on v before = refl

-- and so is any other call none
pub noted_none : (k : ℕ) (x : Event) (before : List Event) → ((h : List Event) → records_in (x ∷ h) ≡ records_in h) → records_in (noted k x before) ≡ records_in before
unfolding noted
noted_none zero x before e = e before
noted_none (suc k) x before e = refl

-- ---- marks

pub mark_small : (i : ℕ) (h : List Event) → mark_in i h ≤ 1
mark_small i [] = omega arith
mark_small i (a_visit on v ∷ h) = mark_small i h
mark_small i (a_message m ∷ h) = mark_small i h
mark_small i (a_marking p a ∷ h) =
    ⊎_elim (λ (e : eqb p.0 i ≡ true). rw e (omega arith)) (λ (e : eqb p.0 i ≡ false). rw e (mark_small i h)) (true_or_false (eqb p.0 i))
mark_small i (an_unmarking p ∷ h) =
    ⊎_elim (λ (e : eqb p.0 i ≡ true). rw e (omega arith)) (λ (e : eqb p.0 i ≡ false). rw e (mark_small i h)) (true_or_false (eqb p.0 i))

-- a station that was never marked has no mark
pub never_in : (i : ℕ) (h : List Event) → NeverMarked i h → mark_in i h ≡ 0
never_in i [] N = refl
never_in i (a_visit on v ∷ h) N = never_in i h N
never_in i (a_message m ∷ h) N = never_in i h N
never_in i (a_marking p a ∷ h) N = rw (ne_eqb p.0 i N.0) (never_in i h N.1)
never_in i (an_unmarking p ∷ h) N =
    ⊎_elim (λ (e : eqb p.0 i ≡ true). rw e refl) (λ (e : eqb p.0 i ≡ false). rw e (never_in i h N)) (true_or_false (eqb p.0 i))

-- and so has none at its visits
pub never_at : (i : ℕ) (new old : List Event) → MarksTold (new ++ old) → NeverMarked i (new ++ old) → EachVisit (λ on v before. v.station.0 ≡ i → on ≡ 0) new
never_at i [] old M N = tt
never_at i (a_visit on v ∷ new) old M N = (λ e. M.0 ∙ (ap (λ (j : ℕ). mark_in j (new ++ old)) e ∙ never_in i (new ++ old) N), never_at i new old M.1 N)
never_at i (a_message m ∷ new) old M N = never_at i new old M N
never_at i (a_marking p a ∷ new) old M N = never_at i new old M N.1
never_at i (an_unmarking p ∷ new) old M N = never_at i new old M N
