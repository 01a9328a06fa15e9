-- What every visit and every handing in keep of the stored messages, whatever the timers are: remainders and arrivals stay in range, and each station's last accepted arrival is that of its latest accepted message.
use Prim.Native.Nat.{ℕ, ◌≤◌, ◌<◌}
use mathlib.Core.Path.{◌≡◌, refl, sym, ◌∙◌}
use mathlib.Core.List.{List, ◌∷◌}
use mathlib.Core.Logic.{◌⊎◌, inl, inr, ◌≢◌, ⊎_elim}
use mathlib.Core.Option.{none, some}
use native.Mathlib.Omega.{arith}
use borrow.Author.Tests.{eq-eqb, ne_eqb}
use Rattle.units.specs.Numbers.{most_clock}
use Rattle.units.specs.Places.{at}
use Rattle.sets.specs.declared.Set.{Set}
use Rattle.plans.specs.declared.Alloc.{Alloc}
use Rattle.rings.specs.declared.Ring.{Ring}
use Rattle.rings.specs.declared.Message.{Message}
use Rattle.rings.specs.declared.VisitRecord.{VisitRecord}
use Rattle.promises.specs.History.{message_for, latest_for}
use Rattle.promises.specs.Facts.{VisitMessages, Accepting}
use Rattle.promises.proofs.Course.{same_or_not, latest_here, latest_there}

-- what is stored of station i's message is in range
pub record Stored (t : Set) (r : Ring) (i : ℕ) : Type 0 where
  pub small : at r.rest i ≤ at t.c i
  pub range : at r.arrival i ≤ most_clock

-- station i's latest accepted message, and what the ring keeps of it
pub record Latest (r : Ring) (messages : List Message) (i : ℕ) (m : Message) : Type 0 where
  pub latest : latest_for i messages ≡ some m
  pub had : at r.had i ≢ 0
  pub arrival : at r.arrival i ≡ m.arrival.0

-- there was none
pub record Never (r : Ring) (messages : List Message) (i : ℕ) : Type 0 where
  pub latest : latest_for i messages ≡ none
  pub had : at r.had i ≡ 0

abbrev pub Told : Ring → List Message → ℕ → Type 0
Told r messages i = Never r messages i ⊎ ((m : Message) × Latest r messages i m)

-- ---- a visit more

module _ (t : Set) (a : Alloc) (r q : Ring) (v : VisitRecord) (G : VisitMessages t a r q v) where
  pub stored_kept : ((i : ℕ) → i < t.n → Stored t r i) → (i : ℕ) → i < t.n → Stored t q i
  stored_kept K i l =
      ⊎_elim (λ (b : i ≡ r.token).
      record { small = rw b (omega (arith, G.rest_here, (rw b at (K i l)).small)); range = rw G.arrival (K i l).range })
      (λ (b : i ≢ r.token). record { small = rw (G.rest_there i b) (K i l).small; range = rw G.arrival (K i l).range })
      (same_or_not i r.token)

  pub told_kept : (messages : List Message) (i : ℕ) → Told r messages i → Told q messages i
  told_kept messages i =
      ⊎_elim (λ (n : Never r messages i). inl (record { latest = n.latest; had = rw G.had n.had }))
      (λ (l : (m : Message) × Latest r messages i m).
      inr (l.0, record { latest = l.1.latest; had = rw G.had l.1.had; arrival = rw G.arrival l.1.arrival }))

-- ---- a handing in more

module _ (t : Set) (r q : Ring) (m : Message) (A : Accepting t r q m) where
  pub stored_taken : ((i : ℕ) → i < t.n → Stored t r i) → (i : ℕ) → i < t.n → Stored t q i
  stored_taken K i l =
      ⊎_elim (λ (b : i ≡ m.station.0). rw b (record { small = rw A.rest_here A.length.1; range = rw A.arrival_here A.range }))
      (λ (b : i ≢ m.station.0).
      record { small = rw (A.rest_there i b) (K i l).small; range = rw (A.arrival_there i b) (K i l).range })
      (same_or_not i m.station.0)

  pub told_taken : (messages : List Message) (i : ℕ) → Told r messages i → Told q (m ∷ messages) i
  told_taken messages i K =
      ⊎_elim (λ (b : i ≡ m.station.0).
      rw b
      (inr (
        m,
        record {
          latest = latest_here (message_for m.station.0) m messages (eq-eqb m.station.0 m.station.0 refl);
          had = A.had_here;
          arrival = A.arrival_here;
        },
      )))
      (λ (b : i ≢ m.station.0).
      let there : latest_for i (m ∷ messages) ≡ latest_for i messages = latest_there (message_for i) m messages (ne_eqb m.station.0 i (λ e. b (sym e))) in
      ⊎_elim (λ (n : Never r messages i). inl (record { latest = there ∙ n.latest; had = A.had_there i b ∙ n.had }))
      (λ (l : (o : Message) × Latest r messages i o).
      inr (
        l.0,
        record {
          latest = there ∙ l.1.latest;
          had = rw (A.had_there i b) l.1.had;
          arrival = A.arrival_there i b ∙ l.1.arrival;
        },
      ))
      K)
      (same_or_not i m.station.0)
