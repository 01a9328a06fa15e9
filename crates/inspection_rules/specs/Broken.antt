-- The rules as sentences, five of a visit and one of a mark, of a record behind others that could have been given, and the first record that breaks one.
use Rattle.std.specs.Prelude.{ℕ, zero, suc, ◌+◌, ◌%◌, ◌^◌, ◌≤◌, ◌<◌, ◌≡◌, cond, List, [], ◌∷◌, ◌++◌, eqb, length}
use Rattle.std.proofs.Math.Option.{Option, none, some}
use Rattle.units.specs.Places.{at}
use Rattle.sets.specs.declared.Set.{Set}
use Rattle.plans.specs.declared.Alloc.{Alloc}
use Rattle.log_records.specs.declared.VisitEntry.{VisitEntry}
use Rattle.log_records.specs.declared.MarkEntry.{MarkEntry}
use Rattle.log_records.specs.declared.Entry.{Entry}
use Rattle.log_records.specs.declared.Entry.TheVariants.{Visit, Mark}
use Rattle.rings.specs.Opening.{opened_ring}
use Rattle.rings.specs.declared.Ring.{Ring}
use Rattle.inspection_rules.specs.Gives.{StationRule, LimitRule, SynchronousRule, AsynchronousRule, MarkRule, ring_after, Gives}

-- the last visit of these records, or that of before where they have none
unfoldable pub last_from : Option VisitEntry → List Entry → Option VisitEntry
last_from before [] = before
last_from before (Visit v ∷ es) = last_from (some v) es
last_from before (Mark m ∷ es) = last_from before es

-- the last visit of these records, if they have one: marks are passed over
abbrev pub last_of : List Entry → Option VisitEntry
last_of es = last_from none es

-- what the last mark of station i among these records says, or what held before where they have none
unfoldable pub mark_from : ℕ → ℕ → List Entry → ℕ
mark_from i mark [] = mark
mark_from i mark (Visit v ∷ es) = mark_from i mark es
mark_from i mark (Mark m ∷ es) = mark_from i (cond (eqb m.station i) m.mark mark) es

-- station i's mark behind these records: what its last mark among them says, and 0 where they have none
abbrev pub mark_after : ℕ → List Entry → ℕ
mark_after i es = mark_from i 0 es

-- what a visit took: its synchronous and its asynchronous amount, and its station's w
abbrev pub took : Set → VisitEntry → ℕ
took t v = v.synchronous + v.asynchronous + at t.w v.station

-- ---- the rules; r is the ring after the records before

-- the start: of the first visit anything; of a later one the start of the visit before and what that one took, modulo 2^32
abbrev pub StartRule : Set → List Entry → VisitEntry → Type 0
StartRule t before v = (b : VisitEntry) → last_of before ≡ some b → v.start ≡ (b.start + took t b) % 2 ^ 32

-- of a visit, by their numbers, from 1 to 5; any other number is no rule
abbrev pub VisitRule : Set → Ring → List Entry → VisitEntry → ℕ → Type 0
VisitRule t r before v zero = Unit {0}
VisitRule t r before v (suc zero) = StationRule r v
VisitRule t r before v (suc (suc zero)) = StartRule t before v
VisitRule t r before v (suc (suc (suc zero))) = LimitRule r v
VisitRule t r before v (suc (suc (suc (suc zero)))) = SynchronousRule r v
VisitRule t r before v (suc (suc (suc (suc (suc zero))))) = AsynchronousRule r v
VisitRule t r before v (suc (suc (suc (suc (suc (suc k)))))) = Unit {0}

-- of a mark the station rule, which has number 1, and no other
abbrev pub OnlyRule : Ring → MarkEntry → ℕ → Type 0
OnlyRule r m zero = Unit {0}
OnlyRule r m (suc zero) = MarkRule r m
OnlyRule r m (suc (suc k)) = Unit {0}

abbrev pub RuleOf : Set → Ring → List Entry → Entry → ℕ → Type 0
RuleOf t r before (Visit v) k = VisitRule t r before v k
RuleOf t r before (Mark m) k = OnlyRule r m k

-- rule k, of a record behind these
abbrev pub Rule : Set → Alloc → List Entry → Entry → ℕ → Type 0
Rule t a before e k = RuleOf t (ring_after (opened_ring t a) before) before e k

-- ---- the first record that breaks a rule, counted from 1, and the first of its rules that is broken
pub record FirstBroken (t : Set) (a : Alloc) (es : List Entry) (number rule : ℕ) : Type 0 where
  pub before : List Entry
  pub entry : Entry
  pub behind : List Entry
  pub place : es ≡ before ++ entry ∷ behind
  pub counted : number ≡ length before + 1
  -- the records before it could have been given
  pub given : Gives t a before
  -- it is one of the five rules, those before it are kept, and it is not
  pub known : (1 ≤ rule) × (rule ≤ 5)
  pub kept : (k : ℕ) → 1 ≤ k → k < rule → Rule t a before entry k
  pub broken : ¬ Rule t a before entry rule
