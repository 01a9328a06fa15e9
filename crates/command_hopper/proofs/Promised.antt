-- Everything that `specs/Promised.antt` lists, proved.
use Prim.Native.Nat.{ℕ}
use mathlib.Core.Path.{◌≡◌, refl, sym, ap, ◌∙◌}
use mathlib.Core.Bool.{Bool, true, false, cond}
use mathlib.Core.List.{List, [], ◌∷◌}
use mathlib.Core.Logic.{◌≢◌, ⊎_elim}
use lib.Dec.{eqb}
use Rattle.std.specs.Prelude.{None, Some, is_some}
use Rattle.text.specs.Text.{newline, refused_line}
use Rattle.text.proofs.TextLaws.{text_accepted, text_refused}
use Rattle.plans.specs.declared.Planned.{Planned}
use Rattle.hopper.specs.Wagons.{ListFits, judged_list, with_wagon, with_more}
use Rattle.hopper.specs.Requests.{set_of, list_sheet, list_planned}
use Rattle.hopper.specs.declared.WagonList.{WagonList}
use Rattle.hopper.specs.declared.Train.{Train}
use Rattle.hopper.proofs.WagonLaws.{list_fits}
use Rattle.hopper.proofs.RequestLaws.{request_given, request_refused, plan_given, plan_refused_lem}
use Rattle.hopper_rules.specs.Changes.{Change, new_wagon, one_more, last_off, answer_to, after, PlanInForce}
use Rattle.hopper_rules.proofs.ChangeLaws.{kept_by, refused_stays}
use Rattle.hopper_rules.proofs.SheetLaws.{read_back}
use Rattle.hopper_rules.proofs.AnswerLaws.{same_or_not}
use Rattle.sheets.specs.Reading.{then_number}
use Rattle.sheets.proofs.ReadLaws.{then_keeps}
use Rattle.units.specs.Places.{at}
use Rattle.plans.specs.Planned.{planned}
use Rattle.line_reader.specs.Scan.{is_empty_line, letter_read, number_begun, digit_read, character_read, stepped}
use Rattle.line_reader.specs.declared.Scan.{Scan}
use Rattle.command_plan.specs.PlanText.{plan_lines, request_text, plan_printed}
use Rattle.command_plan.specs.PlanSheet.{planning_number}
use Rattle.command_hopper.specs.Lists.{is_wagon, wagon_in, on_next_line, first_unread, line_listed, list_on, list_over, list_in}
use Rattle.command_hopper.specs.Refits.{is_change, is_couple, is_uncouple, told_of, line_changed, line_refit, refit_from, refit_on, refit_over, hopper_text, hopper_number, answered_text}
use Rattle.command_hopper.specs.Promised.{Promised, two_wagons, two_listed, three_changes, three_asked}
use Rattle.command_hopper.specs.declared.Change.TheVariants.{Answered}
use Rattle.command_hopper.specs.declared.Changed.{Changed}
use Rattle.command_hopper.specs.declared.Listing.{Listing}
use Rattle.command_hopper.specs.declared.Refit.{Refit}
use Rattle.command_hopper.proofs.LineLaws.{listed_unread as unread_line_lem, first_none, first_kept}
use Rattle.command_hopper.proofs.TextLaws.{list_append, refit_append, said_append}

-- ---- what is printed of a list

as_planned : (l : WagonList) → ListFits l → hopper_text l ≡ plan_printed (list_sheet l)
as_planned l h = ap request_text (request_given l ((list_fits l).1 h) ∙ sym (read_back l h))

-- the number of a refused list's answer is its own
own : (l : WagonList) → judged_list l ≢ 0 → (list_planned l).number ≡ judged_list l
own l n = ap (λ (p : Planned). p.number) (plan_refused_lem l n)

number_of : (l : WagonList) → hopper_number l ≡ (list_planned l).number
unfolding then_number
number_of l =
    ⊎_elim (λ z. ap planning_number (request_given l z) ∙ sym (ap (λ (p : Planned). p.number) (plan_given l z)))
    (λ n. ap planning_number (request_refused l n) ∙ then_keeps (judged_list l) _ n ∙ sym (own l n))
    (same_or_not (judged_list l) 0)

text_unfit : (l : WagonList) → ¬ ListFits l → hopper_text l ≡ refused_line (list_planned l).number
text_unfit l unfit =
    let n : judged_list l ≢ 0 = λ z. unfit ((list_fits l).0 z) in
    ap request_text (request_refused l n) ∙ text_refused (judged_list l) _ n ∙ ap refused_line (sym (own l n))

text_planned : (l : WagonList) → (list_planned l).number ≡ 0 → hopper_text l ≡ plan_lines (set_of l) (list_planned l).alloc
text_planned l e =
    let z : judged_list l ≡ 0 = ⊎_elim (λ z. z) (λ n. absurd (n (sym (own l n) ∙ e))) (same_or_not (judged_list l) 0) in
    let plan = plan_given l z in
    ap request_text (request_given l z)
    ∙ text_accepted 0 _ refl
    ∙ text_accepted (planned (set_of l)).number _ (sym (ap (λ (p : Planned). p.number) plan) ∙ e)
    ∙ ap (λ (p : Planned). plan_lines (set_of l) p.alloc) (sym plan)

text_in_force : (t : Train) → PlanInForce t → answered_text 0 t ≡ plan_lines (set_of t.list) t.plan
text_in_force t h =
    text_accepted 0 _ refl
    ∙ text_planned t.list (ap (λ (p : Planned). p.number) h)
    ∙ ap (λ (p : Planned). plan_lines (set_of t.list) p.alloc) h

-- ---- the train behind a line, and behind a text

chosen : (P : Changed → Type 0) (a b c d : Bool) (v w x y z : Changed) → P v → P w → P x → P y → P z
    → P (cond a v (cond b w (cond c x (cond d y z))))
chosen P true b c d v w x y z hv hw hx hy hz = hv
chosen P false true c d v w x y z hv hw hx hy hz = hw
chosen P false false true d v w x y z hv hw hx hy hz = hx
chosen P false false false true v w x y z hv hw hx hy hz = hy
chosen P false false false false v w x y z hv hw hx hy hz = hz

line_kept : (t : Train) (s : Scan) → PlanInForce t → PlanInForce (line_changed t s).train
unfolding line_changed answer_to
line_kept t s h =
    chosen (λ (c : Changed). PlanInForce c.train) (is_empty_line s) (is_change s) (is_couple s) (is_uncouple s) _ _ _ _ _ h
    (kept_by t (new_wagon (record { 0 = at s.values 0 }) (wagon_in s 1)) h) (kept_by t (one_more (wagon_in s 0)) h) (kept_by t last_off h) h

-- an answer that is no 0 comes with the train as it was
told_refused : (t : Train) (c : Change) → (told_of (answer_to t c)).change ≢ Answered 0 → (answer_to t c).train ≡ t
told_refused t c n = refused_stays t c (λ e. n (ap Answered e))

line_refused : (t : Train) (s : Scan) → (line_changed t s).change ≢ Answered 0 → (line_changed t s).train ≡ t
unfolding line_changed answer_to
line_refused t s =
    chosen (λ (c : Changed). c.change ≢ Answered 0 → c.train ≡ t) (is_empty_line s) (is_change s) (is_couple s) (is_uncouple s) _ _ _ _ _ (λ n. refl)
    (told_refused t (new_wagon (record { 0 = at s.values 0 }) (wagon_in s 1))) (told_refused t (one_more (wagon_in s 0))) (told_refused t last_off) (λ n. refl)

either : (a : Bool) (v w : Refit) → PlanInForce v.train → PlanInForce w.train → PlanInForce (cond a v w).train
either true v w hv hw = hv
either false v w hv hw = hw

byte_kept : (u : Refit) (b : ℕ) → PlanInForce u.train → PlanInForce (refit_on u b).train
unfolding refit_on
byte_kept u b h = either (eqb b newline) (line_refit u) _ (line_kept u.train u.scan h) h

text_kept : (u : Refit) (text : List ℕ) → PlanInForce u.train → PlanInForce (refit_over u text).train
unfolding refit_over
text_kept u [] h = h
text_kept u (b ∷ bs) h = text_kept (refit_on u b) bs (byte_kept u b h)

-- ---- the first line that cannot be read

listed_unread : (u : Listing) (a b : Bool) (l m : WagonList) → is_some u.unread ≡ true
    → (cond a (on_next_line u l u.unread) (cond b (on_next_line u m u.unread) (on_next_line u l (first_unread u)))).unread ≡ u.unread
listed_unread u true b l m h = refl
listed_unread u false true l m h = refl
listed_unread u false false l m h = sym (first_kept u h)

byte_unread : (u : Listing) (b : ℕ) → is_some u.unread ≡ true → (list_on u b).unread ≡ u.unread
unfolding list_on line_listed
byte_unread u b h = go (eqb b newline)
  where
    go : (c : Bool) → (cond c (line_listed u) (record { list = u.list; scan = stepped u.scan b; line = u.line; unread = u.unread })).unread ≡ u.unread
    go true = listed_unread u (is_empty_line u.scan) (is_wagon u.scan) _ _ h
    go false = refl

stays_unread : (u : Listing) (text : List ℕ) → is_some u.unread ≡ true → (list_over u text).unread ≡ u.unread
unfolding list_over
stays_unread u [] h = refl
stays_unread u (b ∷ bs) h =
    let one = byte_unread u b h in
    stays_unread (list_on u b) bs (rw one h) ∙ one

named : (u : Listing) → u.unread ≡ None → is_empty_line u.scan ≡ false → is_wagon u.scan ≡ false → (line_listed u).unread ≡ Some u.line
named u none e w = sym (first_none u none ∙ ap (λ (v : Listing). v.unread) (unread_line_lem u e w))

-- ---- the examples, computed

two_read : ((list_in two_wagons).list ≡ two_listed) × ((list_in two_wagons).unread ≡ None)
unfolding list_over list_on line_listed stepped character_read letter_read number_begun digit_read with_more with_wagon
two_read = (refl, refl)

three_asked_lem : (t : Train) → (refit_over (refit_from t) three_changes).train ≡ after t three_asked
unfolding refit_over refit_on line_changed stepped character_read letter_read number_begun digit_read after answer_to
three_asked_lem t = refl

pub promised : Promised
promised =
    record {
      as_plan = as_planned;
      refused_list = text_unfit;
      list_number = number_of;
      list_plan = text_planned;
      in_force = text_in_force;
      refused_change = λ t number h. text_refused number _ h;
      refused_line_lem = line_refused;
      kept = text_kept;
      list_pieces = list_append;
      refit_pieces = refit_append;
      said_pieces = said_append;
      first_unread_lem = stays_unread;
      named_unread = named;
      two_wagons_lem = two_read;
      three_changes_lem = three_asked_lem;
    }
