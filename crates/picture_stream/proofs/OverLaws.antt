-- All bytes of a log: the inspection goes on as by itself, and what was seen and drawn is that of the records which the bytes hand out.
use Rattle.std.proofs.Common.{◌≡◌, ℕ, true, false, cond, eqb, List, [], ◌∷◌, ◌++◌, drop, sym, refl, ap, ◌∙◌, ⊎_elim, append_assoc}
use lib.Seq.{drop-append-le}
use Rattle.units.proofs.JudgingLaws.{true_or_false}
use Rattle.sets.specs.declared.Set.{Set}
use Rattle.plans.specs.declared.Alloc.{Alloc}
use Rattle.sheets.specs.Reading.{plan_start}
use Rattle.sheets.specs.declared.PlanStart.{PlanStart}
use Rattle.sheets.proofs.FirstLaws.{start_inside}
use Rattle.log_records.specs.declared.Entry.{Entry}
use Rattle.log_records.specs.declared.NextEntry.{NextEntry}
use Rattle.log_stream.specs.Pieces.{stepped, entry_in, entries_of, read_over, handed_over}
use Rattle.log_stream.specs.declared.Gathered.{Gathered}
use Rattle.inspection_stream.specs.Inspecting.{looked_at, looked_all, inspect_from, inspect_over}
use Rattle.inspection_stream.specs.Promised.{Enough}
use Rattle.inspection_stream.specs.declared.Looked.{Looked}
use Rattle.inspection_stream.proofs.LookLaws.{look_append}
use Rattle.inspection_stream.proofs.WholeLaws.{start_stays}
use Rattle.tallies.specs.Laps.{lapped}
use Rattle.tallies.specs.Tallies.{switched_by, seen}
use Rattle.tallies.specs.declared.Lap.{Lap}
use Rattle.tallies.specs.declared.Drawn.{Drawn}
use Rattle.tallies.specs.declared.Seen.{Seen}
use Rattle.picture_stream.specs.Watching.{is_drawn, drawn_of, record_watched, byte_watched, step_watched, stops, stops_at, drawn_at, watch_from, watch_start, watch_over, drawn_over, watch_all, drawn_all}
use Rattle.picture_stream.specs.Promised.{drawn_in}
use Rattle.picture_stream.specs.declared.Window.{Window}
use Rattle.picture_stream.specs.declared.Watching.{Watching}

-- ---- pieces

pub watch_append : (k : Watching) (first rest : List ℕ) → watch_over k (first ++ rest) ≡ watch_over (watch_over k first) rest
unfolding watch_over
watch_append k [] rest = refl
watch_append k (b ∷ first) rest = watch_append (step_watched k b) first rest

pub drawn_append : (x : Window) (k : Watching) (first rest : List ℕ) → drawn_over x k (first ++ rest) ≡ drawn_over x k first ++ drawn_over x (watch_over k first) rest
unfolding watch_over drawn_over
drawn_append x k [] rest = refl
drawn_append x k (b ∷ first) rest =
    let here : List Drawn = cond (stops_at x k b) (drawn_at k b ∷ []) [] in
    let next = step_watched k b in
    ap (λ (ds : List Drawn). here ++ ds) (drawn_append x next first rest) ∙ sym (append_assoc here (drawn_over x next first) (drawn_over x (watch_over next first) rest))

-- ---- records one after another

module _ (t : Set) (a : Alloc) where
  -- what was seen, each record with the rule of the inspection behind it
  unfoldable pub seen_over : Looked → Seen → List Entry → Seen
  seen_over l s [] = s
  seen_over l s (e ∷ es) = seen_over (looked_at t a l e) (seen t.n t.w (looked_at t a l e).inspection.rule s e) es

  seen_append : (l : Looked) (s : Seen) (first rest : List Entry) → seen_over l s (first ++ rest) ≡ seen_over (looked_all t a l first) (seen_over l s first) rest
  unfolding seen_over looked_all
  seen_append l s [] rest = refl
  seen_append l s (e ∷ first) rest = seen_append (looked_at t a l e) (seen t.n t.w (looked_at t a l e).inspection.rule s e) first rest

-- ---- the bytes

-- what is kept behind records that were handed out
abbrev behind : Watching → Gathered → List Entry → Watching
behind k v es =
    let i = k.inspecting in
    let t = i.start.set in
    let a = i.start.alloc in
    record {
      inspecting = record { start = i.start; gathered = v; looked = looked_all t a i.looked es };
      seen = seen_over t a i.looked k.seen es;
    }

byte_behind : (k : Watching) (v : Gathered) (got : NextEntry) → byte_watched k v got ≡ behind k v (entries_of got)
unfolding byte_watched entries_of looked_all seen_over
byte_behind k v got =
    ⊎_elim (λ (h : eqb got.next 0 ≡ true). rw h refl) (λ (h : eqb got.next 0 ≡ false). rw h refl) (true_or_false (eqb got.next 0))

pub over_is : (k : Watching) (bs : List ℕ) → watch_over k bs ≡ behind k (read_over k.inspecting.gathered bs) (handed_over k.inspecting.gathered bs)
unfolding watch_over read_over handed_over looked_all seen_over
over_is k [] = refl
over_is k (b ∷ bs) =
    let i = k.inspecting in
    let t = i.start.set in
    let a = i.start.alloc in
    let v = stepped i.gathered b in
    let here = entries_of (entry_in v) in
    let rest = handed_over v bs in
    ap (λ (j : Watching). watch_over j bs) (byte_behind k v (entry_in v))
    ∙ over_is (behind k v here) bs
    ∙ ap (λ (l : Looked). record { inspecting = record { start = i.start; gathered = read_over v bs; looked = l }; seen = seen_over t a (looked_all t a i.looked here) (seen_over t a i.looked k.seen here) rest })
    (sym (look_append t a i.looked here rest))
    ∙ ap (λ (s : Seen). record { inspecting = record { start = i.start; gathered = read_over v bs; looked = looked_all t a i.looked (here ++ rest) }; seen = s })
    (sym (seen_append t a i.looked k.seen here rest))

pub inspects_over : (k : Watching) (bs : List ℕ) → (watch_over k bs).inspecting ≡ inspect_over k.inspecting bs
inspects_over k bs = ap (λ (j : Watching). j.inspecting) (over_is k bs)

-- ---- what is drawn

module _ (n : ℕ) (w : List ℕ) (rule : ℕ) (s : Seen) (e : Entry) where
  -- laps and marks are those of all records, whatever rule is broken
  pub seen_lap : (seen n w rule s e).course.all ≡ lapped n w s.course.all e
  unfolding seen
  seen_lap = ⊎_elim (λ (h : eqb rule 0 ≡ true). rw h refl) (λ (h : eqb rule 0 ≡ false). rw h refl) (true_or_false (eqb rule 0))

  seen_mark : (seen n w rule s e).mark ≡ switched_by s.mark e
  unfolding seen
  seen_mark = ⊎_elim (λ (h : eqb rule 0 ≡ true). rw h refl) (λ (h : eqb rule 0 ≡ false). rw h refl) (true_or_false (eqb rule 0))

pub drawn_is : (x : Window) (k : Watching) (bs : List ℕ)
    → drawn_over x k bs ≡ drawn_in x k.inspecting.start.set.n k.inspecting.start.set.w k.seen.course.all k.seen.mark (handed_over k.inspecting.gathered bs)
unfolding drawn_over drawn_in handed_over byte_watched entries_of stops
drawn_is x k [] = refl
drawn_is x k (b ∷ bs) =
    let i = k.inspecting in
    let n = i.start.set.n in
    let w = i.start.set.w in
    let v = stepped i.gathered b in
    let got = entry_in v in
    ⊎_elim
    (λ (h : eqb (entry_in (stepped k.inspecting.gathered b)).next 0 ≡ true).
    rw h (drawn_is x (record { inspecting = record { start = i.start; gathered = v; looked = i.looked }; seen = k.seen }) bs))
    (λ (h : eqb (entry_in (stepped k.inspecting.gathered b)).next 0 ≡ false).
    let e = got.entry in
    let rule = (looked_at i.start.set i.start.alloc i.looked e).inspection.rule in
    let here : List Drawn = cond (is_drawn x k.seen.course.all e) (drawn_of k.seen e ∷ []) [] in
    rw h
    (ap (λ (ds : List Drawn). here ++ ds)
    (drawn_is x (record_watched k v e) bs
    ∙ ap (λ (l : Lap). drawn_in x n w l (record_watched k v e).seen.mark (handed_over v bs)) (seen_lap n w rule k.seen e)
    ∙ ap (λ (mark : List ℕ). drawn_in x n w (lapped n w k.seen.course.all e) mark (handed_over v bs)) (seen_mark n w rule k.seen e))))
    (true_or_false (eqb got.next 0))

-- ---- the first piece

module _ (head rest : List ℕ) (enough : Enough head rest) where
  -- the records of the first piece and those behind it are those of the whole log
  first_bytes : drop (plan_start head).at head ++ rest ≡ drop (plan_start head).at (head ++ rest)
  first_bytes = sym (drop-append-le (plan_start head).at head rest (start_inside head))

  same_start : plan_start head ≡ plan_start (head ++ rest)
  same_start = sym (start_stays head rest enough)

  pub first_piece : watch_over (watch_all head) rest ≡ watch_all (head ++ rest)
  first_piece =
      let s = plan_start head in
      sym (watch_append (watch_start head) (drop s.at head) rest)
      ∙ ap (watch_over (watch_start head)) first_bytes
      ∙ ap (λ (x : PlanStart). watch_over (watch_from (inspect_from x)) (drop x.at (head ++ rest))) same_start

  pub drawn_first : (x : Window) → drawn_all x head ++ drawn_over x (watch_all head) rest ≡ drawn_all x (head ++ rest)
  drawn_first x =
      let s = plan_start head in
      sym (drawn_append x (watch_start head) (drop s.at head) rest)
      ∙ ap (drawn_over x (watch_start head)) first_bytes
      ∙ ap (λ (y : PlanStart). drawn_over x (watch_from (inspect_from y)) (drop y.at (head ++ rest))) same_start
