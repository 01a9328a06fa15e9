-- The line that is named is the one that `compose` names: both read the same bytes of each line, and the same lines can be read.
use Prim.Native.Nat.{ℕ, ◌≤◌}
use mathlib.Core.Path.{◌≡◌, refl, sym, ap, ◌∙◌}
use mathlib.Core.Bool.{Bool, true, false, cond, not, ◌&&◌, ◌||◌, true≢false, false≢true}
use mathlib.Core.List.{List, [], ◌∷◌, ◌++◌}
use mathlib.Core.Logic.{⊎_elim, ◌≢◌}
use native.Mathlib.Omega.{arith}
use Rattle.std.specs.Prelude.{Option, None, Some, is_some, is_none}
use Rattle.std.specs.Option.{option_or}
use lib.Dec.{leb, ltb, eqb}
use borrow.Author.Tests.{leb-false, not-false}
use Rattle.units.specs.Places.{at}
use Rattle.units.proofs.JudgingLaws.{true_or_false}
use Rattle.fields.specs.Fields.{head_tag, mode_tag}
use Rattle.text.specs.Text.{newline}
use Rattle.line_reader.specs.Scan.{is_empty_line, fresh_scan, stepped, next_line}
use Rattle.line_reader.specs.declared.Scan.{Scan}
use Rattle.command_compose.specs.Compose.{is_ttrt, line_tag, is_station, is_plan_station, is_record_line, with_ttrt, with_further, with_station, with_record, with_unread, record_drafted, line_drafted, on_next_line, compose_start, compose_on, compose_after}
use Rattle.command_compose.specs.declared.Draft.{Draft}
use Rattle.command_compose.specs.declared.Composing.{Composing}
use Rattle.text_faults.specs.declared.Watch.{Watch}
use Rattle.text_faults.specs.declared.Found.{Found}
use Rattle.text_faults.specs.Lines.{begins, is_read}
use Rattle.text_faults.specs.Words.{word_ended}
use Rattle.text_faults.specs.Watching.{watch_start, line_ended, watched, watch_after, watch_of}
use Rattle.text_faults.specs.Ranges.{number_out}
use Rattle.text_faults.specs.Watching as watching
use Rattle.text_faults.specs.Promised.{TooFew}
use Rattle.text_faults.proofs.LineLaws.{known, read_same}

-- ---- one line of `compose`

-- what holds of the draft behind each kind of line holds behind a line that can be read
chain : (P : Draft → Type 0) (a b c e f g : Bool) (x0 x1 x2 x3 x4 x5 x6 : Draft)
    → (a || (b || (c || (e || (f || g))))) ≡ true
    → P x0 → (b ≡ true → P x1) → (c ≡ true → P x2) → (e ≡ true → P x3) → (f ≡ true → P x4) → P x5
    → P (cond a x0 (cond b x1 (cond c x2 (cond e x3 (cond f x4 (cond g x5 x6))))))
chain P true b c e f g x0 x1 x2 x3 x4 x5 x6 k p0 p1 p2 p3 p4 p5 = p0
chain P false true c e f g x0 x1 x2 x3 x4 x5 x6 k p0 p1 p2 p3 p4 p5 = p1 refl
chain P false false true e f g x0 x1 x2 x3 x4 x5 x6 k p0 p1 p2 p3 p4 p5 = p2 refl
chain P false false false true f g x0 x1 x2 x3 x4 x5 x6 k p0 p1 p2 p3 p4 p5 = p3 refl
chain P false false false false true g x0 x1 x2 x3 x4 x5 x6 k p0 p1 p2 p3 p4 p5 = p4 refl
chain P false false false false false true x0 x1 x2 x3 x4 x5 x6 k p0 p1 p2 p3 p4 p5 = p5
chain P false false false false false false x0 x1 x2 x3 x4 x5 x6 k p0 p1 p2 p3 p4 p5 = absurd (false≢true k)

none : (a b c e f g : Bool) (x0 x1 x2 x3 x4 x5 x6 : Draft)
    → (a || (b || (c || (e || (f || g))))) ≡ false
    → cond a x0 (cond b x1 (cond c x2 (cond e x3 (cond f x4 (cond g x5 x6))))) ≡ x6
none true b c e f g x0 x1 x2 x3 x4 x5 x6 k = absurd (true≢false k)
none false true c e f g x0 x1 x2 x3 x4 x5 x6 k = absurd (true≢false k)
none false false true e f g x0 x1 x2 x3 x4 x5 x6 k = absurd (true≢false k)
none false false false true f g x0 x1 x2 x3 x4 x5 x6 k = absurd (true≢false k)
none false false false false true g x0 x1 x2 x3 x4 x5 x6 k = absurd (true≢false k)
none false false false false false true x0 x1 x2 x3 x4 x5 x6 k = absurd (true≢false k)
none false false false false false false x0 x1 x2 x3 x4 x5 x6 k = refl

module _ (d : Draft) (s : Scan) where
  pub by_line : (P : Draft → Type 0) → known s ≡ true
      → P d
      → (is_ttrt s ≡ true → P (with_ttrt d (at s.values 0)))
      → (leb mode_tag (line_tag s) ≡ true → P (with_further d (line_tag s) (at s.values 0)))
      → (is_station s ≡ true → P (with_station d s 1))
      → (is_plan_station s ≡ true → P (with_station d s 2))
      → P (with_record d)
      → P (line_drafted d s)
  unfolding line_drafted record_drafted
  by_line P k p0 p1 p2 p3 p4 p5 =
      chain P (is_empty_line s) (is_ttrt s) (leb mode_tag (line_tag s)) (is_station s) (is_plan_station s) (is_record_line s) _ _ _ _ _ _ (with_unread d) k p0 p1 p2 p3 p4 p5

  line_unread : known s ≡ false → line_drafted d s ≡ with_unread d
  unfolding line_drafted record_drafted
  line_unread k = none (is_empty_line s) (is_ttrt s) (leb mode_tag (line_tag s)) (is_station s) (is_plan_station s) (is_record_line s) _ _ _ _ _ _ _ k

-- a line that can be read leaves the line's number and the first that cannot
record Kept (d e : Draft) : Type 0 where
  line : e.line ≡ d.line
  unread : e.unread ≡ d.unread

either : (b : Bool) (d x y : Draft) → Kept d x → Kept d y → Kept d (cond b x y)
either true d x y k l = k
either false d x y k l = l

same : (d : Draft) → Kept d d
same d = record { line = refl; unread = refl }

-- the first line that is named stays named
or_kept : (known : Option ℕ) (line : ℕ) → is_none known ≡ false → option_or known (Some line) ≡ known
or_kept None line n = absurd (true≢false n)
or_kept (Some k) line n = refl

or_first : (known : Option ℕ) (line : ℕ) → is_none known ≡ true → Some line ≡ option_or known (Some line)
or_first None line z = refl
or_first (Some k) line z = absurd (false≢true z)

not_both : (known : Option ℕ) → is_some known ≡ true → is_none known ≡ true → ⊥
not_both None n z = false≢true n
not_both (Some k) n z = false≢true z

module _ (d : Draft) (s : Scan) where
  kept_ttrt : (x : ℕ) → Kept d (with_ttrt d x)
  unfolding with_ttrt
  kept_ttrt x = either (eqb d.head 0) d _ _ (record { line = refl; unread = refl }) (record { line = refl; unread = refl })

  kept_further : (tag x : ℕ) → Kept d (with_further d tag x)
  unfolding with_further
  kept_further tag x =
      either (leb head_tag d.head && (ltb d.head tag && eqb d.set.n 0)) d _ _ (record { line = refl; unread = refl }) (record { line = refl; unread = refl })

  kept_station : (kind : ℕ) → Kept d (with_station d s kind)
  unfolding with_station
  kept_station kind =
      either (leb head_tag d.head && (ltb d.set.n 128 && (eqb d.kind 0 || eqb d.kind kind))) d _ _ (record { line = refl; unread = refl })
      (record { line = refl; unread = refl })

  kept_record : Kept d (with_record d)
  unfolding with_record
  kept_record =
      either (eqb d.kind 2) d _ _ (record { line = refl; unread = refl }) (either (ltb d.kind 3) d _ _ (record { line = refl; unread = refl }) (same d))

  line_read : known s ≡ true → Kept d (line_drafted d s)
  line_read k =
      by_line d s (Kept d) k (same d) (λ e. kept_ttrt _) (λ e. kept_further _ _) (λ e. kept_station 1) (λ e. kept_station 2) kept_record

  -- any line leaves a first one that is named
  line_named : is_none d.unread ≡ false → (line_drafted d s).unread ≡ d.unread
  unfolding with_unread
  line_named n =
      ⊎_elim (λ (k : known s ≡ true). (line_read k).unread) (λ (k : known s ≡ false). rw (line_unread d s k) (or_kept d.unread d.line n)) (true_or_false (known s))

-- ---- both, byte after byte

pub record Alike (w : Watch) (c : Composing) : Type 0 where
  pub some : 1 ≤ c.draft.line
  pub unread : w.unread ≡ c.draft.unread
  pub scan : is_none w.unread ≡ true → w.scan ≡ c.scan
  pub line : is_none w.unread ≡ true → w.line ≡ c.draft.line
  pub early : is_some w.unread ≡ true → w.found.stuck ≡ false → TooFew w.scan

next_some : (n : ℕ) → 1 ≤ next_line n
next_some n = omega arith

-- a line that cannot be read, and no word of it at fault
ended_early : (f : Found) (s : Scan) → is_read s ≡ false → (word_ended f s).stuck ≡ false → TooFew s
unfolding word_ended is_read
ended_early f s n e =
    ⊎_elim (λ (t : f.stuck ≡ true). absurd (true≢false (rw t at e)))
    (λ (t : f.stuck ≡ false).
    let begun : begins s ≡ true = not-false _ (rw t at e) in
    record { begun = begun; missing = leb-false _ _ (rw begun at n) })
    (true_or_false f.stuck)

either_alike : (b : Bool) (x y : Watch) (c : Composing) → Alike x c → Alike y c → Alike (cond b x y) c
either_alike true x y c k l = k
either_alike false x y c k l = l

module _ (w : Watch) (c : Composing) (a : Alike w c) (going : is_none w.unread ≡ true) where
  goes_on : (b : ℕ) → eqb b newline ≡ false → Alike (watched w b) (compose_on c b)
  unfolding watched compose_on
  goes_on b n =
      rw (going, n)
      (record {
        some = a.some;
        unread = a.unread;
        scan = λ z. ap (λ (s : Scan). stepped s b) (a.scan going);
        line = λ z. a.line going;
        early = λ n. absurd (not_both w.unread n going);
      })

  reads_on : (b : ℕ) → eqb b newline ≡ true → is_read w.scan ≡ true → Alike (watched w b) (compose_on c b)
  unfolding watched line_ended compose_on
  reads_on b n r =
      let d = c.draft in
      let k : known c.scan ≡ true = ap known (sym (a.scan going)) ∙ sym (read_same w.scan) ∙ r in
      let kept = line_read d c.scan k in
      let next : (out number : ℕ) → Alike (watching.next_line w out number) (record { draft = on_next_line (line_drafted d c.scan); scan = fresh_scan }) =
      λ out number.
      record {
        some = next_some _;
        unread = a.unread ∙ sym kept.unread;
        scan = λ z. refl;
        line = λ z. ap next_line (a.line going ∙ sym kept.line);
        early = λ n. absurd (not_both w.unread n going);
      } in
      rw (going, n, r)
      (either_alike (eqb w.out 0 && not (eqb (number_out w.scan) 0)) _ _ _ (next w.line (number_out w.scan)) (next w.out w.number))

  stops : (b : ℕ) → eqb b newline ≡ true → is_read w.scan ≡ false → Alike (watched w b) (compose_on c b)
  unfolding watched line_ended compose_on with_unread
  stops b n r =
      let d = c.draft in
      let k : known c.scan ≡ false = ap known (sym (a.scan going)) ∙ sym (read_same w.scan) ∙ r in
      let first = or_first d.unread d.line (rw a.unread at going) in
      let same_line = a.line going in
      let some = a.some in
      rw (going, n, r, line_unread d c.scan k)
      (record {
        some = next_some _;
        unread = ap Some same_line ∙ first;
        scan = λ z. absurd (false≢true z);
        line = λ z. absurd (false≢true z);
        early = λ m e. ended_early w.found w.scan r e;
      })

-- behind a line that cannot be read
stays : (w : Watch) (c : Composing) (b : ℕ) → Alike w c → is_none w.unread ≡ false → Alike (watched w b) (compose_on c b)
unfolding watched compose_on
stays w c b a n =
    let named : is_none c.draft.unread ≡ false = rw a.unread at n in
    rw n
    (⊎_elim (λ (e : eqb b newline ≡ true).
    rw e
    (record {
      some = next_some _;
      unread = a.unread ∙ sym (line_named c.draft c.scan named);
      scan = λ z. absurd (true≢false (sym z ∙ n));
      line = λ z. absurd (true≢false (sym z ∙ n));
      early = a.early;
    }))
    (λ (e : eqb b newline ≡ false).
    rw e (record { some = a.some; unread = a.unread; scan = λ z. absurd (true≢false (sym z ∙ n)); line = λ z. absurd (true≢false (sym z ∙ n)); early = a.early }))
    (true_or_false (eqb b newline)))

pub alike_on : (w : Watch) (c : Composing) (b : ℕ) → Alike w c → Alike (watched w b) (compose_on c b)
alike_on w c b a =
    ⊎_elim (λ (going : is_none w.unread ≡ true).
    ⊎_elim (λ (n : eqb b newline ≡ true). ⊎_elim (reads_on w c a going b n) (stops w c a going b n) (true_or_false (is_read w.scan))) (goes_on w c a going b)
    (true_or_false (eqb b newline)))
    (λ (n : is_none w.unread ≡ false). stays w c b a n)
    (true_or_false (is_none w.unread))

pub alike_after : (w : Watch) (c : Composing) (bs : List ℕ) → Alike w c → Alike (watch_after w bs) (compose_after c bs)
unfolding watch_after compose_after
alike_after w c [] a = a
alike_after w c (b ∷ bs) a = alike_after (watched w b) (compose_on c b) bs (alike_on w c b a)

pub alike_start : Alike watch_start compose_start
alike_start = record { some = omega arith; unread = refl; scan = λ z. refl; line = λ z. refl; early = λ n. absurd (false≢true n) }

pub alike : (text : List ℕ) → Alike (watch_of text) (compose_after compose_start (text ++ (newline ∷ [])))
alike text = alike_after watch_start compose_start (text ++ (newline ∷ [])) alike_start
