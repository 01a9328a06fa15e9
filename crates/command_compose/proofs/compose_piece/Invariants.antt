-- `compose_piece` is right because after i turns the text stands behind the piece's first i bytes, and what they let out is put.
use Prim.Native.Nat.{ℕ, ◌+◌, ◌≤◌, ◌<◌}
use mathlib.Core.Path.{◌≡◌, sym, ap, subst, ◌∙◌}
use mathlib.Core.List.{List, [], ◌∷◌, ◌++◌}
use mathlib.Core.Logic.{⊎_elim}
use native.Mathlib.Omega.{arith}
use lib.ListN.{length, take}
use Rattle.std.proofs.lemmas.List.{take_more}
use Rattle.units.specs.Places.{at}
use Rattle.text.specs.Text.{Put}
use Rattle.text.proofs.TextLaws.{put_then}
use Rattle.line_reader.specs.declared.Scan.{Scan}
use Rattle.command_compose.specs.Compose.{line_drafted, compose_on, compose_after}
use Rattle.command_compose.proofs.ComposeLaws.{compose_snoc}
use Rattle.command_compose.specs.Sent.{sent_by, sent_at, sent_over, most_sent}
use Rattle.command_compose.specs.declared.Draft.{Draft}
use Rattle.command_compose.specs.declared.Composing.{Composing}
use Rattle.units.proofs.SmallLaws.{below_or_not}
use Rattle.command_compose.proofs.SentLaws.{line_sent, sent_snoc}
use Rattle.command_compose.proofs.compose_piece.Given as goal

-- after i bytes the text stands behind them, and what they let out is put
abbrev pub Behind : List ℕ → List ℕ → Composing → ℕ → Composing → List ℕ → ℕ → Type 0
Behind text page₀ start i stands page next =
    (stands ≡ compose_after start (take i text)) × Put page₀ 0 (sent_over start (take i text)) page next

-- how much that is; before the first record nothing
abbrev pub Little : ℕ → ℕ → ℕ → Type 0
Little i kind next = (next ≤ most_sent i) × (kind ≤ 2 → next ≡ 0)

-- one turn: the text behind one byte more, and what that lets out
pub turn : (text page₀ page page' : List ℕ) (start u u' : Composing) (i next next' : ℕ)
    → i < length text → Behind text page₀ start i u page next → u' ≡ compose_on u (at text i)
    → Put page next (sent_at u (at text i)) page' next' → next' ≤ length page₀
    → Behind text page₀ start (i + 1) u' page' next'
turn text page₀ page page' start u u' i next next' l was e q room =
    let b = at text i in
    let eu = was.0 in
    let more : take (i + 1) text ≡ take i text ++ b ∷ [] = take_more text i 0 l in
    let sent : sent_over start (take i text) ++ sent_at u b ≡ sent_over start (take i text ++ b ∷ []) =
    ap (λ (z : Composing). sent_over start (take i text) ++ sent_at z b) eu ∙ sym (sent_snoc start (take i text) b) in
    let put = put_then was.1 q (omega (arith, was.1.next, q.next)) in
    rw more (
      e ∙ ap (λ (z : Composing). compose_on z b) eu ∙ sym (compose_snoc start (take i text) b),
      subst (λ (x : List ℕ). Put page₀ 0 x page' next') sent put,
    )

-- a line lets out little
pub little_more : (d : Draft) (s : Scan) (i next next' : ℕ) → Little i d.kind next → next' ≡ next + length (sent_by d s) → Little (i + 1) (line_drafted d s).kind next'
little_more d s i next next' was e =
    let line = line_sent d s in (
      ⊎_elim (λ (b : d.kind < 3). omega (arith, was.1 (omega arith), line.long)) (λ (b : 3 ≤ d.kind). omega (arith, was.0, line.short b)) (below_or_not d.kind 3),
      λ k. omega (arith, was.1 (line.kinds k), line.silent k),
    )

abbrev pub invariant-loop-byte : goal.invariant-loop-byte
invariant-loop-byte l =
    let start : Composing = record { draft = l.initial.draft; scan = l.initial.read } in
    let stands : Composing = record { draft = l.draft; scan = l.read } in
    (length l.page ≡ length l.initial.page) × Behind l.piece l.initial.page start l.byte-index stands l.page l.next × Little l.byte-index l.draft.kind l.next
