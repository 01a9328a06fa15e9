-- `compose_piece` is right because after i turns the text stands behind the piece's first i bytes, and what they let out is put.
use Prim.Native.Nat.{ℕ, ◌+◌, ◌≤◌}
use mathlib.Core.Path.{◌≡◌, refl, sym, ap, subst, ◌∙◌}
use native.Mathlib.Omega.{arith}
use lib.ListN.{length}
use lib.Seq.{take_all}
use Rattle.units.specs.Places.{at}
use Rattle.text.specs.Text.{Put}
use Rattle.text.proofs.TextLaws.{put_none}
use Rattle.command_compose.specs.Compose.{line_drafted, compose_on, compose_after}
use Rattle.command_compose.proofs.ComposeLaws.{text_goes_on, text_line_ends}
use Rattle.command_compose.specs.Sent.{sent_at, sent_over, most_sent}
use Rattle.command_compose.specs.declared.Draft.{Draft}
use Rattle.command_compose.specs.declared.Composing.{Composing}
use Rattle.command_compose.proofs.SentLaws.{sent_goes_on, sent_line_ends}
use Rattle.command_compose.proofs.compose_piece.Goals as goal
use Rattle.command_compose.proofs.compose_piece.Goals.{else-byte-eq10, then-byte-eq10}
use Rattle.command_compose.proofs.compose_piece.Invariants.{Little, turn, little_more}

pub loop-byte-init : goal.loop-byte-init
unfolding compose_after sent_over
loop-byte-init c =
    (refl, (refl, put_none _ _), (omega arith, λ k. refl))

pub put_line-next-requires : goal.put_line-next-requires
put_line-next-requires c =
    let inv = c.loop-byte.invariant in
    let inside = c.loop-byte-test.true in
    let same = inv.0 in
    let few = inv.2.0 in
    record { first = inv.2.1; room = omega (arith, inside, c.requires.few, c.requires.large); large = omega (arith, c.requires.large) }

pub loop-byte-preserved : goal.loop-byte-preserved
loop-byte-preserved c =
    let piece = c.args.piece.now in
    let page₀ = c.args.page.now in
    let page = c.loop-byte.page in
    let i = c.loop-byte.byte-index in
    let next = c.loop-byte.next in
    let inv = c.loop-byte.invariant in
    let inside = c.loop-byte-test.true in
    let room : most_sent (c.loop-byte.byte-index + 1) ≤ length page₀ = omega (arith, inside, c.requires.few, c.requires.large) in
    let u : Composing = record { draft = c.loop-byte.draft; scan = c.loop-byte.read } in
    elim c.if-byte-eq10.branch [
      | then-byte-eq10 w ↦ let u' : Composing = record { draft = w.on_next_line-draft.result; scan = w.fresh-read.result } in
          let newline = w.if-byte-eq10.true in
          let e : u' ≡ compose_on u (at piece i) = rw (w.on_next_line-draft.ensures, w.line_drafted-drafted.ensures, w.fresh-read.ensures) (sym (text_line_ends u (at piece i) newline)) in
          let q : Put page next (sent_at u (at piece i)) w.put_line-next.new.page w.put_line-next.result = rw (sent_line_ends u (at piece i) newline) w.put_line-next.ensures in
          let few = little_more u.draft u.scan i next w.put_line-next.result inv.2 w.put_line-next.ensures.next in
          let kinds : u'.draft.kind ≡ (line_drafted u.draft u.scan).kind = ap (λ (x : Draft). x.kind) w.on_next_line-draft.ensures ∙ ap (λ (x : Draft). x.kind) w.line_drafted-drafted.ensures in
          let t = turn piece page₀ page w.put_line-next.new.page c.args.c u u' i next w.put_line-next.result inside inv.1 e q (omega (arith, few.0)) in
          rw (w.page-is, w.draft-is, w.read-is, w.next-is) (w.put_line-next.auto.page ∙ inv.0, t, subst (λ (k : ℕ). Little (i + 1) k w.put_line-next.result) (sym kinds) few)
      | else-byte-eq10 w ↦ let u' : Composing = record { draft = c.loop-byte.draft; scan = w.step-read.result } in
          let other = w.if-byte-eq10.false in
          let e : u' ≡ compose_on u (at piece i) = rw w.step-read.ensures (sym (text_goes_on u (at piece i) other)) in
          let q : Put page next (sent_at u (at piece i)) page next = rw (sent_goes_on u (at piece i) other) (put_none page next) in
          let t = turn piece page₀ page page c.args.c u u' i next next inside inv.1 e q (omega (arith, inv.2.0)) in
          rw (w.page-is, w.draft-is, w.read-is, w.next-is) (inv.0, t, (omega (arith, inv.2.0), inv.2.1))
    ]

pub returns : goal.returns
returns c =
    let inv = c.loop-byte.invariant in
    let whole = take_all c.loop-byte.byte-index c.args.piece.now (omega arith) in
    record { behind = rw whole at inv.1.0; sent = rw whole at inv.1.1; short = omega (arith, inv.2.0, c.requires.few) }
