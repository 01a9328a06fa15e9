-- `watch_on` is right because after i turns the text stands behind its first i bytes.
use Prim.Native.Nat.{ℕ, ◌+◌, ◌≤◌, ◌<◌}
use mathlib.Core.Path.{◌≡◌, refl, ap, ◌∙◌}
use mathlib.Core.List.{List}
use native.Mathlib.Omega.{arith}
use lib.ListN.{length, take}
use lib.Seq.{take_all}
use Rattle.std.proofs.lemmas.List.{take_more}
use Rattle.units.specs.Places.{at}
use Rattle.text_faults.specs.declared.Watch.{Watch}
use Rattle.text_faults.specs.Watching.{watched, watch_after}
use Rattle.text_faults.proofs.WatchLaws.{watch_snoc}
use Rattle.text_faults.proofs.watch_on.Goals as goal

turn : (text : List ℕ) (w u : Watch) (i : ℕ) → i < length text → u ≡ watch_after w (take i text) → watched u (at text i) ≡ watch_after w (take (i + 1) text)
turn text w u i l e =
    rw (take_more text i 0 l, watch_snoc w (take i text) (at text i), e) refl

pub loop-byte-init : goal.loop-byte-init
unfolding watch_after
loop-byte-init c =
    refl

pub loop-byte-preserved : goal.loop-byte-preserved
loop-byte-preserved c =
    let more : c.loop-byte.byte-index < length c.args.text.now = omega arith in
    c.watched-stands.ensures ∙ turn _ _ _ _ more c.loop-byte.invariant

pub returns : goal.returns
returns c =
    let end : length c.args.text.now ≤ c.loop-byte.byte-index = omega arith in
    c.loop-byte.invariant ∙ ap (watch_after c.args.w) (take_all c.loop-byte.byte-index _ end)
