-- `show_piece` is right because after i turns the records stand behind the first i bytes, and their lines are put.
use Prim.Native.Nat.{ℕ, zero, suc, ◌+◌, ◌*◌, ◌<◌}
use mathlib.Core.Path.{◌≡◌, refl, sym, ap, ◌∙◌}
use mathlib.Core.List.{[]}
use native.Mathlib.Omega.{arith}
use Rattle.units.specs.Places.{at}
use lib.ListN.{length, take, get_or}
use Rattle.std.proofs.lemmas.List.{get_or-take, length-take}
use Rattle.log_records.specs.declared.NextEntry.{NextEntry}
use Rattle.log_stream.specs.Pieces.{stepped, entries_of, read_over, handed_over}
use Rattle.log_stream.specs.declared.Gathered.{Gathered}
use Rattle.text.specs.Pages.{HasRoom}
use Rattle.text.proofs.PageLaws.{puts_none, puts_as}
use Rattle.sheet_text_rules.specs.LogText.{entry_lines}
use Rattle.command_show_log.specs.LogShown.{lines_for}
use Rattle.command_show_log.proofs.ShowLaws.{turn}
use Rattle.command_show_log.proofs.show_piece.Goals as goal

no_lines : (k : ℕ) → lines_for k [] ≡ []
unfolding lines_for entry_lines
no_lines zero = refl
no_lines (suc k) = refl

pub loop-byte-init : goal.loop-byte-init
unfolding read_over handed_over
loop-byte-init c =
    (refl, puts_as (puts_none _) (sym (no_lines _)) (omega arith))

pub put_entry-requires : goal.put_entry-requires
put_entry-requires c =
    let put = c.loop-byte.invariant.1 in
    let before : c.loop-byte.byte-index < c.args.end = omega (arith, length-take {A = ℕ}) in
    omega (arith, c.requires.1, c.requires.2, put.put.put.next, put.put.short, put.size)

pub loop-byte-preserved : goal.loop-byte-preserved
loop-byte-preserved c =
    let bytes = c.args.bytes.now in
    let i = c.loop-byte.byte-index in
    let inv = c.loop-byte.invariant in
    let before : c.loop-byte.byte-index < c.args.end = omega (arith, length-take {A = ℕ}) in
    let inside : c.loop-byte.byte-index < length bytes = omega (arith, c.requires.0) in
    let room : HasRoom (126 * c.loop-byte.byte-index + 126) c.args.page.now = omega (arith, c.requires.1, c.requires.2) in
    let here : get_or (take c.args.end c.args.bytes.now) c.loop-byte.byte-index 0 ≡ at bytes i = get_or-take c.args.end bytes i 0 before in
    let number = c.args.showing.number in
    let read = c.step-gathered.ensures ∙ ap (stepped c.loop-byte.gathered) here in
    let q = puts_as {more = 126} c.put_entry.ensures (ap (λ (n : NextEntry). lines_for number (entries_of n)) c.entry_in-got.ensures) (omega arith) in
    turn bytes _ _ _ number c.args.showing.gathered c.loop-byte.gathered c.step-gathered.result i inside room inv.0 inv.1 read q

pub returns-clause-behind : goal.returns-clause-behind
returns-clause-behind c =
    let end : c.loop-byte.byte-index ≡ c.args.end = omega (arith, length-take {A = ℕ}, c.requires.0) in
    ap (λ (v : Gathered). record { gathered = v; number = c.args.showing.number }) (rw end at c.loop-byte.invariant.0)

pub returns-clause-shown : goal.returns-clause-shown
returns-clause-shown c =
    let end : c.loop-byte.byte-index ≡ c.args.end = omega (arith, length-take {A = ℕ}, c.requires.0) in
    puts_as c.loop-byte.invariant.1 (rw end) (omega (arith, c.requires.1))
