-- `name_of` is right because the bytes of the word before this one have been put, each as it is shown.
use Prim.Native.Nat.{ℕ, ◌-◌, ◌≤◌, ◌<◌}
use mathlib.Core.Path.{◌≡◌, sym, ap, ◌∙◌}
use mathlib.Core.List.{map}
use native.Mathlib.Omega.{arith}
use lib.ListN.{length, take, drop, replicate, length-set}
use lib.Seq.{length-take-le}
use Rattle.commands.specs.Words.{shown_byte, name_of}
use Rattle.commands.proofs.NameLaws.{shown_next, zero_next, all_of_it}
use Rattle.commands.proofs.words.name_of.Goals as goal

pub loop-i-preserved : goal.loop-i-preserved
loop-i-preserved c =
    let word = c.args.word.now in
    let before = c.loop-i.invariant in
    let inside : c.loop-i.i < length word = omega arith in
    let among : c.loop-i.i < length c.loop-i.bytes = omega arith in
    record {
      places = length-set c.loop-i.bytes _ _ ∙ before.places;
      rest = zero_next c.loop-i.bytes c.loop-i.i _ (omega arith) before.rest;
      shown = shown_next word c.loop-i.bytes c.loop-i.i _ inside among c.shown_byte.ensures before.shown;
    }

pub returns : goal.returns
unfolding name_of
returns c =
    let word = c.args.word.now in
    let length-is = c.name_length-length.ensures in
    let end : c.loop-i.i ≡ c.name_length-length.result = omega arith in
    let fits : c.name_length-length.result ≤ length c.loop-i.bytes = omega arith in
    record {
      name = ap (λ (n : ℕ). take n c.loop-i.bytes) (sym end) ∙ c.loop-i.invariant.shown
          ∙ ap (map shown_byte) (ap (λ (n : ℕ). take n word) (end ∙ length-is) ∙ all_of_it word);
      rest = ap (λ (n : ℕ). drop n c.loop-i.bytes) (sym end) ∙ c.loop-i.invariant.rest ∙ ap (λ (n : ℕ). replicate (64 - n) 0) end;
      fits = fits;
      counts = sym (length-take-le _ _ fits);
    }
