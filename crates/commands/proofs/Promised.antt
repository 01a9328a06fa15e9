-- Everything that `specs/Promised.antt` lists, proved.
use Prim.Native.Nat.{ℕ, ◌+◌, ◌-◌, ◌≤◌, ◌<◌}
use mathlib.Core.Path.{◌≡◌, refl, sym, ap, ◌∙◌}
use mathlib.Core.Bool.{Bool, true, false, cond, ◌&&◌}
use mathlib.Core.List.{List, [], ◌∷◌}
use mathlib.Core.Logic.{◌⊎◌, ⊎_elim}
use native.Mathlib.Omega.{arith}
use borrow.Author.Tests.{ne_eqb, le-leb, lt-leb}
use lib.Dec.{leb}
use Rattle.std.proofs.Common.{Option, None, Some}
use Rattle.std.proofs.lemmas.Option.{same_Some, none-some}
use Rattle.std.specs.Option.{option_map}
use Rattle.units.specs.Places.{all_below}
use Rattle.commands.proofs.WordLaws.{same_word_lem}
use Rattle.commands.specs.Table.{commands, word_of, least_of, most_of}
use Rattle.commands.specs.Words.{same_bytes}
use Rattle.commands.specs.Asked.{whose, command_of, takes, counted_for, asked_for}
use Rattle.commands.specs.Promised.{Promised}
use Rattle.commands.specs.declared.Command.{Command}
use Rattle.commands.specs.declared.Command.TheVariants.{Plan, PlanSheet, Explain, Tune, Compose, Show, Run, Log, Inspect, Page, Diff, Hopper, HopperSheet, Refit, EmptyStore, Keep, Kept, Versions, Version, Help}
use Rattle.commands.specs.declared.Asked.TheVariants.{Do, Miscounted}

-- ---- words

by_word : (c : Command) → command_of (word_of c) ≡ Some c
unfolding same_bytes all_below
by_word Plan = refl
by_word PlanSheet = refl
by_word Explain = refl
by_word Tune = refl
by_word Compose = refl
by_word Show = refl
by_word Run = refl
by_word Log = refl
by_word Inspect = refl
by_word Page = refl
by_word Diff = refl
by_word Hopper = refl
by_word HopperSheet = refl
by_word Refit = refl
by_word EmptyStore = refl
by_word Keep = refl
by_word Kept = refl
by_word Versions = refl
by_word Version = refl
by_word Help = refl

no_shared_word : (c d : Command) → word_of c ≡ word_of d → c ≡ d
no_shared_word c d e = same_Some c d (sym (by_word c) ∙ ap command_of e ∙ by_word d)

no_command : command_of [] ≡ None
unfolding same_bytes all_below
no_command = refl

some_word : (c : Command) → word_of c ≡ [] → ⊥
some_word c e = none-some c (sym no_command ∙ sym (ap command_of e) ∙ by_word c)

-- of a command and what is found behind it
own_or : (b : Bool) (c d : Command) (behind : Option Command) (word : List ℕ) → (b ≡ true → word_of c ≡ word) → (behind ≡ Some d → word_of d ≡ word)
    → cond b (Some c) behind ≡ Some d → word_of d ≡ word
own_or true c d behind word here later e = ap word_of (sym (same_Some c d e)) ∙ here refl
own_or false c d behind word here later e = later e

own_word : (cs : List Command) (word : List ℕ) (d : Command) → whose cs word ≡ Some d → word_of d ≡ word
own_word [] word d e = absurd (none-some d e)
own_word (c ∷ cs) word d e =
    own_or (same_bytes word (word_of c)) c d (whose cs word) word (λ s. same_word_lem word (word_of c) s) (own_word cs word d) e

-- ---- how many words follow

-- the command is found, and the words behind it are counted
asked_more : (word : List ℕ) (more : ℕ) → asked_for word (more + 1) ≡ option_map (λ (c : Command). counted_for c more) (command_of word)
unfolding asked_for
asked_more word more =
    let before : (more + 1) - 1 ≡ more = omega arith in
    rw (ne_eqb (more + 1) 0 (λ e. omega arith), before) refl

counted_by_word : (c : Command) (more : ℕ) → asked_for (word_of c) (more + 1) ≡ Some (counted_for c more)
counted_by_word c more = asked_more (word_of c) more ∙ ap (option_map (λ (d : Command). counted_for d more)) (by_word c)

done_by_word : (c : Command) (more : ℕ) → least_of c ≤ more → more ≤ most_of c → asked_for (word_of c) (more + 1) ≡ Some (Do c)
unfolding counted_for
done_by_word c more low high = counted_by_word c more ∙ rw (le-leb _ _ low, le-leb _ _ high) refl

too_few : (c : Command) (more : ℕ) → more < least_of c → takes c more ≡ false
too_few c more h = rw (lt-leb _ _ h) refl

none_above : (b : Bool) (c : Command) (more : ℕ) → most_of c < more → (b && leb more (most_of c)) ≡ false
none_above true c more h = lt-leb _ _ h
none_above false c more h = refl

miscounted_by_word : (c : Command) (more : ℕ) → (more < least_of c) ⊎ (most_of c < more) → asked_for (word_of c) (more + 1) ≡ Some (Miscounted c)
unfolding counted_for
miscounted_by_word c more out =
    let not_taken : takes c more ≡ false = ⊎_elim (λ h. too_few c more h) (λ h. none_above (leb (least_of c) more) c more h) out in
    counted_by_word c more ∙ rw not_taken refl

nothing_asked : (word : List ℕ) (more : ℕ) → command_of word ≡ None → asked_for word (more + 1) ≡ None
nothing_asked word more e = asked_more word more ∙ rw e refl

pub promised : Promised
promised =
    record {
      found = by_word;
      own = own_word commands;
      apart = no_shared_word;
      empty = no_command;
      worded = some_word;
      done = done_by_word;
      miscounted = miscounted_by_word;
      nothing = nothing_asked;
    }
