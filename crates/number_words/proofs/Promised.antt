-- What `specs/Promised.antt` promises.
use Prim.Native.Nat.{ℕ, ◌<◌, ◌^◌}
use mathlib.Core.Path.{◌≡◌}
use native.Mathlib.Omega.{arith}
use Rattle.text.specs.Text.{decimal_of}
use Rattle.text.proofs.Promised.{promised as text-promised}
use Rattle.number_words.specs.Words.{value_in}
use Rattle.number_words.specs.Promised.{Promised}
use Rattle.number_words.proofs.WordLaws.{digits_write, decimal_whole}

printed : (n : ℕ) → n < 2 ^ 32 → value_in (decimal_of n) ≡ n
printed n l = omega (arith, digits_write (decimal_of n), text-promised.decimal n (omega arith))

pub promised : Promised
promised =
    record {
      written = λ word. digits_write word;
      whole = λ n. decimal_whole n;
      printed = λ n l. printed n l;
    }
