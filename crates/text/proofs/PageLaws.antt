-- The laws of text put into a page behind what was put before.
use Prim.Native.Nat.{ℕ, ◌+◌, ◌*◌, ◌≤◌}
use mathlib.Core.Path.{◌≡◌, refl, ◌∙◌}
use mathlib.Core.List.{List, [], ◌∷◌, ◌++◌}
use native.Mathlib.Omega.{arith}
use lib.ListN.{length}
use borrow.Rule.Slice.PartMut.{put_mid}
use Rattle.text.specs.Text.{decimal_of, line, number_words, newline, space, PutShort, Printed, page_size, Says}
use Rattle.text.specs.Pages.{HasRoom, Begins, Puts, PutsWithin}
use Rattle.text.specs.declared.Page.{Page}
use Rattle.text.specs.declared.Said.{Said}
use Rattle.text.proofs.TextLaws as laws

-- ---- a segment

-- a page is as long behind what was put
pub puts_of : {before after : Page} {s : List ℕ} {most : ℕ}
    → PutShort most before.bytes.now before.at s after.bytes.now after.at → HasRoom most before → after.bytes.ghost_name ≡ before.bytes.ghost_name
    → Puts most before s after
puts_of p room same =
    record { put = p; size = laws.put_length p.put (omega (arith, p.short, room)); same = same }

-- a word that is copied behind what was put
pub word_put : {page : Page} {word copied : List ℕ} {k : ℕ}
    → copied ≡ word → k ≡ length word → HasRoom (length word) page
    → Puts (length word) page word (record { bytes = record page.bytes { now = put_mid page.at k page.bytes.now copied }; at = page.at + length word })
word_put same long room =
    puts_of (record { put = laws.put_part _ _ _ _ _ same long; short = omega arith }) room refl

pub puts_none : (page : Page) → Puts 0 page [] page
puts_none page =
    record { put = record { put = laws.put_none page.bytes.now page.at; short = omega arith }; size = refl; same = refl }

-- what is put behind a segment makes one segment with it
pub puts_then : {before middle after : Page} {s t : List ℕ} {most more : ℕ}
    → Puts most before s middle → Puts more middle t after → HasRoom (most + more) before → Puts (most + more) before (s ++ t) after
puts_then p k room =
    record { put = laws.put_short_then p.put k.put (omega (arith, room)); size = k.size ∙ p.size; same = k.same ∙ p.same }

-- the same segment, and a larger bound
pub puts_as : {before after : Page} {s t : List ℕ} {most more : ℕ} → Puts most before s after → s ≡ t → most ≤ more → Puts more before t after
puts_as p e l = record { put = laws.put_as p.put e l; size = p.size; same = p.same }

-- the bound that the segment has
pub puts_short : {before after : Page} {s : List ℕ} {most less : ℕ} → Puts most before s after → length s ≤ less → Puts less before s after
puts_short p few = record { put = record { put = p.put.put; short = few }; size = p.size; same = p.same }

-- ---- a segment put if there is room

pub within : {before after : Page} {s : List ℕ} {most : ℕ} → HasRoom most before → Puts most before s after → PutsWithin most before s after
within room p = record { within = laws.within_put room p.put; size = p.size; same = p.same }

-- with room it is put, as the first segment, or behind one
pub puts : {before after : Page} {s : List ℕ} {most : ℕ} → PutsWithin most before s after → HasRoom most before → length s ≤ most → Puts most before s after
puts k room few = record { put = k.within.put room few; size = k.size; same = k.same }

pub within_then : {before middle after : Page} {s t : List ℕ} {most more : ℕ}
    → Puts most before s middle → PutsWithin more middle t after → length t ≤ more → HasRoom (most + more) before
    → Puts (most + more) before (s ++ t) after
within_then p k few room = puts_then p (puts k (omega (arith, p.put.put.next, p.put.short, p.size, room)) few) room

-- ---- a number's field, the line's end, a line of a word and numbers

pub field_then : {before middle after : Page} {s : List ℕ} {most : ℕ} (n : ℕ)
    → Puts most before s middle → PutsWithin 21 middle (space ∷ decimal_of n) after → HasRoom (most + 21) before
    → Puts (most + 21) before (s ++ (space ∷ decimal_of n)) after
field_then n p k room = within_then p k (laws.field_short n) room

pub end_then : {before middle after : Page} {s : List ℕ} {most : ℕ}
    → Puts most before s middle → PutsWithin 1 middle (newline ∷ []) after → HasRoom (most + 1) before
    → Puts (most + 1) before (s ++ (newline ∷ [])) after
end_then p k room = within_then p k (omega arith) room

pub line_put : {before after : Page} (word ns : List ℕ)
    → PutsWithin (length word + (21 * length ns + 1)) before (line (word ∷ number_words ns)) after → HasRoom (length word + (21 * length ns + 1)) before
    → Puts (length word + (21 * length ns + 1)) before (line (word ∷ number_words ns)) after
line_put word ns k room = puts k room (laws.line_short word ns)

pub line_then : {before middle after : Page} {s : List ℕ} {most : ℕ} (word ns : List ℕ)
    → Puts most before s middle → PutsWithin (length word + (21 * length ns + 1)) middle (line (word ∷ number_words ns)) after
    → HasRoom (most + (length word + (21 * length ns + 1))) before
    → Puts (most + (length word + (21 * length ns + 1))) before (s ++ line (word ∷ number_words ns)) after
line_then word ns p k room = within_then p k (laws.line_short word ns) room

-- ---- a text at the start of a page

pub printed : {bytes text segment : List ℕ} {before after : Page} {r most : ℕ}
    → Begins bytes before → Puts most before segment after → r ≡ after.at → segment ≡ text → page_size ≤ length bytes → most ≤ page_size
    → Printed text bytes after.bytes.now r
printed begins p long same large few =
    laws.printed (rw (begins.now, begins.at, ← long) at p.put) same large few

-- the same, with its number
pub says : {bytes text segment : List ℕ} {before after : Page} {r : Said} {most number : ℕ}
    → Begins bytes before → Puts most before segment after → r.length ≡ after.at → segment ≡ text → r.number ≡ number → page_size ≤ length bytes → most ≤ page_size
    → Says text number bytes after.bytes.now r
says begins p long same told large few =
    laws.says (rw (begins.now, begins.at, ← long) at p.put) same told large few
