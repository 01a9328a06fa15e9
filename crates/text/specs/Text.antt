-- Text as bytes: decimal numbers, and lines of words.
use Rattle.std.specs.Prelude.{ℕ, zero, suc, ◌+◌, ◌/◌, ◌%◌, ◌≤◌, ◌<◌, ◌≡◌, cond, List, [], ◌∷◌, ◌++◌, ◌≢◌, ltb, length, take, drop}
use Rattle.units.specs.Numbers.{buffer_too_short}
use Rattle.fields.specs.Rows.{laid}
use Rattle.text.specs.declared.Said.{Said}

-- ---- characters

abbrev pub newline : ℕ
newline = 10

abbrev pub space : ℕ
space = 32

-- the digit d, 0 to 9
abbrev pub digit : ℕ → ℕ
digit d = 48 + d

-- ---- decimal numbers

-- the decimal digits of n, the highest first, if they are at most k
unfoldable pub decimal_within : ℕ → ℕ → List ℕ
decimal_within zero n = []
decimal_within (suc k) n = cond (ltb n 10) (digit n ∷ []) (decimal_within k (n / 10) ++ digit (n % 10) ∷ [])

-- a number as people write it: no sign, no zero in front; every 64-bit number has at most 20 digits
abbrev pub decimal_of : ℕ → List ℕ
decimal_of n = decimal_within 20 n

-- ---- lines

-- a space before each of the words, and the line's end
unfoldable pub line_on : List (List ℕ) → List ℕ
line_on [] = newline ∷ []
line_on (word ∷ words) = (space ∷ word) ++ line_on words

-- a line: its words with a space between them, and the line's end
unfoldable pub line : List (List ℕ) → List ℕ
line [] = newline ∷ []
line (word ∷ words) = word ++ line_on words

-- numbers as words
unfoldable pub number_words : List ℕ → List (List ℕ)
number_words [] = []
number_words (n ∷ ns) = decimal_of n ∷ number_words ns

-- numbers, a space before each
unfoldable pub fields_of : List ℕ → List ℕ
fields_of [] = []
fields_of (n ∷ ns) = (space ∷ decimal_of n) ++ fields_of ns

-- ---- the two lines that say why there is no answer

-- "refused"
abbrev pub refused_word : List ℕ
refused_word = 114 ∷ 101 ∷ 102 ∷ 117 ∷ 115 ∷ 101 ∷ 100 ∷ []

-- `refused`, and the number
abbrev pub refused_line : ℕ → List ℕ
refused_line number = line (refused_word ∷ decimal_of number ∷ [])

-- the text if the number is 0, else the refusal
unfoldable pub text_or : ℕ → List ℕ → List ℕ
text_or zero text = text
text_or (suc k) text = refused_line (suc k)

-- "line"
abbrev pub line_word : List ℕ
line_word = 108 ∷ 105 ∷ 110 ∷ 101 ∷ []

-- ": cannot be read"
abbrev pub cannot_be_read : List ℕ
cannot_be_read =
    58 ∷ 32 ∷ 99 ∷ 97 ∷ 110 ∷ 110 ∷ 111 ∷ 116 ∷ 32 ∷ 98 ∷ 101 ∷ 32 ∷ 114 ∷ 101 ∷ 97 ∷ 100 ∷ []

-- `line N: cannot be read`
abbrev pub unread_line : ℕ → List ℕ
unread_line n = line (line_word ∷ (decimal_of n ++ cannot_be_read) ∷ [])

-- ---- text put into a page

-- the segment was put into the page from the place a on, all else is as it was; r is the place behind it
pub record Put (before : List ℕ) (a : ℕ) (segment after : List ℕ) (r : ℕ) : Type 0 where
  pub page : after ≡ laid before a segment
  pub next : r ≡ a + length segment

-- the same, of a segment of at most so many bytes
pub record PutShort (most : ℕ) (before : List ℕ) (a : ℕ) (segment after : List ℕ) (r : ℕ) : Type 0 where
  pub put : Put before a segment after r
  pub short : length segment ≤ most

-- the segment was put, if it has at most so many bytes and the page has room for as many from the place a on; else the page is as it was, and r is the place itself
pub record PutWithin (most : ℕ) (before : List ℕ) (a : ℕ) (segment after : List ℕ) (r : ℕ) : Type 0 where
  pub put : a + most ≤ length before → length segment ≤ most → PutShort most before a segment after r
  pub full : length before < a + most → (after ≡ before) × (r ≡ a)
  pub long : most < length segment → (after ≡ before) × (r ≡ a)
  -- how far the place moves at most, for whoever puts more behind it
  pub reach : r ≤ a + most

-- ---- a page that is handed out

-- how many bytes a page must have, so that every text of ours fits
abbrev pub page_size : ℕ
page_size = 65_536

-- what a page holds when the text was put into it; a page that is too small stays as it was
unfoldable pub page_with : List ℕ → List ℕ → List ℕ
page_with text page = cond (ltb (length page) page_size) page (text ++ drop (length text) page)

-- how many bytes of it are the text; of a page that is too small, none
unfoldable pub length_on : List ℕ → List ℕ → ℕ
length_on text page = cond (ltb (length page) page_size) 0 (length text)

-- the text stands at the start of the page, all behind it is as it was, and r is its length
pub record Printed (text before after : List ℕ) (r : ℕ) : Type 0 where
  pub page : after ≡ page_with text before
  pub size : r ≡ length_on text before
  -- it lies inside the page; both lines say so, for whoever lends the first r bytes
  pub fits : r ≤ length after
  pub counts : r ≡ length (take r after)

-- ---- a page that is handed out with a number

-- the number that goes with a text: that of the refusal that it says, 0 where it says none; of a page that is too small, 14
unfoldable pub number_on : ℕ → List ℕ → ℕ
number_on number page = cond (ltb (length page) page_size) buffer_too_short number

-- the text stands at the start of the page, and the answer has its length and its number
pub record Says (text : List ℕ) (refusal : ℕ) (before after : List ℕ) (r : Said) : Type 0 where
  pub printed : Printed text before after r.length
  pub number : r.number ≡ number_on refusal before

-- a text ends with `refused` and the number
pub record EndsRefused (text : List ℕ) (number : ℕ) : Type 0 where
  pub front : List ℕ
  pub whole : text ≡ front ++ refused_line number

-- a text and its number tell the same: it ends with `refused N` if the number N is not 0, and with no refusal if it is
pub record Tells (text : List ℕ) (number : ℕ) : Type 0 where
  pub refused : number ≢ 0 → EndsRefused text number
  pub accepted : number ≡ 0 → (other : ℕ) → ¬ EndsRefused text other
