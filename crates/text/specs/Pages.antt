-- Text put into a page behind what was put before, as a page's methods do it.
use Rattle.std.specs.Prelude.{ℕ, ◌+◌, ◌≤◌, ◌≡◌, List, length}
use Rattle.text.specs.Text.{PutShort, PutWithin}
use Rattle.text.specs.declared.Page.{Page}

-- it has room for so many bytes more
abbrev pub HasRoom : ℕ → Page → Type 0
HasRoom most page = page.at + most ≤ length page.bytes.now

-- a page of these bytes, into which nothing was put
pub record Begins (bytes : List ℕ) (page : Page) : Type 0 where
  pub now : page.bytes.now ≡ bytes
  pub at : page.at ≡ 0

-- the segment was put behind what was put before, and has at most so many bytes
pub record Puts (most : ℕ) (before : Page) (segment : List ℕ) (after : Page) : Type 0 where
  pub put : PutShort most before.bytes.now before.at segment after.bytes.now after.at
  -- the page is as long as it was, and is the one that was lent
  pub size : length after.bytes.now ≡ length before.bytes.now
  pub same : after.bytes.ghost_name ≡ before.bytes.ghost_name

-- the same, if the segment has at most so many bytes and the page has room for as many; else the page is as it was
pub record PutsWithin (most : ℕ) (before : Page) (segment : List ℕ) (after : Page) : Type 0 where
  pub within : PutWithin most before.bytes.now before.at segment after.bytes.now after.at
  pub size : length after.bytes.now ≡ length before.bytes.now
  pub same : after.bytes.ghost_name ≡ before.bytes.ghost_name
