-- What the small functions need of the bytes, and how far a walk over the versions came.
use Rattle.std.specs.Prelude.{ℕ, ◌+◌, ◌≤◌, ◌≡◌, true, List, length}
use Rattle.versions.specs.Area.{place_of, kept_at, leading, before_in, count_in, end_in, is_store}
use Rattle.versions.specs.Answers.{with_room, next_place}
use Rattle.versions.specs.declared.VersionsWalked.{VersionsWalked}

-- the walk over the first k places of versions: how many of them stand, and the place behind these
abbrev pub walked_to : List ℕ → ℕ → VersionsWalked
walked_to bs k = record { count = leading k (kept_at bs); at = place_of bs (leading k (kept_at bs)) }

-- what one turn of the walk needs: the turns before it
pub record TurnOf (bs : List ℕ) (before : ℕ) (w : VersionsWalked) (k : ℕ) : Type 0 where
  pub begun : before ≡ before_in bs
  pub few : k ≤ 15
  pub so_far : w ≡ walked_to bs k

-- the count and the end of a store
pub record StoreHolds (bs : List ℕ) (count end : ℕ) : Type 0 where
  pub store : is_store bs ≡ true
  pub counted : count ≡ count_in bs
  pub ended : end ≡ end_in bs

-- the area with room for one more version, and its place
pub record RoomMade (before after : List ℕ) (r : ℕ) : Type 0 where
  pub place : r ≡ next_place before
  pub area : after ≡ with_room before

-- bytes that move down inside an area
pub record MovesDown (bs : List ℕ) (by end : ℕ) : Type 0 where
  pub order : by ≤ end
  pub inside : end + 3 ≤ length bs

-- a version with this sheet and the end behind it fit
pub record VersionRoom (bs : List ℕ) (a : ℕ) (sheet : List ℕ) : Type 0 where
  pub short : length sheet ≤ 3_356
  pub inside : a + 10 + length sheet ≤ length bs
