-- The numbers of the header behind TTRT, by the tags of their fields on a sheet: what reading, writing, showing and composing go by. A header field more is an arm more in each definition.
use Rattle.std.specs.Prelude.{ℕ, cond, eqb}
use Rattle.fields.specs.Fields.{mode_tag, frame_tag}
use Rattle.fields.specs.Header.{absent}
use Rattle.sets.specs.declared.Head.{Head}

-- the header with TTRT alone: every other number is what its absence means
abbrev pub head_of : ℕ → Head
head_of ttrt = record { ttrt = ttrt; mode = absent; frame = absent; grid = absent }

-- the number that belongs to a tag: the mode, F or g
unfoldable pub head_number : Head → ℕ → ℕ
head_number h tag = cond (eqb tag mode_tag) h.mode (cond (eqb tag frame_tag) h.frame h.grid)

-- the header with another number for a tag
unfoldable pub with_head_number : Head → ℕ → ℕ → Head
with_head_number h tag number =
    cond (eqb tag mode_tag) (record { ttrt = h.ttrt; mode = number; frame = h.frame; grid = h.grid })
    (cond (eqb tag frame_tag) (record { ttrt = h.ttrt; mode = h.mode; frame = number; grid = h.grid })
    (record { ttrt = h.ttrt; mode = h.mode; frame = h.frame; grid = number }))
