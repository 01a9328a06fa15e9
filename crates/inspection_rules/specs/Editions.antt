-- An inspection goes by the edition of timely-token: there is a run of each edition that the other's steps do not allow.
use Rattle.std.specs.Prelude.{ℕ, ◌≡◌}
use Rattle.units.specs.Numbers.{timely, earlier}
use Rattle.promises.specs.Witness.{pair_of, shares, completed}
use Rattle.log_rules.specs.Recorded.{entries_of}
use Rattle.inspection.specs.Records.{inspection_of}
use Rattle.inspection.specs.declared.Inspection.{Inspection}

-- the set of `promises/specs/Witness.antt`, TTRT 100, S 15 and 0: a message of 30, and three visits that ask for 1,000 ticks. The records of the run of this mode, by the steps of the other
abbrev pub across : ℕ → ℕ → Inspection
across mode other = inspection_of (pair_of other) shares (entries_of 0 (pair_of mode) shares completed)

pub record Editions : Type 0 where
  -- both send 15 and 83 at the first visit. At station 0's second one the 2002 edition offers 83 again, as the 83 of before are not in its timer; the 2003 edition offers 0
  pub earlier_by_timely : ((across earlier timely).records ≡ 2) × ((across earlier timely).rule ≡ 3)
  pub timely_by_earlier : ((across timely earlier).records ≡ 2) × ((across timely earlier).rule ≡ 3)
  -- by its own steps each is accepted
  pub own_earlier : ((across earlier earlier).records ≡ 3) × ((across earlier earlier).rule ≡ 0)
  pub own_timely : ((across timely timely).records ≡ 3) × ((across timely timely).rule ≡ 0)
