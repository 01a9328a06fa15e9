-- `tally_visit` is right because it changes the numbers in the definition's order.
use Rattle.tallies.proofs.SeenLaws.{visit_counted}
use Rattle.tallies.proofs.tally_visit.Goals as goal

pub returns : goal.returns
returns c =
    visit_counted _ _ _ _ _ c.gap_of-gap.ensures c.raise_at.ensures c.add_at.ensures c.switch_of.ensures c.add_at-2.ensures c.from-sent.ensures c.raise_at-2.ensures c.add_at-3.ensures c.from.ensures c.add_at-4.ensures
