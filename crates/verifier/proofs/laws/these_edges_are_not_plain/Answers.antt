use Rattle.verifier.proofs.Examples.{asks_unfilled, asks_at_entry, rises, rises_at_entry}
use Rattle.verifier.proofs.Examples.{stays_equal}
use Rattle.verifier.proofs.laws.these_edges_are_not_plain.Goals as goal

pub returns-clause-unfilled : goal.returns-clause-unfilled
returns-clause-unfilled c = asks_unfilled

pub returns-clause-entry_unfilled : goal.returns-clause-entry_unfilled
returns-clause-entry_unfilled c = asks_at_entry

pub returns-clause-rises : goal.returns-clause-rises
returns-clause-rises c = rises

pub returns-clause-entry_rises : goal.returns-clause-entry_rises
returns-clause-entry_rises c = rises_at_entry

pub returns-clause-stays : goal.returns-clause-stays
returns-clause-stays c = stays_equal
