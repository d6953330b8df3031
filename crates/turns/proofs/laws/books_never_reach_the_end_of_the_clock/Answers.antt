use Rattle.turns.proofs.Clocks.{never_there}
use Rattle.turns.proofs.laws.books_never_reach_the_end_of_the_clock.Goals as goal

pub returns : goal.returns
returns c = never_there
