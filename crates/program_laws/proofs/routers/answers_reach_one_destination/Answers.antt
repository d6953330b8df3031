use Rattle.program_laws.proofs.OneDestination.{answers_reach_one_destination}
use Rattle.program_laws.proofs.routers.answers_reach_one_destination.Goals as goal

pub returns : goal.returns
returns c = answers_reach_one_destination
