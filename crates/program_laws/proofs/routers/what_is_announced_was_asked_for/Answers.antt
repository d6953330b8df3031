use Rattle.program_laws.proofs.Announced.{what_is_announced_was_asked_for}
use Rattle.program_laws.proofs.routers.what_is_announced_was_asked_for.Goals as goal

pub returns : goal.returns
returns c = what_is_announced_was_asked_for
