use Rattle.program_laws.proofs.Unheard.{vetoes_are_never_heard}
use Rattle.program_laws.proofs.routers.vetoes_are_never_heard.Goals as goal

pub returns : goal.returns
returns c = vetoes_are_never_heard
