use Rattle.program_laws.proofs.Vetoes.{vetoes_are_not_heard}
use Rattle.program_laws.proofs.routers.vetoes_are_not_heard.Goals as goal

pub returns : goal.returns
returns c = vetoes_are_not_heard
