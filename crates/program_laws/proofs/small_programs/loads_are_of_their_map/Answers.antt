use Rattle.program_laws.proofs.RunLaws.{loads_of_its_map}
use Rattle.program_laws.proofs.small_programs.loads_are_of_their_map.Goals as goal

pub returns : goal.returns
returns c = loads_of_its_map
