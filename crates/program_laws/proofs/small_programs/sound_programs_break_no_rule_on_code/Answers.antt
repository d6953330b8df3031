use Rattle.program_laws.proofs.RefusalLaws.{named_of_sound}
use Rattle.program_laws.proofs.small_programs.sound_programs_break_no_rule_on_code.Goals as goal

pub returns : goal.returns
returns c = named_of_sound
