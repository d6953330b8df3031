use Rattle.invariants.proofs.Always.{lists_are_sound as all_sound}
use Rattle.invariants.proofs.laws.lists_are_sound.Goals as goal

pub returns : goal.returns
returns c = all_sound
