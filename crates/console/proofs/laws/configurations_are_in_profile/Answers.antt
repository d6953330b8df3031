use Rattle.console.proofs.Profile.{in_the_profile}
use Rattle.console.proofs.laws.configurations_are_in_profile.Goals as goal

pub returns : goal.returns
returns c = in_the_profile
