use Rattle.commands.proofs.PlacesLine.{names_change_nothing}
use Rattle.commands.proofs.laws.where_the_names_lie_changes_nothing.Goals as goal

pub returns : goal.returns
returns c = names_change_nothing
