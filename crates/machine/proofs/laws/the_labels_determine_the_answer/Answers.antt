use Rattle.machine.proofs.OneEnd.{ends_once}
use Rattle.machine.proofs.laws.the_labels_determine_the_answer.Goals as goal

pub returns : goal.returns
returns c = ends_once
