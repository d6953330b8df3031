use Rattle.route_laws.proofs.TableLaws.{not_stale}
use Rattle.route_laws.proofs.answers_to_all_are_not_stale.Goals as goal

pub returns : goal.returns
returns c = not_stale
