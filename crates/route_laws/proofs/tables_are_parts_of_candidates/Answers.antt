use Rattle.route_laws.proofs.TableLaws.{parts}
use Rattle.route_laws.proofs.tables_are_parts_of_candidates.Goals as goal

pub returns : goal.returns
returns c = parts
