use Rattle.route_laws.proofs.TableLaws.{tables}
use Rattle.route_laws.proofs.tables_are_determined.Goals as goal

pub returns : goal.returns
returns c = tables
