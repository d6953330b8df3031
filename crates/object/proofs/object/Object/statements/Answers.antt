use Rattle.std.proofs.Common.{arith}
use Rattle.std.proofs.lemmas.Grind.{common_steps}
use Rattle.object.proofs.Orders.{few_statements}
use Rattle.object.proofs.object.Object.statements.Goals as goal

pub returns-clause-most : goal.returns-clause-most
returns-clause-most c = let few = few_statements _ c.self.invariant in grind (arith, common_steps)
