use Rattle.std.proofs.Common.{take}
use Rattle.std.specs.List.{All}
use Rattle.object.specs.Statements.{IsKind}
use Rattle.object.proofs.statement.check_kinds.Given as goal

abbrev pub invariant-loop-kind : goal.invariant-loop-kind
invariant-loop-kind l = All IsKind (take l.kind-index l.kinds)
