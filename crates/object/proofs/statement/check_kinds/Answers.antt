use Rattle.std.proofs.Common.{sym, subst}
use Rattle.std.proofs.lemmas.List.{take_all}
use Rattle.std.proofs.lemmas.List.Elements.{All-more, All-same}
use Rattle.object.specs.Statements.{IsKind}
use Rattle.object.proofs.statement.check_kinds.Goals as goal

pub loop-kind-preserved : goal.loop-kind-preserved
loop-kind-preserved c =
    All-more IsKind c.args.kinds.now c.loop-kind.kind-index c.kind-item.result c.loop-kind-test.true
    c.loop-kind.invariant (subst IsKind c.kind-item.is c.prove_ranges.ensures)

pub returns : goal.returns
returns c = All-same IsKind _ _ (sym
    (take_all c.loop-kind.kind-index c.args.kinds.now c.loop-kind-test.false)) c.loop-kind.invariant
