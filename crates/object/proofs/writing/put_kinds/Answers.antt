use Rattle.std.proofs.Common.{sym}
use Rattle.object.specs.Spelling.{kind_text}
use Rattle.object.proofs.Texts.{one_more_put}
use Rattle.object.proofs.writing.put_kinds.Goals as goal

pub loop-kind-preserved : goal.loop-kind-preserved
loop-kind-preserved c =
    one_more_put kind_text c.args.kinds.now c.loop-kind.kind-index c.args.out.now.items
    c.loop-kind.out.items c.put_kind.new.out.items c.kind-item.result c.kind-item.result
    c.loop-kind-test.true (sym c.kind-item.is) c.loop-kind.invariant c.in_ok-put_kind.ensures
