use Rattle.std.proofs.Common.{sym}
use Rattle.object.specs.Spelling.{statement_text}
use Rattle.object.proofs.Texts.{one_more_put}
use Rattle.object.proofs.writing.put_statements.Goals as goal

pub loop-statement-preserved : goal.loop-statement-preserved
loop-statement-preserved c =
    one_more_put statement_text c.args.statements.now c.loop-statement.statement-index
    c.args.out.now.items c.loop-statement.out.items c.put_statement.new.out.items
    c.statement-item.result c.statement-item.result
    c.loop-statement-test.true (sym c.statement-item.is) c.loop-statement.invariant
    c.in_ok-put_statement.ensures
