use Rattle.std.proofs.Common.{List, refl, subst, string_bytes, arith}
use Rattle.std.proofs.lemmas.List.{take_all}
use Rattle.object.specs.Statements.{StatementParts}
use Rattle.asm.specs.Listed.{ListedAll}
use Rattle.asm.proofs.States.{none_listed, one_more_listed}
use Rattle.asm.proofs.Lines.{one_more_written, statements_written}
use Rattle.asm.proofs.writing.write_statements.Goals as goal

pub loop-statement-init : goal.loop-statement-init
loop-statement-init c = record {
  says = λ hook rank code are h. none_listed (string_bytes c.args.text.now) hook rank code h;
  text = refl;
}

pub loop-statement-preserved : goal.loop-statement-preserved
loop-statement-preserved c = record {
  says = λ hook rank code are h.
      one_more_listed (string_bytes c.loop-statement.text) (string_bytes c.write_statement.new.text)
      hook rank code c.args.statements.now c.loop-statement.statement-index
      c.statement-item.result
      (omega (arith, c.loop-statement-test.true)) c.statement-item.is are
      c.in_ok-write_statement.ensures.says
      (c.loop-statement.invariant.says hook rank code are h);
  text = one_more_written (string_bytes c.loop-statement.text)
      (string_bytes c.write_statement.new.text) _ c.args.statements.now
      c.loop-statement.statement-index c.statement-item.result
      (omega (arith, c.loop-statement-test.true)) c.statement-item.is
      c.in_ok-write_statement.ensures.text c.loop-statement.invariant.text;
}

pub returns-clause-says : goal.returns-clause-says
returns-clause-says c = λ hook rank code are h.
    subst (λ (ss : List StatementParts). ListedAll (string_bytes c.loop-statement.text) hook rank
    code ss) (take_all c.loop-statement.statement-index c.args.statements.now
    (omega (arith, c.loop-statement-test.false)))
    (c.loop-statement.invariant.says hook rank code are h)

pub returns-clause-text : goal.returns-clause-text
returns-clause-text c = statements_written (string_bytes c.loop-statement.text) _
    c.args.statements.now c.loop-statement.statement-index
    (omega (arith, c.loop-statement-test.false)) c.loop-statement.invariant.text
