use Rattle.std.proofs.Common.{◌≡◌, ◌++◌, take}
use Rattle.std.specs.List.{flat_map}
use Rattle.object.specs.Spelling.{statement_text}
use Rattle.object.proofs.writing.put_statements.Given as goal

abbrev pub invariant-loop-statement : goal.invariant-loop-statement
invariant-loop-statement l = l.out.items ≡ l.fn.out.items
    ++ flat_map statement_text (take l.statement-index l.statements)
