use Rattle.std.proofs.Common.{ap, ◌∙◌, ◌++◌}
use Rattle.std.specs.List.{flat_map}
use Rattle.object.specs.Spelling.{statement_text}
use Rattle.object.proofs.Whole.{written}
use Rattle.object.proofs.writing.write.Goals as goal

pub returns : goal.returns
returns c =
    written c.args.object.now _ _ _ c.statements.ensures.is_object c.in_ok-out.ensures.items
    c.in_ok-put_front.ensures
    (c.in_ok-put_statements.ensures ∙ ap
    (λ t. c.put_front.new.out.items ++ flat_map statement_text t) c.statements-2.ensures.value)
