use Rattle.annotations.specs.Annotated.{IsAnnotated}
use Rattle.annotations.proofs.trimming.trim.Given as goal

abbrev pub invariant-loop-place : goal.invariant-loop-place
invariant-loop-place l = IsAnnotated l.task.hook l.task.bytes.now l.annotated.object
    l.annotated.bytes.items l.annotated.accepted
