use Rattle.verifier.proofs.SegmentStarts.{pushed_default}
use Rattle.verifier.proofs.Entries.{entry_holds}
use Rattle.kinds.specs.declared.state.Kind.TheVariants.{Unknown}
use Rattle.std.proofs.Common.{◌∙◌}
use Rattle.verifier.proofs.entry.entry_of.Goals as goal

pub loop-register-preserved : goal.loop-register-preserved
loop-register-preserved g c = λ r. rw c.in_ok-push-3.ensures.items
    (pushed_default c.loop-register.kinds.items Unknown r ∙ c.loop-register.invariant r)

pub returns-clause-holds : goal.returns-clause-holds
returns-clause-holds g c = entry_holds g.D.Domain.contains _ c.requires c.loop-register.invariant
