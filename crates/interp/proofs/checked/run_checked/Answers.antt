use Rattle.interp.proofs.Runs.{outcome_of}
use Rattle.interp.proofs.checked.run_checked.Goals as goal

pub returns-clause-outcome : goal.returns-clause-outcome
returns-clause-outcome c = rw c.slots.ensures.value at
    (outcome_of _ _ _ _ _ _ c.run_steps.ensures.halts)
