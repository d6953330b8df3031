use Rattle.program_laws.proofs.Inside.{never_left}
use Rattle.program_laws.proofs.counted.code_that_stays_inside_is_never_left.Goals as goal

pub returns : goal.returns
returns c = never_left c.runs_of_counted_code_are_runs.ensures c.the_least_fault_counts.ensures
    c.a_step_leads_behind_or_to_the_target.ensures
