use Rattle.verifier.proofs.Examples.{calls, reads_empty, writes_r10, is_open, is_long}
use Rattle.verifier.proofs.Examples.{jumps_unstated, is_unreached}
use Rattle.verifier.proofs.laws.these_codes_are_not_plain.Goals as goal

pub returns-clause-call : goal.returns-clause-call
returns-clause-call c = calls

pub returns-clause-empty : goal.returns-clause-empty
returns-clause-empty c = reads_empty

pub returns-clause-frame : goal.returns-clause-frame
returns-clause-frame c = writes_r10

pub returns-clause-ends : goal.returns-clause-ends
returns-clause-ends c = is_open

pub returns-clause-budget : goal.returns-clause-budget
returns-clause-budget c = is_long

pub returns-clause-unstated : goal.returns-clause-unstated
returns-clause-unstated c = jumps_unstated

pub returns-clause-unreached : goal.returns-clause-unreached
returns-clause-unreached c = is_unreached
