use Rattle.machine.proofs.Exclusive.{exclusive, exit_not_stuck, step_not_exit}
use Rattle.machine.proofs.laws.a_state_goes_one_way.Goals as goal

pub returns : goal.returns
returns c = record {
  step_or_stuck = exclusive;
  exit_or_stuck = exit_not_stuck;
  step_or_exit = step_not_exit;
}
