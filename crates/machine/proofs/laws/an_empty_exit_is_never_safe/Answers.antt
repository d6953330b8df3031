use Rattle.std.proofs.Common.{refl, []}
use Rattle.machine.specs.declared.fault.Fault.TheVariants.{Empty}
use Rattle.machine.specs.Given.{blank}
use Rattle.machine.specs.State.{start}
use Rattle.machine.proofs.laws.an_empty_exit_is_never_safe.Goals as goal

pub returns : goal.returns
returns c = λ hook n safe. (safe blank 0 [] start (record {
  steps = refl;
  leads = refl;
})).1 Empty refl
