-- The faults of a call are the machine's.
use Rattle.std.proofs.Common.{◌≡◌, ℤ, refl}
use Rattle.isa.specs.declared.instruction.Instruction.TheVariants.{Call}
use Rattle.machine.specs.declared.state.State.{State}
use Rattle.machine.specs.State.{Setting, held}
use Rattle.machine.specs.Helpers.{helper_of}
use Rattle.machine.specs.Faults.{commits, first_of, order_of}
use Rattle.helpers.specs.Calls.{fault_of_call}

pub first_of-call : (setting : Setting) (s : State) (number : ℤ)
    → first_of (commits setting s (Call number)) (order_of (Call number))
    ≡ fault_of_call (helper_of setting.hook number) (held s 1) (held s 2)
first_of-call setting s number = refl
