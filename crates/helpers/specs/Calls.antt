-- When a call is refused, given what r1 and r2 hold.
use Rattle.std.specs.Prelude.{is_none, List, Option, Some, None, if◌then◌else◌}
use Rattle.machine.specs.declared.fault.Fault.{Fault}
use Rattle.machine.specs.declared.fault.Fault.TheVariants as faults
use Rattle.machine.specs.declared.helper.Helper.{Helper}
use Rattle.machine.specs.declared.state.Content.{Content}
use Rattle.machine.specs.Faults.{has, is_nothing, is_address, helper_reads, passes_too_much}

-- The first fault of a call of this helper, if there is one, in the machine's order: no such
-- helper, an empty argument, a pointer, a number that is too large.
abbrev pub fault_of_call : Option Helper → Content → Content → Option Fault
fault_of_call helper first second =
    if is_none helper then Some faults.Helper else
    if has is_nothing (helper_reads helper first second) then Some faults.Empty else
    if has is_address (helper_reads helper first second) then Some faults.Kind else
    if passes_too_much helper first second then Some faults.Argument else None

-- the first fault of arguments that have to be numbers
abbrev pub fault_of_arguments : List Content → Option Fault
fault_of_arguments contents = if has is_nothing contents then Some faults.Empty
    else if has is_address contents then Some faults.Kind else None
