-- The statuses that the program ends with, and what they stand for.
use Rattle.std.specs.Prelude.{ℕ}
use Rattle.clap.specs.Values.{kind_of}
use Rattle.clap.specs.declared.error.Error.{Error}
use Rattle.clap.specs.declared.error.ErrorKind.{ErrorKind}
use Rattle.clap.specs.declared.error.ErrorKind.TheVariants as kinds
use Rattle.simulated_networks.specs.declared.fault.NetworkError.{NetworkError}
use Rattle.simulated_networks.specs.declared.fault.NetworkError.TheVariants as networks
use Rattle.simulation.specs.declared.fault.SimulationError.{SimulationError}
use Rattle.simulation.specs.declared.fault.SimulationError.TheVariants as faults

-- help is what the user asked for
abbrev pub status_of_usage : ErrorKind → ℕ
status_of_usage kinds.DisplayHelp = 0
status_of_usage kinds.DisplayVersion = 0
status_of_usage other = 2

abbrev pub status_of : SimulationError → ℕ
status_of (faults.Usage error) = status_of_usage (kind_of error)
status_of faults.Times = 2
status_of faults.Output = 3
status_of faults.Memory = 4

-- What is told of words that ask for nothing that can be done: clap's own text, or want of memory.
abbrev pub fault_of_kind_of_words : ErrorKind → Error → SimulationError
fault_of_kind_of_words kinds.OutOfMemory error = faults.Memory
fault_of_kind_of_words other error = faults.Usage error

abbrev pub fault_of_words : Error → SimulationError
fault_of_words error = fault_of_kind_of_words (kind_of error) error

-- What is told if a network can't go on. Its destinations can always be announced, unless memory is
-- refused.
abbrev pub fault_of_network : NetworkError → SimulationError
fault_of_network networks.Configuration = faults.Times
fault_of_network other = faults.Memory
