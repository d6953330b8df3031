-- What a list of operations leaves at a hook, and how that answers an input.
use Rattle.std.specs.Prelude.{◌≡◌, ℕ, ◌≤◌, ◌==◌, if◌then◌else◌, List, [], fold, Option, Some, None}
use Rattle.std.specs.Prelude.{MatchOption, slice_range}
use Rattle.isa.specs.declared.code.Slot.{Slot}
use Rattle.isa.specs.declared.hook.Hook.{Hook}
use Rattle.isa.specs.declared.hook.Hook.TheVariants.{Count, Tag, Price, Veto}
use Rattle.isa.specs.Hooks.{hook_number}
use Rattle.machine.specs.Given.{Given}
use Rattle.machine.specs.Input.{IsOfHook}
use Rattle.machine.specs.Label.{Label}
use Rattle.machine.specs.Memory.{number_of}
use Rattle.machine.specs.State.{setting_of}
use Rattle.machine.specs.Runs.{Ends}
use Rattle.machine.specs.declared.regions.Region.{Region}
use Rattle.verifier.specs.Programs as verifier
use Rattle.hooks.specs.declared.operation.LoaderOperation.{LoaderOperation}
use Rattle.hooks.specs.declared.operation.LoaderOperation.TheVariants.{Attach, Detach}

-- A program of the verifier's, without its capacities: the code, the hook that it is for, a number
-- of instructions within which every run ends, and for each slot the region that a load or store
-- there accesses.
pub record Program : Type 0 where
  pub code : List Slot
  pub hook : Hook
  pub bound : ℕ
  pub regions : List Region

-- the program, whatever its capacity
abbrev pub program_of : verifier.Program → Program
program_of p = record { code = p.code; hook = p.hook; bound = p.bound; regions = p.regions }

-- its slots are code, and each run of it is safe and ends within the bound, as of every
-- `Accepted`; nothing is said of a call of `verify`
abbrev pub IsSafeProgram : Program → Type 0
IsSafeProgram p =
    verifier.IsSafeProgram (record {
      code = p.code;
      hook = p.hook;
      bound = p.bound;
      regions = p.regions;
      room = 0;
      region_room = 0;
    })

abbrev pub hook_of : LoaderOperation → Hook
hook_of (Attach accepted) = accepted.hook
hook_of (Detach hook) = hook

-- what an operation leaves at its own hook
abbrev pub outcome_of : LoaderOperation → Option Program
outcome_of (Attach accepted) = Some (program_of accepted)
outcome_of (Detach hook) = None

-- what is attached at the hook after one more operation
abbrev pub after : Hook → Option Program → LoaderOperation → Option Program
after hook before operation =
    if hook_number (hook_of operation) == hook_number hook then outcome_of operation else before

-- the program that these operations, from the first one on, leave at the hook
abbrev pub leaves : Hook → List LoaderOperation → Option Program
leaves hook operations = fold (after hook) None operations

-- the answer of a hook without a program: the configured tag or metric of the context, or 0
abbrev pub default_of : Hook → Given → ℕ
default_of Count input = 0
default_of Tag input = number_of (slice_range input.context 16 20)
default_of Price input = number_of (slice_range input.context 12 16)
default_of Veto input = 0

-- the word of a run, with these labels, of a safe program at its hook
pub record RunsTo (program : Program) (input : Given) (labels : List Label)
    (word : ℕ) : Type 0 where
  pub safe : IsSafeProgram program
  pub used : ℕ
  pub within : used ≤ program.bound
  pub ends : Ends (setting_of program.code program.hook input) used labels word

-- The word of a run, with these labels, of the program that the operations leave at the input's
-- hook; or the default, if and only if they leave none there.
abbrev pub OperationsAnswer : List LoaderOperation → Given → List Label → ℕ → Type 0
OperationsAnswer operations input labels word =
    (hook : Hook) × IsOfHook hook input
    × MatchOption (leaves hook operations)
    ((labels ≡ []) × (word ≡ default_of hook input))
    (λ program. RunsTo program input labels word)

-- the input belongs to some hook: its first four bytes are a hook's number
abbrev pub HasHookNumber : Given → Type 0
HasHookNumber input =
    (1 ≤ number_of (slice_range input.context 0 4))
    × (number_of (slice_range input.context 0 4) ≤ 4)
