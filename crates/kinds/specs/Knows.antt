-- What is known whenever a state holds, and what remains known.
use Rattle.std.specs.Prelude.{◌≡◌, ◌+◌, ◌≤◌, ◌<◌, ℕ, List, length, slice_set, Option}
use Rattle.isa.specs.Arithmetic.{operate, low}
use Rattle.isa.specs.declared.instruction.Width.TheVariants.{Bits64}
use Rattle.isa.specs.declared.instruction.Operation.TheVariants.{Add, Subtract}
use Rattle.machine.specs.declared.state.Content.{Content}
use Rattle.machine.specs.declared.state.Content.TheVariants as contents
use Rattle.machine.specs.declared.state.StackByte.{StackByte}
use Rattle.machine.specs.declared.state.State.{State as Machine}
use Rattle.machine.specs.Memory.{overwritten_stack}
use Rattle.kinds.specs.declared.state.Kind.{Kind}
use Rattle.kinds.specs.declared.state.StackEntry.{StackEntry}
use Rattle.kinds.specs.declared.state.Fact.{Fact}
use Rattle.kinds.specs.declared.state.AbstractState.{AbstractState}
use Rattle.kinds.specs.Meaning.{KindHolds, FactHolds, EntryHolds, StackHolds, StateHolds}

-- what is read from each machine that the state describes is of the kind
abbrev pub KnowsKind : {D : Type 0} → (D → ℕ → Type 0) → AbstractState D → (Machine → Content)
    → Kind D → Type 0
KnowsKind contains state read kind =
    (start now : Machine) → StateHolds contains state start now → KindHolds contains kind (read now)

-- and it relates to the start of the segment as the fact says
abbrev pub KnowsFact : {D : Type 0} → (D → ℕ → Type 0) → AbstractState D → (Machine → Content)
    → Option Fact → Type 0
KnowsFact contains state read fact =
    (start now : Machine) → StateHolds contains state start now → FactHolds fact start (read now)

-- once the register is filled with a content of the kind, at whatever slot, the other state
-- describes the machine
abbrev pub KnowsFilled : {D : Type 0} → (D → ℕ → Type 0) → AbstractState D → ℕ → Kind D
    → Option Fact → AbstractState D → Type 0
KnowsFilled contains state target kind fact after =
    (start now : Machine) (content : Content) (slot : ℕ)
    → StateHolds contains state start now
    → KindHolds contains kind content → FactHolds fact start content
    → StateHolds contains after start
    (record now { slot = slot; registers = slice_set now.registers target content })

-- sums and differences of 64 bits
abbrev pub plus : ℕ → ℕ → ℕ
plus amount y = operate Bits64 Add (low Bits64 y) (low Bits64 amount)

abbrev pub minus : ℕ → ℕ → ℕ
minus amount y = operate Bits64 Subtract (low Bits64 y) (low Bits64 amount)

-- if the fact is of one of the value's numbers, the other fact is of what that number becomes
abbrev pub MovesFact : {D : Type 0} → (D → ℕ → Type 0) → D → (ℕ → ℕ) → Option Fact → Option Fact
    → Type 0
MovesFact contains value becomes fact after =
    (start : Machine) (y : ℕ) → contains value y
    → FactHolds fact start (contents.Number y) → FactHolds after start (contents.Number (becomes y))

-- `inside` holds of each of the new bytes from start to end
abbrev pub PutsInside : {D : Type 0} → (D → ℕ → Type 0) → StackEntry D → ℕ → ℕ
    → List StackByte → List StackByte → Type 0
PutsInside contains inside start end old bytes =
    (at : ℕ) → start ≤ at → at < end
    → EntryHolds contains inside (overwritten_stack old start bytes) at

-- after the bytes from start to end are overwritten by bytes of which `inside` is known, the
-- entries hold
abbrev pub KnowsOverwritten : {D : Type 0} → (D → ℕ → Type 0) → List (StackEntry D) → ℕ → ℕ
    → StackEntry D → List (StackEntry D) → Type 0
KnowsOverwritten contains entries start end inside after =
    (old bytes : List StackByte) → StackHolds contains entries old
    → start + length bytes ≡ end → end ≤ length old
    → PutsInside contains inside start end old bytes
    → StackHolds contains after (overwritten_stack old start bytes)

-- the same for the entry at one byte
abbrev pub KnowsEntryOverwritten : {D : Type 0} → (D → ℕ → Type 0) → StackEntry D → ℕ → ℕ → ℕ
    → StackEntry D → StackEntry D → Type 0
KnowsEntryOverwritten contains entry at start end inside after =
    (old bytes : List StackByte) → EntryHolds contains entry old at
    → start + length bytes ≡ end → end ≤ length old
    → (start ≤ at → at < end → EntryHolds contains inside (overwritten_stack old start bytes) at)
    → EntryHolds contains after (overwritten_stack old start bytes) at
