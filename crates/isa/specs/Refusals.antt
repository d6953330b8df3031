-- Why bytes aren't code, and at which slot. At one slot the refusals come in this order: opcode,
-- register, reserved, half of a wide instruction.
use Rattle.std.specs.Prelude.{◌≡◌, ◌≢◌, ℕ, ◌≤◌, ◌<◌, ◌/◌, ◌%◌, ◌⊎◌, List, ◌++◌, length, take}
use Rattle.std.specs.Prelude.{slice_index, IsTrue}
use Rattle.isa.specs.declared.decoding.DecodeFault.{DecodeFault}
use Rattle.isa.specs.declared.decoding.DecodeFault.TheVariants as faults
use Rattle.isa.specs.declared.instruction.Instruction.{Instruction}
use Rattle.isa.specs.Code.{IsInstruction, is_wide}
use Rattle.isa.specs.Spelling.{fields_of, bytes_of_fields, bytes_of, SpellsSlots, Spells}
use Rattle.isa.specs.declared.code.Slot.{Slot}

-- the numbers that users see
abbrev pub fault_number : DecodeFault → ℕ
fault_number faults.Length = 1
fault_number faults.Opcode = 2
fault_number faults.Register = 3
fault_number faults.Reserved = 4
fault_number faults.HalfWide = 5
fault_number faults.TooLong = 6
fault_number faults.Memory = 7

-- Some instruction has the opcode.
abbrev pub IsListed : ℕ → Type 0
IsListed opcode = (i : Instruction) × ((fields_of i).opcode ≡ opcode)

-- Both registers of the first slot are among r0 to r10.
abbrev pub HasRegisters : List ℕ → Type 0
HasRegisters bytes = (slice_index bytes 1 % 16 ≤ 10) × (slice_index bytes 1 / 16 ≤ 10)

-- The first eight bytes are the first slot of the instruction.
abbrev pub Begins : Instruction → List ℕ → Type 0
Begins i bytes = IsInstruction i × (bytes_of_fields (fields_of i) ≡ take 8 bytes)

-- The bytes begin with the whole instruction.
abbrev pub BeginsWhole : Instruction → List ℕ → Type 0
BeginsWhole i bytes = IsInstruction i × (bytes_of i ≡ take (length (bytes_of i)) bytes)

abbrev pub Fails : List ℕ → DecodeFault → Type 0
-- no instruction has the opcode
Fails bytes faults.Opcode = (i : Instruction) → (fields_of i).opcode ≢ slice_index bytes 0
-- the opcode is listed, and a register field is above 10
Fails bytes faults.Register =
    IsListed (slice_index bytes 0)
    × ((10 < slice_index bytes 1 % 16) ⊎ (10 < slice_index bytes 1 / 16))
-- opcode and registers are valid, and another field isn't: of the first slot, or of the second, if
-- there is one
Fails bytes faults.Reserved =
    IsListed (slice_index bytes 0) × HasRegisters bytes
    × (((i : Instruction) → Begins i bytes → ⊥)
    ⊎ ((16 ≤ length bytes) × ((i : Instruction) → BeginsWhole i bytes → ⊥)))
-- the first slot of a wide instruction is valid, and there is no second one
Fails bytes faults.HalfWide = (length bytes < 16)
    × ((i : Instruction) × IsTrue (is_wide i) × Begins i bytes)
Fails bytes other = ⊥

-- From 1 to 4096 whole slots.
pub record AreSlots (bytes : List ℕ) : Type 0 where
  pub whole : length bytes % 8 ≡ 0
  pub some : 1 ≤ length bytes / 8
  pub most : length bytes / 8 ≤ 4096

-- The slots before this one are spelled, and some bytes follow, which begin with no instruction.
pub record FailsAt (bytes : List ℕ) (slot : ℕ) (fault : DecodeFault) : Type 0 where
  pub front : List ℕ
  pub rest : List ℕ
  pub slots : List Slot
  pub parts : bytes ≡ front ++ rest
  pub spelled : SpellsSlots front slots
  pub here : length slots ≡ slot
  pub some : 1 ≤ length rest
  pub fails : Fails rest fault

-- Why bytes aren't code, and at which slot. `Memory` is reported only for bytes that spell code.
abbrev pub Refuses : List ℕ → ℕ → DecodeFault → Type 0
Refuses bytes slot faults.Length = (slot ≡ 0) × ((length bytes ≡ 0) ⊎ (length bytes % 8 ≢ 0))
Refuses bytes slot faults.TooLong = (slot ≡ 0) × (length bytes % 8 ≡ 0) × (4096 < length bytes / 8)
Refuses bytes slot faults.Memory = (slot ≡ 0) × ((code : List Slot) × Spells bytes code)
Refuses bytes slot fault = AreSlots bytes × FailsAt bytes slot fault
