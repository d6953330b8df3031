-- Plain programs: they use only numbers in registers, and their statements require no more than
-- that registers hold numbers. The verifier accepts each of them, however imprecise its domain.
use Rattle.std.specs.Prelude.{◌≡◌, ◌⊎◌, ℕ, ◌+◌, ◌≤◌, ◌<◌, Bool, nat_le, if◌then◌else◌, List, Some}
use Rattle.std.specs.Prelude.{None, slice_index_or}
use Rattle.std.specs.List.{AllByRecursion}
use Rattle.isa.specs.declared.code.Slot.{Slot}
use Rattle.isa.specs.declared.instruction.Instruction.{Instruction}
use Rattle.isa.specs.Flow.{BeginsAt, register_written, registers_read, slot_after}
use Rattle.object.specs.Numbers.{Numbers}
use Rattle.object.specs.Sets.{no_bytes}
use Rattle.object.specs.Statements.{StatementParts}
use Rattle.object.specs.declared.kind.StatedKind.{StatedKind}
use Rattle.object.specs.declared.kind.StatedKind.TheVariants as kinds
use Rattle.kinds.specs.Stated.{any_number}
use Rattle.verifier.specs.Lines.{IsConstant}
use Rattle.transfer.specs.Plain.{IsPlainInstruction}
use Rattle.verifier.specs.SegmentsPlain.{LeadsTo}
use Rattle.verifier.specs.Refusals.{IsOverBudget, IsWellMade, WritesFrame}
use Rattle.verifier.specs.SegmentsStated.{statement_at}

-- ---- statements

-- what is said of a register
abbrev pub said_of : StatementParts → ℕ → StatedKind
said_of s r = slice_index_or s.kinds r kinds.Unstated

-- it says of each register nothing, or that it is any number, and nothing of the stack; its rank is
-- a constant
pub record IsPlainStatement (s : StatementParts) : Type 0 where
  pub registers : (r : ℕ) → r < 10 → (said_of s r ≡ kinds.Unstated) ⊎ (said_of s r ≡ any_number)
  pub stack : s.stack ≡ no_bytes
  pub rank : IsConstant s.rank

-- one of r0 to r9 is stated as a number
pub record IsNumberIn (s : StatementParts) (r : ℕ) : Type 0 where
  pub low : r < 10
  pub numbers : Numbers
  pub says : said_of s r ≡ kinds.Number numbers

-- ---- filled registers

-- The register is filled at the slot: at a statement those that it states as numbers, elsewhere
-- those of the instruction before and the one that it wrote. At the entry none is.
pub data IsFilledAt (code : List Slot) (statements : List StatementParts) : ℕ → ℕ → Type 0 where
  is_stated : {slot r : ℕ} (s : StatementParts) → statement_at statements slot ≡ Some s
      → IsNumberIn s r → IsFilledAt code statements slot r
  stays : {slot r : ℕ} (before : ℕ) (i : Instruction) → statement_at statements slot ≡ None
      → BeginsAt i code before → slot_after before i ≡ slot → IsFilledAt code statements before r
      → IsFilledAt code statements slot r
  is_written : {slot r : ℕ} (before : ℕ) (i : Instruction) → statement_at statements slot ≡ None
      → BeginsAt i code before → slot_after before i ≡ slot → register_written i ≡ Some r
      → IsFilledAt code statements slot r

-- after the instruction at the slot the register is filled: it was before, or is written
abbrev pub IsFilledAfter : List Slot → List StatementParts → ℕ → Instruction → ℕ → Type 0
IsFilledAfter code statements slot i r =
    IsFilledAt code statements slot r ⊎ (register_written i ≡ Some r)

-- ---- ranks

-- The rank of the segment that the slot is in: the entry's, a statement's, or the one of the
-- instruction before.
pub data IsRankAt (code : List Slot) (entry_rank : ℕ) (statements : List StatementParts)
    : ℕ → ℕ → Type 0 where
  at_entry : {slot rank : ℕ} → statement_at statements slot ≡ None → slot ≡ 0 → rank ≡ entry_rank
      → IsRankAt code entry_rank statements slot rank
  at_statement : {slot rank : ℕ} (s : StatementParts) → statement_at statements slot ≡ Some s
      → rank ≡ s.rank.constant → IsRankAt code entry_rank statements slot rank
  goes_behind : {slot rank : ℕ} (before : ℕ) (i : Instruction)
      → statement_at statements slot ≡ None → BeginsAt i code before → slot_after before i ≡ slot
      → IsRankAt code entry_rank statements before rank
      → IsRankAt code entry_rank statements slot rank

-- the rank, plus 1 on a backward jump, is at most the other
abbrev pub Falls : Bool → ℕ → ℕ → Type 0
Falls back rank other = rank + (if back then 1 else 0) ≤ other

-- ---- edges

-- the instruction at the slot may lead to one that has a statement
pub record IsEdge (code : List Slot) (statements : List StatementParts) (slot : ℕ)
    (i : Instruction) (to : ℕ) (s : StatementParts) : Type 0 where
  pub at : BeginsAt i code slot
  pub leads : LeadsTo slot i to
  pub stated : statement_at statements to ≡ Some s

-- ---- programs

-- Only arithmetic, jumps, wide numbers and EXIT; plain statements; the program follows the rules on
-- jumps, statements, the code's end, the bound and r10. Each register that is read, and each that
-- an edge's target states as a number, is filled; and the target's rank is at most the segment's,
-- less on a backward jump.
pub record IsPlain (code : List Slot) (entry_rank : ℕ)
    (statements : List StatementParts) : Type 0 where
  pub instructions : (slot : ℕ) (i : Instruction) → BeginsAt i code slot → IsPlainInstruction i
  pub states : (slot : ℕ) (s : StatementParts) → statement_at statements slot ≡ Some s
      → IsPlainStatement s
  pub made : (slot : ℕ) → IsWellMade code statements slot
  pub budget : IsOverBudget code entry_rank 0 → ⊥
  pub frame : (slot : ℕ) → WritesFrame code slot → ⊥
  pub reads : (slot : ℕ) (i : Instruction) → BeginsAt i code slot
      → AllByRecursion (IsFilledAt code statements slot) (registers_read i)
  pub filled : (slot : ℕ) (i : Instruction) (to : ℕ) (s : StatementParts)
      → IsEdge code statements slot i to s
      → (r : ℕ) → IsNumberIn s r → IsFilledAfter code statements slot i r
  pub falls : (slot : ℕ) (i : Instruction) (to : ℕ) (s : StatementParts)
      → IsEdge code statements slot i to s
      → (rank : ℕ) → IsRankAt code entry_rank statements slot rank
      → Falls (nat_le to slot) s.rank.constant rank
  pub entry_filled : (s : StatementParts) → statement_at statements 0 ≡ Some s
      → (r : ℕ) → IsNumberIn s r → ⊥
  pub entry_falls : (s : StatementParts) → statement_at statements 0 ≡ Some s
      → s.rank.constant ≤ entry_rank
