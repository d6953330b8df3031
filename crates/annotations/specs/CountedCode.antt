-- Code whose turns are counted: a register that the code doesn't name falls with each jump back to
-- one of some heads, and when it comes to 0 the program answers a fixed number.
use Rattle.std.specs.Prelude.{◌≡◌, ℕ, ◌+◌, ◌*◌, ◌<◌, ◌≤◌, pos, negsuc, ℤ, ◌-ℤ◌, ◌==◌, nat_le, ◌||◌}
use Rattle.std.specs.Prelude.{Bool}
use Rattle.std.specs.Prelude.{false, min}
use Rattle.std.specs.Prelude.{List, [], ◌∷◌, ◌++◌, length, position, Option, Some, None}
use Rattle.std.specs.Prelude.{if◌then◌else◌, IfSome, true}
use Rattle.isa.specs.declared.instruction.Instruction.{Instruction}
use Rattle.isa.specs.declared.instruction.Instruction.TheVariants as instructions
use Rattle.isa.specs.declared.instruction.Operation.{Operation}
use Rattle.isa.specs.declared.instruction.Operation.TheVariants as operations
use Rattle.isa.specs.declared.instruction.Source.{Source}
use Rattle.isa.specs.declared.instruction.Source.TheVariants as sources
use Rattle.isa.specs.declared.instruction.Test.TheVariants as tests
use Rattle.isa.specs.declared.instruction.Width.TheVariants as widths
use Rattle.isa.specs.declared.hook.Hook.{Hook}
use Rattle.isa.specs.declared.hook.Hook.TheVariants as hooks
use Rattle.isa.specs.declared.code.Slot.{Slot}
use Rattle.isa.specs.declared.code.Slot.TheVariants.{Start, SecondHalf}
use Rattle.isa.specs.Code.{slots_of}
use Rattle.isa.specs.Flow.{jump_target, size, Begins, BeginsAt}
use Rattle.verifier.specs.Places.{falls_through}
use Rattle.annotations.specs.declared.count_error.CountError.{CountError}
use Rattle.annotations.specs.declared.count_error.CountError.TheVariants as errors

-- ---- a register that the code doesn't name

abbrev pub is_operand : ℕ → Source → Bool
is_operand register (sources.Immediate number) = false
is_operand register (sources.Register other) = other == register

-- Whether the instruction names the register. A call names none: it empties r0 to r5 alone.
abbrev pub names : ℕ → Instruction → Bool
names register (instructions.Arithmetic width operation target source) =
    (target == register) || is_operand register source
names register (instructions.Negate width target) = target == register
names register (instructions.SignExtend extension target source) =
    (target == register) || (source == register)
names register (instructions.Reorder order width target) = target == register
names register (instructions.Branch width test left right distance) =
    (left == register) || is_operand register right
names register (instructions.Load size target base offset) =
    (target == register) || (base == register)
names register (instructions.Store size base offset source) =
    (base == register) || is_operand register source
names register (instructions.LoadNumber target number) = target == register
names register (instructions.LoadMap target map offset) = target == register
names register other = false

abbrev pub IsUnnamed : List Slot → ℕ → Type 0
IsUnnamed code register = (slot : ℕ) (i : Instruction) → BeginsAt i code slot
    → names register i ≡ false

-- ---- code that stays inside of itself

-- the instruction leads to others of the code: the one behind it, if it goes on, and the one that
-- it jumps to, if it jumps
abbrev pub LeadsInside : List Slot → ℕ → Instruction → Type 0
LeadsInside code slot i = (falls_through i ≡ true → Begins code (slot + size i))
    × IfSome (jump_target slot i) (Begins code)

abbrev pub StaysInside : List Slot → Type 0
StaysInside code = (slot : ℕ) (i : Instruction) → BeginsAt i code slot → LeadsInside code slot i

-- ---- the code, one slot later

-- A jump's distance counts from the slot after it (RFC 9669, 4.3).
abbrev pub distance_between : ℕ → ℕ → ℤ
distance_between from to = pos to -ℤ pos (from + 1)

-- the jump, to elsewhere
abbrev pub with_distance : Instruction → ℤ → Instruction
with_distance (instructions.Jump old) new = instructions.Jump new
with_distance (instructions.LongJump old) new = instructions.Jump new
with_distance (instructions.Branch width test left right old) new =
    instructions.Branch width test left right new
with_distance other new = other

-- the place among the heads of the one that a jump at this slot goes back to
abbrev pub place_of : List ℕ → ℕ → Option ℕ → Option ℕ
place_of heads slot None = None
place_of heads slot (Some to) =
    (if nat_le to slot then position (λ head. head == to) heads else None)

-- where the turns of the loop in this place are counted: four slots for each, behind the code
abbrev pub detour_at : ℕ → ℕ → ℕ
detour_at slots place = slots + 1 + 4 * place

-- how far it is from this slot to the detour
abbrev pub distance_of : ℕ → ℕ → Option ℕ → Option ℤ
distance_of slots slot None = None
distance_of slots slot (Some place) = Some (distance_between (slot + 1) (detour_at slots place))

-- the instruction, to this distance if there is one
abbrev pub with_distance_if_given : Instruction → Option ℤ → Instruction
with_distance_if_given i None = i
with_distance_if_given i (Some distance) = with_distance i distance

-- An instruction with its second half, if it has one; where that stands, there is nothing more. A
-- jump back to a head goes to the head's detour instead.
abbrev pub slots_at : ℕ → List ℕ → ℕ → Slot → List Slot
slots_at slots heads slot (Start i) =
    slots_of
    (with_distance_if_given i (distance_of slots slot (place_of heads slot (jump_target slot i))))
slots_at slots heads slot SecondHalf = []

-- the code from this slot on
abbrev pub redirected_from : ℕ → List ℕ → ℕ → List Slot → List Slot
redirected_from slots heads slot [] = []
redirected_from slots heads slot (s ∷ rest) =
    slots_at slots heads slot s ++ redirected_from slots heads (slot + 1) rest

-- ---- what counts the turns

abbrev pub with_number : Operation → ℕ → ℤ → Instruction
with_number operation target number =
    instructions.Arithmetic widths.Bits64 operation target (sources.Immediate number)

-- What is answered then: the number that is asked for, else at price the metric that withholds the
-- destination (LSInfinity), and elsewhere 0.
abbrev pub answer_without_turns : Hook → (asked : Option ℕ) → ℕ
answer_without_turns hook (Some answer) = min answer 2147483647
answer_without_turns hooks.Price None = 16777215
answer_without_turns other None = 0

-- At this slot one is taken off the counter; then the program goes on at the head, or answers.
abbrev pub detour : ℕ → ℕ → ℕ → ℕ → List Slot
detour answer counter at head = Start (with_number operations.Add counter (negsuc 0))
    ∷ Start (instructions.Branch widths.Bits64 tests.NotEqual counter (sources.Immediate (pos 0))
    (distance_between (at + 1) (head + 1)))
    ∷ Start (with_number operations.Move 0 (pos answer)) ∷ Start instructions.Exit ∷ []

abbrev pub detours : ℕ → ℕ → ℕ → List ℕ → List Slot
detours answer counter at [] = []
detours answer counter at (head ∷ heads) =
    detour answer counter at head ++ detours answer counter (at + 4) heads

-- ---- all of it

abbrev pub counted_code : ℕ → ℕ → ℕ → List ℕ → List Slot → List Slot
counted_code answer counter turns heads code =
    slots_of (with_number operations.Move counter (pos (turns + 1)))
    ++ redirected_from (length code) heads 0 code ++ detours answer counter (length code + 1) heads

-- The code counts the turns of these loops, in a register that a call leaves as it is.
pub record IsCounted (answer : ℕ) (turns : ℕ) (heads : List ℕ) (code counted : List Slot)
    : Type 0 where
  pub counter : ℕ
  pub least : 6 ≤ counter
  pub most : counter ≤ 9
  pub unnamed : IsUnnamed code counter
  pub counted_is : counted ≡ counted_code answer counter turns heads code

-- ---- why turns can't be counted

-- The code names each register that a call leaves as it is.
abbrev pub NamesAll : List Slot → Type 0
NamesAll code = (register : ℕ) → 6 ≤ register → register ≤ 9 → IsUnnamed code register → ⊥

-- Why not, each reason only if none before it is one. (Whether the code would be too long, or a
-- jump go too far, isn't said.)
abbrev pub IsUncounted : (answer turns : ℕ) → List Slot → CountError → Type 0
IsUncounted answer turns code errors.NoRegister = NamesAll code
IsUncounted answer turns code errors.TooMany = (NamesAll code → ⊥) × (1000000 ≤ turns)
IsUncounted answer turns code errors.TooGreat =
    (NamesAll code → ⊥) × (turns < 1000000) × (2147483647 < answer)
IsUncounted answer turns code errors.TooLong =
    (NamesAll code → ⊥) × (turns < 1000000) × (answer ≤ 2147483647)
IsUncounted answer turns code errors.Memory = Unit {0}
