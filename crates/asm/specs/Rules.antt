-- What the lines of a statement say, and when no object can hold it.
use Rattle.std.specs.Prelude.{ℕ, ◌^◌, Bool, true, false, List, [], ◌∷◌, Option, Some, None, Result}
use Rattle.std.specs.Prelude.{Ok, Err, if◌then◌else◌, nat_le, ◌==◌, ◌&&◌, bit_and}
use Rattle.isa.specs.declared.map.Map.{Map}
use Rattle.isa.specs.declared.map.Map.TheVariants as maps
use Rattle.object.specs.declared.kind.StatedKind.{StatedKind}
use Rattle.object.specs.declared.kind.StatedKind.TheVariants as kinds
use Rattle.object.specs.declared.rank.Rank.{Rank}
use Rattle.object.specs.Numbers as object_numbers
use Rattle.asm.specs.declared.numeral.Numeral.{Numeral}
use Rattle.asm.specs.declared.line.AssemblyLine.{AssemblyLine}
use Rattle.asm.specs.declared.line.AssemblyLine.TheVariants as lines
use Rattle.asm.specs.declared.line.LabelOrNumber.{LabelOrNumber}
use Rattle.asm.specs.declared.line.LabelOrNumber.TheVariants as targets
use Rattle.asm.specs.declared.line.Term.{Term}
use Rattle.asm.specs.declared.line.Terms.{Terms}
use Rattle.asm.specs.declared.line.Terms.TheVariants as terms
use Rattle.asm.specs.declared.line.Range.{Range}
use Rattle.asm.specs.declared.line.RegisterContent.{RegisterContent}
use Rattle.asm.specs.declared.line.RegisterContent.TheVariants as contents
use Rattle.asm.specs.declared.error.AsmFault.{AsmFault}
use Rattle.asm.specs.declared.error.AsmFault.TheVariants as faults
use Rattle.asm.specs.Numbers.{natural_in}

infixl 10 ◌and_then◌
abbrev pub ◌and_then◌ : {A B : Type 0} → Option A → (A → Option B) → Option B
None and_then f = None
(Some x) and_then f = f x

-- A line of the statement says that the register is a number. The statement ends at the next
-- `state` line.
abbrev pub is_stated_number : List (Option AssemblyLine) → ℕ → Bool
is_stated_number [] register = false
is_stated_number (Some (lines.State slot constant found) ∷ rest) register = false
is_stated_number (Some (lines.With other (contents.Number range)) ∷ rest) register =
    if other == register then true else is_stated_number rest register
is_stated_number (line ∷ rest) register = is_stated_number rest register

-- `r0 * 0` is no term; a coefficient above 0 needs a register that is stated as a number.
abbrev pub term_in : List (Option AssemblyLine) → ℕ → ℕ → Option (Option object_numbers.Term)
term_in rest register coefficient = if coefficient == 0
    then (if register == 0 then Some None else None)
    else (if is_stated_number rest register
    then (if nat_le register 9
    then Some (Some (record { register = register; coefficient = coefficient })) else None)
    else None)

abbrev pub term_of : List (Option AssemblyLine) → Term → Option (Option object_numbers.Term)
term_of rest t = natural_in (2 ^ 32) t.coefficient and_then λ coefficient.
    term_in rest t.register coefficient

abbrev pub rank_of : Numeral → Terms → List (Option AssemblyLine) → Option Rank
rank_of constant terms.None rest = natural_in (2 ^ 32) constant and_then λ c.
    Some (record { constant = c; first = None; second = None })
rank_of constant (terms.One t) rest = natural_in (2 ^ 32) constant and_then λ c.
    term_of rest t and_then λ first. Some (record { constant = c; first = first; second = None })
rank_of constant (terms.Two t u) rest = natural_in (2 ^ 32) constant and_then λ c.
    term_of rest t and_then λ first. term_of rest u and_then λ second.
    Some (record { constant = c; first = first; second = second })

-- the slot that a statement's label names
abbrev pub label_slot : Option ℕ → Result ℕ AsmFault
label_slot (Some slot) = Ok slot
label_slot None = Err faults.Label

abbrev pub number_slot : Option ℕ → Result ℕ AsmFault
number_slot (Some slot) = Ok slot
number_slot None = Err faults.Range

abbrev pub slot_of : LabelOrNumber → Option ℕ → Result ℕ AsmFault
slot_of (targets.Number n) place = number_slot (natural_in (2 ^ 64) n)
slot_of targets.Label place = label_slot place

-- The range is ordered, and the value has no bit outside the mask.
abbrev pub stated_numbers : ℕ → ℕ → ℕ → ℕ → Option object_numbers.Numbers
stated_numbers low high mask value = if nat_le low high && (bit_and value mask == value)
    then Some (record { low = low; high = high; mask = mask; value = value }) else None

abbrev pub numbers_of : Range → Option object_numbers.Numbers
numbers_of r = natural_in (2 ^ 64) r.low and_then λ low. natural_in (2 ^ 64) r.high and_then λ high.
    natural_in (2 ^ 64) r.mask and_then λ mask. natural_in (2 ^ 64) r.value and_then λ value.
    stated_numbers low high mask value

abbrev pub map_at : ℕ → Option Map
map_at n = if n == 0 then Some maps.Counters else (if n == 1 then Some maps.Cells else None)

abbrev pub map_of : Numeral → Option Map
map_of n = natural_in (2 ^ 32) n and_then map_at

abbrev pub at_most : ℕ → ℕ → Option ℕ
at_most most n = if nat_le n most then Some n else None

abbrev pub kind_of : RegisterContent → Option StatedKind
kind_of (contents.Number range) = numbers_of range and_then λ numbers. Some (kinds.Number numbers)
kind_of (contents.Context offset) = natural_in (2 ^ 32) offset and_then λ n.
    at_most 64 n and_then λ bytes. Some (kinds.Context bytes)
kind_of (contents.Stack offset) = natural_in (2 ^ 32) offset and_then λ n.
    at_most 512 n and_then λ bytes. Some (kinds.Stack bytes)
kind_of (contents.Map map range) = map_of map and_then λ m. numbers_of range and_then λ numbers.
    Some (kinds.MapValue m numbers)

abbrev pub range_in : ℕ → ℕ → Option (ℕ × ℕ)
range_in start end = if nat_le start end && nat_le end 512 then Some (start, end) else None

abbrev pub bytes_of : Numeral → Numeral → Option (ℕ × ℕ)
bytes_of m n = natural_in (2 ^ 32) m and_then λ start. natural_in (2 ^ 32) n and_then λ end.
    range_in start end
