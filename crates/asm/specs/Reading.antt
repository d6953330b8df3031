-- Reading a line: what words spell, found by how many they are and by the first of them.
use Rattle.std.specs.Prelude.{ℕ, Bool, List, [], ◌∷◌, Option, Some, None, if◌then◌else◌, codes}
use Rattle.std.specs.Prelude.{◌==◌}
use Rattle.std.specs.Str.{bytes_eq}
use Rattle.isa.specs.declared.instruction.Width.{Width}
use Rattle.isa.specs.declared.instruction.Width.TheVariants.{Bits32, Bits64}
use Rattle.isa.specs.declared.instruction.Operation.{Operation}
use Rattle.isa.specs.declared.instruction.Operation.TheVariants as operations
use Rattle.asm.specs.declared.line.AssemblyLine.{AssemblyLine}
use Rattle.asm.specs.declared.line.AssemblyLine.TheVariants as lines
use Rattle.asm.specs.declared.line.Operand.{Operand}
use Rattle.asm.specs.declared.line.Operand.TheVariants as operands
use Rattle.asm.specs.declared.line.LabelOrNumber.{LabelOrNumber}
use Rattle.asm.specs.declared.line.LabelOrNumber.TheVariants as targets
use Rattle.asm.specs.declared.line.Term.{Term}
use Rattle.asm.specs.declared.line.Terms.{Terms}
use Rattle.asm.specs.declared.line.Terms.TheVariants as terms
use Rattle.asm.specs.declared.line.Range.{Range}
use Rattle.asm.specs.declared.line.RegisterContent.TheVariants as contents
use Rattle.asm.specs.WordNumbers.{number_of, distance_of}
use Rattle.asm.specs.Words.{hook_of, operation_of, test_of, load_of, store_of, reorder_of}
use Rattle.asm.specs.Words.{register_of, extension_of, if_wide, Word}
use Rattle.asm.specs.Names.{is_name}

infixl 10 ◌>>=◌
abbrev pub ◌>>=◌ : {A B : Type 0} → Option A → (A → Option B) → Option B
None >>= f = None
(Some x) >>= f = f x

-- the word is this one
abbrev pub when : {A : Type 0} → Bool → Option A → Option A
when test found = if test then found else None

abbrev pub at : List ℕ → Word → Bool
at text word = bytes_eq word text

abbrev pub or_else : {A : Type 0} → Option A → Option A → Option A
or_else None other = other
or_else (Some x) other = Some x

abbrev pub plain : AssemblyLine → AssemblyLine × Word
plain line = (line, [])

-- the line without a label's name, if there is one
abbrev pub unnamed : Option AssemblyLine → Option (AssemblyLine × Word)
unnamed line = line >>= λ found. Some (plain found)

abbrev pub of_width : Width → Width × ℕ → Option ℕ
of_width Bits64 (Bits64, register) = Some register
of_width Bits32 (Bits32, register) = Some register
of_width Bits64 (Bits32, register) = None
of_width Bits32 (Bits64, register) = None

-- a register of this width
abbrev pub register_at : Width → Word → Option ℕ
register_at width word = register_of word >>= of_width width

abbrev pub operand_at : Width → Word → Option Operand
operand_at width word =
    or_else (register_at width word >>= λ register. Some (operands.Register register))
    (number_of word >>= λ n. Some (operands.Number n))

abbrev pub name_at : Word → Option (LabelOrNumber × Word)
name_at word = when (is_name word) (Some (targets.Label, word))

abbrev pub target_at : Word → Option (LabelOrNumber × Word)
target_at word = or_else (distance_of word >>= λ n. Some (targets.Number n, [])) (name_at word)

abbrev pub slot_at : Word → Option (LabelOrNumber × Word)
slot_at word = or_else (number_of word >>= λ n. Some (targets.Number n, [])) (name_at word)

-- what stands before a colon (58) at the word's end
abbrev pub before_colon : Word → Option Word
before_colon [] = None
before_colon (c ∷ []) = if c == 58 then Some [] else None
before_colon (c ∷ d ∷ cs) = before_colon (d ∷ cs) >>= λ front. Some (c ∷ front)

abbrev pub label_at : Word → Option (AssemblyLine × Word)
label_at word = before_colon word >>= λ name. when (is_name name) (Some (lines.Label, name))

abbrev pub one : Word → Option (AssemblyLine × Word)
one a = if at (codes "exit") a then Some (plain lines.Exit) else label_at a

abbrev pub two : Word → Word → Option (AssemblyLine × Word)
two a b = if at (codes "hook") a then (hook_of b >>= λ hook. Some (plain (lines.Hook hook)))
    else (if at (codes "rank") a then (number_of b >>= λ n. Some (plain (lines.Rank n)))
    else (if at (codes "call") a then (number_of b >>= λ n. Some (plain (lines.Call n)))
    else (if at (codes "goto") a then (target_at b >>= λ t. Some (lines.Jump t.0, t.1))
    else (if at (codes "gotol") a then (target_at b >>= λ t. Some (lines.LongJump t.0, t.1))
    else None))))

-- the other right sides of an assignment: a negation, or a reordering of bytes
abbrev pub negation_or_reordering : Width → ℕ → Word → Option AssemblyLine
negation_or_reordering width target c = if at (codes "neg") c then Some (lines.Negate width target)
    else (if_wide width c >>= λ word. reorder_of word >>= λ order.
    Some (lines.Reorder order.0 order.1 target))

abbrev pub assigned_line : Width → Operation → ℕ → Word → Option AssemblyLine
assigned_line width operations.Move target c = negation_or_reordering width target c
assigned_line width other target c = None

abbrev pub arithmetic_or_assignment : Width × ℕ → Word → Word → Option AssemblyLine
arithmetic_or_assignment register b c = operation_of b >>= λ operation.
    or_else (operand_at register.0 c >>= λ source.
    Some (lines.Arithmetic register.0 operation register.1 source))
    (assigned_line register.0 operation register.1 c)

abbrev pub stack_range : Word → Word → Word → Option AssemblyLine
stack_range a b c =
    when (at (codes "bytes") a)
    (number_of b >>= λ start. number_of c >>= λ end. Some (lines.Bytes start end))

abbrev pub three : Word → Word → Word → Option (AssemblyLine × Word)
three a b c =
    or_else (register_of a >>=
    λ register. arithmetic_or_assignment register b c) (stack_range a b c) >>= λ line.
    Some (plain line)

abbrev pub widening_line : Width × ℕ → Word → Word → Option AssemblyLine
widening_line register c d = if at (codes "wide") c
    then (if_wide register.0 d >>= λ word. number_of word >>= λ n.
    Some (lines.LoadNumber register.1 n))
    else (extension_of register.0 c >>= λ extension. register_at register.0 d >>= λ source.
    Some (lines.SignExtend extension register.1 source))

abbrev pub state_of : Word → Word → Word → Word → Terms → Option (AssemblyLine × Word)
state_of a b c d found =
    when (at (codes "state") a)
    (when (at (codes "rank") c)
    (slot_at b >>= λ slot. number_of d >>= λ constant.
    Some (lines.State slot.0 constant found, slot.1)))

abbrev pub offset_of : Word → Word → Word → Word → Option AssemblyLine
offset_of a b c d =
    when (at (codes "with") a) (register_at Bits64 b >>= λ register. number_of d >>= λ offset.
    if at (codes "context") c then Some (lines.With register (contents.Context offset))
    else (when (at (codes "stack") c) (Some (lines.With register (contents.Stack offset)))))

abbrev pub four : Word → Word → Word → Word → Option (AssemblyLine × Word)
four a b c d = if at (codes "=") b
    then (register_of a >>= λ register. widening_line register c d >>= λ line. Some (plain line))
    else (if at (codes "state") a then state_of a b c d terms.None
    else (offset_of a b c d >>= λ line. Some (plain line)))

abbrev pub load_line : ℕ → Word → Word → Word → Option AssemblyLine
load_line target c d e = if at (codes "map") c
    then (number_of d >>= λ map. number_of e >>= λ offset. Some (lines.LoadMap target map offset))
    else (load_of c >>= λ size. register_at Bits64 d >>= λ base. number_of e >>= λ offset.
    Some (lines.Load size target base offset))

abbrev pub store_line : Word → Word → Word → Word → Option AssemblyLine
store_line a b c e = store_of a >>= λ size. register_at Bits64 b >>= λ base. number_of c >>=
    λ offset.
    operand_at Bits64 e >>= λ source. Some (lines.Store size base offset source)

abbrev pub five : Word → Word → Word → Word → Word → Option (AssemblyLine × Word)
five a b c d e = (if at (codes "=") b then (register_at Bits64 a >>=
    λ target. load_line target c d e)
    else (when (at (codes "=") d) (store_line a b c e))) >>= λ line. Some (plain line)

abbrev pub six : Word → Word → Word → Word → Word → Word → Option (AssemblyLine × Word)
six a b c d e f =
    when (at (codes "if") a)
    (when (at (codes "goto") e)
    (register_of b >>= λ left. test_of c >>= λ test. operand_at left.0 d >>= λ right.
    target_at f >>= λ target. Some (lines.Branch left.0 test left.1 right target.0, target.1)))

abbrev pub range_of : Word → Word → Word → Word → Option Range
range_of a b c d = number_of a >>= λ low. number_of b >>= λ high. number_of c >>= λ mask.
    number_of d >>= λ value.
    Some (record { low = low; high = high; mask = mask; value = value })

abbrev pub term_of : Word → Word → Word → Option Term
term_of a b c =
    when (at (codes "*") b)
    (register_at Bits64 a >>= λ register. number_of c >>= λ coefficient.
    Some (record { register = register; coefficient = coefficient }))

abbrev pub numbers_of : Word → Word → Word → Word → Word → Word → Option AssemblyLine
numbers_of b c d e f g =
    when (at (codes "number") c)
    (register_at Bits64 b >>= λ register. range_of d e f g >>= λ range.
    Some (lines.With register (contents.Number range)))

abbrev pub seven : Word → Word → Word → Word → Word → Word → Word → Option (AssemblyLine × Word)
seven a b c d e f g = if at (codes "with") a
    then (numbers_of b c d e f g >>= λ line. Some (plain line))
    else (term_of e f g >>= λ term. state_of a b c d (terms.One term))

-- a register that is a pointer into a map
abbrev pub map_value_of : Word → Word → Word → Word → Word → Word → Word → Option AssemblyLine
map_value_of b c d e f g h =
    when (at (codes "map") c)
    (register_at Bits64 b >>= λ register. number_of d >>= λ map. range_of e f g h >>= λ offset.
    Some (lines.With register (contents.Map map offset)))

abbrev pub eight : Word → Word → Word → Word → Word → Word → Word → Word
    → Option (AssemblyLine × Word)
eight a b c d e f g h =
    when (at (codes "with") a) (map_value_of b c d e f g h >>= λ line. Some (plain line))

abbrev pub terms_of : Word → Word → Word → Word → Word → Word → Option Terms
terms_of e f g h i j = term_of e f g >>= λ first. term_of h i j >>= λ second.
    Some (terms.Two first second)

abbrev pub ten : Word → Word → Word → Word → Word → Word → Word → Word → Word → Word
    → Option (AssemblyLine × Word)
ten a b c d e f g h i j = terms_of e f g h i j >>= λ found. state_of a b c d found

-- what the words spell
unfoldable pub line_of : List Word → Option (AssemblyLine × Word)
line_of [] = Some (plain lines.Empty)
line_of (a ∷ []) = one a
line_of (a ∷ b ∷ []) = two a b
line_of (a ∷ b ∷ c ∷ []) = three a b c
line_of (a ∷ b ∷ c ∷ d ∷ []) = four a b c d
line_of (a ∷ b ∷ c ∷ d ∷ e ∷ []) = five a b c d e
line_of (a ∷ b ∷ c ∷ d ∷ e ∷ f ∷ []) = six a b c d e f
line_of (a ∷ b ∷ c ∷ d ∷ e ∷ f ∷ g ∷ []) = seven a b c d e f g
line_of (a ∷ b ∷ c ∷ d ∷ e ∷ f ∷ g ∷ h ∷ []) = eight a b c d e f g h
line_of (a ∷ b ∷ c ∷ d ∷ e ∷ f ∷ g ∷ h ∷ i ∷ []) = None
line_of (a ∷ b ∷ c ∷ d ∷ e ∷ f ∷ g ∷ h ∷ i ∷ j ∷ []) = ten a b c d e f g h i j
line_of (a ∷ b ∷ c ∷ d ∷ e ∷ f ∷ g ∷ h ∷ i ∷ j ∷ k ∷ rest) = None
