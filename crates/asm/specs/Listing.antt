-- What a listing is: its lines in order, and the text of them.
use Rattle.std.specs.Prelude.{◌≡◌, ℕ, ◌+◌, ◌==◌, Bool, true, false, List, [], ◌∷◌, ◌++◌, map}
use Rattle.std.specs.Prelude.{Option, Some, None, if◌then◌else◌}
use Rattle.std.specs.List.{flat_map}
use Rattle.isa.specs.declared.map.Map.{Map}
use Rattle.isa.specs.Maps.{map_number}
use Rattle.isa.specs.declared.code.Slot.{Slot}
use Rattle.isa.specs.declared.code.Slot.TheVariants as slots
use Rattle.isa.specs.declared.instruction.Instruction.{Instruction}
use Rattle.isa.specs.declared.instruction.Instruction.TheVariants as instructions
use Rattle.isa.specs.declared.instruction.Source.{Source}
use Rattle.isa.specs.declared.instruction.Source.TheVariants as sources
use Rattle.isa.specs.Spelling.{Spells}
use Rattle.object.specs.declared.kind.StatedKind.{StatedKind}
use Rattle.object.specs.declared.kind.StatedKind.TheVariants as kinds
use Rattle.object.specs.Numbers.{Numbers}
use Rattle.object.specs.Numbers as object_numbers
use Rattle.object.specs.Statements.{StatementParts}
use Rattle.object.specs.Objects.{ObjectParts}
use Rattle.asm.specs.declared.numeral.Numeral.TheVariants.{Natural}
use Rattle.asm.specs.declared.line.AssemblyLine.{AssemblyLine}
use Rattle.asm.specs.declared.line.AssemblyLine.TheVariants as lines
use Rattle.asm.specs.declared.line.Operand.{Operand}
use Rattle.asm.specs.declared.line.Operand.TheVariants as operands
use Rattle.asm.specs.declared.line.LabelOrNumber.TheVariants as targets
use Rattle.asm.specs.declared.line.Term.{Term}
use Rattle.asm.specs.declared.line.Terms.{Terms}
use Rattle.asm.specs.declared.line.Terms.TheVariants as terms
use Rattle.asm.specs.declared.line.Range.{Range}
use Rattle.asm.specs.declared.line.RegisterContent.{RegisterContent}
use Rattle.asm.specs.declared.line.RegisterContent.TheVariants as contents
use Rattle.asm.specs.WordNumbers.{numeral_of}
use Rattle.asm.specs.Written.{line_text}

-- ---- an instruction: a distance in place of a label

abbrev pub the_operand : Source → Operand
the_operand (sources.Register register) = operands.Register register
the_operand (sources.Immediate n) = operands.Number (numeral_of n)

abbrev pub instruction_line : Instruction → AssemblyLine
instruction_line (instructions.Arithmetic width operation target source) =
    lines.Arithmetic width operation target (the_operand source)
instruction_line (instructions.Negate width target) = lines.Negate width target
instruction_line (instructions.SignExtend extension target source) =
    lines.SignExtend extension target source
instruction_line (instructions.Reorder order width target) = lines.Reorder order width target
instruction_line (instructions.Jump distance) = lines.Jump (targets.Number (numeral_of distance))
instruction_line (instructions.LongJump distance) =
    lines.LongJump (targets.Number (numeral_of distance))
instruction_line (instructions.Branch width test left right distance) =
    lines.Branch width test left (the_operand right) (targets.Number (numeral_of distance))
instruction_line (instructions.Call helper) = lines.Call (numeral_of helper)
instruction_line instructions.Exit = lines.Exit
instruction_line (instructions.Load size target base offset) =
    lines.Load size target base (numeral_of offset)
instruction_line (instructions.Store size base offset source) =
    lines.Store size base (numeral_of offset) (the_operand source)
instruction_line (instructions.LoadNumber target n) = lines.LoadNumber target (Natural n)
instruction_line (instructions.LoadMap target map offset) =
    lines.LoadMap target (numeral_of map) (numeral_of offset)

-- The second half of a wide instruction has no line of its own.
abbrev pub slot_lines : Slot → List AssemblyLine
slot_lines (slots.Start instruction) = instruction_line instruction ∷ []
slot_lines slots.SecondHalf = []

-- ---- what a statement says of the rank

-- `r0 * 0` stands for a missing term.
abbrev pub the_term : Option object_numbers.Term → Term
the_term (Some term) = record { register = term.register; coefficient = Natural term.coefficient }
the_term None = record { register = 0; coefficient = Natural 0 }

abbrev pub the_terms : Option object_numbers.Term → Option object_numbers.Term → Terms
the_terms None None = terms.None
the_terms (Some first) None = terms.One (the_term (Some first))
the_terms first (Some second) = terms.Two (the_term first) (the_term (Some second))

-- ---- what it says of registers

abbrev pub the_range : Numbers → Range
the_range n =
    record {
      low = Natural n.low;
      high = Natural n.high;
      mask = Natural n.mask;
      value = Natural n.value;
    }

abbrev pub the_content : StatedKind → Option RegisterContent
the_content kinds.Unstated = None
the_content (kinds.Number numbers) = Some (contents.Number (the_range numbers))
the_content (kinds.Context offset) = Some (contents.Context (Natural offset))
the_content (kinds.Stack offset) = Some (contents.Stack (Natural offset))
the_content (kinds.MapValue map offset) =
    Some (contents.Map (Natural (map_number map)) (the_range offset))

-- An empty register has no line.
abbrev pub with_line : ℕ → Option RegisterContent → List AssemblyLine
with_line register (Some content) = lines.With register content ∷ []
with_line register None = []

-- the registers from this one on, ascending
abbrev pub with_lines : ℕ → List StatedKind → List AssemblyLine
with_lines register [] = []
with_lines register (kind ∷ kinds) = with_line register (the_content kind)
    ++ with_lines (register + 1) kinds

-- ---- what it says of stack bytes

-- A byte joins the range that begins right after it, or is a range of its own.
abbrev pub join_byte : ℕ → List (ℕ × ℕ) → List (ℕ × ℕ)
join_byte byte [] = (byte, byte + 1) ∷ []
join_byte byte (range ∷ ranges) =
    if range.0 == byte + 1 then (byte, range.1) ∷ ranges else (byte, byte + 1) ∷ range ∷ ranges

-- The longest ranges of bytes in the set, from this byte on, ascending: the first byte of each, and
-- the first one after it.
abbrev pub longest_ranges : ℕ → List Bool → List (ℕ × ℕ)
longest_ranges byte [] = []
longest_ranges byte (true ∷ bytes) = join_byte byte (longest_ranges (byte + 1) bytes)
longest_ranges byte (false ∷ bytes) = longest_ranges (byte + 1) bytes

abbrev pub bytes_line : ℕ × ℕ → AssemblyLine
bytes_line range = lines.Bytes (Natural range.0) (Natural range.1)

-- ---- a statement, and all lines

abbrev pub state_line : StatementParts → AssemblyLine
state_line s =
    lines.State (targets.Number (Natural s.slot)) (Natural s.rank.constant)
    (the_terms s.rank.first s.rank.second)

abbrev pub statement_lines : StatementParts → List AssemblyLine
statement_lines s = state_line s
    ∷ (with_lines 0 s.kinds ++ map bytes_line (longest_ranges 0 s.stack))

-- the listing of an object whose bytes of code spell these slots
abbrev pub listing_lines : ObjectParts → List Slot → List AssemblyLine
listing_lines o code =
    lines.Hook o.hook ∷ lines.Rank (Natural o.entry_rank)
    ∷ (flat_map slot_lines code ++ flat_map statement_lines o.statements)

-- Each line is words separated by single spaces, and a line feed.
abbrev pub text_of : List AssemblyLine → List ℕ
text_of listed = flat_map (λ line. line_text line []) listed

-- `new` is `old` with these lines appended.
abbrev pub AddsText : List ℕ → List ℕ → List AssemblyLine → Type 0
AddsText old new listed = new ≡ old ++ text_of listed

-- The text is the object's listing.
pub record IsListing (text : List ℕ) (o : ObjectParts) : Type 0 where
  pub code : List Slot
  pub spelled : Spells o.code code
  pub lines : text ≡ text_of (listing_lines o code)
