-- The grammar of lines: one table of forms. A form is a list of parts, each of which is one word of
-- the line.
use Rattle.std.specs.Prelude.{◌≡◌, ℕ, Bool, true, false, ◌≤◌, List, [], ◌∷◌, ◌++◌, Some, codes}
use Rattle.isa.specs.declared.instruction.Width.{Width}
use Rattle.isa.specs.declared.instruction.Width.TheVariants.{Bits64}
use Rattle.isa.specs.Shapes.{extension_width}
use Rattle.asm.specs.declared.numeral.Numeral.{Numeral}
use Rattle.asm.specs.declared.line.AssemblyLine.{AssemblyLine}
use Rattle.asm.specs.declared.line.AssemblyLine.TheVariants as lines
use Rattle.asm.specs.declared.line.Operand.{Operand}
use Rattle.asm.specs.declared.line.Operand.TheVariants as operands
use Rattle.asm.specs.declared.line.LabelOrNumber.{LabelOrNumber}
use Rattle.asm.specs.declared.line.LabelOrNumber.TheVariants as targets
use Rattle.asm.specs.declared.line.Term.{Term}
use Rattle.asm.specs.declared.line.Terms.{Terms}
use Rattle.asm.specs.declared.line.Terms.TheVariants as terms
use Rattle.asm.specs.declared.line.Range.{Range}
use Rattle.asm.specs.declared.line.RegisterContent.{RegisterContent}
use Rattle.asm.specs.declared.line.RegisterContent.TheVariants as contents
use Rattle.asm.specs.WordNumbers.{number_of, distance_of}
use Rattle.asm.specs.Names.{is_name}
use Rattle.asm.specs.Words.{Word, hook_word, operation_word, test_word, load_word, store_word}
use Rattle.asm.specs.Words.{reorder_word, register_word, extension_word}

-- ---- a part of a form

pub data Part : Type 0 where
  -- exactly this word
  Exactly : Word → Part
  -- a word that spells this number
  Number : Numeral → Part
  -- a word that spells this distance
  Distance : Numeral → Part
  -- the name of a label
  Name : Word → Part
  -- the name of a label, with a colon (58) at its end
  Definition : Word → Part

abbrev pub Matches : Part → Word → Type 0
Matches (Exactly text) word = word ≡ text
Matches (Number n) word = number_of word ≡ Some n
Matches (Distance n) word = distance_of word ≡ Some n
Matches (Name name) word = (word ≡ name) × (is_name name ≡ true)
Matches (Definition name) word = (word ≡ name ++ 58 ∷ []) × (is_name name ≡ true)

-- Each word matches the part at its place, and there are as many words as parts.
abbrev pub Fits : List Word → List Part → Type 0
Fits [] [] = Unit {0}
Fits [] (part ∷ parts) = ⊥
Fits (word ∷ words) [] = ⊥
Fits (word ∷ words) (part ∷ parts) = Matches part word × Fits words parts

-- ---- what several forms have

abbrev pub the_register : Width → ℕ → Part
the_register width register = Exactly (register_word (width, register))

abbrev pub the_operand : Width → Operand → Part
the_operand width (operands.Register register) = the_register width register
the_operand width (operands.Number n) = Number n

-- a label or a distance
abbrev pub the_target : LabelOrNumber → Word → Part
the_target (targets.Number n) name = Distance n
the_target targets.Label name = Name name

-- a label or the number of a slot
abbrev pub the_slot : LabelOrNumber → Word → Part
the_slot (targets.Number n) name = Number n
the_slot targets.Label name = Name name

abbrev pub the_term : Term → List Part → List Part
the_term t rest = the_register Bits64 t.register ∷ Exactly (codes "*") ∷ Number t.coefficient ∷ rest

abbrev pub the_terms : Terms → List Part
the_terms terms.None = []
the_terms (terms.One t) = the_term t []
the_terms (terms.Two t u) = the_term t (the_term u [])

abbrev pub the_range : Range → List Part
the_range r = Number r.low ∷ Number r.high ∷ Number r.mask ∷ Number r.value ∷ []

abbrev pub the_content : RegisterContent → List Part
the_content (contents.Number range) = Exactly (codes "number") ∷ the_range range
the_content (contents.Context offset) = Exactly (codes "context") ∷ Number offset ∷ []
the_content (contents.Stack offset) = Exactly (codes "stack") ∷ Number offset ∷ []
the_content (contents.Map map offset) = Exactly (codes "map") ∷ Number map ∷ the_range offset

-- ---- the table: a line with the name of the label that it defines or uses

abbrev pub form_of : AssemblyLine → Word → List Part
form_of lines.Empty name = []
form_of (lines.Hook hook) name = Exactly (codes "hook") ∷ Exactly (hook_word hook) ∷ []
form_of (lines.Rank rank) name = Exactly (codes "rank") ∷ Number rank ∷ []
form_of lines.Label name = Definition name ∷ []
form_of (lines.Arithmetic width operation target source) name = the_register width target
    ∷ Exactly (operation_word operation) ∷ the_operand width source ∷ []
form_of (lines.Negate width target) name = the_register width target ∷ Exactly (codes "=")
    ∷ Exactly (codes "neg") ∷ []
form_of (lines.SignExtend extension target source) name =
    the_register (extension_width extension) target ∷ Exactly (codes "=")
    ∷ Exactly (extension_word extension) ∷ the_register (extension_width extension) source ∷ []
form_of (lines.Reorder order width target) name = the_register Bits64 target ∷ Exactly (codes "=")
    ∷ Exactly (reorder_word (order, width)) ∷ []
form_of (lines.Jump target) name = Exactly (codes "goto") ∷ the_target target name ∷ []
form_of (lines.LongJump target) name = Exactly (codes "gotol") ∷ the_target target name ∷ []
form_of (lines.Branch width test left right target) name = Exactly (codes "if")
    ∷ the_register width left ∷ Exactly (test_word test) ∷ the_operand width right
    ∷ Exactly (codes "goto") ∷ the_target target name ∷ []
form_of (lines.Call helper) name = Exactly (codes "call") ∷ Number helper ∷ []
form_of lines.Exit name = Exactly (codes "exit") ∷ []
form_of (lines.Load size target base offset) name = the_register Bits64 target ∷ Exactly (codes "=")
    ∷ Exactly (load_word size) ∷ the_register Bits64 base ∷ Number offset ∷ []
form_of (lines.Store size base offset source) name = Exactly (store_word size)
    ∷ the_register Bits64 base ∷ Number offset ∷ Exactly (codes "=") ∷ the_operand Bits64 source
    ∷ []
form_of (lines.LoadNumber target n) name = the_register Bits64 target ∷ Exactly (codes "=")
    ∷ Exactly (codes "wide") ∷ Number n ∷ []
form_of (lines.LoadMap target map offset) name = the_register Bits64 target ∷ Exactly (codes "=")
    ∷ Exactly (codes "map") ∷ Number map ∷ Number offset ∷ []
form_of (lines.State slot constant terms) name = Exactly (codes "state") ∷ the_slot slot name
    ∷ Exactly (codes "rank") ∷ Number constant ∷ the_terms terms
form_of (lines.With register content) name = Exactly (codes "with") ∷ the_register Bits64 register
    ∷ the_content content
form_of (lines.Bytes start end) name = Exactly (codes "bytes") ∷ Number start ∷ Number end ∷ []

-- Whether the line defines or uses a label. If not, the name beside it is empty.
abbrev pub is_label : LabelOrNumber → Bool
is_label targets.Label = true
is_label (targets.Number n) = false

abbrev pub names_label : AssemblyLine → Bool
names_label lines.Label = true
names_label (lines.Jump target) = is_label target
names_label (lines.LongJump target) = is_label target
names_label (lines.Branch width test left right target) = is_label target
names_label (lines.State slot constant terms) = is_label slot
names_label other = false

-- an assignment to a register, a load or a store
abbrev pub is_data : AssemblyLine → Bool
is_data (lines.Arithmetic width operation target source) = true
is_data (lines.Negate width target) = true
is_data (lines.SignExtend extension target source) = true
is_data (lines.Reorder order width target) = true
is_data (lines.Load size target base offset) = true
is_data (lines.Store size base offset source) = true
is_data (lines.LoadNumber target n) = true
is_data (lines.LoadMap target map offset) = true
is_data other = false

-- registers are among r0 to r10
abbrev pub IsOperand : Operand → Type 0
IsOperand (operands.Register register) = (register ≤ 10)
IsOperand (operands.Number n) = Unit {0}

abbrev pub AreTerms : Terms → Type 0
AreTerms terms.None = Unit {0}
AreTerms (terms.One t) = (t.register ≤ 10)
AreTerms (terms.Two t u) = (t.register ≤ 10) × (u.register ≤ 10)

abbrev pub IsLine : AssemblyLine → Type 0
IsLine (lines.Arithmetic width operation target source) = (target ≤ 10) × IsOperand source
IsLine (lines.Negate width target) = (target ≤ 10)
IsLine (lines.SignExtend extension target source) = (target ≤ 10) × (source ≤ 10)
IsLine (lines.Reorder order width target) = (target ≤ 10)
IsLine (lines.Branch width test left right target) = (left ≤ 10) × IsOperand right
IsLine (lines.Load size target base offset) = (target ≤ 10) × (base ≤ 10)
IsLine (lines.Store size base offset source) = (base ≤ 10) × IsOperand source
IsLine (lines.LoadNumber target n) = (target ≤ 10)
IsLine (lines.LoadMap target map offset) = (target ≤ 10)
IsLine (lines.State slot constant terms) = AreTerms terms
IsLine (lines.With register content) = (register ≤ 10)
IsLine other = Unit {0}

-- The words spell the line, with the name of the label that it defines or uses.
pub record Spells (words : List Word) (line : AssemblyLine) (name : Word) : Type 0 where
  pub fits : Fits words (form_of line name)
  pub ranges : IsLine line
  pub unnamed : names_label line ≡ false → name ≡ []
