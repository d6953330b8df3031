-- What the lines of a listing say so far.
use Rattle.std.specs.Prelude.{◌≡◌, ◌≤◌, ◌<◌, ℕ, Bool, true, false, List, [], ◌∷◌, ◌++◌, length, map}
use Rattle.std.specs.Prelude.{Option, Some, None}
use Rattle.isa.specs.declared.hook.Hook.{Hook}
use Rattle.isa.specs.declared.code.Slot.{Slot}
use Rattle.object.specs.declared.kind.StatedKind.{StatedKind}
use Rattle.object.specs.declared.kind.StatedKind.TheVariants as kinds
use Rattle.object.specs.declared.rank.Rank.{Rank}
use Rattle.object.specs.Numbers.{Term}
use Rattle.object.specs.Statements.{StatementParts, IsNumberAt}
use Rattle.object.specs.Objects.{AreStatements}
use Rattle.object.specs.Sets.{no_bytes}
use Rattle.asm.specs.declared.line.AssemblyLine.{AssemblyLine}
use Rattle.asm.specs.declared.line.RegisterContent.{RegisterContent}
use Rattle.asm.specs.declared.line.RegisterContent.TheVariants as contents
use Rattle.asm.specs.Words.{Word}
use Rattle.asm.specs.Written.{AreLines}
use Rattle.asm.specs.declared.labels.Place.{Place}
use Rattle.asm.specs.Assembling.{Sketch, nothing, take_lines, all_of, bare, order_fault}
use Rattle.asm.specs.Rules.{is_stated_number}

-- ---- texts of lines without labels

abbrev pub without_label : AssemblyLine → AssemblyLine × Word
without_label line = (line, [])

abbrev pub no_name : AssemblyLine → Word
no_name line = []

abbrev pub some_line : AssemblyLine → Option AssemblyLine
some_line line = Some line

-- `new` is `old` with this line appended.
abbrev pub AddsLine : List ℕ → List ℕ → AssemblyLine → Type 0
AddsLine old new line = (items : List (AssemblyLine × Word)) → AreLines old items
    → AreLines new (items ++ (line, []) ∷ [])

-- The text's lines say this much, if `Next` holds of the lines that follow.
pub record Listed (text : List ℕ) (s : Sketch) (Next : List (Option AssemblyLine) → Type 0) : Type 0
  where
    pub lines : List AssemblyLine
    pub are : AreLines text (map without_label lines)
    pub leads : (places : Word → Option Place) (rest : List (Option AssemblyLine))
        (names : List Word) → Next rest
        → take_lines places 0 (map some_line lines ++ rest) (map no_name lines ++ names) nothing
        ≡ take_lines places (length lines) rest names s

abbrev pub Any : List (Option AssemblyLine) → Type 0
Any rest = Unit {0}

-- ---- sketches after the first two lines

pub record Front : Type 0 where
  pub hook : Hook
  pub rank : ℕ
  pub code : List Slot
  pub before : List StatementParts

abbrev pub sketch_of : Front → Option StatementParts → Sketch
sketch_of f last =
    record { hook = Some f.hook; rank = Some f.rank; code = f.code; before = f.before; last = last }

-- no statement yet
abbrev pub code_sketch : Hook → ℕ → List Slot → Sketch
code_sketch hook rank code =
    sketch_of (record { hook = hook; rank = rank; code = code; before = [] }) None

-- The text says this much, and these statements.
pub record ListedAll (text : List ℕ) (hook : Hook) (rank : ℕ) (code : List Slot)
    (statements : List StatementParts) : Type 0 where
  pub before : List StatementParts
  pub last : Option StatementParts
  pub same : statements ≡ all_of before last
  pub listed : Listed text
      (sketch_of (record { hook = hook; rank = rank; code = code; before = before }) last) Any

-- ---- statements

-- From this register on, the lines that follow state each number as one.
abbrev pub AreStated : List StatedKind → ℕ → List (Option AssemblyLine) → Type 0
AreStated registers from rest = (register : ℕ) → from ≤ register → IsNumberAt registers register
    → is_stated_number rest register ≡ true

-- The lines that follow state a term's register as a number.
abbrev pub is_stated : List (Option AssemblyLine) → Option Term → Bool
is_stated rest None = true
is_stated rest (Some term) = is_stated_number rest term.register

abbrev pub is_number : StatedKind → Bool
is_number (kinds.Number numbers) = true
is_number other = false

abbrev pub gives_number : Option RegisterContent → Bool
gives_number (Some (contents.Number range)) = true
gives_number other = false

-- ---- what the lines of each part of a listing add to what the lines before them say

abbrev pub AddsCode : List ℕ → List ℕ → List Slot → Type 0
AddsCode old new code = (hook : Hook) (rank : ℕ) → Listed old (code_sketch hook rank []) Any
    → Listed new (code_sketch hook rank code) Any

abbrev pub statement_parts : ℕ → Rank → List StatedKind → List Bool → StatementParts
statement_parts slot rank kinds stack = record {
  slot = slot;
  rank = rank;
  kinds = kinds;
  stack = stack;
}

abbrev pub AddsKinds : List ℕ → List ℕ → List StatedKind → Type 0
AddsKinds old new kinds = (f : Front) (slot : ℕ) (rank : Rank)
    → Listed old (sketch_of f (Some (bare slot rank))) (AreStated kinds 0)
    → Listed new (sketch_of f (Some (statement_parts slot rank kinds no_bytes))) Any

abbrev pub AddsStack : List ℕ → List ℕ → List Bool → Type 0
AddsStack old new stack = (f : Front) (slot : ℕ) (rank : Rank) (kinds : List StatedKind)
    → Listed old (sketch_of f (Some (statement_parts slot rank kinds no_bytes))) Any
    → Listed new (sketch_of f (Some (statement_parts slot rank kinds stack))) Any

-- after the statements so far
abbrev pub behind : Front → Option StatementParts → Front
behind f last =
    record { hook = f.hook; rank = f.rank; code = f.code; before = all_of f.before last }

abbrev pub AddsStatement : List ℕ → List ℕ → StatementParts → Type 0
AddsStatement old new s = (f : Front) (last : Option StatementParts)
    → s.slot < length f.code → order_fault f.before last s.slot ≡ None
    → Listed old (sketch_of f last) Any → Listed new (sketch_of (behind f last) (Some s)) Any

abbrev pub AddsStatements : List ℕ → List ℕ → List StatementParts → Type 0
AddsStatements old new statements = (hook : Hook) (rank : ℕ) (code : List Slot)
    → AreStatements 0 (length code) statements
    → Listed old (code_sketch hook rank code) Any → ListedAll new hook rank code statements
