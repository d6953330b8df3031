-- What the lines of a text say, one after the other, and which of them is the first bad one.
use Rattle.std.specs.Prelude.{◌⊎◌, ◌≡◌, ℕ, ◌+◌, ◌≤◌, ◌^◌, Bool, true, false, ◌||◌, ◌&&◌, List, []}
use Rattle.std.specs.Prelude.{◌∷◌, ◌++◌, length, replicate, Option, Some, None, is_some, is_none}
use Rattle.std.specs.Prelude.{Result, Ok, Err, IsOk, if◌then◌else◌, nat_le, nat_lt, ◌==◌, slice_set}
use Rattle.std.specs.Prelude.{slice_index_or}
use Rattle.std.specs.Str.{bytes_eq}
use Rattle.isa.specs.declared.hook.Hook.{Hook}
use Rattle.isa.specs.declared.code.Slot.{Slot}
use Rattle.isa.specs.Spelling as spelling
use Rattle.object.specs.declared.kind.StatedKind.{StatedKind}
use Rattle.object.specs.declared.kind.StatedKind.TheVariants as kinds
use Rattle.object.specs.declared.rank.Rank.{Rank}
use Rattle.object.specs.Statements.{StatementParts}
use Rattle.object.specs.Objects.{ObjectParts, IsObject, AreStatements}
use Rattle.object.specs.Sets.{no_bytes, with_range}
use Rattle.asm.specs.declared.numeral.Numeral.{Numeral}
use Rattle.asm.specs.declared.line.AssemblyLine.{AssemblyLine}
use Rattle.asm.specs.declared.line.AssemblyLine.TheVariants as lines
use Rattle.asm.specs.declared.line.LabelOrNumber.{LabelOrNumber}
use Rattle.asm.specs.declared.line.Terms.{Terms}
use Rattle.asm.specs.declared.line.RegisterContent.{RegisterContent}
use Rattle.asm.specs.Words.{Word}
use Rattle.asm.specs.Text.{lines_in, Readings}
use Rattle.asm.specs.LineViews.{views, items}
use denote.Ref.{Bor}
use Rattle.asm.specs.declared.error.AsmFault.{AsmFault}
use Rattle.asm.specs.declared.error.AsmFault.TheVariants as faults
use Rattle.asm.specs.declared.labels.Place.{Place}
use Rattle.asm.specs.Numbers.{natural_in}
use Rattle.asm.specs.Instructions.{◌>>=◌, or_range_fault, code_step, slots_taken}
use Rattle.asm.specs.Rules.{rank_of, slot_of, kind_of, bytes_of}

-- ---- labels

abbrev pub gives_label : Option AssemblyLine → Bool
gives_label (Some lines.Label) = true
gives_label other = false

abbrev pub slots_in : Option AssemblyLine → ℕ
slots_in (Some line) = slots_taken line
slots_in None = 0

-- where the label with this name is first defined, from line `at` on, which `slot` slots precede
abbrev pub place_from : ℕ → ℕ → List (Option AssemblyLine) → List Word → Word → Option Place
place_from at slot [] names word = None
place_from at slot (line ∷ rest) [] word = None
place_from at slot (line ∷ rest) (name ∷ names) word = if gives_label line && bytes_eq name word
    then Some (record { line = at; slot = slot })
    else place_from (at + 1) (slot + slots_in line) rest names word

abbrev pub slot_at : Option Place → Option ℕ
slot_at (Some place) = Some place.slot
slot_at None = None

-- ---- what the lines so far say

-- the hook, the rank at the entry, the code, the statements before the last one, and the last one
pub record Sketch : Type 0 where
  pub hook : Option Hook
  pub rank : Option ℕ
  pub code : List Slot
  pub before : List StatementParts
  pub last : Option StatementParts

abbrev pub nothing : Sketch
nothing = record { hook = None; rank = None; code = []; before = []; last = None }

abbrev pub hook_step : Sketch → Hook → Result Sketch AsmFault
hook_step s hook = if is_some s.hook then Err faults.Syntax else Ok (record s { hook = Some hook })

abbrev pub with_rank : Sketch → ℕ → Result Sketch AsmFault
with_rank s rank = Ok (record s { rank = Some rank })

abbrev pub rank_step : Sketch → Numeral → Result Sketch AsmFault
rank_step s n = if is_none s.hook || is_some s.rank then Err faults.Syntax
    else (or_range_fault (natural_in (2 ^ 32) n) >>= with_rank s)

abbrev pub with_code : Sketch → List Slot → Result Sketch AsmFault
with_code s code = Ok (record s { code = code })

-- Instructions come before all statements.
abbrev pub instruction_step : Sketch → AssemblyLine → Option ℕ → Result Sketch AsmFault
instruction_step s line place = if is_some s.last then Err faults.Syntax
    else (code_step s.code line place >>= with_code s)

-- ---- statements

-- with neither a register nor a byte stated yet
abbrev pub bare : ℕ → Rank → StatementParts
bare slot rank =
    record { slot = slot; rank = rank; kinds = replicate 10 kinds.Unstated; stack = no_bytes }

abbrev pub has_slot : List StatementParts → ℕ → Bool
has_slot [] slot = false
has_slot (s ∷ ss) slot = if s.slot == slot then true else has_slot ss slot

-- the statements, the last one included
abbrev pub all_of : List StatementParts → Option StatementParts → List StatementParts
all_of before (Some last) = before ++ last ∷ []
all_of before None = before

-- `Twice` if an earlier statement has the slot, else `Range` if the last one's isn't below it
abbrev pub order_fault : List StatementParts → Option StatementParts → ℕ → Option AsmFault
order_fault before None slot = None
order_fault before (Some last) slot = if (slot == last.slot) || has_slot before slot
    then Some faults.Twice
    else (if nat_lt slot last.slot then Some faults.Range else None)

-- the last statement appended to those before it, and another in its place
abbrev pub with_last_statement : Sketch → Option StatementParts → Sketch
with_last_statement s last = record s { before = all_of s.before s.last; last = last }

abbrev pub open_statement : Sketch → ℕ → Rank → Option AsmFault → Result Sketch AsmFault
open_statement s slot rank (Some fault) = Err fault
open_statement s slot rank None = Ok (with_last_statement s (Some (bare slot rank)))

abbrev pub state_at : Sketch → Option Rank → ℕ → Result Sketch AsmFault
state_at s rank slot = if nat_le (length s.code) slot then Err faults.Range
    else (or_range_fault rank >>= λ r. open_statement s slot r (order_fault s.before s.last slot))

-- These lines follow the `state` line.
abbrev pub state_step : Sketch → LabelOrNumber → Numeral → Terms → Option ℕ
    → List (Option AssemblyLine) → Result Sketch AsmFault
state_step s slot constant found place rest = slot_of slot place
    >>= state_at s (rank_of constant found rest)

abbrev pub is_empty : StatedKind → Bool
is_empty kinds.Unstated = true
is_empty other = false

-- the last statement with this register stated
abbrev pub kind_step : StatementParts → ℕ → StatedKind → Result StatementParts AsmFault
kind_step p register kind = if nat_lt 9 register then Err faults.Range
    else (if is_empty (slice_index_or p.kinds register kinds.Unstated)
    then Ok (record p { kinds = slice_set p.kinds register kind }) else Err faults.Twice)

abbrev pub with_step : StatementParts → ℕ → RegisterContent → Result StatementParts AsmFault
with_step p register content = or_range_fault (kind_of content) >>= kind_step p register

abbrev pub with_bytes : StatementParts → ℕ × ℕ → Result StatementParts AsmFault
with_bytes p range = Ok (record p { stack = with_range range.0 range.1 p.stack })

abbrev pub bytes_step : StatementParts → Numeral → Numeral → Result StatementParts AsmFault
bytes_step p start end = or_range_fault (bytes_of start end) >>= with_bytes p

abbrev pub with_last : Sketch → StatementParts → Result Sketch AsmFault
with_last s p = Ok (record s { last = Some p })

abbrev pub match_last : Option StatementParts → Result StatementParts AsmFault
match_last (Some p) = Ok p
match_last None = Err faults.Syntax

abbrev pub last_of : Sketch → Result StatementParts AsmFault
last_of s = match_last s.last

-- what a fallible call returns
abbrev pub Answers : {A B : Type 0} → (B → A) → Result B AsmFault → Result A AsmFault → Type 0
Answers view (Ok x) step = step ≡ Ok (view x)
Answers view (Err fault) step = step ≡ Err fault

-- The same if memory may run out, which it does only if nothing is wrong.
abbrev pub Takes : {A : Type 0} → Result (Unit {0}) AsmFault → A → Result A AsmFault → Type 0
Takes (Ok x) new step = step ≡ Ok new
Takes (Err fault) new step = ((fault ≡ faults.Memory) × IsOk step) ⊎ (step ≡ Err fault)

-- ---- a line

-- The label is first defined by this line.
abbrev pub label_step : Sketch → ℕ → Option Place → Result Sketch AsmFault
label_step s at None = Ok s
label_step s at (Some place) = if nat_lt place.line at then Err faults.Twice else Ok s

-- a `with` line, and a `bytes` line
abbrev pub with_line_step : Sketch → ℕ → RegisterContent → Result Sketch AsmFault
with_line_step s register content = last_of s >>= λ p. with_step p register content >>= with_last s

abbrev pub bytes_line_step : Sketch → Numeral → Numeral → Result Sketch AsmFault
bytes_line_step s start end = last_of s >>= λ p. bytes_step p start end >>= with_last s

-- after the first two
abbrev pub body_step : Sketch → AssemblyLine → ℕ → Option Place → List (Option AssemblyLine)
    → Result Sketch AsmFault
body_step s lines.Label at place rest = label_step s at place
body_step s (lines.State slot constant found) at place rest =
    state_step s slot constant found (slot_at place) rest
body_step s (lines.With register content) at place rest = with_line_step s register content
body_step s (lines.Bytes start end) at place rest = bytes_line_step s start end
body_step s other at place rest = instruction_step s other (slot_at place)

-- The line `at`, which these lines follow: `hook` is the first one, `rank` the second.
abbrev pub line_step : Sketch → AssemblyLine → ℕ → Option Place → List (Option AssemblyLine)
    → Result Sketch AsmFault
line_step s lines.Empty at place rest = Ok s
line_step s (lines.Hook hook) at place rest = hook_step s hook
line_step s (lines.Rank rank) at place rest = rank_step s rank
line_step s other at place rest = if is_none s.rank then Err faults.Syntax
    else body_step s other at place rest

-- ---- all lines

-- what is wrong, and with which line, counted from 1
abbrev pub Verdict : Type 0
Verdict = Result Sketch (ℕ × AsmFault)

abbrev pub blame_line : ℕ → Result Sketch AsmFault → (Sketch → Verdict) → Verdict
blame_line at (Ok s) next = next s
blame_line at (Err fault) next = Err (at + 1, fault)

-- the lines from `at` on, where `places` says what the labels name
abbrev pub take_lines : (Word → Option Place) → ℕ → List (Option AssemblyLine) → List Word → Sketch
    → Verdict
take_lines places at [] names s = Ok s
take_lines places at (line ∷ rest) [] s = Ok s
take_lines places at (None ∷ rest) (name ∷ names) s = Err (at + 1, faults.Syntax)
take_lines places at (Some line ∷ rest) (name ∷ names) s =
    blame_line at (line_step s line at (places name) rest) (take_lines places (at + 1) rest names)

-- the whole text, with these lines and the names beside them
abbrev pub taken_all : List (Option AssemblyLine) → List Word → Verdict
taken_all found names = take_lines (place_from 0 0 found names) 0 found names nothing

-- The object holds what the lines say.
pub record IsMade (s : Sketch) (o : ObjectParts) : Type 0 where
  pub hook : s.hook ≡ Some o.hook
  pub rank : s.rank ≡ Some o.entry_rank
  pub code : spelling.Spells o.code s.code
  pub statements : o.statements ≡ all_of s.before s.last
  pub lawful : IsObject o

-- No object is made of them: there is no instruction, or memory runs out.
abbrev pub Declines : Sketch → AsmFault → Type 0
Declines s fault = ((fault ≡ faults.Memory) × (1 ≤ length s.code))
    ⊎ ((fault ≡ faults.Syntax) × (s.code ≡ []))

-- No object has these statements.
abbrev pub AreUnlawful : List StatementParts → Type 0
AreUnlawful statements = (least slots : ℕ) → AreStatements least slots statements → ⊥

-- ---- texts

-- The text has these lines, with these names beside them.
pub record Says (text : List ℕ) (found : List (Option AssemblyLine))
    (names : List (Bor Word)) : Type 0 where
  pub same : length found ≡ length names
  pub read : Readings (lines_in text) (items found names)

-- The text spells the object: no line is bad, and the object holds what they say.
pub record TextSpells (text : List ℕ) (o : ObjectParts) : Type 0 where
  pub found : List (Option AssemblyLine)
  pub names : List (Bor Word)
  pub says : Says text found names
  pub made : Sketch
  pub taken : taken_all found (views names) ≡ Ok made
  pub is_made : IsMade made o

-- The first bad line, and what is wrong with it. If no line is bad and none is an instruction, that
-- is `Syntax` at line 1.
abbrev pub Blames : Verdict → ℕ → AsmFault → Type 0
Blames verdict line fault = (verdict ≡ Err (line, fault))
    ⊎ ((line ≡ 1) × (fault ≡ faults.Syntax)
    × ((made : Sketch) × (verdict ≡ Ok made) × (made.code ≡ [])))

pub record Refuses (text : List ℕ) (line : ℕ) (fault : AsmFault) : Type 0 where
  pub found : List (Option AssemblyLine)
  pub names : List (Bor Word)
  pub says : Says text found names
  pub blames : Blames (taken_all found (views names)) line fault
