-- The invariant of the lines so far, by which they spell an object once there is an instruction.
use Rattle.std.specs.Prelude.{◌⊎◌, ◌≡◌, ℕ, ◌≤◌, ◌<◌, ◌^◌, true, List, [], length, Option, Some}
use Rattle.std.specs.Prelude.{None}
use Rattle.std.specs.List.{All}
use Rattle.isa.specs.declared.hook.Hook.{Hook}
use Rattle.isa.specs.declared.code.Slot.{Slot}
use Rattle.object.specs.declared.kind.StatedKind.{StatedKind}
use Rattle.object.specs.Numbers.{Term}
use Rattle.object.specs.Statements.{StatementParts, IsKind, IsRank, IsNumberAt}
use Rattle.object.specs.Objects.{AreStatements}
use Rattle.object.specs.Sets.{IsStackBytes}
use Rattle.asm.specs.declared.line.AssemblyLine.{AssemblyLine}
use Rattle.asm.specs.Rules.{is_stated_number}
use Rattle.asm.specs.Assembling.{Sketch}

-- The hook comes before the rank, and the rank before the code.
abbrev pub IsFront : Option Hook → Option ℕ → List Slot → Type 0
IsFront hook None code = code ≡ []
IsFront None (Some rank) code = ⊥
IsFront (Some hook) (Some rank) code = rank < 2 ^ 32

-- A term's register is stated as a number, here or by a line that follows.
abbrev pub IsTermSoon : List StatedKind → List (Option AssemblyLine) → Option Term → Type 0
IsTermSoon registers rest None = Unit {0}
IsTermSoon registers rest (Some term) = IsNumberAt registers term.register
    ⊎ (is_stated_number rest term.register ≡ true)

-- a statement that these lines follow
pub record IsOpen (rest : List (Option AssemblyLine)) (s : StatementParts) : Type 0 where
  pub rank : IsRank s.rank
  pub first : IsTermSoon s.kinds rest s.rank.first
  pub second : IsTermSoon s.kinds rest s.rank.second
  pub count : length s.kinds ≡ 10
  pub kinds : All IsKind s.kinds
  pub stack : IsStackBytes s.stack

-- Slots ascend and are below the code's end, and the statements before the last one are complete.
abbrev pub AreInOrder : ℕ → List (Option AssemblyLine) → List StatementParts → Option StatementParts
    → Type 0
AreInOrder slots rest before None = before ≡ []
AreInOrder slots rest before (Some last) = AreStatements 0 last.slot before × (last.slot < slots)
    × IsOpen rest last

pub record IsLawful (rest : List (Option AssemblyLine)) (s : Sketch) : Type 0 where
  pub front : IsFront s.hook s.rank s.code
  pub most : length s.code ≤ 4096
  pub statements : AreInOrder (length s.code) rest s.before s.last

-- Slots ascend up to the last statement's.
abbrev pub AreAscending : List StatementParts → Option StatementParts → Type 0
AreAscending before None = Unit {0}
AreAscending before (Some last) = AreStatements 0 last.slot before
