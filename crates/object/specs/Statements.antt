-- What a statement says at a slot of the code: of each register, of the stack and of the rank.
use Rattle.std.specs.Prelude.{◌≡◌, ℕ, ◌≤◌, ◌<◌, ◌^◌, Bool, List, length, Option, Some, None}
use Rattle.std.specs.Prelude.{slice_get}
use Rattle.std.specs.List.{All}
use Rattle.object.specs.declared.kind.StatedKind.{StatedKind}
use Rattle.object.specs.declared.kind.StatedKind.TheVariants as kinds
use Rattle.object.specs.declared.rank.Rank.{Rank}
use Rattle.object.specs.Numbers.{Numbers, IsNumbers, Term, IsTerm}
use Rattle.object.specs.Sets.{IsStackBytes}

abbrev pub IsKind : StatedKind → Type 0
IsKind kinds.Unstated = Unit {0}
IsKind (kinds.Number numbers) = IsNumbers numbers
IsKind (kinds.Context offset) = offset ≤ 64
IsKind (kinds.Stack offset) = offset ≤ 512
IsKind (kinds.MapValue map numbers) = IsNumbers numbers

abbrev pub IsTermOrNone : Option Term → Type 0
IsTermOrNone None = Unit {0}
IsTermOrNone (Some term) = IsTerm term

pub record IsRank (rank : Rank) : Type 0 where
  pub constant : rank.constant < 2 ^ 32
  pub first : IsTermOrNone rank.first
  pub second : IsTermOrNone rank.second

-- The register is stated as a number.
abbrev pub IsNumberAt : List StatedKind → ℕ → Type 0
IsNumberAt registers register = (numbers : Numbers)
    × (slice_get registers register ≡ Some (kinds.Number numbers))

-- A term's register is stated as a number.
abbrev pub IsTermOver : List StatedKind → Option Term → Type 0
IsTermOver registers None = Unit {0}
IsTermOver registers (Some term) = IsNumberAt registers term.register

pub record IsRankOver (registers : List StatedKind) (rank : Rank) : Type 0 where
  pub is_rank : IsRank rank
  pub first : IsTermOver registers rank.first
  pub second : IsTermOver registers rank.second

-- the parts of a statement: its slot, the rank there, what r0 to r9 hold, and the stack bytes that
-- hold bytes of numbers
pub record StatementParts : Type 0 where
  pub slot : ℕ
  pub rank : Rank
  pub kinds : List StatedKind
  pub stack : List Bool

pub record IsStatement (s : StatementParts) : Type 0 where
  pub slot : s.slot < 2 ^ 32
  pub rank : IsRankOver s.kinds s.rank
  pub count : length s.kinds ≡ 10
  pub kinds : All IsKind s.kinds
  pub stack : IsStackBytes s.stack
