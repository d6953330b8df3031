-- What an object is made of.
use Rattle.std.specs.Prelude.{◌≡◌, ℕ, ◌+◌, ◌/◌, ◌%◌, ◌≤◌, ◌<◌, ◌^◌, List, [], ◌∷◌, length}
use Rattle.isa.specs.declared.hook.Hook.{Hook}
use Rattle.object.specs.Statements.{StatementParts, IsStatement}

-- the hook, the rank at the entry, the bytes of the code and the statements
pub record ObjectParts : Type 0 where
  pub hook : Hook
  pub entry_rank : ℕ
  pub code : List ℕ
  pub statements : List StatementParts

-- the number of slots of the code
abbrev pub slots_of : ObjectParts → ℕ
slots_of o = length o.code / 8

-- Statements in the order of their slots, each slot once, from `least` on and below `slots`.
abbrev pub AreStatements : ℕ → ℕ → List StatementParts → Type 0
AreStatements least slots [] = Unit {0}
AreStatements least slots (s ∷ ss) = IsStatement s × (least ≤ s.slot) × (s.slot < slots)
    × AreStatements (s.slot + 1) slots ss

-- the least slot that a statement after these may have, if the first may have `least`
abbrev pub next_slot : ℕ → List StatementParts → ℕ
next_slot least [] = least
next_slot least (s ∷ ss) = next_slot (s.slot + 1) ss

pub record IsObject (o : ObjectParts) : Type 0 where
  pub entry_rank : o.entry_rank < 2 ^ 32
  pub whole : length o.code % 8 ≡ 0
  pub some : 1 ≤ slots_of o
  pub most : slots_of o ≤ 4096
  pub statements : AreStatements 0 (slots_of o) o.statements
