-- What the pass knows about a plain program.
use Rattle.std.specs.Prelude.{◌≡◌, ℕ, true, List, Option, None, length}
use Rattle.isa.specs.declared.code.Slot.{Slot}
use Rattle.isa.specs.declared.instruction.Instruction.{Instruction}
use Rattle.object.specs.Statements.{StatementParts}
use Rattle.kinds.specs.declared.statement.SegmentStart.{SegmentStart}
use Rattle.kinds.specs.Plain.{HoldsNumber}
use Rattle.verifier.specs.Lines.{IsConstant}
use Rattle.transfer.specs.Plain.{KeepsFilled}
use Rattle.verifier.specs.declared.known.Known.{Known}
use Rattle.verifier.specs.SegmentsPlain.{IsPlainHere}
use Rattle.verifier.specs.SegmentsStated.{AreSegmentStarts, statement_at}
use Rattle.verifier.specs.Plain.{IsFilledAt, IsPlain, IsRankAt}

-- a plain program, and the list of its segment starts
pub record IsPlainProgram {D : Type 0} (contains : D → ℕ → Type 0) (code : List Slot)
    (entry_rank : ℕ) (statements : List StatementParts)
    (segment_starts : List (Option (SegmentStart D))) : Type 0 where
  pub are : AreSegmentStarts contains statements segment_starts
  pub plain : IsPlain code entry_rank statements

-- the rank is this constant
pub record HasRank {D : Type 0} (segment : SegmentStart D) (rank : ℕ) : Type 0 where
  pub constant : IsConstant segment.statement.now.rank
  pub same : segment.statement.now.rank.constant ≡ rank

-- If the slot may be reached, registers that are filled there are known to hold numbers; and the
-- segment's rank is the one there.
pub record KnowsPlain {D : Type 0} (code : List Slot) (entry_rank : ℕ)
    (statements : List StatementParts) (slot : ℕ) (segment : SegmentStart D)
    (known : Known D) : Type 0 where
  pub filled : known.is_live ≡ true → (r : ℕ) → IsFilledAt code statements slot r
      → HoldsNumber known.state r
  pub constant : IsConstant segment.statement.now.rank
  pub rank : IsRankAt code entry_rank statements slot segment.statement.now.rank.constant

-- what comes from the slot before, unless the slot has a statement
pub record ComesPlainly {D : Type 0} (code : List Slot) (entry_rank : ℕ)
    (statements : List StatementParts) (slot : ℕ) (segment : SegmentStart D)
    (known : Known D) : Type 0 where
  pub ten : length known.state.kinds.items ≡ 10
  pub knows : statement_at statements slot ≡ None
      → KnowsPlain code entry_rank statements slot segment known

-- if the slot may be reached, the instruction is one of a plain program
abbrev pub IsPlainIfLive : {D : Type 0} → (D → ℕ → Type 0) → List (Option (SegmentStart D))
    → SegmentStart D → ℕ → Instruction → Known D → Type 0
IsPlainIfLive contains segment_starts segment slot i known =
    known.is_live ≡ true → IsPlainHere contains segment_starts segment slot i known.state

-- the next slot may be reached only if this one may, and then filled registers remain filled
pub record KeepsPlain {D : Type 0} (i : Instruction) (known after : Known D) : Type 0 where
  pub ten : length after.state.kinds.items ≡ 10
  pub from : after.is_live ≡ true → known.is_live ≡ true
  pub keeps : after.is_live ≡ true → KeepsFilled i known.state after.state
