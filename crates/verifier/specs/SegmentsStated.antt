-- What is stated at a slot, and the list of segment starts that says it again.
use Rattle.std.specs.Prelude.{◌≡◌, ℕ, ◌<◌, ◌==◌, if◌then◌else◌, List, [], ◌∷◌, Option, Some, None}
use Rattle.std.specs.Prelude.{length, slice_index_or}
use Rattle.object.specs.Statements.{StatementParts}
use Rattle.object.specs.declared.kind.StatedKind.TheVariants as said
use Rattle.machine.specs.declared.state.State.{State as Machine}
use Rattle.kinds.specs.declared.state.Kind.TheVariants as kinds
use Rattle.kinds.specs.declared.statement.SegmentStart.{SegmentStart}
use Rattle.kinds.specs.Meaning.{SegmentStartHolds}
use Rattle.kinds.specs.Stated.{GivesStated, IsRead, MeetsStatement}
use Rattle.verifier.specs.Places.{segment_start_at}

-- what is stated at the slot, if anything
abbrev pub statement_at : List StatementParts → ℕ → Option StatementParts
statement_at [] slot = None
statement_at (s ∷ ss) slot = if s.slot == slot then Some s else statement_at ss slot

-- the segment start is that of the statement: its kinds are read from what is stated of r0 to r9,
-- as
-- `IsRead` says
pub record IsSegmentStartOf {D : Type 0} (contains : D → ℕ → Type 0) (statement : StatementParts)
    (segment : SegmentStart D) : Type 0 where
  pub same : segment.statement.now ≡ statement
  pub ten : length segment.kinds.items ≡ 10
  pub read : (r : ℕ) → r < 10
      → IsRead contains (slice_index_or statement.kinds r said.Unstated)
      (slice_index_or segment.kinds.items r kinds.Unknown)

abbrev pub Agrees : {D : Type 0} → (D → ℕ → Type 0) → Option StatementParts
    → Option (SegmentStart D) → Type 0
Agrees contains None None = Unit {0}
Agrees contains (Some statement) (Some segment) = IsSegmentStartOf contains statement segment
Agrees contains stated found = ⊥

-- at each slot the list has the statement's segment start if there is a statement, else none
abbrev pub AreSegmentStarts : {D : Type 0} → (D → ℕ → Type 0) → List StatementParts
    → List (Option (SegmentStart D)) → Type 0
AreSegmentStarts contains statements segment_starts =
    (slot : ℕ) → Agrees contains (statement_at statements slot)
    (segment_start_at segment_starts slot)

-- each machine that is as a segment start says is as its statement says
abbrev pub MeetStatements : {D : Type 0} → (D → ℕ → Type 0) → GivesStated D
    → List (Option (SegmentStart D)) → Type 0
MeetStatements {D = D} contains gives segment_starts =
    (slot : ℕ) (segment : SegmentStart D) → segment_start_at segment_starts slot ≡ Some segment
    → (machine : Machine) → SegmentStartHolds contains segment machine
    → MeetsStatement contains gives segment.statement.now machine
