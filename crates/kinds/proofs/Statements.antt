-- Kinds that are read from what is stated.
use Rattle.std.proofs.Common.{◌≡◌, ℕ, ◌<◌, get_or}
use Rattle.object.specs.declared.kind.StatedKind.{StatedKind as Stated}
use Rattle.object.specs.declared.kind.StatedKind.TheVariants as said
use Rattle.object.specs.Statements.{StatementParts}
use Rattle.machine.specs.declared.state.Content.{Content}
use Rattle.machine.specs.declared.state.State.{State as Machine}
use Rattle.kinds.specs.declared.state.Kind.{Kind}
use Rattle.kinds.specs.declared.state.Kind.TheVariants.{Unknown}
use Rattle.kinds.specs.declared.statement.SegmentStart.{SegmentStart}
use Rattle.kinds.specs.Meaning.{KindHolds, SegmentStartHolds}
use Rattle.kinds.specs.Stated.{GivesStated, HoldsStatement, IsAsStated, IsRead, MeetsStated}
use Rattle.kinds.specs.Stated.{MeetsStatement}

-- the kind is what is stated, in both directions
pub record IsKindOf {D : Type 0} (contains : D → ℕ → Type 0) (gives : GivesStated D)
    (stated : Stated) (kind : Kind D) : Type 0 where
  pub read : IsRead contains stated kind
  pub holds : (content : Content) → IsAsStated stated content → KindHolds contains kind content
  pub meets : (content : Content) → KindHolds contains kind content
      → MeetsStated contains gives stated content

-- the kinds of r0 to r9 are those of the statement
abbrev pub AreKindsOf : {D : Type 0} → (D → ℕ → Type 0) → GivesStated D → StatementParts
    → SegmentStart D → Type 0
AreKindsOf contains gives statement segment =
    (r : ℕ) → r < 10 → IsKindOf contains gives (get_or statement.kinds r said.Unstated)
    (get_or segment.kinds.items r Unknown)

module _ {D : Type 0} (contains : D → ℕ → Type 0) (gives : GivesStated D)
    (statement : StatementParts) (segment : SegmentStart D)
    (same : segment.statement.now ≡ statement)
    (are : AreKindsOf contains gives statement segment) where
  pub segment_start_holds : (machine : Machine) → HoldsStatement statement machine
      → SegmentStartHolds contains segment machine
  segment_start_holds machine is = record {
    eleven = is.eleven;
    whole = is.whole;
    frame = is.frame;
    registers = λ r low. (are r low).holds _ (is.registers r low);
    stack = rw same is.stack;
  }

  pub segment_start_meets : (machine : Machine) → SegmentStartHolds contains segment machine
      → MeetsStatement contains gives statement machine
  segment_start_meets machine holds = record {
    registers = λ r low. (are r low).meets _ (holds.registers r low);
    stack = rw same at holds.stack;
  }
