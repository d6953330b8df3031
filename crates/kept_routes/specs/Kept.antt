-- A walk that is kept (RFC 2328, section 16.1).
use Rattle.std.specs.Prelude.{ℕ}
use Rattle.candidates.specs.Ways.{DistancesFit, AreWays}
use Rattle.routes.specs.Contents.{Contents}
use Rattle.routes.specs.declared.root.Root.{Root}
use Rattle.candidates.specs.Reached.{NodeWays, way_in}

pub record KeptWalk : Type 0 where
  -- where it began
  pub root : Root
  -- where it led
  pub reached : NodeWays
  -- the number of walks that were made
  pub walks : ℕ

-- it is the walk of what the LSAs say: the way to each node, or None, by the links that count
pub record IsWalkOf (contents : Contents) (kept : KeptWalk) : Type 0 where
  pub ways : AreWays contents kept.root (way_in kept.reached)
  pub near : DistancesFit (way_in kept.reached)
