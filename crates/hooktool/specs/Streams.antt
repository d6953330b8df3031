-- What is known of a stream.
use Rattle.std.specs.Prelude.{ℕ, List, Option, Bool}

-- what it has, if that is known, and whether a write to it failed
pub record StreamState : Type 0 where
  pub contents : Option (List ℕ)
  pub has_failed : Bool
