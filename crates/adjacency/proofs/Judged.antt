-- The verdict on a Database Description by the neighbor's fields.
use Rattle.std.proofs.Common.{◌≡◌, ℕ, Bool, true, false, ◌&&◌, Option, refl, sym, ap}
use Rattle.lsdb.specs.Instances.{ListEntry}
use Rattle.lsdb.specs.Keys.{ByKey}
use Rattle.packet.specs.declared.model.Description.{Description}
use Rattle.adjacency.specs.declared.standing.Standing.{Standing}
use Rattle.adjacency.specs.declared.state.NeighborState.{NeighborState}
use Rattle.adjacency.specs.Descriptions.{verdict_in}
use Rattle.adjacency.specs.Exchanges.{verdict_of_description, standing_of}
use Rattle.adjacency.specs.Neighbors.{Neighbor}
use Rattle.adjacency.specs.Views.{neighbor_of}

module _ {X : Type 0} (s : Standing) (des : Option Description) (sum req : ByKey ListEntry)
    (out : ByKey X) (retr : ByKey ListEntry) where
  pub stands_now : s ≡ standing_of (neighbor_of s des sum req out retr)
  unfolding neighbor_of
  stands_now = refl

  pub described_now : des ≡ (neighbor_of s des sum req out retr).described
  unfolding neighbor_of
  described_now = refl

pub judged_in : (own : ℕ) (n : Neighbor) (d : Description) (s : NeighborState) → n.state ≡ s
    → verdict_in s own n d ≡ verdict_of_description own n d
unfolding verdict_of_description
judged_in own n d s is = sym (ap (λ t. verdict_in t own n d) is)

pub and_true : (b : Bool) → (b && true) ≡ b
and_true true = refl
and_true false = refl
