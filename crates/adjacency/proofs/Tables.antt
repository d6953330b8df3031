-- The neighbor state machine.
use Rattle.std.proofs.Common.{◌≡◌, Bool, true, false, cond, Option, refl, sym, ap, ◌∙◌}
use Rattle.lsdb.specs.Headers.{key_of}
use Rattle.lsdb.specs.Instances.{ListEntry}
use Rattle.adjacency.specs.declared.state.NeighborState.{NeighborState}
use Rattle.adjacency.specs.declared.state.NeighborState.TheVariants.{Init, ExStart, Exchange}
use Rattle.adjacency.specs.declared.state.NeighborState.TheVariants.{Loading, Full}
use Rattle.adjacency.specs.Adjacencies.{loading_done_in, requests_nothing}
use Rattle.adjacency.specs.Laws.{FullHasNothingToRequest, IsBareWhereFull}
use Rattle.adjacency.specs.Laws.{OnlyTheSameInstanceIsAcknowledged}
use Rattle.adjacency.specs.Neighbors.{Neighbor, is_full}
use Rattle.adjacency.specs.Retransmissions.{is_entry, remove_retransmission}

chosen_full : (b : Bool) → cond b Full Loading ≡ Full → b ≡ true
chosen_full true e = refl
chosen_full false e = ap is_full e

filled_bare : (b : Bool) (n : Neighbor) → requests_nothing n ≡ b → (cond b (record n {
  state = Full;
}) n).state ≡ Full → n.state ≡ Loading → requests_nothing (cond b (record n {
  state = Full;
}) n) ≡ true
filled_bare true n is e loading = is
filled_bare false n is e loading = is ∙ ap is_full (sym loading ∙ e)

kept_bare : (s : NeighborState) (n : Neighbor) → n.state ≡ s → IsBareWhereFull n
    → (loading_done_in s n).state ≡ Full → requests_nothing (loading_done_in s n) ≡ true
kept_bare Init n is bare e = bare e
kept_bare ExStart n is bare e = bare e
kept_bare Exchange n is bare e = bare e
kept_bare Loading n is bare e = filled_bare (requests_nothing n) n refl e is
kept_bare Full n is bare e = bare e

pub full_is_bare : FullHasNothingToRequest
full_is_bare = record {
  after_exchange = λ moment n e. chosen_full (requests_nothing n) e;
  after_loading = λ n bare e. kept_bare n.state n refl bare e;
}

pub only_the_same : OnlyTheSameInstanceIsAcknowledged
only_the_same moment n h l here other =
    ap (λ (o : Option ListEntry). cond (is_entry moment h o) (remove_retransmission (key_of h) n) n)
    here
    ∙ ap (λ (b : Bool). cond b (remove_retransmission (key_of h) n) n) other
