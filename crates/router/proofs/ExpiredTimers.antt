-- Expired timers of a link, and the end of Loading, as the definitions of an event say.
use Rattle.std.proofs.Common.{◌≡◌, ℕ, refl, ap}
use Rattle.std.specs.Prelude.{Option, None, Some}
use Rattle.adjacency.specs.Adjacencies.{after_inactivity_timer, loading_done}
use Rattle.adjacency.specs.Contents.{no_sends, step_on}
use Rattle.adjacency.specs.Descriptions.{without_old_description}
use Rattle.adjacency.specs.Neighbors.{Neighbor}
use Rattle.adjacency.specs.Timers as neighbor
use Rattle.received.specs.Links.{Link}
use Rattle.area.specs.Links.{with_neighbor}
use Rattle.event_rules.specs.Endings.{link_loading_done, loading_done_on}
use Rattle.event_rules.specs.Ticks.{expire_timers, settled_exchange}

given_up : (moment dead : ℕ) (o : Option Neighbor)
    → step_on (λ m. no_sends (without_old_description moment dead m)) o
    ≡ settled_exchange moment dead o
given_up moment dead None = refl
given_up moment dead (Some n) = refl

pub expire_timers_is : (moment : ℕ) (l : Link)
    → with_neighbor (neighbor.expire_neighbor_timers moment l.interface.dead_interval l.neighbor) l
    ≡ expire_timers moment l
expire_timers_is moment l = ap (λ o. with_neighbor o l)
    (given_up moment l.interface.dead_interval
    (after_inactivity_timer moment l.interface.dead_interval l.neighbor))

done_is : (o : Option Neighbor) → step_on (λ n. no_sends (loading_done n)) o ≡ loading_done_on o
done_is None = refl
done_is (Some n) = refl

pub loading_done_is : (l : Link) → with_neighbor
    (step_on (λ n. no_sends (loading_done n)) l.neighbor) l ≡ link_loading_done l
loading_done_is l = ap (λ o. with_neighbor o l) (done_is l.neighbor)
