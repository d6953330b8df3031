-- A property of the neighbor at one interface, if there is one, in the changes of the links.
use Rattle.std.proofs.Common.{◌≡◌, ℕ, true, cond, List, [], Option, None, Some, subst}
use Rattle.std.specs.Prelude.{◌==◌}
use Rattle.std.proofs.lemmas.Bool.{eqb-true}
use Rattle.adjacency.specs.Adjacencies.{after_inactivity_timer, has_passed, loading_done}
use Rattle.adjacency.specs.Contents.{Step}
use Rattle.adjacency.specs.Descriptions.{without_old_description}
use Rattle.adjacency.specs.Neighbors.{Neighbor}
use Rattle.adjacency.proofs.Kept.{chosen}
use Rattle.received.specs.Links.{Link, change_link, link_at, neighbor_at, neighbor_on}
use Rattle.received.specs.AreaStates.{Stepping, only_at, step_on, stepped_links}
use Rattle.event_rules.specs.Endings.{loading_done_on}
use Rattle.event_rules.specs.Packets.{with_neighbor}
use Rattle.event_rules.specs.Ticks.{settled_exchange}
use Rattle.invariants.proofs.Leaving.{numbered_kept, stepped_kept}

module _ (P : Option Neighbor → Type 0) where
  -- ---- the neighbor of one link

  pub inactive : P None → (moment dead : ℕ)
      → ((m : Neighbor) → P (Some m) → P (Some (without_old_description moment dead m)))
      → (n : Option Neighbor) → P n
      → P (settled_exchange moment dead (after_inactivity_timer moment dead n))
  inactive none moment dead keeps None h = h
  inactive none moment dead keeps (Some m) h =
      chosen (λ (o : Option Neighbor). P (settled_exchange moment dead o))
      (has_passed m.last_heard dead moment) None (Some m) (λ e. none) (λ e. keeps m h)

  pub loaded : ((m : Neighbor) → P (Some m) → P (Some (loading_done m))) → (n : Option Neighbor)
      → P n → P (loading_done_on n)
  loaded keeps None h = h
  loaded keeps (Some m) h = keeps m h

  module _ (number : ℕ) where
    -- ---- at its number

    -- the link at a place is changed
    pub changed : (place : ℕ) (change : Link → Link) (links : List Link)
        → ((link : Link) → P link.neighbor → P (change link).neighbor)
        → P (neighbor_at number links) → P (neighbor_at number (change_link place change links))
    changed place change links keeps h =
        numbered_kept P P (λ n. n) (λ (e : ℕ × Link). cond (e.0 == place) (change e.1) e.1) number
        (λ link at. chosen (λ (l : Link). P l.neighbor) (number == place) (change link) link
        (λ e. keeps link at) (λ e. at)) links h

    -- by a Hello that its neighbor sent
    pub heard : (place : ℕ) (m : Neighbor) (link : Link) (links : List Link)
        → link_at place links ≡ Some link → (P link.neighbor → P (Some m))
        → P (neighbor_at number links)
        → P (neighbor_at number (change_link place (with_neighbor m) links))
    heard place m link links is keeps h =
        numbered_kept
        (λ (n : Option Neighbor). P n × ((number == place) ≡ true → P link.neighbor)) P
        (λ k. k.0) (λ (e : ℕ × Link). cond (e.0 == place) (with_neighbor m e.1) e.1) number
        (λ l at. chosen (λ (x : Link). P x.neighbor) (number == place) (with_neighbor m l) l
        (λ here. keeps (at.1 here)) (λ away. at.0)) links (h, at_place)
      where
        at_place : (number == place) ≡ true → P link.neighbor
        at_place e =
            subst (λ (l : Option Link). P (neighbor_on l)) is
            (subst (λ i. P (neighbor_at i links)) (eqb-true number place e) h)

    -- a step of each neighbor
    pub stepped : (f : Stepping) (links : List Link)
        → ((link : Link) (m : Neighbor) → P (Some m) → P (Some (f number link m).neighbor))
        → P (neighbor_at number links) → P (neighbor_at number (stepped_links f links))
    stepped f links keeps h =
        stepped_kept P P (λ n. n) f number (λ link at. one link link.neighbor at) links h
      where
        one : (link : Link) (n : Option Neighbor) → P n → P (step_on (f number link) n)
        one link None k = k
        one link (Some m) k = keeps link m k

    -- of the one at a place
    pub stepped_at : (place : ℕ) (f : Neighbor → Step) (link : Link) (m : Neighbor)
        → ((number == place) ≡ true → P (Some m) → P (Some (f m).neighbor)) → P (Some m)
        → P (Some (only_at place f number link m).neighbor)
    stepped_at place f link m keeps h =
        chosen (λ (s : Step). P (Some s.neighbor)) (number == place) (f m)
        (record { neighbor = m; sends = [] }) (λ e. keeps e h) (λ e. h)
