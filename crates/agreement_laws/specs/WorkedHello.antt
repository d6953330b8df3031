-- A worked event of a router with any number of interfaces: a Hello from a new neighbor starts an
-- adjacency (RFC 2328, sections 10.5 and 10.8).
use Rattle.std.specs.Prelude.{◌≡◌, ℕ, ◌%◌, ◌^◌, List, [], ◌∷◌, None, Some}
use Rattle.packet.specs.declared.model.Hello.{Hello}
use Rattle.adjacency.specs.Adjacencies.{initial_description}
use Rattle.adjacency.specs.Contents.{Content}
use Rattle.adjacency.specs.declared.state.NeighborState.TheVariants.{ExStart}
use Rattle.received.specs.Links.{Link, link_at}
use Rattle.event_rules.specs.declared.model.Out.{Out}
use Rattle.event_rules.specs.Events.{Happens}
use Rattle.event_rules.specs.Packing.{outs_of}
use Rattle.event_rules.specs.Routers.{Occurrence, Router, shown_at}
use Rattle.agreement_laws.specs.WorkedAdjacency.{IsNamingHello}
use Rattle.agreement_laws.specs.WorkedUpdates.{IsAtRest}

-- if no neighbor is in Exchange or Loading, and there is none at this interface, an accepted Hello
-- that lists this router leads to ExStart, and only the initial Database Description with the
-- moment's number is sent at any interface
abbrev pub ANeighborIsHeard : Type 0
ANeighborIsHeard =
    (old new : Router) (interface : ℕ) (link : Link) (moment from : ℕ) (bytes : List ℕ) (h : Hello)
    (outs : List Out)
    → IsAtRest old moment → link_at interface old.area.links ≡ Some link → link.neighbor ≡ None
    → IsNamingHello old link bytes from h
    → Happens old moment (Occurrence.Packet interface bytes) outs new
    → (shown_at new interface ≡ Some (from, ExStart))
    × (outs ≡ outs_of old.id old.area.links (record {
      interface = interface;
      content = Content.Describes (initial_description (moment % 2 ^ 32));
    } ∷ []))
