-- Which received Hellos are discarded, in the words of RFC 2328, section 10.5, and which because of
-- their sender.
use Rattle.std.specs.Prelude.{◌≡◌, ◌≢◌, ℕ, Some, bit_and}
use Rattle.packet.specs.declared.model.Hello.{Hello}
use Rattle.adjacency.specs.Neighbors.{Neighbor}
use Rattle.received.specs.Links.{Link, link_at}
use Rattle.received.specs.AreaStates.{AreaState}
use Rattle.event_rules.specs.Packets.{receive_hello}

-- the Hello changes nothing: links and database stay the same, and nothing is sent
abbrev pub IsDiscarded : (own moment interface from : ℕ) → Hello → AreaState → Type 0
IsDiscarded own moment interface from h o = receive_hello own moment interface from h o ≡ o

-- whatever the router's state, and whatever it has sent so far in the event, at an interface of its
-- own
pub record HellosAreDiscarded : Type 0 where
  -- the HelloInterval isn't the interface's
  pub hello_interval : (own moment interface from : ℕ) (h : Hello) (link : Link) (o : AreaState)
      → link_at interface o.area.links ≡ Some link
      → h.hello_interval ≢ link.interface.hello_interval
      → IsDiscarded own moment interface from h o
  -- the RouterDeadInterval isn't the interface's
  pub dead_interval : (own moment interface from : ℕ) (h : Hello) (link : Link) (o : AreaState)
      → link_at interface o.area.links ≡ Some link
      → h.dead_interval ≢ link.interface.dead_interval
      → IsDiscarded own moment interface from h o
  -- the E-bit is clear
  pub e_bit : (own moment interface from : ℕ) (h : Hello) (link : Link) (o : AreaState)
      → link_at interface o.area.links ≡ Some link → bit_and h.options 2 ≡ 0
      → IsDiscarded own moment interface from h o
  -- from another router than the neighbor there
  pub another : (own moment interface from : ℕ) (h : Hello) (link : Link) (n : Neighbor)
      (o : AreaState) → link_at interface o.area.links ≡ Some link → link.neighbor ≡ Some n
      → n.router ≢ from → IsDiscarded own moment interface from h o
  -- without a Router ID
  pub nobody : (own moment interface : ℕ) (h : Hello) (o : AreaState)
      → IsDiscarded own moment interface 0 h o
  -- from this router
  pub own : (own moment interface : ℕ) (h : Hello) (o : AreaState)
      → IsDiscarded own moment interface own h o
  -- the network mask doesn't matter, since the link is point-to-point
  pub mask : (own moment interface from mask : ℕ) (h : Hello) (o : AreaState)
      → receive_hello own moment interface from (record h { mask = mask }) o
      ≡ receive_hello own moment interface from h o
