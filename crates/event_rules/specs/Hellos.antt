-- Hellos: which are accepted, when one is due, and what it contains (RFC 2328, sections 8.2, 9.5
-- and 10.5).
use Rattle.std.specs.Prelude.{ℕ, Bool, true, not, ◌&&◌, ◌==◌, bit_and, if◌then◌else◌, List, [], ◌∷◌}
use Rattle.std.specs.Prelude.{Option, None, Some}
use Rattle.std.specs.List.{list_any}
use Rattle.words.specs.Numbers.{Moment, RouterNumber, Seconds}
use Rattle.words.specs.Prefixes.{mask_of}
use Rattle.words.specs.Constants.{e_bit}
use Rattle.packet.specs.declared.model.PacketBody.TheVariants as body
use Rattle.packet.specs.declared.model.Hello.{Hello}
use Rattle.packet.specs.declared.model.Packet.{Packet}
use Rattle.adjacency.specs.Adjacencies.{has_passed}
use Rattle.adjacency.specs.Neighbors.{Neighbor}
use Rattle.adjacency.specs.declared.interface.Interface.{Interface}
use Rattle.received.specs.Links.{Link}

-- ---- received Hellos

-- a packet without a Router ID or with this router's own isn't from a neighbor
abbrev pub is_foreign : (own : RouterNumber) → (from : RouterNumber) → Bool
is_foreign own from = not (from == 0) && not (from == own)

-- HelloInterval, RouterDeadInterval and the E-bit are those of the interface
abbrev pub agrees_on : Interface → Hello → Bool
agrees_on interface h =
    h.hello_interval == interface.hello_interval
    && h.dead_interval == interface.dead_interval
    && not (bit_and h.options e_bit == 0)

abbrev pub agrees : Link → Hello → Bool
agrees link h = agrees_on link.interface h

-- another router becomes the neighbor only if there is none
abbrev pub may_be : Option Neighbor → RouterNumber → Bool
may_be None from = true
may_be (Some n) from = n.router == from

abbrev pub accepts : (own : RouterNumber) → (from : RouterNumber) → Hello → Link → Bool
accepts own from h link = is_foreign own from && (agrees link h && may_be link.neighbor from)

-- the Hello lists this router
abbrev pub names : RouterNumber → Hello → Bool
names own h = list_any (λ (router : ℕ). router == own) h.neighbors

-- ---- sent Hellos

abbrev pub is_due : Moment → Seconds → Option Moment → Bool
is_due moment interval None = true
is_due moment interval (Some last) = has_passed last interval moment

-- a Hello is sent at the first Tick, and then whenever HelloInterval has passed since the last one
abbrev pub hello_is_due : Moment → Link → Bool
hello_is_due moment link = is_due moment link.interface.hello_interval link.last_hello_sent

abbrev pub with_hello_sent : Moment → Link → Link
with_hello_sent moment link = record link {
  last_hello_sent = if hello_is_due moment link
      then Some moment else link.last_hello_sent;
}

abbrev pub heard_of : Option Neighbor → List ℕ
heard_of None = []
heard_of (Some n) = n.router ∷ []

abbrev pub hello_on : Link → Hello
hello_on link = record {
  mask = mask_of link.interface.length;
  hello_interval = link.interface.hello_interval;
  options = e_bit;
  priority = 1;
  dead_interval = link.interface.dead_interval;
  neighbors = heard_of link.neighbor;
}

abbrev pub hello_packet : RouterNumber → Link → Packet
hello_packet own link = record { router = own; body = body.Hello (hello_on link) }
