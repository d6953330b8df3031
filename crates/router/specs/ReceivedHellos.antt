-- What a Hello does to the link on which it is received, and what is sent there.
use Rattle.std.specs.Prelude.{Bool, true, ◌==◌, if◌then◌else◌, List, [], Option}
use Rattle.std.specs.Prelude.{None, Some}
use Rattle.words.specs.Numbers.{Moment, RouterNumber}
use Rattle.packet.specs.declared.model.Hello.{Hello}
use Rattle.adjacency.specs.Adjacencies.{after_hello}
use Rattle.adjacency.specs.Contents.{Content, Step}
use Rattle.adjacency.specs.declared.state.NeighborState.{NeighborState}
use Rattle.received.specs.Links.{Link}
use Rattle.event_rules.specs.Hellos.{accepts, names}
use Rattle.area.specs.Links.{with_neighbor}

-- another router becomes the neighbor only if there is none
abbrev pub may_be_named : Option (RouterNumber × NeighborState) → RouterNumber → Bool
may_be_named None from = true
may_be_named (Some named) from = named.0 == from

-- the neighbor's step for an accepted Hello
abbrev pub hello_step : (own : RouterNumber) → Moment → (from : RouterNumber) → Hello → Link → Step
hello_step own moment from h link =
    after_hello moment from (names own h) link.neighbor

abbrev pub after_received_hello : (own : RouterNumber) → Moment → (from : RouterNumber) → Hello
    → Link → Link
after_received_hello own moment from h link =
    if accepts own from h link
    then with_neighbor (Some (hello_step own moment from h link).neighbor) link else link

abbrev pub sent_at_received_hello : (own : RouterNumber) → Moment → (from : RouterNumber) → Hello
    → Link → List Content
sent_at_received_hello own moment from h link =
    if accepts own from h link then (hello_step own moment from h link).sends else []
