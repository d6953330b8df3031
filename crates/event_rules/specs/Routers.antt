-- The state of a router, what may happen to it, and its start.
use Rattle.std.specs.Prelude.{ℕ, Bool, true, not, ◌&&◌, ◌==◌, nat_le, nat_lt, List, [], ◌∷◌, length}
use Rattle.std.specs.Prelude.{map, Option}
use Rattle.std.specs.List.{list_all, list_any}
use Rattle.std.specs.FinMap as finite
use Rattle.std.specs.FinSet as set
use Rattle.words.specs.Constants.{clock_end, max_age, max_interfaces}
use Rattle.words.specs.Numbers.{InterfaceNumber, Moment, RouterNumber}
use Rattle.words.specs.Prefixes.{Network}
use Rattle.words.specs.declared.route.External.{External}
use Rattle.words.specs.declared.route.Route.{Route}
use Rattle.lsdb.specs.Keys.{ByKey, KeySet}
use Rattle.adjacency.specs.declared.interface.Interface.{Interface}
use Rattle.adjacency.specs.declared.state.NeighborState.{NeighborState}
use Rattle.adjacency.specs.Steps.{named_neighbor}
use Rattle.received.specs.Links.{Area, Link, neighbor_at}
pub use Rattle.received.specs.Links.{fresh_link}
use Rattle.event_rules.specs.declared.model.Config.{Config}

pub record Router : Type 0 where
  -- the router's own Router ID
  pub id : RouterNumber
  -- the links, interface n at index n - 1, and the database
  pub area : Area
  -- the announced external destinations by the keys of their LSAs, with the metric and the tag from
  -- the answers
  pub announced : ByKey External
  -- the keys of self-originated LSAs that wait for a Tick
  pub waiting : KeySet
  -- when each self-originated LSA was last originated, kept for MinLSInterval
  pub originated : ByKey Moment
  -- the routes and words that the last `Install` brought: of a turn the candidates that were
  -- offered, and the programs' answers
  pub answers : List (Route × ℕ)
  -- the moment of the last event
  pub moment : Moment

-- ---- what may happen

pub data Occurrence : Type 0 where
  -- these bytes were received at the interface with this number
  Packet : (interface : InterfaceNumber) (bytes : List ℕ) → Occurrence
  Tick : Occurrence
  -- a destination is to be announced: an answer for its tag and one for its metric, each with the
  -- destination that it is for
  Redistribute : (tagged : External) (tag : ℕ) (priced : External) (price : ℕ) → Occurrence
  Withdraw : (prefix : Network) → Occurrence
  -- routes, each with a word: of a turn those that were offered, with their answers; no rule asks
  -- whether they were, or who answered
  Install : (answers : List (Route × ℕ)) → Occurrence
  LinkDown : (interface : InterfaceNumber) → Occurrence

-- ---- which configurations are valid

abbrev pub is_lawful : Interface → Bool
is_lawful i =
    nat_le i.length 32 && nat_le 1 i.cost && nat_le 1 i.hello_interval && nat_le 1 i.dead_interval
    && nat_le 1 i.retransmit_interval
    && nat_le 1 i.delay && nat_le i.delay max_age

-- no two have the same address
abbrev pub are_distinct : List Interface → Bool
are_distinct [] = true
are_distinct (i ∷ others) =
    not (list_any (λ j. j.address == i.address) others) && are_distinct others

abbrev pub in_profile : Config → Bool
in_profile c =
    not (c.router == 0) && nat_lt c.start clock_end && nat_le 1 (length c.interfaces)
    && nat_le (length c.interfaces) max_interfaces
    && list_all is_lawful c.interfaces && are_distinct c.interfaces

-- ---- the start

-- a router with these links and nothing else
abbrev pub with_links : RouterNumber → List Link → Moment → Router
with_links id links moment = record {
  id = id;
  area = record { links = links; database = finite.empty };
  announced = finite.empty;
  waiting = set.empty;
  originated = finite.empty;
  answers = [];
  moment = moment;
}

-- before it originates anything; the start counts as the moment of the last event
abbrev pub unannounced_router : Config → Router
unannounced_router c = with_links c.router (map fresh_link c.interfaces) c.start

-- ---- what is shown

-- the Router ID and the state of the neighbor at the interface with this number, unless it is Down
-- or there is no such interface
abbrev pub shown_at : Router → InterfaceNumber → Option (ℕ × NeighborState)
shown_at r interface = named_neighbor (neighbor_at interface r.area.links)
