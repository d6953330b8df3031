-- Every packet that is sent fits into 8,192 bytes: an invariant of the router that holds at the
-- start, is kept by each event, and bounds what an event sends.
use Rattle.std.specs.Prelude.{◌≡◌, ◌≤◌, ℕ, true, List, length}
use Rattle.std.specs.List.{AllByRecursion}
use Rattle.words.specs.Constants.{largest_packet}
use Rattle.adjacency.specs.Neighbors.{Neighbor}
use Rattle.adjacency.specs.Rooms.{AllFit, HasRoom, HasRoomyLists}
use Rattle.received.specs.Holds.{HoldsOfEach}
use Rattle.received.specs.AreaStates.{Send}
use Rattle.event_rules.specs.declared.model.Config.{Config}
use Rattle.event_rules.specs.declared.model.Out.{Out}
use Rattle.event_rules.specs.Endings.{end_event}
use Rattle.event_rules.specs.Events.{Happens, Run, Step, initial}
use Rattle.event_rules.specs.Routers.{Occurrence, Router, in_profile}

-- each neighbor of the router has the property
abbrev pub OfEachNeighbor : (Neighbor → Type 0) → Router → Type 0
OfEachNeighbor P r = HoldsOfEach P r.area.links

-- each copy fits into a Link State Update; the last Database Description and the outstanding keys
-- fit into a packet; with at most 63 links the router-LSA fits too
pub record IsRoomy (r : Router) : Type 0 where
  pub fit : AllFit r.area.database
  pub lists : OfEachNeighbor HasRoomyLists r
  pub few : length r.area.links ≤ 63

-- no packet has more than 8,192 bytes
abbrev pub HaveRoom : List Out → Type 0
HaveRoom outs = AllByRecursion (λ (o : Out). length o.bytes ≤ largest_packet) outs

pub record EveryPacketHasRoom : Type 0 where
  -- at the start
  pub first : (c : Config) → in_profile c ≡ true → IsRoomy (initial c)
  -- after each event, if it held before; and what the event sends fits
  pub event : (old : Router) (moment : ℕ) (event : Occurrence) (outs : List Out) (new : Router)
      → Happens old moment event outs new → IsRoomy old → IsRoomy new × HaveRoom outs
  -- each content that it sends fits into a packet
  pub sends : (old : Router) (moment : ℕ) (event : Occurrence) (outs : List Out) (new : Router)
      → (happens : Happens old moment event outs new) → IsRoomy old
      → AllByRecursion (λ (s : Send). HasRoom s.content) (end_event old moment happens.after).sends
  -- so in every run from the start
  pub run : (c : Config) (steps : List Step) (new : Router) → in_profile c ≡ true
      → Run (initial c) steps new
      → IsRoomy new × AllByRecursion (λ (s : Step). HaveRoom s.outs) steps
