-- Invariants of every neighbor: they hold at the start, each event keeps them, and so they hold at
-- every point of a run.
use Rattle.std.specs.Prelude.{◌≡◌, ℕ, ◌==◌, true, false, List}
use Rattle.std.specs.FinSet as set
use Rattle.adjacency.specs.Adjacencies.{requests_nothing}
use Rattle.adjacency.specs.Laws.{IsBareWhereFull}
use Rattle.adjacency.specs.Lists.{HasSoundLists}
use Rattle.adjacency.specs.Neighbors.{Neighbor, is_exchange_or_loading}
use Rattle.adjacency.specs.declared.state.NeighborState.TheVariants.{Loading}
use Rattle.event_rules.specs.declared.model.Config.{Config}
use Rattle.event_rules.specs.declared.model.Out.{Out}
use Rattle.event_rules.specs.Events.{Happens, Run, Step, initial}
use Rattle.event_rules.specs.Routers.{Occurrence, Router}
use Rattle.event_rules.specs.RoomLaws.{OfEachNeighbor}

pub record IsAlwaysSo (P : Neighbor → Type 0) : Type 0 where
  -- at the start
  pub first : (c : Config) → OfEachNeighbor P (initial c)
  -- after each event, if it held before
  pub event : (old : Router) (moment : ℕ) (event : Occurrence) (outs : List Out) (new : Router)
      → Happens old moment event outs new → OfEachNeighbor P old → OfEachNeighbor P new
  -- so after every run from the start
  pub run : (c : Config) (steps : List Step) (new : Router) → Run (initial c) steps new
      → OfEachNeighbor P new

-- a Full neighbor has an empty request list
abbrev pub FullNeighborsRequestNothing : Type 0
FullNeighborsRequestNothing = IsAlwaysSo IsBareWhereFull

-- before Exchange a neighbor's lists are empty; every outstanding key is on the request list; a
-- Full neighbor has an empty request list and nothing outstanding
abbrev pub ListsAreSound : Type 0
ListsAreSound = IsAlwaysSo HasSoundLists

-- ---- Link State Requests

-- in Loading the request list isn't empty (section 10.3); in Exchange or Loading, if it isn't
-- empty, something is outstanding (section 10.9)
pub record IsRequesting (n : Neighbor) : Type 0 where
  pub loading : n.state ≡ Loading → requests_nothing n ≡ false
  pub outstanding : is_exchange_or_loading n.state ≡ true → requests_nothing n ≡ false
      → (set.len n.outstanding == 0) ≡ false

-- so after every event, whatever was before it; at the start there are no neighbors
abbrev pub WhatIsLeftIsRequested : Type 0
WhatIsLeftIsRequested =
    (old : Router) (moment : ℕ) (event : Occurrence) (outs : List Out) (new : Router)
    → Happens old moment event outs new → OfEachNeighbor IsRequesting new
