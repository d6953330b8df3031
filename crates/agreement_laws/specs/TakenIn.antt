-- What a Full neighbor described was taken in (RFC 2328, sections 10.3, 10.6 and 10.9): since it
-- accepted the Description, the router has held an instance that is as new.
use Rattle.std.specs.Prelude.{◌≡◌, List, [], ◌∷◌, Some}
use Rattle.words.specs.Numbers.{InterfaceNumber}
use Rattle.words.specs.declared.key.Key.{Key}
use Rattle.lsdb.specs.Headers.{Header, key_of}
use Rattle.lsdb.specs.Instances.{instance_of}
use Rattle.lsdb.specs.declared.order.Instance.{Instance}
use Rattle.packet.specs.declared.model.Description.{Description}
use Rattle.adjacency.specs.declared.state.NeighborState.TheVariants.{Full}
use Rattle.adjacency.specs.Neighbors.{Neighbor}
use Rattle.received.specs.Links.{neighbor_at}
use Rattle.event_rules.specs.declared.model.Config.{Config}
use Rattle.event_rules.specs.Events.{Happens, Run, Step, initial}
use Rattle.event_rules.specs.Routers.{Router}
use Rattle.agreement_laws.specs.CopiesClimb.{BecameOf}
use Rattle.agreement_laws.specs.Exchanged.{Conversation, GoesOn}
use Rattle.agreement_laws.specs.Accepted.{AcceptsDescription, IsLastOfItsKey}
use Rattle.agreement_laws.specs.Requests.{AcceptsKey}

-- In some event of the run from old to new an instance that is as new came to be held, or was held
-- on; or it left in that event, at MaxAge.
pub data WasTakenIn (key : Key) (instance : Instance) : Router → List Step → Router → Type 0 where
  Now : (old middle new : Router) (step : Step) (rest : List Step)
      → Happens old step.moment step.event step.outs middle
      → BecameOf old step.moment step.event instance key middle → Run middle rest new
      → WasTakenIn key instance old (step ∷ rest) new
  Later : (old middle new : Router) (step : Step) (rest : List Step)
      → Happens old step.moment step.event step.outs middle
      → WasTakenIn key instance middle rest new
      → WasTakenIn key instance old (step ∷ rest) new

-- in none of the steps another Description with a header of the key is accepted; the same one may
-- come again
abbrev pub AcceptsNoMore : (interface : InterfaceNumber) (with_it : Conversation) → Key
    → (old : Router) (steps : List Step) (new : Router) → GoesOn interface with_it old steps new
    → Type 0
AcceptsNoMore interface with_it key old [] new goes = Unit {0}
AcceptsNoMore interface with_it key old (s ∷ steps) new goes =
    (AcceptsKey old s.moment s.event interface with_it.router key → ⊥)
    × AcceptsNoMore interface with_it key goes.1 steps new goes.3

-- A run from the start to old, and a Description that is accepted then; since then the conversation
-- has gone on, no other one with a header of the key was accepted, and by now the neighbor is Full.
abbrev pub WhatAFullNeighborDescribedWasTakenIn : Type 0
WhatAFullNeighborDescribedWasTakenIn =
    (c : Config) (earlier : List Step) (old middle new : Router) → Run (initial c) earlier old
    → (step : Step) (rest : List Step) → Happens old step.moment step.event step.outs middle
    → (interface : InterfaceNumber) (n : Neighbor) (d : Description)
    → AcceptsDescription old step.moment step.event interface n d
    → (h : Header) → IsLastOfItsKey d.headers h
    → (with_it : Conversation) → (goes : GoesOn interface with_it middle rest new)
    → AcceptsNoMore interface with_it (key_of h) middle rest new goes
    → (m : Neighbor) → neighbor_at interface new.area.links ≡ Some m → m.state ≡ Full
    → WasTakenIn (key_of h) (instance_of h) old (step ∷ rest) new
