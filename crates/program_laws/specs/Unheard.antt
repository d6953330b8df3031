-- Only the router itself ever notices what a program at `veto` answers: in every run of a router,
-- and in every history of a network.
use Rattle.std.specs.Prelude.{◌≡◌, ℕ, List, [], ◌∷◌, ◌++◌, map, Option, None, Some, slice_get}
use Rattle.std.specs.Prelude.{slice_set}
use Rattle.words.specs.Numbers.{InterfaceNumber, Moment}
use Rattle.event_rules.specs.Events.{Happens, Run, Step}
use Rattle.event_rules.specs.Routers.{Occurrence, Router}
use Rattle.event_rules.specs.declared.model.Out.{Out}
use Rattle.program_laws.specs.Vetoes.{without_answers}

-- the event without the answers of an `Install`
abbrev pub without_words : Occurrence → Occurrence
without_words (Occurrence.Packet number bytes) = Occurrence.Packet number bytes
without_words Occurrence.Tick = Occurrence.Tick
without_words (Occurrence.Redistribute tagged tag priced price) =
    Occurrence.Redistribute tagged tag priced price
without_words (Occurrence.Withdraw prefix) = Occurrence.Withdraw prefix
without_words (Occurrence.Install answers) = Occurrence.Install []
without_words (Occurrence.LinkDown number) = Occurrence.LinkDown number

-- ---- a router

-- when an event happens, and which, without the answers of an `Install`
abbrev pub asked : Step → Moment × Occurrence
asked step = (step.moment, without_words step.event)

abbrev pub sent : Step → List Out
sent step = step.outs

-- ---- a network

-- a datagram, and the index of the router that sent it
pub record Datagram : Type 0 where
  pub place : ℕ
  pub out : Out

pub record Network : Type 0 where
  pub routers : List Router
  -- all that was ever sent, in order
  pub sent : List Datagram

-- the cause of a router's event
pub data Cause : Type 0 where
  -- the datagram at this index among all that were ever sent is received: each may be lost, or
  -- received late, repeatedly, and anywhere
  Delivers : (datagram : ℕ) (interface : InterfaceNumber) → Cause
  -- any other event, including bytes that no router sent
  Other : (event : Occurrence) → Cause

pub record Act : Type 0 where
  pub place : ℕ
  pub moment : Moment
  pub cause : Cause

abbrev pub incoming : InterfaceNumber → Option Datagram → Option Occurrence
incoming number None = None
incoming number (Some d) = Some (Occurrence.Packet number d.out.bytes)

-- the event, unless no such datagram was sent
abbrev pub event_of : List Datagram → Cause → Option Occurrence
event_of all (Cause.Delivers datagram number) = incoming number (slice_get all datagram)
event_of all (Cause.Other event) = Some event

abbrev pub sent_at : ℕ → Out → Datagram
sent_at place out = record { place = place; out = out }

-- the act leads from one state of the network to the next
pub record Acts (before : Network) (act : Act) (after : Network) : Type 0 where
  pub old : Router
  pub here : slice_get before.routers act.place ≡ Some old
  pub event : Occurrence
  pub is : event_of before.sent act.cause ≡ Some event
  pub outs : List Out
  pub new : Router
  pub happens : Happens old act.moment event outs new
  pub leaves : after ≡ record {
    routers = slice_set before.routers act.place new;
    sent = before.sent ++ map (sent_at act.place) outs;
  }

-- consecutive acts
abbrev pub History : Network → List Act → Network → Type 0
History before [] last = last ≡ before
History before (act ∷ acts) last = (next : Network) × Acts before act next × History next acts last

abbrev pub cause_without_words : Cause → Cause
cause_without_words (Cause.Delivers datagram number) = Cause.Delivers datagram number
cause_without_words (Cause.Other event) = Cause.Other (without_words event)

abbrev pub act_without_words : Act → Act
act_without_words act = record act { cause = cause_without_words act.cause }

-- the network without the answers that its routers keep
abbrev pub network_without_answers : Network → Network
network_without_answers w = record w { routers = map without_answers w.routers }

-- ---- the law

pub record VetoesAreNeverHeard : Type 0 where
  -- a router with the same events except for the answers of its `Install`s sends the same at each
  -- event, and is the same at the end except for the answers
  pub by_a_router : (old : Router) (steps others : List Step) (new next : Router)
      → Run old steps new → Run old others next → map asked steps ≡ map asked others
      → (map sent steps ≡ map sent others) × (without_answers new ≡ without_answers next)
  -- in a network with the same acts except for the answers of `Install`s, the same datagrams are
  -- sent in the same order, and all routers are the same except for the answers
  pub by_a_network : (before : Network) (acts others : List Act) (last final : Network)
      → History before acts last → History before others final
      → map act_without_words acts ≡ map act_without_words others
      → network_without_answers last ≡ network_without_answers final
