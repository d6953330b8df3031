-- What packets from a neighbor do to links and database: what is sent comes after what was sent
-- before, and the interfaces stay the same.
use Rattle.std.proofs.Common.{◌≡◌, ℕ, Bool, true, false, cond, List, map, refl}
use Rattle.std.specs.Prelude.{Option, None, Some}
use Rattle.std.specs.List.{list_all}
use Rattle.words.specs.declared.key.Key.{Key}
use Rattle.lsdb.specs.Copies.{Database}
use Rattle.lsdb.specs.Headers.{Header}
use Rattle.packet.specs.declared.model.Description.{Description}
use Rattle.packet.specs.declared.model.Hello.{Hello}
use Rattle.adjacency.specs.Adjacencies as adjacencies
use Rattle.adjacency.specs.Adjacencies.{mismatch_step}
use Rattle.adjacency.specs.Contents.{Step, Updates, no_sends}
use Rattle.adjacency.specs.Descriptions.{after_description}
use Rattle.adjacency.specs.Retransmissions.{after_acknowledgment}
use Rattle.received.specs.Links.{Area, Link, link_at}
use Rattle.received.specs.AreaStates.{AreaState, sends_at, one_neighbor, only_at, sending}
use Rattle.event_rules.specs.Hellos.{accepts, names}
use Rattle.event_rules.specs.Packets.{accept_hello, receive_acknowledgment, receive_description}
use Rattle.event_rules.specs.Packets.{receive_hello, receive_hello_on}
use Rattle.event_rules.specs.Packets.{is_there, receive_request, requested_lsas, with_neighbor}
use Rattle.area.specs.Links.{with_no_sends}
use Rattle.router.specs.Aging.{outcomes_in_turn}
use Rattle.router.specs.Making.{interfaces_of}
use Rattle.router.proofs.Making.{Appends, KeepsInterfaces}
use Rattle.router.proofs.Areas.{appends_nothing, change_interfaces, keeps_neighbors}

-- ---- Hellos

module _ (own moment number from : ℕ) (h : Hello) where
  abbrev heard : Link → Step
  heard l = adjacencies.after_hello moment from (names own h) l.neighbor

  accepted_after : (s : Step) (o : AreaState) (b : Bool)
      → cond b (accept_hello moment number s o) o
      ≡ outcomes_in_turn o (cond b (accept_hello moment number s (with_no_sends o.area))
      (with_no_sends o.area))
  accepted_after s o true = refl
  accepted_after s o false = appends_nothing o

  heard_after : (l : Option Link) (o : AreaState)
      → receive_hello_on own moment number from h l o
      ≡ outcomes_in_turn o (receive_hello_on own moment number from h l (with_no_sends o.area))
  heard_after None o = appends_nothing o
  heard_after (Some l) o = accepted_after (heard l) o (accepts own from h l)

  pub appends_hello : Appends (receive_hello own moment number from h)
  appends_hello o = heard_after (link_at number o.area.links) o

  accepted_keeps : (s : Step) (a : Area) (b : Bool)
      → interfaces_of (cond b (accept_hello moment number s (with_no_sends a))
      (with_no_sends a)).area.links
      ≡ interfaces_of a.links
  accepted_keeps s a true = change_interfaces number (with_neighbor s.neighbor) (λ l. refl) a.links
  accepted_keeps s a false = refl

  heard_keeps : (l : Option Link) (a : Area)
      → interfaces_of (receive_hello_on own moment number from h l (with_no_sends a)).area.links
      ≡ interfaces_of a.links
  heard_keeps None a = refl
  heard_keeps (Some l) a = accepted_keeps (heard l) a (accepts own from h l)

  pub keeps_hello : KeepsInterfaces (receive_hello own moment number from h)
  keeps_hello a = heard_keeps (link_at number a.links) a

-- ---- Database Descriptions

module _ (own moment number : ℕ) (d : Description) where
  pub appends_description : Appends (receive_description own moment number d)
  appends_description o = refl

  pub keeps_description : KeepsInterfaces (receive_description own moment number d)
  keeps_description a = keeps_neighbors moment
      (only_at number (after_description own moment a.database d)) a

-- ---- Link State Requests

module _ (moment number : ℕ) (keys : List Key) where
  abbrev sent : Database → AreaState → AreaState
  sent db o = sending moment (sends_at number (map Updates (requested_lsas moment db keys))) o

  requested_after : (o : AreaState) (b : Bool)
      → cond b (sent o.area.database o) (one_neighbor moment number (mismatch_step moment) o)
      ≡ outcomes_in_turn o (cond b (sent o.area.database (with_no_sends o.area))
      (one_neighbor moment number (mismatch_step moment) (with_no_sends o.area)))
  requested_after o true = refl
  requested_after o false = refl

  pub appends_request : Appends (receive_request moment number keys)
  appends_request o = requested_after o (list_all (is_there o.area.database) keys)

  requested_keeps : (a : Area) (b : Bool)
      → interfaces_of (cond b (sent a.database (with_no_sends a))
      (one_neighbor moment number (mismatch_step moment) (with_no_sends a))).area.links
      ≡ interfaces_of a.links
  requested_keeps a true = refl
  requested_keeps a false = keeps_neighbors moment (only_at number (mismatch_step moment)) a

  pub keeps_request : KeepsInterfaces (receive_request moment number keys)
  keeps_request a = requested_keeps a (list_all (is_there a.database) keys)

-- ---- Link State Acknowledgments

module _ (moment number : ℕ) (headers : List Header) where
  pub appends_acknowledgment : Appends (receive_acknowledgment moment number headers)
  appends_acknowledgment o = refl

  pub keeps_acknowledgment : KeepsInterfaces (receive_acknowledgment moment number headers)
  keeps_acknowledgment a = keeps_neighbors moment
      (only_at number (λ n. no_sends (after_acknowledgment moment headers n))) a
