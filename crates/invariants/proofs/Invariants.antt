-- A fact about each neighbor's state and lists that every step of the neighbor keeps is kept by
-- every event.
use Rattle.std.proofs.Common.{ℕ, List, [], ◌∷◌, map, Option, None, Some, sym, subst}
use Rattle.std.specs.List.{AllByRecursion, fold}
use Rattle.std.specs.FinMap as finite
use Rattle.words.specs.declared.key.Key.{Key}
use Rattle.lsdb.specs.Copies.{DatabaseCopy, age_prematurely, has_just_aged_out, install_originated}
use Rattle.lsdb.specs.Copies.{lsa_now}
use Rattle.lsdb.specs.Headers.{Lsa, lsa_with_age}
use Rattle.lsdb.specs.Instances.{ListEntry}
use Rattle.lsdb.specs.Keys.{ByKey}
use Rattle.packet.specs.declared.model.Hello.{Hello}
use Rattle.adjacency.specs.Adjacencies as adjacencies
use Rattle.adjacency.specs.Contents.{Step, no_sends}
use Rattle.adjacency.specs.Descriptions.{after_description}
use Rattle.adjacency.specs.Neighbors.{Neighbor}
use Rattle.adjacency.specs.declared.interface.Interface.{Interface}
use Rattle.adjacency.specs.Requests.{request_next}
use Rattle.adjacency.specs.Retransmissions.{after_acknowledgment}
use Rattle.adjacency.proofs.Kept.{Fact, IsKept, IsKeptWith, Of, acknowledgment_kept, again_kept}
use Rattle.adjacency.proofs.Kept.{chosen, description_kept, filled_kept, hello_kept}
use Rattle.adjacency.proofs.Kept.{mismatched_kept, old_description_kept, request_kept}
use Rattle.received.specs.Holds.{Holds, HoldsOfEach}
use Rattle.received.specs.Links.{Link, link_at, neighbor_on}
use Rattle.received.specs.AreaStates.{AreaState, on_database}
use Rattle.received.proofs.Holding.{case_kept, changed_keeps, each_keeps, each_link_keeps}
use Rattle.received.proofs.Holding.{flood_kept, one_holds, one_keeps}
use Rattle.event_rules.specs.declared.model.Config.{Config}
use Rattle.event_rules.specs.declared.model.Out.{Out}
use Rattle.event_rules.specs.Commands.{taken_down}
use Rattle.event_rules.specs.Endings.{flood_if_aged, link_loading_done, loading_done_on}
use Rattle.event_rules.specs.Events.{Happens, initial}
use Rattle.event_rules.specs.EventState.{flood_from_nobody}
use Rattle.event_rules.specs.Hellos.{accepts, names}
use Rattle.event_rules.specs.Originations.{due_keys, new_instance, router_key}
use Rattle.event_rules.specs.Packets.{accept_hello, receive_hello_on, with_neighbor}
use Rattle.event_rules.specs.Routers.{Occurrence, Router, fresh_link, unannounced_router}
use Rattle.event_rules.specs.Ticks.{again, expire_timers, settled_exchange, with_hello_sent}
use Rattle.event_rules.specs.Ticks.{without_acknowledgments}
use Rattle.event_rules.proofs.Walk.{Brings, Invariant, IsKeptByParts, originate_or_wait_kept}
use Rattle.event_rules.proofs.Walk as walk
use Rattle.invariants.proofs.Unasked.{brought_any}

-- ---- one link

module _ {Begins : ByKey ListEntry → Type 0} {Adds : Key → ListEntry → Type 0} (Q : Fact)
    (kept : IsKeptWith Begins Adds Q) where
  pub still_heard_kept : (moment dead : ℕ) (o : Option Neighbor) → Holds (Of Q) o
      → Holds (Of Q) (adjacencies.after_inactivity_timer moment dead o)
  still_heard_kept moment dead None h = tt
  still_heard_kept moment dead (Some n) h =
      chosen (Holds (Of Q)) (adjacencies.has_passed n.last_heard dead moment) None (Some n)
      (λ is. tt) (λ is. h)

  pub exchange_settled : (moment dead : ℕ) (o : Option Neighbor) → Holds (Of Q) o
      → Holds (Of Q) (settled_exchange moment dead o)
  exchange_settled moment dead None h = tt
  exchange_settled moment dead (Some n) h = old_description_kept Q kept moment dead n h

  pub filled_on_kept : (o : Option Neighbor) → Holds (Of Q) o → Holds (Of Q) (loading_done_on o)
  filled_on_kept None h = tt
  filled_on_kept (Some n) h = filled_kept Q kept n h

-- ---- every link

module _ (Q : Fact) (kept : IsKept Q) where
  abbrev on_neighbors : Invariant
  on_neighbors = record {
    of_area = λ a sends. HoldsOfEach (Of Q) a.links;
    of_announced = λ id announced. Unit {0};
    of_lsa = λ lsa. Unit {0};
    of_key = λ key. Unit {0};
    without_room = Unit {0};
  }

  -- of every neighbor, during an event
  abbrev OnOutcome : AreaState → Type 0
  OnOutcome o = HoldsOfEach (Of Q) o.area.links

  ages_kept : (before moment : ℕ) (es : List (Key × DatabaseCopy)) (o : AreaState) → OnOutcome o
      → OnOutcome (fold (flood_if_aged before moment) o es)
  ages_kept before moment [] o h = h
  ages_kept before moment (e ∷ es) o h =
      ages_kept before moment es (flood_if_aged before moment o e)
      (chosen OnOutcome (has_just_aged_out before moment e.1)
      (flood_from_nobody moment (lsa_now moment e.1) o) o
      (λ is. flood_kept Q kept moment None (lsa_now moment e.1) o h) (λ is. h))

  keys_any : (keys : List Key) → AllByRecursion (λ key. Unit {0}) keys
  keys_any [] = tt
  keys_any (key ∷ keys) = (tt, keys_any keys)

  heard_before : (from moment : ℕ) (o : Option Neighbor) → Holds (Of Q) o
      → Of Q (adjacencies.with_hello_heard from moment o)
  heard_before from moment None h = kept.begins
  heard_before from moment (Some n) h = h

  hello_heard : (own moment number from : ℕ) (hello : Hello) (link : Option Link) (o : AreaState)
      → Holds (Of Q) (neighbor_on link) → OnOutcome o
      → OnOutcome (receive_hello_on own moment number from hello link o)
  hello_heard own moment number from hello None o here h = h
  hello_heard own moment number from hello (Some link) o here h =
      let s : Step = adjacencies.after_hello moment from (names own hello) link.neighbor in
      let so : Of Q s.neighbor = hello_kept Q kept moment from (names own hello) link.neighbor
      (heard_before from moment link.neighbor here) in
      chosen OnOutcome (accepts own from hello link) (accept_hello moment number s o) o
      (λ is. changed_keeps (Of Q) number (with_neighbor s.neighbor) (λ l at. so) o.area.links h)
      (λ is. h)

  parts_keep : IsKeptByParts on_neighbors
  parts_keep = record {
    ages = λ before moment o h. ages_kept before moment (finite.entries o.area.database) o h;
    flushes = λ moment key c o is young h. flood_kept Q kept moment None (lsa_with_age 3600 c.lsa)
        (on_database (age_prematurely moment key) o) h;
    originates = λ moment key says p own goes wants grows h.
        let lsa : Lsa = new_instance key (finite.get p.router.area.database key) says in
        flood_kept Q kept moment None lsa
        (on_database (install_originated moment lsa) (walk.outcome p)) h.area;
    own_router = λ r own. tt;
    case = λ case moment number lsa so o h. case_kept Q kept case moment number lsa o h;
    own_received = λ r lsa so is own. tt;
    hello = λ own moment number from hello o h. hello_heard own moment number from hello
        (link_at number o.area.links) o (one_holds (Of Q) number o.area.links h) h;
    description = λ own moment number d o h.
        one_keeps (Of Q) moment number (after_description own moment o.area.database d)
        (description_kept Q kept own moment o.area.database d tt) o h;
    requested = λ moment number keys o h. h;
    mismatch = λ moment number o h. one_keeps (Of Q) moment number
        (adjacencies.mismatch_step moment) (mismatched_kept Q kept moment) o h;
    acknowledgment = λ moment number headers o h.
        one_keeps (Of Q) moment number (λ n. no_sends (after_acknowledgment moment headers n))
        (acknowledgment_kept Q kept moment headers) o h;
    due = λ moment r own. keys_any (due_keys moment r);
    inactive = λ moment o h.
        each_link_keeps (Of Q) (expire_timers moment)
        (λ link at.
        exchange_settled Q kept moment link.interface.dead_interval
        (adjacencies.after_inactivity_timer moment link.interface.dead_interval link.neighbor)
        (still_heard_kept Q kept moment link.interface.dead_interval link.neighbor at)) o.area.links
        h;
    again = λ moment o h.
        each_keeps (Of Q) moment (again moment o)
        (λ number link n at. again_kept Q kept moment link.interface.retransmit_interval
        o.area.database n at) o h;
    acknowledges = λ moment o h. each_link_keeps (Of Q) without_acknowledgments (λ link at. at)
        o.area.links h;
    hellos = λ moment o h. each_link_keeps (Of Q) (with_hello_sent moment) (λ link at. at)
        o.area.links h;
    announces = λ r e own h. tt;
    unannounces = λ r key h. tt;
    link_down = λ number o h. changed_keeps (Of Q) number taken_down (λ link at. tt) o.area.links h;
    loaded = λ o h. each_link_keeps (Of Q) link_loading_done
        (λ link at. filled_on_kept Q kept link.neighbor at) o.area.links h;
    requests = λ moment o h. each_keeps (Of Q) moment (λ number link n. request_next moment n)
        (λ number link n at. request_kept Q kept moment n at) o h;
    removes = λ moment o h. h;
  }

  brings : (old : Router) (event : Occurrence) → Brings on_neighbors old event
  brings old event = record {
    packet = λ number bytes packet is text. brought_any packet.body;
    key = λ tagged tag priced price is. (tt, tt);
  }

  pub event_kept : (old : Router) (moment : ℕ) (event : Occurrence) (outs : List Out) (new : Router)
      → Happens old moment event outs new → HoldsOfEach (Of Q) old.area.links
      → HoldsOfEach (Of Q) new.area.links
  event_kept old moment event outs new happens h =
      subst (λ (r : Router). HoldsOfEach (Of Q) r.area.links) (sym happens.router)
      (walk.event_kept on_neighbors parts_keep old moment event happens.after (brings old event)
      happens.own (record { area = h; announced = tt })).area

  -- ---- the start

  fresh_so : (is : List Interface) → HoldsOfEach (Of Q) (map fresh_link is)
  fresh_so [] = tt
  fresh_so (i ∷ is) = (tt, fresh_so is)

  pub initial_kept : (c : Config) → HoldsOfEach (Of Q) (initial c).area.links
  initial_kept c =
      (originate_or_wait_kept on_neighbors parts_keep c.start (router_key c.router) (record {
        router = unannounced_router c;
        sends = [];
      }) tt
      (record { area = fresh_so c.interfaces; announced = tt })).area
