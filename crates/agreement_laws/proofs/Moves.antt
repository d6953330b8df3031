-- What an event makes of an exchange: it stays as it is, unless the neighbor's Description comes
-- in, or the conversation is over.
use Rattle.std.proofs.Common.{◌≡◌, ℕ, Bool, true, false, cond, ◌⊎◌, inl, inr, List, [], ◌∷◌, map}
use Rattle.std.proofs.Common.{Option, None, Some, refl, sym, ap, subst}
use Rattle.std.specs.Prelude.{◌==◌}
use Rattle.std.specs.FinMap as finite
use Rattle.std.specs.List.{fold}
use Rattle.words.specs.declared.key.Key.{Key}
use Rattle.lsdb.specs.Copies.{DatabaseCopy, age_prematurely, has_just_aged_out, install_flooded}
use Rattle.lsdb.specs.Copies.{install_originated, lsa_now}
use Rattle.lsdb.specs.Headers.{Lsa, lsa_with_age, lsa_key}
use Rattle.lsdb.specs.Keys.{ByKey}
use Rattle.packet.specs.declared.model.Hello.{Hello}
use Rattle.packet.specs.declared.model.PacketBody.TheVariants as body
use Rattle.packet.specs.declared.model.Description.{Description}
use Rattle.packet.specs.declared.model.Packet.{Packet}
use Rattle.adjacency.specs.Adjacencies as adjacencies
use Rattle.adjacency.specs.Contents.{Step, no_sends}
use Rattle.adjacency.specs.Neighbors.{Neighbor}
use Rattle.adjacency.specs.Requests.{request_next}
use Rattle.adjacency.specs.Retransmissions.{after_acknowledgment, remove_retransmission}
use Rattle.adjacency.proofs.Kept.{chosen}
use Rattle.adjacency.specs.Descriptions.{after_description}
use Rattle.received.specs.Cases.{Case}
use Rattle.received.specs.Flooding.{flood, flood_to, is_incoming}
use Rattle.received.specs.Holds.{Holds}
use Rattle.received.specs.Links.{Link, change_link, delay_acknowledgment, link_at, neighbor_at}
use Rattle.received.specs.AreaStates.{AreaState, Stepping, each_neighbor, on_database, on_links}
use Rattle.received.specs.AreaStates.{one_neighbor, only_at, step_on, stepped_links}
use Rattle.received.specs.Updates.{after_case, database_copy, send_copy}
use Rattle.event_rules.specs.Commands.{taken_down}
use Rattle.event_rules.specs.Endings.{flood_if_aged, link_loading_done, start_event}
use Rattle.event_rules.specs.EventState.{EventState, flood_from_nobody}
use Rattle.event_rules.specs.Hellos.{accepts, names}
use Rattle.event_rules.specs.Originations.{new_instance}
use Rattle.event_rules.specs.Packets.{accept_hello, receive_hello, receive_hello_on, with_neighbor}
use Rattle.event_rules.specs.Packets.{receive_description}
use Rattle.event_rules.specs.Ticks.{again, expire_timers, with_hello_sent, without_acknowledgments}
use Rattle.event_rules.specs.declared.model.Out.{Out}
use Rattle.event_rules.specs.Events.{Happens}
use Rattle.event_rules.specs.Routers.{Occurrence, Router}
use Rattle.event_rules.proofs.Walk.{outcome}
use Rattle.invariants.proofs.Leaving.{each_kept_at, stepped_kept}
use Rattle.invariants.specs.InOrder.{IsConsistent}
use Rattle.invariants.proofs.Acknowledged.{in_order, order_begun, order_brings, order_kept}
use Rattle.invariants.proofs.EventWalk.{IsHeard, IsKeptToo, event_kept_too}
use Rattle.agreement_laws.specs.Exchanged.{Conversation, conversation_with}
use Rattle.agreement_laws.specs.Accepted.{BringsDescription}
use Rattle.agreement_laws.specs.Moves.{BecameOfExchange}
use Rattle.agreement_laws.specs.Moves.{OnlyDescriptionsMoveAnExchange}
use Rattle.agreement_laws.proofs.Accepting.{brought}
use Rattle.agreement_laws.proofs.ExchangeSteps.{IsSame, Standing}
use Rattle.agreement_laws.proofs.ExchangeSteps as steps
use Rattle.agreement_laws.proofs.Steps as kept
use Rattle.agreement_laws.proofs.AtInterface as interface
use Rattle.agreement_laws.proofs.Conversing.{is_over, with_nobody}

module _ (old : Router) (moment : ℕ) (event : Occurrence) (number : ℕ) (n : Neighbor)
    (was : neighbor_at number old.area.links ≡ Some n) where
  abbrev start : EventState
  start = start_event moment old

  abbrev Described : Type 0
  Described = (d : Description) × BringsDescription event number n.router d

  abbrev StandsThere : Option Neighbor → Type 0
  StandsThere None = Unit {0}
  StandsThere (Some m) = Standing n m

  abbrev Stands : AreaState → Type 0
  Stands o = Described ⊎ StandsThere (neighbor_at number o.area.links)

  -- ---- links

  on_all : (f : List Link → List Link) (o : AreaState)
      → (StandsThere (neighbor_at number o.area.links)
      → StandsThere (neighbor_at number (f o.area.links))) → Stands o → Stands (on_links f o)
  on_all f o so (inl told) = inl told
  on_all f o so (inr k) = inr (so k)

  each_link : (g : Link → Link) (o : AreaState)
      → ((link : Link) → StandsThere link.neighbor → StandsThere (g link).neighbor) → Stands o
      → Stands (on_links (map g) o)
  each_link g o keeps h = on_all (map g) o
      (λ k. each_kept_at StandsThere StandsThere (λ k. k) g number keeps o.area.links k) h

  change_at : (place : ℕ) (change : Link → Link) (o : AreaState)
      → ((link : Link) → StandsThere link.neighbor → StandsThere (change link).neighbor) → Stands o
      → Stands (on_links (change_link place change) o)
  change_at place change o keeps h =
      on_all (change_link place change) o
      (λ k. interface.changed StandsThere number place change o.area.links keeps k) h

  each_step : (f : Stepping) (o : AreaState)
      → ((link : Link) (m : Neighbor) → Standing n m → Standing n (f number link m).neighbor)
      → Stands o → Stands (each_neighbor moment f o)
  each_step f o keeps h =
      on_all (stepped_links f) o
      (λ k. interface.stepped StandsThere number f o.area.links keeps k) h

  one_step : (place : ℕ) (f : Neighbor → Step) (o : AreaState)
      → ((m : Neighbor) → Standing n m → Standing n (f m).neighbor) → Stands o
      → Stands (one_neighbor moment place f o)
  one_step place f o keeps h =
      each_step (only_at place f) o
      (λ link m at. interface.stepped_at StandsThere number place f link m (λ e k. keeps m k) at) h

  floods : (sender : Option ℕ) (lsa : Lsa) (o : AreaState) → Stands o
      → Stands (flood moment sender lsa o)
  floods sender lsa o h = each_step (flood_to moment sender lsa) o
      (λ link m at. steps.flooded n moment (is_incoming sender number) lsa m at) h

  -- ---- ages: they leave it as it was

  abbrev SameThere : Option Neighbor → Type 0
  SameThere None = ⊥
  SameThere (Some m) = IsSame n m

  ages : (es : List (Key × DatabaseCopy)) (o : AreaState)
      → SameThere (neighbor_at number o.area.links)
      → SameThere (neighbor_at number (fold (flood_if_aged old.moment moment) o es).area.links)
  ages [] o h = h
  ages (e ∷ es) o h =
      ages es (flood_if_aged old.moment moment o e)
      (chosen (λ (p : AreaState). SameThere (neighbor_at number p.area.links))
      (has_just_aged_out old.moment moment e.1)
      (flood_from_nobody moment (lsa_now moment e.1) o) o
      (λ just. interface.stepped SameThere number (flood_to moment None (lsa_now moment e.1))
      o.area.links
      (λ link m k. steps.same_flooded n moment (is_incoming None number) (lsa_now moment e.1) m
      k) h)
      (λ young. h))

  same_begun : SameThere (neighbor_at number start.router.area.links)
  same_begun =
      ages (finite.entries old.area.database) (record {
        area = old.area;
        sends = [];
      }) (subst SameThere (sym was) (refl, refl, refl, refl, refl))

  so_there : (o : Option Neighbor) → SameThere o → StandsThere o
  so_there None k = absurd k
  so_there (Some m) k = inr k

  begun : Stands (outcome start)
  begun = inr (so_there (neighbor_at number start.router.area.links) same_begun)

  -- ---- received LSAs

  copy_sent : (place : ℕ) (c : Option DatabaseCopy) (o : AreaState) → Stands o
      → Stands (send_copy moment place c o)
  copy_sent place None o h = h
  copy_sent place (Some c) o h = h

  mismatches : (place : ℕ) (o : AreaState) → Stands o
      → Stands (one_neighbor moment place (adjacencies.mismatch_step moment) o)
  mismatches place o h = one_step place (adjacencies.mismatch_step moment) o
      (steps.mismatched n moment) h

  cases : (case : Case) (place : ℕ) (lsa : Lsa) (o : AreaState) → Stands o
      → Stands (after_case case moment place lsa o)
  cases Case.Unreadable place lsa o h = h
  cases Case.NothingToFlush place lsa o h = h
  cases Case.TooSoon place lsa o h = h
  cases Case.Newer place lsa o h =
      change_at place (delay_acknowledgment lsa.header)
      (flood moment (Some place) lsa (on_database (install_flooded moment lsa) o))
      (λ link at. at)
      (floods (Some place) lsa (on_database (install_flooded moment lsa) o) h)
  cases Case.BadRequest place lsa o h = mismatches place o h
  cases Case.ImpliedAcknowledgment place lsa o h =
      one_step place (λ m. no_sends (remove_retransmission (lsa_key lsa) m)) o (λ m at. at) h
  cases Case.Duplicate place lsa o h = h
  cases Case.SequenceWraps place lsa o h = h
  cases Case.SentJustNow place lsa o h = h
  cases Case.Older place lsa o h = copy_sent place (database_copy lsa o.area) o h

  -- ---- other packets

  hellos : (own place from : ℕ) (hello : Hello) (o : AreaState) → Stands o
      → Stands (receive_hello own moment place from hello o)
  hellos own place from hello o h = by_link (link_at place o.area.links) refl
    where
      by_link : (link : Option Link) → link_at place o.area.links ≡ link
          → Stands (receive_hello_on own moment place from hello link o)
      by_link None is = h
      by_link (Some link) is =
          let s : Step = adjacencies.after_hello moment from (names own hello) link.neighbor in
          chosen Stands (accepts own from hello link) (accept_hello moment place s o) o
          (λ e. on_all (change_link place (with_neighbor s.neighbor)) o
          (λ k. interface.heard StandsThere number place s.neighbor link o.area.links is
          (λ at. steps.helloed n moment from (names own hello) link.neighbor
          (heard_of link.neighbor at)) k) h) (λ e. h)
        where
          heard_of : (m : Option Neighbor) → StandsThere m → Holds (Standing n) m
          heard_of None k = tt
          heard_of (Some m) k = k

  -- the neighbor's Description, or another one's
  descriptions : (place : ℕ) (packet : Packet) (d : Description) → IsHeard start event place packet
      → packet.body ≡ body.Description d
      → Stands (receive_description start.router.id moment place d (outcome start))
  descriptions place packet d heard says = result
    where
      f : Neighbor → Step
      f = after_description start.router.id moment start.router.area.database d

      Goes : Option Neighbor → Type 0
      Goes o = Described ⊎ StandsThere o

      its_text : (m : Neighbor) → neighbor_at number start.router.area.links ≡ Some m
          → (number == place) ≡ true → m.router ≡ n.router → Described
      its_text m at here same = (
        d,
        subst (λ (r : ℕ). BringsDescription event number r d) same
            (brought number m d heard says at here),
      )

      one : (link : Link) (o : Option Neighbor) → SameThere o
          → neighbor_at number start.router.area.links ≡ o
          → Goes (step_on (only_at place f number link) o)
      one link None k at = absurd k
      one link (Some m) k at = by_place (number == place) refl
        where
          by_place : (b : Bool) → (number == place) ≡ b → Goes (Some (cond b (f m) (record {
            neighbor = m;
            sends = [];
          })).neighbor)
          by_place true here = inl (its_text m at here (ap (λ (c : Conversation). c.router) k.0))
          by_place false away = inr (inr k)

      result : Stands (receive_description start.router.id moment place d (outcome start))
      result =
          stepped_kept (λ (o : Option Neighbor). SameThere o
          × (neighbor_at number start.router.area.links ≡ o)) Goes (λ k. absurd k.0)
          (only_at place f) number
          (λ link at. one link link.neighbor at.0 at.1) start.router.area.links (same_begun, refl)

  -- ---- every part

  abbrev Lately : AreaState → ByKey ℕ → Type 0
  Lately o t = Stands o

  each_part : IsKeptToo (in_order old.id) Lately Lately start moment event
  each_part = record {
    flushes = λ k c o t at young area h. floods None (lsa_with_age 3600 c.lsa)
        (on_database (age_prematurely moment k) o) h;
    originates = λ k says p of_key goes may wants so h.
        floods None (new_instance k (finite.get p.router.area.database k) says)
        (on_database (install_originated moment
        (new_instance k (finite.get p.router.area.database k) says)) (outcome p)) h;
    case = λ place packet heard case lsa o t among other is area h. cases case place lsa o h;
    hello = λ place packet hello heard is so h. hellos start.router.id place packet.router hello
        (outcome start) h;
    description = λ place packet d heard is so h. descriptions place packet d heard is;
    acknowledgment = λ place packet headers heard is so h. one_step place
        (λ m. no_sends (after_acknowledgment moment headers m)) (outcome start)
        (steps.acknowledged n moment headers) h;
    requested = λ place keys o t area h. h;
    mismatch = λ place o t area h. mismatches place o h;
    forgets = λ r o area h. h;
    inactive = λ o t area h. each_link (expire_timers moment) o
        (λ link at. interface.inactive StandsThere tt moment link.interface.dead_interval
        (λ m k. steps.old_description n moment link.interface.dead_interval m k) link.neighbor at)
        h;
    again = λ o t area h. each_step (again moment o) o
        (λ link m at. kept.again (Standing n) moment link.interface.retransmit_interval
        o.area.database m at)
        h;
    acknowledges = λ o t area h. each_link without_acknowledgments o (λ link at. at) h;
    hellos = λ o t area h. each_link (with_hello_sent moment) o (λ link at. at) h;
    link_down = λ place o t area h. change_at place taken_down o (λ link at. tt) h;
    loaded = λ o t area h. each_link link_loading_done o
        (λ link at. interface.loaded StandsThere (steps.filled n) link.neighbor at) h;
    requests = λ o t area h. each_step (λ place link m. request_next moment m) o
        (λ link m at. kept.asked (Standing n) moment m at) h;
    removes = λ o t area h. h;
    stays = λ o t area h. h;
  }

  -- ---- in the law's words

  in_law : (new : Router) (o : Option Neighbor) → neighbor_at number new.area.links ≡ o
      → StandsThere o → BecameOfExchange event number n new
  in_law new None at k =
      BecameOfExchange.Over (with_nobody number (conversation_with n) new at)
  in_law new (Some m) at (inl over) =
      BecameOfExchange.Over (is_over number (conversation_with n) new m at over)
  in_law new (Some m) at (inr k) = BecameOfExchange.Stands m at k.0 (record {
    is_master = k.1;
    sequence = k.2;
    received = k.3;
    summary = k.4;
  })

  said : (new : Router) → Stands (outcome (record {
    router = new;
    sends = [];
  })) → BecameOfExchange event number n new
  said new (inl told) = BecameOfExchange.Moved told.0 told.1
  said new (inr k) = in_law new (neighbor_at number new.area.links) refl k

  became : (outs : List Out) (new : Router) → Happens old moment event outs new → IsConsistent old
      → BecameOfExchange event number n new
  became outs new happens order =
      said new
      (subst (λ (r : Router). Stands (outcome (record {
        router = r;
        sends = [];
      }))) (sym happens.router)
      (event_kept_too (in_order old.id) (order_kept old.id) Lately Lately old moment event each_part
      happens.after (order_brings old event) happens.own (order_begun old moment order) begun))

pub moves : OnlyDescriptionsMoveAnExchange
moves old moment event outs new happens order number n there =
    became old moment event number n there outs new happens order
