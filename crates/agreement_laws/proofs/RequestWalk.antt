-- What a whole event makes of a request, and of the headers of a Description that is accepted in
-- it.
use Rattle.std.proofs.Common.{◌≡◌, ℕ, Bool, true, false, cond, ◌⊎◌, inl, inr, List}
use Rattle.std.proofs.Common.{[], map, Option, None, Some, refl, sym, ap, subst, ◌∙◌}
use Rattle.std.specs.Prelude.{◌==◌}
use Rattle.std.specs.FinMap as finite
use Rattle.std.specs.List.{Contains}
use Rattle.std.proofs.lemmas.Bool.{eq-eqb}
use Rattle.words.specs.declared.key.Key.{Key}
use Rattle.lsdb.specs.Copies.{Database, DatabaseCopy, copy_now, newer_than_copy}
use Rattle.lsdb.specs.Headers.{Header, Lsa, key_of, lsa_key}
use Rattle.lsdb.specs.Instances.{ListEntry, instance_of, listed_now}
use Rattle.lsdb.specs.Keys.{ByKey, key_cmp, same_key}
use Rattle.lsdb.specs.declared.order.Instance.{Instance}
use Rattle.packet.specs.declared.model.PacketBody.TheVariants as body
use Rattle.packet.specs.declared.model.Description.{Description}
use Rattle.packet.specs.declared.model.Packet.{Packet}
use Rattle.adjacency.specs.Adjacencies.{two_way_received}
use Rattle.adjacency.specs.Contents.{Content, Step}
use Rattle.adjacency.specs.Descriptions.{after_description, is_more_recent}
use Rattle.adjacency.specs.Lists.{HasSoundLists}
use Rattle.adjacency.specs.Neighbors.{Neighbor, is_exchange_or_later}
use Rattle.adjacency.specs.Requests.{request_next}
use Rattle.received.specs.Holds.{Holds}
use Rattle.received.specs.Links.{Link, neighbor_at}
use Rattle.received.specs.AreaStates.{AreaState, on_links, only_at, sends_at, step_on}
use Rattle.received.specs.AreaStates.{stepped_links, stepping_sends}
use Rattle.received.proofs.Holding.{one_holds}
use Rattle.received.proofs.Marks.{all_there}
use Rattle.event_rules.specs.declared.model.Out.{Out}
use Rattle.event_rules.specs.Endings.{end_event, start_event}
use Rattle.event_rules.specs.EventState.{EventState}
use Rattle.event_rules.specs.Events.{Happens, OwnPart}
use Rattle.event_rules.specs.Hellos.{accepts}
use Rattle.event_rules.specs.Packets.{receive_description, requested_lsas}
use Rattle.event_rules.specs.Routers.{Occurrence, Router}
use Rattle.event_rules.proofs.Walk.{OfEvent, outcome}
use Rattle.invariants.specs.InOrder.{IsConsistent}
use Rattle.invariants.specs.NewInstances.{lsas_brought}
use Rattle.invariants.proofs.Acknowledged.{in_order, order_begun, order_brings, order_kept}
use Rattle.invariants.proofs.EventWalk.{IsHeard, IsKeptToo, came, event_kept_too}
use Rattle.invariants.proofs.Leaving.{stepped_kept}
use Rattle.invariants.proofs.Limits.{new_key, tied_key, wanted_type}
use Rattle.invariants.proofs.Retransmitted.{IsItsOwn, own_at, read}
use Rattle.invariants.proofs.Retransmitted as retransmitted
use Rattle.agreement_laws.specs.Exchanged.{Conversation, conversation_with}
use Rattle.agreement_laws.specs.Ranks.{RanksFollowTheComparison, is_at_least}
use Rattle.agreement_laws.specs.CopiesClimb.{BringsNone, HasHad, IsForeignAndAbsent}
use Rattle.agreement_laws.specs.Accepted.{AcceptsDescription, BringsDescription, IsLastOfItsKey}
use Rattle.agreement_laws.specs.Accepted.{accepts_description}
use Rattle.agreement_laws.specs.Requests.{AcceptsKey, BecameOfRequest, IsRequested}
use Rattle.agreement_laws.specs.Requests.{IsRequestedOrHeld, RequestsAreMet}
use Rattle.agreement_laws.specs.Requests.{WhatIsAcceptedIsRequested}
use Rattle.agreement_laws.specs.Stays.{RequestsStay, StaysRequested}
use Rattle.agreement_laws.proofs.Having.{Whole, joined, whole, whole_at, whole_begun, whole_kept}
use Rattle.agreement_laws.proofs.Absent.{IsNone, Lacks, none_kept, none_put}
use Rattle.agreement_laws.proofs.Databases.{IsKept, ages, each, flushed, installed_copy, kept_too}
use Rattle.agreement_laws.proofs.Databases.{originated}
use Rattle.agreement_laws.proofs.Ending.{Going, IsKeptToEnd, ended}
use Rattle.agreement_laws.proofs.Asking.{Asking}
use Rattle.agreement_laws.proofs.Requesting.{HasKey, accepted_one, any_described}
use Rattle.agreement_laws.proofs.Holding.{entry_as_new, in_words}
use Rattle.agreement_laws.proofs.RequestParts as parts
use Rattle.agreement_laws.proofs.Accepting.{brought, is_taken}
use Rattle.agreement_laws.proofs.Ranks.{itself_at_least}
use Rattle.agreement_laws.proofs.Conversing.{is_over, with_nobody}

-- ---- what becomes of a request

module _ (ranks : RanksFollowTheComparison) (old : Router) (moment : ℕ) (event : Occurrence)
    (order : IsConsistent old) (number : ℕ) (n : Neighbor)
    (there : neighbor_at number old.area.links ≡ Some n)
    (key : Key) (entry : ListEntry) (asked : finite.get n.requests key ≡ Some entry) where
  abbrev first : Instance
  first = listed_now moment entry

  low : is_at_least (listed_now moment entry) first ≡ true
  low = itself_at_least first

  abbrev with_it : Conversation
  with_it = conversation_with n

  abbrev start : EventState
  start = start_event moment old

  abbrev Told : Type 0
  Told = AcceptsKey old moment event number n.router key

  -- after the ages it stands on the list, or is met
  abbrev Bare : AreaState → Type 0
  Bare o = parts.Stands ranks key moment first entry low with_it ⊥ ⊥ number o

  abbrev Stands : AreaState → Type 0
  Stands o = parts.Stands ranks key moment first entry low with_it (Unit {0}) Told number o

  abbrev Ends : AreaState → Type 0
  Ends o = parts.Ends ranks key moment first entry low with_it (Unit {0}) Told number
      (HasHad old event key) o

  abbrev BareAt : Option Neighbor → Type 0
  BareAt o = parts.AsksThere ranks key moment first entry low with_it ⊥ ⊥ number o

  abbrev AsksThere : Option Neighbor → Type 0
  AsksThere o = parts.AsksThere ranks key moment first entry low with_it (Unit {0}) Told number o

  begun : Bare (outcome start)
  begun =
      parts.ages ranks key moment first entry low with_it ⊥ ⊥ number old.area.database
      (read old order.retransmissions).keys old.moment (finite.entries old.area.database)
      (all_there old.area.database)
      (record {
        area = old.area;
        sends = [];
      }) (λ c at. (c.sent, at))
      (inr (inr (subst BareAt (sym there) (inr (refl, asked)))))

  more_at : (o : Option Neighbor) → BareAt o → AsksThere o
  more_at None k = absurd k
  more_at (Some m) (inl over) = absurd over.0
  more_at (Some m) (inr at) = inr at

  more : (o : AreaState) → Bare o → Stands o
  more o (inl told) = absurd told
  more o (inr (inl h)) = inr (inl h)
  more o (inr (inr k)) = inr (inr (more_at (neighbor_at number o.area.links) k))

  -- ---- a Description

  -- who is asked is in Exchange or later
  exchanges : IsItsOwn start.router.area → (m : Neighbor)
      → neighbor_at number start.router.area.links ≡ Some m → finite.get m.requests key ≡ Some entry
      → is_exchange_or_later m.state ≡ true
  exchanges its m at is = by_state (is_exchange_or_later m.state) refl
    where
      sound : HasSoundLists m
      sound = subst (Holds HasSoundLists) at
          (one_holds HasSoundLists number start.router.area.links
          (retransmitted.told start.router its).lists)

      by_state : (b : Bool) → is_exchange_or_later m.state ≡ b → is_exchange_or_later m.state ≡ true
      by_state true e = e
      by_state false e =
          let no : None ≡ Some entry = sym (finite.get-empty {X = ListEntry} key_cmp key)
          ∙ ap (λ (r : ByKey ListEntry). finite.get r key) (sym (sound.before_exchange e).1)
          ∙ is in absurd cc

  module _ (place : ℕ) (packet : Packet) (d : Description)
      (heard : IsHeard start event place packet) (says : packet.body ≡ body.Description d)
      (its : IsItsOwn start.router.area) where
    abbrev f : Neighbor → Step
    f = after_description start.router.id moment start.router.area.database d

    tells : (m : Neighbor) → neighbor_at number start.router.area.links ≡ Some m
        → conversation_with m ≡ with_it → (number == place) ≡ true
        → accepts_description old.id moment m d ≡ true → HasKey d.headers key → Told
    tells m at same here accepts has = record {
      d = d;
      brings = subst (λ (r : ℕ). BringsDescription event number r d) its_router
          (brought number m d heard says at here);
      neighbor = m;
      its = its_router;
      there = at;
      accepted = accepts;
      header = has.0;
      among = has.1;
      of_key = has.2;
    }
      where
        its_router : m.router ≡ n.router
        its_router = ap (λ (c : Conversation). c.router) same

    -- told again, or still asked
    abbrev Goes : Option Neighbor → Type 0
    Goes o = Told ⊎ AsksThere o

    described_one : (link : Link) (o : Option Neighbor) → BareAt o
        → neighbor_at number start.router.area.links ≡ o
        → Goes (step_on (only_at place f number link) o)
    described_one link None k at = absurd k
    described_one link (Some m) (inl over) at = absurd over.0
    described_one link (Some m) (inr it) at = by_place (number == place) refl
      where
        by_goes : (number == place) ≡ true
            → Asking ranks key moment first entry low with_it (Unit {0}) (f m).neighbor
            ⊎ ((accepts_description old.id moment m d ≡ true) × HasKey d.headers key)
            → Goes (Some (f m).neighbor)
        by_goes here (inl k) = inr k
        by_goes here (inr has) = inl (tells m at it.0 here has.0 has.1)

        by_place : (b : Bool) → (number == place) ≡ b → Goes (Some (cond b (f m) (record {
          neighbor = m;
          sends = [];
        })).neighbor)
        by_place true here =
            by_goes here
            (any_described ranks key moment first entry low with_it (Unit {0}) tt start.router.id
            start.router.area.database d m (exchanges its m at it.1) it)
        by_place false away = inr (inr it)

    described : Stands (receive_description start.router.id moment place d (outcome start))
    described =
        parts.sent ranks key moment first entry low with_it (Unit {0}) Told number
        (stepping_sends (only_at place f) start.router.area.links)
        (on_links (stepped_links (only_at place f)) (outcome start)) (by_state begun)
      where
        by_goes : Goes (neighbor_at number
            (stepped_links (only_at place f) start.router.area.links))
            → Stands (on_links (stepped_links (only_at place f)) (outcome start))
        by_goes (inl told) = inl told
        by_goes (inr k) = inr (inr k)

        by_state : Bare (outcome start)
            → Stands (on_links (stepped_links (only_at place f)) (outcome start))
        by_state (inl none) = absurd none
        by_state (inr (inl h)) = inr (inl h)
        by_state (inr (inr k)) =
            by_goes (stepped_kept (λ (o : Option Neighbor). BareAt o
            × (neighbor_at number start.router.area.links ≡ o)) Goes (λ k. absurd k.0)
            (only_at place f) number
            (λ link at. described_one link link.neighbor at.0 at.1) start.router.area.links
            (k, refl))

  -- ---- every part

  abbrev Lately : AreaState → ByKey ℕ → Type 0
  Lately o t = Stands o

  abbrev Ended : AreaState → ByKey ℕ → Type 0
  Ended o t = Ends o

  abbrev Anything : AreaState → ByKey ℕ → Type 0
  Anything o t = Unit {0}

  abbrev IsWhole : AreaState → ByKey ℕ → Type 0
  IsWhole o t = Whole old event moment o.area.database

  stands_kept : IsKeptToo (in_order old.id) Lately Anything start moment event
  stands_kept = record {
    flushes = λ k c o t at young area h. parts.flushes ranks key moment first entry low with_it
        (Unit {0}) Told number k c o at (own_at o.area.database k c area.keys at) h;
    originates = λ k says p of_key goes may wants so h.
        parts.originates ranks key moment first entry low with_it (Unit {0}) Told number k says
        (outcome p)
        (new_key k (finite.get p.router.area.database k) says
        (wanted_type p.router k says so.announced.1 wants)) h;
    case = λ place packet heard case lsa o t among other is area h. parts.cases ranks key moment
        first entry low with_it (Unit {0}) Told number tt case place lsa o is h;
    hello = λ place packet hello heard is so h. parts.hellos ranks key moment first entry low
        with_it (Unit {0}) Told number tt start.router.id place packet.router hello (outcome start)
        h;
    description = λ place packet d heard is so h. described place packet d heard is so.area;
    acknowledgment = λ place packet headers heard is so h. parts.acknowledgments ranks key moment
        first entry low with_it (Unit {0}) Told number place headers (outcome start) h;
    requested = λ place keys o t area h.
        parts.sent ranks key moment first entry low with_it (Unit {0}) Told number
        (sends_at place (map Content.Updates (requested_lsas moment o.area.database keys))) o h;
    mismatch = λ place o t area h. parts.mismatches ranks key moment first entry low with_it
        (Unit {0}) Told number tt place o h;
    forgets = λ r o area h. h;
    inactive = λ o t area h. parts.inactive ranks key moment first entry low with_it (Unit {0}) Told
        number tt o h;
    again = λ o t area h. parts.agains ranks key moment first entry low with_it (Unit {0}) Told
        number o h;
    acknowledges = λ o t area h. parts.acknowledges ranks key moment first entry low with_it
        (Unit {0}) Told number o h;
    hellos = λ o t area h. parts.hellos_sent ranks key moment first entry low with_it (Unit {0})
        Told number o h;
    link_down = λ place o t area h. parts.down ranks key moment first entry low with_it (Unit {0})
        Told number tt place o h;
    loaded = λ o t area h. parts.loaded ranks key moment first entry low with_it (Unit {0}) Told
        number o h;
    requests = λ o t area h. parts.requests ranks key moment first entry low with_it (Unit {0}) Told
        number o h;
    removes = λ o t area h. tt;
    stays = λ o t area h. tt;
  }

  each_part : IsKeptToo (in_order old.id) (λ o t. Lately o t × IsWhole o t) Ended start moment event
  each_part =
      joined (in_order old.id) Lately IsWhole Anything Anything Ended start moment event stands_kept
      (whole_kept old event moment)
      (λ o t h whole.
      parts.removes ranks key moment first entry low with_it (Unit {0}) Told number
      (HasHad old event key) o (λ c at. whole_at old event moment o.area.database key c whole
      at) h)
      (λ o t h whole. parts.remain ranks key moment first entry low with_it (Unit {0}) Told number
      (HasHad old event key) o h)

  -- ---- in the law's words

  in_conversation : (new : Router) (o : Option Neighbor) → neighbor_at number new.area.links ≡ o
      → AsksThere o → BecameOfRequest old moment event number n key entry new
  in_conversation new None at k = BecameOfRequest.Over (with_nobody number with_it new at)
  in_conversation new (Some m) at (inl over) =
      BecameOfRequest.Over (is_over number with_it new m at over.1)
  in_conversation new (Some m) at (inr it) =
      BecameOfRequest.Stays (IsRequestedOrHeld.Requested (record {
        neighbor = m;
        there = at;
        is = it.0;
        asked = it.1;
      }))

  said : (new : Router) → Ends (outcome (record {
    router = new;
    sends = [];
  })) → BecameOfRequest old moment event number n key entry new
  said new (inl told) = BecameOfRequest.Again told
  said new (inr (inl h)) = BecameOfRequest.Stays
      (IsRequestedOrHeld.Held (in_words ranks key moment first old event new h))
  said new (inr (inr k)) = in_conversation new (neighbor_at number new.area.links) refl k

  became : (outs : List Out) (new : Router) → Happens old moment event outs new
      → BecameOfRequest old moment event number n key entry new
  became outs new happens =
      said new
      (subst (λ (r : Router). Ends (outcome (record {
        router = r;
        sends = [];
      }))) (sym happens.router)
      (event_kept_too (in_order old.id) (order_kept old.id) (λ o t. Lately o t × IsWhole o t) Ended
      old moment event each_part happens.after (order_brings old event) happens.own
      (order_begun old moment order)
      (more (outcome start) begun, whole_begun old event moment)))

  -- ---- if nothing that could meet it is there, or comes

  module _ (foreign : IsForeignAndAbsent old key) (brings : BringsNone event key) where
    abbrev Both : AreaState → ByKey ℕ → Type 0
    Both o t = Lacks key o × Stands o

    abbrev Left : AreaState → ByKey ℕ → Type 0
    Left o t = Told ⊎ AsksThere (neighbor_at number o.area.links)

    left_of : (o : AreaState) (t : ByKey ℕ) → Both o t → Left o t
    left_of o t (none, inl told) = inl told
    left_of o t (none, inr (inl has)) =
        let no : None ≡ Some has.0 = sym none ∙ has.1 in absurd cc
    left_of o t (none, inr (inr k)) = inr k

    lacks_kept : IsKept old.id moment (IsNone key)
    lacks_kept = none_kept key old.id moment foreign.others

    not_brought : (place : ℕ) (packet : Packet) → IsHeard start event place packet → (lsa : Lsa)
        → Contains (lsas_brought packet.body) lsa → same_key key (lsa_key lsa) ≡ false
    not_brought place packet heard lsa among = by_key (same_key key (lsa_key lsa)) refl
      where
        by_key : (b : Bool) → same_key key (lsa_key lsa) ≡ b → same_key key (lsa_key lsa) ≡ false
        by_key true same =
            absurd (brings lsa (came heard lsa among) (sym (tied_key key (lsa_key lsa) same)))
        by_key false other = other

    each_too : IsKeptToo (in_order old.id) Both Left start moment event
    each_too =
        joined (in_order old.id) (λ o t. Lacks key o) Lately Anything Anything Left start moment
        event
        (kept_too old moment event (IsNone key) lacks_kept
        (λ place packet heard lsa among db newer none. none_put key (lsa_key lsa)
        (installed_copy moment lsa) db (not_brought place packet heard lsa among) none))
        stands_kept (λ o t none h. left_of o t (none, h)) (λ o t none h. left_of o t (none, h))

    in_stay : (new : Router) (o : Option Neighbor) → neighbor_at number new.area.links ≡ o
        → AsksThere o → StaysRequested old moment event number n key entry new
    in_stay new None at k = StaysRequested.Over (with_nobody number with_it new at)
    in_stay new (Some m) at (inl over) =
        StaysRequested.Over (is_over number with_it new m at over.1)
    in_stay new (Some m) at (inr it) =
        StaysRequested.Stays (record { neighbor = m; there = at; is = it.0; asked = it.1 })

    left_said : (new : Router) → Left (outcome (record { router = new; sends = [] })) finite.empty
        → StaysRequested old moment event number n key entry new
    left_said new (inl told) = StaysRequested.Again told
    left_said new (inr k) = in_stay new (neighbor_at number new.area.links) refl k

    stays_so : (outs : List Out) (new : Router) → Happens old moment event outs new
        → StaysRequested old moment event number n key entry new
    stays_so outs new happens =
        left_said new
        (subst (λ (r : Router). Left (outcome (record {
          router = r;
          sends = [];
        })) finite.empty) (sym happens.router)
        (event_kept_too (in_order old.id) (order_kept old.id) Both Left old moment event each_too
        happens.after (order_brings old event) happens.own (order_begun old moment order) (
          ages old.id moment (IsNone key) lacks_kept old.moment
              (finite.entries old.area.database) (record {
                area = old.area;
                sends = [];
              }) foreign.absent,
          more (outcome start) begun,
        )))

pub requests_are_met : RanksFollowTheComparison → RequestsAreMet
requests_are_met ranks old moment event outs new happens order number n there key entry asked =
    became ranks old moment event order number n there key entry asked outs new happens

-- ---- the end of an event, if the conversation isn't over

module _ (ranks : RanksFollowTheComparison) (was : Router) (event : Occurrence) (moment : ℕ)
    (key : Key) (first : Instance) (entry : ListEntry)
    (low : is_at_least (listed_now moment entry) first ≡ true)
    (with_it : Conversation) (number : ℕ) (Absent : Type 0)
    (others : Absent → key.advertising_router ≡ was.id → ⊥) where
  abbrev own : ℕ
  own = was.id

  abbrev Remains : AreaState → Type 0
  Remains o = parts.Stands ranks key moment first entry low with_it ⊥ ⊥ number o

  abbrev Finally : AreaState → Type 0
  Finally o = parts.Ends ranks key moment first entry low with_it ⊥ ⊥ number (HasHad was event key)
      o

  -- what was absent still is, and what is held has been had
  abbrev Still : AreaState → Type 0
  Still o = Remains o × (Absent → Lacks key o) × Whole was event moment o.area.database

  still_absent : Absent → IsKept own moment (IsNone key)
  still_absent a = none_kept key own moment (others a)

  abbrev HasBeenHad : Database → Type 0
  HasBeenHad db = Whole was event moment db

  still_kept : IsKeptToEnd own moment Still
  still_kept = record {
    flushes = λ k c o at its h. (
      parts.flushes ranks key moment first entry low with_it ⊥ ⊥ number k c o at
          (own_at o.area.database k c its.keys at) h.0,
      λ a. flushed own moment (IsNone key) (still_absent a) k c o at (h.1 a),
      flushed own moment HasBeenHad (whole was event moment) k c o at h.2,
    );
    originates = λ k says p its wants so h. (
      parts.originates ranks key moment first entry low with_it ⊥ ⊥ number k says (outcome p)
          (new_key k (finite.get p.router.area.database k) says
          (wanted_type p.router k says so.announced.1 wants)) h.0,
      λ a. originated own moment (IsNone key) (still_absent a) k says p its wants so (h.1 a),
      originated own moment HasBeenHad (whole was event moment) k says p its wants so h.2,
    );
    loaded = λ o h.
        (parts.loaded ranks key moment first entry low with_it ⊥ ⊥ number o h.0, h.1, h.2);
    requests = λ o h. (
      parts.requests ranks key moment first entry low with_it ⊥ ⊥ number o h.0,
      λ a. each own moment (IsNone key) (still_absent a) (λ place link m. request_next moment m) o
          (h.1 a),
      each own moment HasBeenHad (whole was event moment) (λ place link m. request_next moment m) o
          h.2,
    );
  }

  met_or_asked : (old : Router) (after : EventState) → Going own moment Still after
      → Finally (outcome (end_event old moment after))
  met_or_asked =
      ended own moment Still still_kept Finally
      (λ o h. parts.remain ranks key moment first entry low with_it ⊥ ⊥ number
      (HasHad was event key) o h.0)
      (λ o h. parts.removes ranks key moment first entry low with_it ⊥ ⊥ number
      (HasHad was event key) o (λ c at. whole_at was event moment o.area.database key c h.2 at)
      h.0)

  -- if nothing was there, it stands on the list
  asked_still : Absent → (old : Router) (after : EventState) → Going own moment Still after
      → parts.AsksThere ranks key moment first entry low with_it ⊥ ⊥ number
      (neighbor_at number (end_event old moment after).router.area.links)
  asked_still a =
      ended own moment Still still_kept There (λ o h. asked_there o (h.1 a) h.0)
      (λ o h. asked_there o (h.1 a) h.0)
    where
      There : AreaState → Type 0
      There o = parts.AsksThere ranks key moment first entry low with_it ⊥ ⊥ number
          (neighbor_at number o.area.links)

      asked_there : (o : AreaState) → Lacks key o → Remains o → There o
      asked_there o none (inl told) = absurd told
      asked_there o none (inr (inl has)) = let no : None ≡ Some has.0 = sym none ∙ has.1 in
          absurd cc
      asked_there o none (inr (inr k)) = k

-- ---- what is accepted

module _ (ranks : RanksFollowTheComparison) (old : Router) (moment : ℕ) (event : Occurrence)
    (order : IsConsistent old) (number : ℕ) (n : Neighbor) (d : Description)
    (a : AcceptsDescription old moment event number n d) (h : Header)
    (last_one : IsLastOfItsKey d.headers h) where
  abbrev begins : EventState
  begins = start_event moment old

  abbrev entered : ListEntry
  entered = record { header = h; at = moment }

  abbrev told : Instance
  told = instance_of h

  as_new : is_at_least (listed_now moment entered) told ≡ true
  as_new = entry_as_new entered moment

  abbrev conversation : Conversation
  conversation = conversation_with (two_way_received moment n).neighbor

  abbrev takes : Neighbor → Step
  takes = after_description old.id moment begins.router.area.database d

  abbrev Asked : AreaState → Type 0
  Asked o = parts.Stands ranks (key_of h) moment told entered as_new conversation ⊥ ⊥ number o

  abbrev AskedAt : Option Neighbor → Type 0
  AskedAt o = parts.AsksThere ranks (key_of h) moment told entered as_new conversation ⊥ ⊥ number o
      ⊎ (is_more_recent moment begins.router.area.database h ≡ false)

  one_taken : (link : Link) (o : Option Neighbor) → o ≡ Some n
      → AskedAt (step_on (only_at number takes number link) o)
  one_taken link o is =
      subst (λ (m : Option Neighbor). AskedAt (step_on (only_at number takes number link) m))
      (sym is)
      (subst (λ b. AskedAt (Some (cond b (takes n) (record {
        neighbor = n;
        sends = [];
      })).neighbor)) (sym (eq-eqb number number refl))
      (by_result (accepted_one old.id moment begins.router.area.database d n a.accepted h
      last_one)))
    where
      by_result : (conversation_with (takes n).neighbor ≡ conversation)
          × ((finite.get (takes n).neighbor.requests (key_of h) ≡ Some entered)
          ⊎ (is_more_recent moment begins.router.area.database h ≡ false))
          → AskedAt (Some (takes n).neighbor)
      by_result k = by_place k.1
        where
          by_place : (finite.get (takes n).neighbor.requests (key_of h) ≡ Some entered)
              ⊎ (is_more_recent moment begins.router.area.database h ≡ false)
              → AskedAt (Some (takes n).neighbor)
          by_place (inl at) = inl (inr (k.0, at))
          by_place (inr unwanted) = inr unwanted

  -- what isn't wanted is held as new
  held : (c : Option DatabaseCopy) → finite.get begins.router.area.database (key_of h) ≡ c
      → newer_than_copy moment h c ≡ false
      → parts.Has ranks (key_of h) moment told entered as_new conversation ⊥ ⊥ number
      begins.router.area.database
  held None at e = absurd cc
  held (Some c) at e = (c, at, ranks.not_newer told (copy_now moment c) e)

  taken : Asked (receive_description old.id moment number d (outcome begins))
  taken =
      parts.sent ranks (key_of h) moment told entered as_new conversation ⊥ ⊥ number
      (stepping_sends (only_at number takes) begins.router.area.links)
      (on_links (stepped_links (only_at number takes)) (outcome begins))
      (by_place (stepped_kept (λ (o : Option Neighbor). o ≡ Some n) AskedAt (λ e. absurd cc)
      (only_at number takes) number (λ link is. one_taken link link.neighbor is)
      begins.router.area.links a.there))
    where
      by_place : AskedAt (neighbor_at number
          (stepped_links (only_at number takes) begins.router.area.links))
          → Asked (on_links (stepped_links (only_at number takes)) (outcome begins))
      by_place (inl k) = inr (inr k)
      by_place (inr unwanted) = inr (inl
          (held (finite.get begins.router.area.database (key_of h)) refl unwanted))

  in_law : (new : Router) → Finally ranks old event moment (key_of h) told entered as_new
      conversation number (IsForeignAndAbsent old (key_of h)) (λ f e. f.others e) (outcome (record {
        router = new;
        sends = [];
      }))
      → IsRequestedOrHeld old moment event number conversation (key_of h) entered told new
  in_law new (inl none) = absurd none
  in_law new (inr (inl k)) = IsRequestedOrHeld.Held
      (in_words ranks (key_of h) moment told old event new k)
  in_law new (inr (inr k)) = by_neighbor (neighbor_at number new.area.links) refl k
    where
      by_neighbor : (o : Option Neighbor) → neighbor_at number new.area.links ≡ o
          → parts.AsksThere ranks (key_of h) moment told entered as_new conversation ⊥ ⊥ number o
          → IsRequestedOrHeld old moment event number conversation (key_of h) entered told new
      by_neighbor None at k = absurd k
      by_neighbor (Some m) at (inl over) = absurd over.0
      by_neighbor (Some m) at (inr it) = IsRequestedOrHeld.Requested (record {
        neighbor = m;
        there = at;
        is = it.0;
        asked = it.1;
      })

  abbrev StillSo : AreaState → Type 0
  StillSo o = Still ranks old event moment (key_of h) told entered as_new conversation number
      (IsForeignAndAbsent old (key_of h)) (λ f e. f.others e) o

  going : (after : EventState) → OwnPart moment event begins after
      → Going old.id moment StillSo after
  going after own =
      subst (Going old.id moment StillSo)
      (sym (is_taken old moment event number n d a after own))
      (record {
        so = record {
          area = (order_kept old.id).description old.id moment number d (outcome begins) so.area;
          announced = so.announced;
        };
        still = (
          taken,
          λ foreign.
              let lacks : IsKept old.id moment (IsNone (key_of h)) =
              none_kept (key_of h) old.id moment foreign.others in
              each old.id moment (IsNone (key_of h)) lacks (only_at number takes) (outcome begins)
              (ages old.id moment (IsNone (key_of h)) lacks old.moment
              (finite.entries old.area.database) (record {
                area = old.area;
                sends = [];
              }) foreign.absent),
          each old.id moment (λ db. Whole old event moment db) (whole old event moment)
              (only_at number takes) (outcome begins) (whole_begun old event moment),
        );
      })
    where
      so : OfEvent (in_order old.id) begins
      so = order_begun old moment order

  accepted : (outs : List Out) (new : Router) → Happens old moment event outs new
      → IsRequestedOrHeld old moment event number conversation (key_of h) entered told new
  accepted outs new happens =
      in_law new
      (subst (λ (r : Router). Finally ranks old event moment (key_of h) told entered as_new
      conversation number (IsForeignAndAbsent old (key_of h)) (λ f e. f.others e)
      (outcome (record { router = r; sends = [] }))) (sym happens.router)
      (met_or_asked ranks old event moment (key_of h) told entered as_new conversation number
      (IsForeignAndAbsent old (key_of h)) (λ f e. f.others e) old happens.after
      (going happens.after happens.own)))

  -- if no copy is held, and the key is another router's
  is_requested : (outs : List Out) (new : Router) → Happens old moment event outs new
      → IsForeignAndAbsent old (key_of h) → IsRequested number conversation (key_of h) entered new
  is_requested outs new happens foreign =
      by_neighbor (neighbor_at number new.area.links) refl
      (subst (λ (r : Router). parts.AsksThere ranks (key_of h) moment told entered as_new
      conversation ⊥ ⊥ number (neighbor_at number r.area.links)) (sym happens.router)
      (asked_still ranks old event moment (key_of h) told entered as_new conversation number
      (IsForeignAndAbsent old (key_of h)) (λ f e. f.others e) foreign old happens.after
      (going happens.after happens.own)))
    where
      by_neighbor : (o : Option Neighbor) → neighbor_at number new.area.links ≡ o
          → parts.AsksThere ranks (key_of h) moment told entered as_new conversation ⊥ ⊥ number o
          → IsRequested number conversation (key_of h) entered new
      by_neighbor None at k = absurd k
      by_neighbor (Some m) at (inl over) = absurd over.0
      by_neighbor (Some m) at (inr it) = record {
        neighbor = m;
        there = at;
        is = it.0;
        asked = it.1;
      }

pub accepted_is_requested : RanksFollowTheComparison → WhatIsAcceptedIsRequested
accepted_is_requested ranks old moment event outs new happens order number n d a h last_one =
    accepted ranks old moment event order number n d a h last_one outs new happens

pub requests_stay : RanksFollowTheComparison → RequestsStay
requests_stay ranks = record {
  stays = λ old moment event outs new happens order number n there key entry asked foreign brings.
      stays_so ranks old moment event order number n there key entry asked foreign brings outs new
      happens;
  accepted = λ old moment event outs new happens order number n d a h last_one foreign.
      is_requested ranks old moment event order number n d a h last_one outs new happens foreign;
}
