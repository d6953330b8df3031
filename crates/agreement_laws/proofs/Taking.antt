-- What was accepted of a Full neighbor is held, or came and was lost.
use Rattle.std.proofs.Common.{◌≡◌, ℕ, true, ◌⊎◌, inl, inr, List, [], ◌∷◌, Option, None, Some, refl}
use Rattle.std.proofs.Common.{sym, ap, subst, ◌∙◌}
use Rattle.std.specs.FinMap as finite
use Rattle.std.specs.List.{Contains}
use Rattle.std.proofs.lemmas.Bool.{eqb-true}
use Rattle.words.specs.declared.key.Key.{Key}
use Rattle.lsdb.specs.Copies.{DatabaseCopy, copy_now}
use Rattle.lsdb.specs.Headers.{Header, key_of}
use Rattle.lsdb.specs.Instances.{ListEntry, instance_of, listed_now}
use Rattle.lsdb.specs.Keys.{ByKey, key_cmp}
use Rattle.packet.specs.declared.model.Description.{Description}
use Rattle.adjacency.specs.Adjacencies.{two_way_received}
use Rattle.adjacency.specs.Laws.{IsBareWhereFull}
use Rattle.adjacency.specs.Neighbors.{Neighbor, is_exchange_or_later}
use Rattle.received.specs.Holds.{Holds, HoldsOfEach}
use Rattle.received.specs.Links.{neighbor_at}
use Rattle.received.proofs.Holding.{one_holds}
use Rattle.event_rules.specs.declared.model.Config.{Config}
use Rattle.event_rules.specs.Endings.{start_event}
use Rattle.event_rules.specs.Events.{Step, initial}
use Rattle.event_rules.specs.Hellos.{is_foreign}
use Rattle.event_rules.specs.InstanceIdentities.{InstanceIdentity, identity_of_header}
use Rattle.event_rules.specs.InstanceIdentities.{identity_of_lsa}
use Rattle.event_rules.specs.Routers.{Router}
use Rattle.invariants.specs.InOrder.{IsConsistent}
use Rattle.invariants.proofs.Always.{full_request_nothing}
use Rattle.agreement_laws.specs.CopiesClimb.{BecameOf, BringsNone, CopiesClimb, IsForeignAndAbsent}
use Rattle.agreement_laws.specs.Exchanged.{Conversation, Converses, conversation_with}
use Rattle.agreement_laws.specs.NeighborHistories.{Ends, HasBegun, IsHistory}
use Rattle.agreement_laws.specs.NeighborHistories.{Pair, Party, Side, TakesEvent, event_of}
use Rattle.agreement_laws.specs.NeighborHistories.{interface_of, other_side, party}
use Rattle.agreement_laws.specs.NeighborsAgree.{HoldsAsNew, IsWithout, is_as_new}
use Rattle.agreement_laws.specs.Ranks.{RanksFollowTheComparison}
use Rattle.agreement_laws.specs.Accepted.{AcceptsDescription, BringsDescription}
use Rattle.agreement_laws.specs.Requests.{AcceptsKey, BecameOfRequest, IsRequested}
use Rattle.agreement_laws.specs.Requests.{IsRequestedOrHeld, RequestsAreMet}
use Rattle.agreement_laws.specs.Requests.{WhatIsAcceptedIsRequested}
use Rattle.agreement_laws.specs.Stays.{RequestsStay, StaysRequested}
use Rattle.agreement_laws.specs.Answers.{IsAccepted, sends_of}
use Rattle.agreement_laws.specs.Held.{AreAsNew, HasAccepted, WasLost, WasThere}
use Rattle.agreement_laws.specs.Held.{WhatWasAcceptedIsHeld}
use Rattle.agreement_laws.specs.SaidIsHeld.{young}
use Rattle.agreement_laws.proofs.AnswerHistories.{Turns, foreigners, kept, turn_of}
use Rattle.agreement_laws.proofs.Latest.{LastOf, last_of, there_or_not}
use Rattle.agreement_laws.proofs.Runs.{begins_alone}
use Rattle.agreement_laws.proofs.Lists.{some_same}
use Rattle.agreement_laws.proofs.Names.{at_any_age}
use Rattle.agreement_laws.proofs.Ranks.{at_least_on}
use Rattle.agreement_laws.proofs.Remembering.{step_taken}

-- what was accepted counts while the conversation stands
accepted_stands : (ends : Ends) (side : Side) (with_it : Conversation) (d : Description)
    (now : Pair) (earlier : List Pair) (h : IsHistory ends now earlier)
    → IsAccepted ends side with_it d now earlier h
    → Converses (interface_of side ends) with_it (party side now).router
accepted_stands ends side with_it d now [] h k = absurd k
accepted_stands ends side with_it d now (before ∷ earlier) h k = k.0

-- the laws that it rests on
pub record Laws : Type 0 where
  pub ranks : RanksFollowTheComparison
  pub climb : CopiesClimb
  pub met : RequestsAreMet
  pub requested : WhatIsAcceptedIsRequested
  pub stay : RequestsStay

module _ (laws : Laws) (ends : Ends) (side : Side) (name : InstanceIdentity) where
  abbrev number : ℕ
  number = interface_of side ends

  abbrev key : Key
  key = name.key

  -- an instance as new is requested
  abbrev IsAsked : Neighbor → Type 0
  IsAsked m =
      (entry : ListEntry) × (finite.get m.requests key ≡ Some entry)
      × (is_as_new (identity_of_header entry.header) name ≡ true)

  abbrev State : (now : Pair) (earlier : List Pair) → IsHistory ends now earlier → Neighbor
      → Type 0
  State now earlier h m =
      IsAsked m
      ⊎ HoldsAsNew (party side now).router name
      ⊎ WasLost ends side (conversation_with m) key now earlier h

  abbrev Fine : (now : Pair) (earlier : List Pair) → IsHistory ends now earlier → Neighbor
      → Type 0
  Fine now earlier h m =
      is_exchange_or_later m.state ≡ true
      → AreAsNew ends side (conversation_with m) name now earlier h
      → HasAccepted ends side (conversation_with m) key now earlier h → State now earlier h m

  -- ---- an event of this side

  module _ (now before : Pair) (earlier : List Pair) (h : IsHistory ends now (before ∷ earlier))
      (t : TakesEvent number (party (other_side side) before).sent (party side before)
      (party side now)) (is : event_of ends side before now h.0 ≡ Some (step_taken t))
      (order : IsConsistent (party side before).router)
      (foreign : Holds (λ (n : Neighbor). is_foreign (party side before).router.id n.router ≡ true)
      (neighbor_at number (party side before).router.area.links))
      (was : Holds (Fine before earlier h.1)
      (neighbor_at number (party side before).router.area.links))
      (m : Neighbor) (at : neighbor_at number (party side now).router.area.links ≡ Some m)
      (on : is_exchange_or_later m.state ≡ true)
      (as_new : AreAsNew ends side (conversation_with m) name now (before ∷ earlier) h)
      (has : HasAccepted ends side (conversation_with m) key now (before ∷ earlier) h) where
    abbrev p : Router
    p = (party side before).router

    abbrev q : Router
    q = (party side now).router

    abbrev w : Conversation
    w = conversation_with m

    abbrev Result : Type 0
    Result = State now (before ∷ earlier) h m

    here : Converses number w q
    here = record { neighbor = m; there = at; exchanging = on; is = refl }

    decided : WasThere p t.event key ⊎ (IsForeignAndAbsent p key × BringsNone t.event key)
    decided =
        there_or_not p t.moment (start_event t.moment p) t.happens.after key t.event t.happens.own

    lost : WasThere p t.event key → IsWithout key q → Result
    lost there without =
        inr (inr (
          here,
          inl (
            record { step = step_taken t; taken = is; there = there; without = without },
            has,
          ),
        ))

    -- held as new as what is as new as the name
    held_as : (copy : DatabaseCopy) → finite.get q.area.database key ≡ Some copy
        → (i : InstanceIdentity) → is_as_new (identity_of_lsa copy.lsa) i ≡ true
        → is_as_new i name ≡ true → Result
    held_as copy there i more new =
        inr (inl (record {
          copy = copy;
          there = there;
          as_new = at_least_on laws.ranks.total (young (identity_of_lsa copy.lsa)) (young i)
              (young name) more new;
        }))

    became : (g : Header) → is_as_new (identity_of_header g) name ≡ true
        → WasThere p t.event key → BecameOf p t.moment t.event (instance_of g) key q → Result
    became g new there (BecameOf.IsHeld c there_now more) =
        held_as c there_now (identity_of_header g)
        (at_any_age (copy_now t.moment c) (instance_of g) more) new
    became g new there (BecameOf.IsGone last had more aged none off) = lost there none

    -- what stands on the neighbor's list
    asked : (x : Neighbor) → neighbor_at number q.area.links ≡ Some x → (entry : ListEntry)
        → finite.get x.requests key ≡ Some entry
        → is_as_new (identity_of_header entry.header) name ≡ true → Result
    asked x there entry asks new =
        inl (
          entry,
          ap (λ (y : Neighbor). finite.get y.requests key) (some_same (sym at ∙ there)) ∙ asks,
          new,
        )

    -- ---- a Description that is accepted in it

    module _ (x : Neighbor) (d : Description)
        (a : AcceptsDescription p t.moment t.event number x d) (g : Header)
        (among : Contains d.headers g) (its : key_of g ≡ key) where
      l : LastOf key d.headers
      l = last_of key d.headers g among its

      its_new : is_as_new (identity_of_header l.header) name ≡ true
      its_new = as_new d (here, inl (step_taken t, is, x, a)) l.header l.among l.of_key

      abbrev entered : ListEntry
      entered = record { header = l.header; at = t.moment }

      requested : (y : Neighbor) → neighbor_at number q.area.links ≡ Some y
          → finite.get y.requests (key_of l.header) ≡ Some entered → Result
      requested y there asks =
          asked y there entered
          (ap (λ (k : Key). finite.get y.requests k) (sym l.of_key) ∙ asks) its_new

      by_outcome : WasThere p t.event key
          → IsRequestedOrHeld p t.moment t.event number
          (conversation_with (two_way_received t.moment x).neighbor) (key_of l.header) entered
          (instance_of l.header) q → Result
      by_outcome there (IsRequestedOrHeld.Requested stands) =
          requested stands.neighbor stands.there stands.asked
      by_outcome there (IsRequestedOrHeld.Held b) =
          became l.header its_new there
          (subst (λ (k : Key). BecameOf p t.moment t.event (instance_of l.header) k q) l.of_key b)

      by_decision : WasThere p t.event key ⊎ (IsForeignAndAbsent p key × BringsNone t.event key)
          → Result
      by_decision (inl there) =
          by_outcome there
          (laws.requested p t.moment t.event t.outs q t.happens order number x d a l.header l.last)
      by_decision (inr apart) =
          let r : IsRequested number (conversation_with (two_way_received t.moment x).neighbor)
          (key_of l.header) entered q =
          laws.stay.accepted p t.moment t.event t.outs q t.happens order number x d a l.header
          l.last (subst (IsForeignAndAbsent p) (sym l.of_key) apart.0) in
          requested r.neighbor r.there r.asked

      fresh : Result
      fresh = by_decision decided

    -- ---- one that was accepted before

    again : (n : Neighbor) → neighbor_at number p.area.links ≡ Some n
        → AcceptsKey p t.moment t.event number n.router key → Result
    again n there k =
        fresh k.neighbor k.d (record {
          brings = subst (λ (r : ℕ). BringsDescription t.event number r k.d) (sym k.its) k.brings;
          other = subst (λ (r : ℕ). is_foreign p.id r ≡ true) (sym k.its)
              (subst (Holds (λ (y : Neighbor). is_foreign p.id y.router ≡ true)) there foreign);
          there = k.there;
          accepted = k.accepted;
        }) k.header k.among k.of_key

    module _ (n : Neighbor) (there : neighbor_at number p.area.links ≡ Some n)
        (same : conversation_with n ≡ w) where
      goes_on : (Converses number (conversation_with n) q → ⊥) → Result
      goes_on over =
          absurd (over (subst (λ (v : Conversation). Converses number v q) (sym same) here))

      module _ (entry : ListEntry) (asks : finite.get n.requests key ≡ Some entry)
          (new : is_as_new (identity_of_header entry.header) name ≡ true) where
        by_stay : StaysRequested p t.moment t.event number n key entry q → Result
        by_stay (StaysRequested.Stays r) = asked r.neighbor r.there entry r.asked new
        by_stay (StaysRequested.Again k) = again n there k
        by_stay (StaysRequested.Over over) = goes_on over

        by_met : WasThere p t.event key → BecameOfRequest p t.moment t.event number n key entry q
            → Result
        by_met was_there (BecameOfRequest.Stays s) = by_rest s
          where
            by_rest : IsRequestedOrHeld p t.moment t.event number (conversation_with n) key entry
                (listed_now t.moment entry) q → Result
            by_rest (IsRequestedOrHeld.Requested stands) =
                asked stands.neighbor stands.there entry stands.asked new
            by_rest (IsRequestedOrHeld.Held (BecameOf.IsHeld c at_now more)) =
                held_as c at_now (identity_of_header entry.header)
                (at_any_age (copy_now t.moment c) (listed_now t.moment entry) more) new
            by_rest (IsRequestedOrHeld.Held (BecameOf.IsGone last had more aged none off)) =
                lost was_there none
        by_met was_there (BecameOfRequest.Again k) = again n there k
        by_met was_there (BecameOfRequest.Over over) = goes_on over

        by_event : WasThere p t.event key
            ⊎ (IsForeignAndAbsent p key × BringsNone t.event key) → Result
        by_event (inl was_there) =
            by_met was_there
            (laws.met p t.moment t.event t.outs q t.happens order number n there key entry asks)
        by_event (inr apart) =
            by_stay
            (laws.stay.stays p t.moment t.event t.outs q t.happens order number n there key entry
            asks apart.0 apart.1)

      climbed : (c : DatabaseCopy) → finite.get p.area.database key ≡ Some c
          → is_as_new (identity_of_lsa c.lsa) name ≡ true
          → BecameOf p t.moment t.event (copy_now t.moment c) key q → Result
      climbed c there_before new (BecameOf.IsHeld e at_now more) =
          held_as e at_now (identity_of_lsa c.lsa)
          (at_any_age (copy_now t.moment e) (copy_now t.moment c) more) new
      climbed c there_before new (BecameOf.IsGone last had more aged none off) =
          lost (WasThere.Before c there_before) none

      older : State before earlier h.1 n → Result
      older (inl r) = by_event r.0 r.1 r.2 decided
      older (inr (inl has_it)) =
          climbed has_it.copy has_it.there has_it.as_new
          (laws.climb p t.moment t.event t.outs q t.happens order key has_it.copy has_it.there)
      older (inr (inr gone)) =
          inr (inr (
            here,
            inr (subst (λ (v : Conversation). WasLost ends side v key before earlier h.1) same
                gone),
          ))

    before_it : IsAccepted ends side w has.description before earlier h.1 → Result
    before_it old =
        older c.neighbor c.there c.is
        (subst (Holds (Fine before earlier h.1)) c.there was c.exchanging
        (λ d a. as_new d (
          here,
          inr (subst (λ (v : Conversation). IsAccepted ends side v d before earlier h.1)
              c.is a),
        ))
        (record {
          description = has.description;
          accepted = subst (λ (v : Conversation).
              IsAccepted ends side v has.description before earlier h.1) (sym c.is) old;
          header = has.header;
          among = has.among;
          of_key = has.of_key;
        }))
      where
        c : Converses number w p
        c = accepted_stands ends side w has.description before earlier h.1 old

    result : Result
    result = by_place has.accepted.1
      where
        by_place : ((step : Step) × (event_of ends side before now h.0 ≡ Some step)
            × (x : Neighbor) × AcceptsDescription p step.moment step.event number x has.description)
            ⊎ IsAccepted ends side w has.description before earlier h.1 → Result
        by_place (inl k) =
            fresh k.2 has.description
            (subst (λ (s : Step). AcceptsDescription p s.moment s.event number k.2 has.description)
            (some_same (sym k.1 ∙ is)) k.3) has.header has.among has.of_key
        by_place (inr old) = before_it old

  -- ---- a turn of the other side

  module _ (now before : Pair) (earlier : List Pair) (h : IsHistory ends now (before ∷ earlier))
      (none : event_of ends side before now h.0 ≡ None)
      (same : party side now ≡ party side before)
      (was : Holds (Fine before earlier h.1)
      (neighbor_at number (party side before).router.area.links)) where
    unchanged : (m : Neighbor) → neighbor_at number (party side now).router.area.links ≡ Some m
        → Fine now (before ∷ earlier) h m
    unchanged m at on as_new has = on_from (was_fine on (λ d a. as_new d (here, inr a)) its)
      where
        here : Converses number (conversation_with m) (party side now).router
        here = record { neighbor = m; there = at; exchanging = on; is = refl }

        at_before : neighbor_at number (party side before).router.area.links ≡ Some m
        at_before =
            ap (λ (x : Party). neighbor_at number x.router.area.links) (sym same) ∙ at

        was_fine : Fine before earlier h.1 m
        was_fine = subst (Holds (Fine before earlier h.1)) at_before was

        by_place : ((step : Step) × (event_of ends side before now h.0 ≡ Some step)
            × (x : Neighbor) × AcceptsDescription (party side before).router step.moment step.event
            number x has.description)
            ⊎ IsAccepted ends side (conversation_with m) has.description before earlier h.1
            → IsAccepted ends side (conversation_with m) has.description before earlier h.1
        by_place (inl k) = let no : None ≡ Some k.0 = sym none ∙ k.1 in absurd cc
        by_place (inr old) = old

        its : HasAccepted ends side (conversation_with m) key before earlier h.1
        its = record {
          description = has.description;
          accepted = by_place has.accepted.1;
          header = has.header;
          among = has.among;
          of_key = has.of_key;
        }

        on_from : State before earlier h.1 m → State now (before ∷ earlier) h m
        on_from (inl r) = inl r
        on_from (inr (inl held)) =
            inr (inl (subst (λ (x : Party). HoldsAsNew x.router name) (sym same) held))
        on_from (inr (inr gone)) = inr (inr (here, inr gone))

    pub unchanged_there : (o : Option Neighbor)
        → neighbor_at number (party side now).router.area.links ≡ o
        → Holds (Fine now (before ∷ earlier) h) o
    unchanged_there None at = tt
    unchanged_there (Some m) at = unchanged m at

  -- ---- histories

  alone : (now : Pair) (earlier : List Pair) (h : IsHistory ends now earlier) (c : Config)
      → (party side now).router ≡ initial c
      → Holds (Fine now earlier h) (neighbor_at number (party side now).router.area.links)
  alone now earlier h c is =
      by_neighbor (neighbor_at number (party side now).router.area.links)
      (ap (λ (r : Router). neighbor_at number r.area.links) is
      ∙ (begins_alone c number).0)
    where
      by_neighbor : (o : Option Neighbor) → o ≡ None → Holds (Fine now earlier h) o
      by_neighbor None e = tt
      by_neighbor (Some m) e = absurd cc

  module _ (now before : Pair) (earlier : List Pair) (h : IsHistory ends now (before ∷ earlier))
      (was : Holds (Fine before earlier h.1)
      (neighbor_at number (party side before).router.area.links)) where
    after_event : (t : TakesEvent number (party (other_side side) before).sent (party side before)
        (party side now)) → event_of ends side before now h.0 ≡ Some (step_taken t)
        → (o : Option Neighbor) → neighbor_at number (party side now).router.area.links ≡ o
        → Holds (Fine now (before ∷ earlier) h) o
    after_event t is None at = tt
    after_event t is (Some m) at = λ on as_new has.
        result now before earlier h t is (kept ends side before earlier h.1).order
        (foreigners ends side before earlier h.1) was m at on as_new has

    by_turn : Turns ends side before now (event_of ends side before now h.0)
        (sends_of ends side before now h.0)
        → Holds (Fine now (before ∷ earlier) h)
        (neighbor_at number (party side now).router.area.links)
    by_turn (inl k) =
        after_event k.0 k.1 (neighbor_at number (party side now).router.area.links) refl
    by_turn (inr (none, silent, inl b)) = alone now (before ∷ earlier) h b.config b.router
    by_turn (inr (none, silent, inr same)) =
        unchanged_there now before earlier h none same was
        (neighbor_at number (party side now).router.area.links) refl

-- it is so in every history
fine : (laws : Laws) (ends : Ends) (side : Side) (name : InstanceIdentity) (now : Pair)
    (earlier : List Pair) (h : IsHistory ends now earlier)
    → Holds (Fine laws ends side name now earlier h)
    (neighbor_at (interface_of side ends) (party side now).router.area.links)
fine laws ends Side.Left name now [] h =
    alone laws ends Side.Left name now [] h h.0.config h.0.router
fine laws ends Side.Right name now [] h =
    alone laws ends Side.Right name now [] h h.1.config h.1.router
fine laws ends side name now (before ∷ earlier) h =
    by_turn laws ends side name now before earlier h
    (fine laws ends side name before earlier h.1) (turn_of ends side before now h.0)

-- ---- a Full neighbor has nothing to request

begun_bare : (p : Party) → HasBegun p → HoldsOfEach IsBareWhereFull p.router.area.links
begun_bare p b =
    subst (λ (r : Router). HoldsOfEach IsBareWhereFull r.area.links) (sym b.router)
    (full_request_nothing.first b.config)

bare : (ends : Ends) (side : Side) (now : Pair) (earlier : List Pair) → IsHistory ends now earlier
    → HoldsOfEach IsBareWhereFull (party side now).router.area.links
bare ends Side.Left now [] h = begun_bare now.left h.0
bare ends Side.Right now [] h = begun_bare now.right h.1
bare ends side now (before ∷ earlier) h =
    by_turn_of (bare ends side before earlier h.1) (turn_of ends side before now h.0)
  where
    by_turn_of : HoldsOfEach IsBareWhereFull (party side before).router.area.links
        → Turns ends side before now (event_of ends side before now h.0)
        (sends_of ends side before now h.0)
        → HoldsOfEach IsBareWhereFull (party side now).router.area.links
    by_turn_of was (inl k) =
        full_request_nothing.event (party side before).router k.0.moment k.0.event k.0.outs
        (party side now).router k.0.happens was
    by_turn_of was (inr (none, silent, inl b)) =
        subst (λ (r : Router). HoldsOfEach IsBareWhereFull r.area.links) (sym b.router)
        (full_request_nothing.first b.config)
    by_turn_of was (inr (none, silent, inr same)) =
        subst (λ (x : Party). HoldsOfEach IsBareWhereFull x.router.area.links) (sym same) was

-- ---- the law

pub accepted_is_held : Laws → WhatWasAcceptedIsHeld
accepted_is_held laws ends side now earlier h n at full name as_new has =
    by_state (subst (Holds (Fine laws ends side name now earlier h)) at
    (fine laws ends side name now earlier h) (ap is_exchange_or_later full) as_new has)
  where
    its_bare : IsBareWhereFull n
    its_bare =
        subst (Holds IsBareWhereFull) at
        (one_holds IsBareWhereFull (interface_of side ends) (party side now).router.area.links
        (bare ends side now earlier h))

    nothing : n.requests ≡ finite.empty
    nothing = finite.empty_of_len n.requests (eqb-true (finite.len n.requests) 0 (its_bare full))

    by_state : State laws ends side name now earlier h n
        → HoldsAsNew (party side now).router name
        ⊎ WasLost ends side (conversation_with n) name.key now earlier h
    by_state (inl r) =
        let none : finite.get n.requests name.key ≡ None =
        ap (λ (l : ByKey ListEntry). finite.get l name.key) nothing
        ∙ finite.get-empty {X = ListEntry} key_cmp name.key in
        let no : None ≡ Some r.0 = sym none ∙ r.1 in absurd cc
    by_state (inr (inl held)) = inl held
    by_state (inr (inr gone)) = inr gone
