-- Full neighbors agree on what was refreshed.
use Rattle.std.proofs.Common.{◌≡◌, ℕ, Bool, true, false, ◌⊎◌, inl, inr, List, [], ◌∷◌, Option, None}
use Rattle.std.proofs.Common.{Some, refl, sym, ap, subst, ◌∙◌}
use Rattle.std.specs.FinMap as finite
use Rattle.std.specs.List.{Contains, filter_map}
use Rattle.std.proofs.lemmas.List.Elements.{Contains-append_left}
use Rattle.words.specs.declared.key.Key.{Key}
use Rattle.lsdb.specs.Copies.{DatabaseCopy, copy_now}
use Rattle.lsdb.specs.Headers.{Header, key_of, lsa_key}
use Rattle.lsdb.specs.Instances.{ListEntry, listed_now}
use Rattle.lsdb.specs.Keys.{ByKey, key_cmp}
use Rattle.adjacency.specs.Neighbors.{Neighbor, is_exchange_or_later}
use Rattle.received.specs.Holds.{Holds}
use Rattle.event_rules.specs.Events.{Step}
use Rattle.event_rules.specs.InstanceIdentities.{InstanceIdentity, identity_of_header}
use Rattle.event_rules.specs.InstanceIdentities.{identity_of_lsa}
use Rattle.event_rules.specs.Routers.{Occurrence, Router}
use Rattle.agreement_laws.specs.Exchanged.{Conversation, Describes, conversation_with}
use Rattle.agreement_laws.specs.HeldWasExchanged.{is_exchange_done}
use Rattle.agreement_laws.specs.NeighborHistories.{Ends, IsHistory, Pair, Party, Side, Turn}
use Rattle.agreement_laws.specs.NeighborHistories.{event_of, interface_of, other_side, party}
use Rattle.agreement_laws.specs.NeighborHistories.{text_at}
use Rattle.agreement_laws.specs.NeighborsAgree.{Exception, HasForgotten, HoldsAsNew, InConversation}
use Rattle.agreement_laws.specs.NeighborsAgree.{IsFullAndAcknowledged, BringsInstance}
use Rattle.agreement_laws.specs.NeighborsAgree.{NeighborsAgreeOnWhatWasRenewed}
use Rattle.agreement_laws.specs.NeighborsAgree.{is_as_new}
use Rattle.agreement_laws.specs.Ranks.{is_at_least}
use Rattle.agreement_laws.proofs.Describing.{held, instance_at}
use Rattle.agreement_laws.proofs.Done.{nothing_is_left}
use Rattle.agreement_laws.proofs.Lists.{some_same}
use Rattle.agreement_laws.proofs.Names.{as_new_on, at_any_age, same_instance}
use Rattle.agreement_laws.proofs.Remembering.{Remembers, Turns, life_order, remembers, step_taken}
use Rattle.agreement_laws.proofs.Remembering.{turn_of}
use Rattle.agreement_laws.proofs.Settling.{HasAny, Settling}
use Rattle.agreement_laws.proofs.Since.{Exchanged, SaidSince, settled}
use Rattle.agreement_laws.proofs.Walk as walk

-- ---- in a Database Description, or otherwise

module _ (ends : Ends) (side : Side) (with_it : Conversation) (header : Header) where
  abbrev number : ℕ
  number = interface_of side ends

  abbrev InDescription : (now : Pair) (earlier : List Pair) → IsHistory ends now earlier → Type 0
  InDescription now earlier h = InConversation ends side with_it
      (λ (own : ℕ) (step : Step). Describes own step.outs number header) now earlier h

  abbrev InPacket : (bytes : List ℕ) (now : Pair) (earlier : List Pair) → IsHistory ends now earlier
      → Type 0
  InPacket bytes now earlier h = InConversation ends side with_it
      (λ (own : ℕ) (step : Step). BringsInstance number bytes (identity_of_header header) step) now
      earlier
      h

  split : (now : Pair) (earlier : List Pair) (h : IsHistory ends now earlier)
      → InConversation ends side with_it (Exchanged number header) now earlier h
      → InDescription now earlier h ⊎ ((bytes : List ℕ) × InPacket bytes now earlier h)
  split now [] h k = absurd k
  split now (before ∷ earlier) h k = by_turn (λ more. split before earlier h.1 more) k.1
    where
      by_rest : InDescription before earlier h.1
          ⊎ ((bytes : List ℕ) × InPacket bytes before earlier h.1)
          → InDescription now (before ∷ earlier) h
          ⊎ ((bytes : List ℕ) × InPacket bytes now (before ∷ earlier) h)
      by_rest (inl described) = inl (k.0, inr described)
      by_rest (inr told) = inr (told.0, (k.0, inr told.1))

      by_turn : (InConversation ends side with_it (Exchanged number header) before earlier h.1
          → InDescription before earlier h.1
          ⊎ ((bytes : List ℕ) × InPacket bytes before earlier h.1))
          → ((step : Step) × (event_of ends side before now h.0 ≡ Some step)
          × Exchanged number header (party side before).router.id step)
          ⊎ InConversation ends side with_it (Exchanged number header) before
          earlier h.1 → InDescription now (before ∷ earlier) h
          ⊎ ((bytes : List ℕ) × InPacket bytes now (before ∷ earlier) h)
      by_turn rest (inl e) = by_kind e.2
        where
          by_kind : Exchanged number header (party side before).router.id e.0
              → InDescription now (before ∷ earlier) h
              ⊎ ((bytes : List ℕ) × InPacket bytes now (before ∷ earlier) h)
          by_kind (inl described) = inl (k.0, inl (e.0, e.1, described))
          by_kind (inr told) = inr (told.0, (k.0, inl (e.0, e.1, told.1)))
      by_turn rest (inr more) = by_rest (rest more)

-- ---- what was said

module _ (ends : Ends) (side : Side) (with_it : Conversation) (bytes : List ℕ)
    (name : InstanceIdentity)
  where
    in_step : (now : Pair) (earlier : List Pair) (h : IsHistory ends now earlier)
        → InConversation ends side with_it
        (λ (own : ℕ) (step : Step). BringsInstance (interface_of side ends) bytes name step) now
        earlier h → (step : Step) × BringsInstance (interface_of side ends) bytes name step
    in_step now [] h k = absurd k
    in_step now (before ∷ earlier) h k = by_turn (λ more. in_step before earlier h.1 more) k.1
      where
        by_turn : (InConversation ends side with_it
            (λ (own : ℕ) (step : Step). BringsInstance (interface_of side ends) bytes name step)
            before
            earlier h.1 → (step : Step) × BringsInstance (interface_of side ends) bytes name step)
            → ((step : Step) × (event_of ends side before now h.0 ≡ Some step)
            × BringsInstance (interface_of side ends) bytes name step)
            ⊎ InConversation ends side with_it
            (λ (own : ℕ) (step : Step). BringsInstance (interface_of side ends) bytes name
            step) before earlier h.1 → (step : Step)
            × BringsInstance (interface_of side ends) bytes name step
        by_turn rest (inl e) = (e.0, e.2)
        by_turn rest (inr more) = rest more

    -- ---- the other one sent it

    still_sent : (s : Side) (before now : Pair) (t : Turn ends before now)
        → Contains (party s before).sent bytes → Contains (party s now).sent bytes
    still_sent s before now t c = by_turn (turn_of ends s before now t)
      where
        by_turn : Turns ends s before now (event_of ends s before now t)
            → Contains (party s now).sent bytes
        by_turn (inl k) = subst (λ (xs : List (List ℕ)). Contains xs bytes) (sym k.0.sent)
            (Contains-append_left (party s before).sent
            (filter_map (text_at (interface_of s ends)) k.0.outs) bytes c)
        by_turn (inr (none, inl b)) = subst (λ (xs : List (List ℕ)). Contains xs bytes) (sym b.sent)
            c
        by_turn (inr (none, inr same)) = subst (λ (p : Party). Contains p.sent bytes) (sym same) c

    came : (before now : Pair) (t : Turn ends before now) (step : Step)
        → event_of ends side before now t ≡ Some step → step.event
        ≡ Occurrence.Packet (interface_of side ends) bytes
        → Contains (party (other_side side) before).sent bytes
    came before now t step is packet = by_turn (turn_of ends side before now t)
      where
        by_turn : Turns ends side before now (event_of ends side before now t)
            → Contains (party (other_side side) before).sent bytes
        by_turn (inl k) =
            let same : step_taken k.0 ≡ step = some_same (sym k.1 ∙ is) in
            k.0.not_forged bytes (ap (λ (s : Step). s.event) same ∙ packet)
        by_turn (inr (none, rest)) = let no : None ≡ Some step = sym none ∙ is in absurd cc

    was_sent : (now : Pair) (earlier : List Pair) (h : IsHistory ends now earlier)
        → InConversation ends side with_it
        (λ (own : ℕ) (step : Step). BringsInstance (interface_of side ends) bytes name step) now
        earlier h → Contains (party (other_side side) now).sent bytes
    was_sent now [] h k = absurd k
    was_sent now (before ∷ earlier) h k =
        still_sent (other_side side) before now h.0
        (by_turn (λ more. was_sent before earlier h.1 more) k.1)
      where
        by_turn : (InConversation ends side with_it
            (λ (own : ℕ) (step : Step). BringsInstance (interface_of side ends) bytes name step)
            before
            earlier h.1 → Contains (party (other_side side) before).sent bytes)
            → ((step : Step) × (event_of ends side before now h.0 ≡ Some step)
            × BringsInstance (interface_of side ends) bytes name step)
            ⊎ InConversation ends side with_it
            (λ (own : ℕ) (step : Step). BringsInstance (interface_of side ends) bytes name
            step) before earlier h.1
            → Contains (party (other_side side) before).sent bytes
        by_turn rest (inl e) = came before now h.0 e.0 e.1 e.2.is
        by_turn rest (inr more) = rest more

-- ---- if one holds an instance, the other does

module _ (ends : Ends) (now : Pair) (earlier : List Pair) (history : IsHistory ends now earlier)
    (side : Side) (key : Key) (at_rest : IsFullAndAcknowledged (interface_of side ends) key
    (party side now).router)
    (copy : DatabaseCopy) (there : finite.get (party side now).router.area.database key ≡ Some copy)
  where
    abbrev r : Router
    r = (party side now).router

    abbrev other : Router
    other = (party (other_side side) now).router

    abbrev name : InstanceIdentity
    name = identity_of_lsa copy.lsa

    abbrev n : Neighbor
    n = at_rest.neighbor

    abbrev Result : Type 0
    Result = HoldsAsNew other name ⊎ Exception ends side (conversation_with n) name now earlier
        history

    own : Remembers (interface_of side ends) (party side now)
        (λ (name : InstanceIdentity) (text : ℕ). HasForgotten ends side name text now earlier
        history)
    own = remembers ends side now earlier history

    its : Remembers (interface_of (other_side side) ends) (party (other_side side) now)
        (λ (name : InstanceIdentity) (text : ℕ). HasForgotten ends (other_side side) name text now
        earlier
        history)
    its = remembers ends (other_side side) now earlier history

    of_key : lsa_key copy.lsa ≡ key
    of_key = (life_order r own.life).retransmissions.keys key copy there

    settled_here : Settling key r.moment walk.Anybody (SaidSince ends side key now earlier history)
        (Some (copy_now r.moment copy)) n
    settled_here =
        subst (λ (x : Option DatabaseCopy). Settling key r.moment walk.Anybody
        (SaidSince ends side key now earlier history) (instance_at r.moment x) n) there
        (subst (λ (o : Option Neighbor). Holds
        (Settling key r.moment walk.Anybody (SaidSince ends side key now earlier history)
        (held r.moment key r.area.database)) o) at_rest.there
        (settled ends side key now earlier history))

    empty : n.summary ≡ finite.empty
    empty = nothing_is_left own.life.config own.life.steps r own.life.run (interface_of side ends) n
        at_rest.there (ap is_exchange_done at_rest.full)

    -- the other one sent it, and holds it unless it has lost it
    by_told : (header : Header) → key_of header ≡ key → is_as_new (identity_of_header header) name
        ≡ true → (bytes : List ℕ) → InPacket ends side (conversation_with n) header bytes now
        earlier
        history → Result
    by_told header is new bytes told =
        by_copy (finite.get other.area.database (lsa_key copy.lsa)) refl
      where
        forgotten : (HoldsAsNew other (identity_of_header header) → ⊥) → Result
        forgotten lacks =
            inr (Exception.Forgotten bytes (identity_of_header header) (is ∙ sym of_key) new told
            (was_sent ends side (conversation_with n) bytes (identity_of_header header) now earlier
            history told)
            (λ text at. by_memory text (its.told text bytes at
            (in_step ends side (conversation_with n) bytes (identity_of_header header) now earlier
            history told).1.packet
            (in_step ends side (conversation_with n) bytes (identity_of_header header) now earlier
            history told).1.text (identity_of_header header)
            (in_step ends side (conversation_with n) bytes (identity_of_header header) now earlier
            history told).1.told)))
          where
            by_memory : (text : ℕ) → HoldsAsNew other (identity_of_header header)
                ⊎ HasForgotten ends (other_side side) (identity_of_header header) text now earlier
                history → HasForgotten ends (other_side side) (identity_of_header header) text now
                earlier history
            by_memory text (inl has) = absurd (lacks has)
            by_memory text (inr old) = old

        same_key : (identity_of_header header).key ≡ lsa_key copy.lsa
        same_key = is ∙ sym of_key

        as_name : HoldsAsNew other (identity_of_header header) → HoldsAsNew other name
        as_name has = record {
          copy = has.copy;
          there = ap (λ (k : Key). finite.get other.area.database k) (sym same_key) ∙ has.there;
          as_new = as_new_on (identity_of_lsa has.copy.lsa) (identity_of_header header) name
              has.as_new new;
        }

        by_test : (d : DatabaseCopy) → finite.get other.area.database (lsa_key copy.lsa) ≡ Some d
            → (b : Bool) → is_as_new (identity_of_lsa d.lsa) name ≡ b → Result
        by_test d at true e = inl (record { copy = d; there = at; as_new = e })
        by_test d at false e =
            forgotten (λ has.
            let all : HoldsAsNew other name = as_name has in
            let one : Some d ≡ Some all.copy = sym at ∙ all.there in
            let no : true ≡ false = sym all.as_new
            ∙ ap (λ (o : Option DatabaseCopy). newness o) (sym one) ∙ e in absurd cc)
          where
            newness : Option DatabaseCopy → Bool
            newness None = false
            newness (Some c) = is_as_new (identity_of_lsa c.lsa) name

        by_copy : (o : Option DatabaseCopy) → finite.get other.area.database (lsa_key copy.lsa) ≡ o
            → Result
        by_copy None at =
            forgotten (λ has.
            let all : HoldsAsNew other name = as_name has in
            let no : None ≡ Some all.copy = sym at ∙ all.there in absurd cc)
        by_copy (Some d) at = by_test d at (is_as_new (identity_of_lsa d.lsa) name) refl

    by_exchange : (header : Header) → key_of header ≡ key
        → is_as_new (identity_of_header header) name
        ≡ true → InDescription ends side (conversation_with n) header now earlier history
        ⊎ ((bytes : List ℕ) × InPacket ends side (conversation_with n) header bytes now earlier
        history) → Result
    by_exchange header is new (inl described) =
        inr (Exception.Described header (is ∙ sym of_key) new described)
    by_exchange header is new (inr told) = by_told header is new told.0 told.1

    by_saying : (l : ListEntry) → SaidSince ends side key now earlier history (conversation_with n)
        l → is_at_least (listed_now r.moment l) (copy_now r.moment copy) ≡ true → Result
    by_saying l said new =
        by_exchange l.header said.0 (at_any_age (listed_now r.moment l) (copy_now r.moment copy)
        new)
        (split ends side (conversation_with n) l.header now earlier history said.1)

    by_place : HasAny key r.moment walk.Anybody (SaidSince ends side key now earlier history)
        (Some (copy_now r.moment copy)) n.retransmissions n.summary (conversation_with n) → Result
    by_place (inl listed) = let no : true ≡ false = sym listed ∙ at_rest.acknowledged in absurd cc
    by_place (inr (inl k)) =
        let none : finite.get n.summary key ≡ None =
        ap (λ (l : ByKey ListEntry). finite.get l key) empty
        ∙ finite.get-empty {X = ListEntry} key_cmp key in
        let no : None ≡ Some k.0 = sym none ∙ k.1 in absurd cc
    by_place (inr (inr k)) = by_saying k.0 k.1 k.2

    by_state : Settling key r.moment walk.Anybody (SaidSince ends side key now earlier history)
        (Some (copy_now r.moment copy)) n → Result
    by_state (inl before) = let no : true ≡ false = sym (ap is_exchange_or_later at_rest.full)
        ∙ before in absurd cc
    by_state (inr s) = by_place s.2

    pub result : Result
    result = by_state settled_here

-- ---- so both hold the same

module _ (ends : Ends) (now : Pair) (earlier : List Pair) (history : IsHistory ends now earlier)
    (key : Key) (left : IsFullAndAcknowledged ends.left key now.left.router)
    (right : IsFullAndAcknowledged ends.right key now.right.router)
    (a b : DatabaseCopy) (a_there : finite.get now.left.router.area.database key ≡ Some a)
    (b_there : finite.get now.right.router.area.database key ≡ Some b) where
  abbrev Same : Type 0
  Same =
      (identity_of_lsa a.lsa ≡ identity_of_lsa b.lsa)
      ⊎ (Exception ends Side.Left (conversation_with left.neighbor) (identity_of_lsa a.lsa) now
      earlier history ⊎ Exception ends Side.Right (conversation_with right.neighbor)
      (identity_of_lsa b.lsa) now earlier history)

  a_key : lsa_key a.lsa ≡ key
  a_key = (life_order now.left.router
      (remembers ends Side.Left now earlier history).life).retransmissions.keys key a a_there

  b_key : lsa_key b.lsa ≡ key
  b_key = (life_order now.right.router
      (remembers ends Side.Right now earlier history).life).retransmissions.keys key b b_there

  -- the copy that is at least as new is the present one
  its_copy : (r : Router) (x y : DatabaseCopy) → lsa_key x.lsa ≡ key
      → finite.get r.area.database key ≡ Some y → HoldsAsNew r (identity_of_lsa x.lsa)
      → is_as_new (identity_of_lsa y.lsa) (identity_of_lsa x.lsa) ≡ true
  its_copy r x y of_key at has =
      let one : Some y ≡ Some has.copy = sym at
      ∙ ap (λ (k : Key). finite.get r.area.database k) (sym of_key) ∙ has.there in
      ap newness one ∙ has.as_new
    where
      newness : Option DatabaseCopy → Bool
      newness None = false
      newness (Some c) = is_as_new (identity_of_lsa c.lsa) (identity_of_lsa x.lsa)

  pub both : Same
  both = by_left (result ends now earlier history Side.Left key left a a_there)
      (result ends now earlier history Side.Right key right b b_there)
    where
      by_left : HoldsAsNew now.right.router (identity_of_lsa a.lsa)
          ⊎ Exception ends Side.Left (conversation_with left.neighbor) (identity_of_lsa a.lsa) now
          earlier history → HoldsAsNew now.left.router (identity_of_lsa b.lsa)
          ⊎ Exception ends Side.Right (conversation_with right.neighbor)
          (identity_of_lsa b.lsa) now earlier history → Same
      by_left (inr e) back = inr (inl e)
      by_left (inl has) (inr e) = inr (inr e)
      by_left (inl has) (inl back) =
          inl (same_instance (identity_of_lsa a.lsa) (identity_of_lsa b.lsa) (a_key ∙ sym b_key)
          (its_copy now.left.router b a b_key a_there back)
          (its_copy now.right.router a b a_key b_there has))

pub neighbors_agree : NeighborsAgreeOnWhatWasRenewed
neighbors_agree = record { held = result; same = both }
