-- In every history of two neighbors the Descriptions that were sent in a conversation are right by
-- the neighbor's role: the slave's are answers, and the master's are answered.
use Rattle.std.proofs.Common.{◌≡◌, ℕ, Bool, true, false, cond, ◌⊎◌, inl, inr, List, [], ◌∷◌}
use Rattle.std.proofs.Common.{Option, None, Some, refl, sym, subst, ◌∙◌}
use Rattle.packet.specs.declared.model.Description.{Description}
use Rattle.adjacency.specs.Neighbors.{Neighbor, is_exchange_or_later}
use Rattle.received.specs.Holds.{Holds}
use Rattle.received.specs.Links.{neighbor_at}
use Rattle.received.specs.AreaStates.{Send}
use Rattle.event_rules.specs.declared.model.Config.{Config}
use Rattle.event_rules.specs.Endings.{end_event}
use Rattle.event_rules.specs.EventState.{EventState}
use Rattle.event_rules.specs.Events.{Step, initial}
use Rattle.event_rules.specs.Hellos.{is_foreign}
use Rattle.event_rules.specs.Routers.{Router}
use Rattle.event_rules.proofs.Walk.{outcome}
use Rattle.invariants.specs.InOrder.{IsConsistent}
use Rattle.invariants.proofs.Acknowledged.{routers_stay_in_order}
use Rattle.invariants.proofs.Known.{router_stays}
use Rattle.invariants.proofs.Lists.{of_empty}
use Rattle.agreement_laws.specs.Exchanged.{Conversation, Converses, conversation_with}
use Rattle.agreement_laws.specs.HeldWasExchanged.{is_exchange_done}
use Rattle.agreement_laws.specs.NeighborHistories.{BeginsAnew, Doing, Ends, HasBegun, IsHistory}
use Rattle.agreement_laws.specs.NeighborHistories.{OfTurn, Pair, Party, Side, TakesEvent, Turn}
use Rattle.agreement_laws.specs.NeighborHistories.{event_of, event_taken, interface_of}
use Rattle.agreement_laws.specs.NeighborHistories.{is_same_side, other_side, party}
use Rattle.agreement_laws.specs.SaidIsHeld.{Describes}
use Rattle.agreement_laws.specs.Accepted.{AcceptsDescription}
use Rattle.agreement_laws.specs.Answers.{DescriptionsAreAnswered, HasRole, InConversationSince}
use Rattle.agreement_laws.specs.Answers.{IsAccepted, IsAnswered, IsOf, IsOpening, sends_of}
use Rattle.agreement_laws.specs.Answers.{sends_taken}
use Rattle.agreement_laws.proofs.AnswerParts.{IsNew, Said, Stands, at_place}
use Rattle.agreement_laws.proofs.Runs.{begins_alone}
use Rattle.agreement_laws.proofs.AnswerSteps.{Answered, IsRight, Right, Sound}
use Rattle.agreement_laws.proofs.AnswerWalk.{at_end}
use Rattle.agreement_laws.proofs.Conversing.{its_conversation, its_state}
use Rattle.agreement_laws.proofs.Done.{exchange_then}
use Rattle.agreement_laws.proofs.Remembering.{step_taken}

-- ---- what is right stays right

-- with more that is accepted
more_right : (own : ℕ) (A B : Description → Type 0) (P Q : Conversation → Type 0)
    → ((d : Description) → A d → B d) → (role done : Bool) (sequence : ℕ) (d : Description)
    → Right own A P role done sequence d → Right own B Q role done sequence d
more_right own A B P Q so true done sequence d (r, inl a) =
    (r, inl (a.0, so a.0 a.1, a.2, a.3))
more_right own A B P Q so true done sequence d (r, inr e) = (r, inr e)
more_right own A B P Q so false done sequence d (inl o) = inl o
more_right own A B P Q so false done sequence d (inr a) = inr (a.0, so a.0 a.1, a.2, a.3)

abbrev Nothing : Conversation → Type 0
Nothing w = ⊥

-- ---- one event

-- what was accepted and sent in each conversation
abbrev Of : Type 1
Of = Conversation → Description → Type 0

-- the neighbor at the interface, by what was accepted and sent in its conversation
abbrev Stored : ℕ → Of → Of → Router → Type 0
Stored number Accepts Sends r =
    Holds (λ (n : Neighbor). Sound r.id (Accepts (conversation_with n)) Nothing
    (Sends (conversation_with n)) n) (neighbor_at number r.area.links)

module _ (number : ℕ) (heard : List (List ℕ)) (p q : Party) (t : TakesEvent number heard p q)
    (order : IsConsistent p.router) (AccB SentB AccN SentN : Of) where
  abbrev ended : EventState
  ended = end_event p.router t.moment t.happens.after

  abbrev Began : Conversation → Type 0
  Began w = Converses number w p.router

  abbrev Takes : Description → Type 0
  Takes d = (n : Neighbor) × AcceptsDescription p.router t.moment t.event number n d

  abbrev Acc : Description → Type 0
  Acc d = ((w : Conversation) × Began w × AccB w d) ⊎ Takes d

  abbrev Was : Description → Type 0
  Was d = (w : Conversation) × Began w × SentB w d

  -- ---- before it

  was_there : (o : Option Neighbor) → neighbor_at number p.router.area.links ≡ o
      → Holds (λ (n : Neighbor). Sound p.router.id (AccB (conversation_with n)) Nothing
      (SentB (conversation_with n)) n) o
      → Holds (Sound p.router.id Acc Began (Said p.router.id Acc Began Was number t.moment [])) o
  was_there None at h = tt
  was_there (Some n) at (f, inl e) = (f, inl e)
  was_there (Some n) at (f, inr g) = (
    f,
    inr (
      g.0,
      g.1,
      λ w c. its_conversation number w p.router n at c,
      λ d k. more d (g.3 d k),
      by_said,
      λ d k. more d (g.5 d k),
    ),
  )
    where
      exchanging : is_exchange_or_later n.state ≡ true
      exchanging = g.0

      here : Began (conversation_with n)
      here = record { neighbor = n; there = at; exchanging = exchanging; is = refl }

      more : (d : Description)
          → IsRight p.router.id (AccB (conversation_with n)) Nothing n d
          → IsRight p.router.id Acc Began n d
      more d k =
          more_right p.router.id (AccB (conversation_with n)) Acc Nothing Began
          (λ e a. inl (conversation_with n, here, a)) n.is_master (is_exchange_done n.state)
          n.sequence d k

      by_said : (d : Description) → Said p.router.id Acc Began Was number t.moment [] d
          → IsRight p.router.id Acc Began n d
      by_said d (inl k) =
          more d (g.4 d
          (subst (λ (w : Conversation). SentB w d) (sym (its_conversation number k.0 p.router n at
          k.1)) k.2))
      by_said d (inr c) = absurd (of_empty (at_place number _) c)

  is_new : (o : Option Neighbor) → neighbor_at number p.router.area.links ≡ o
      → Holds (IsNew p.router.id Acc Began Was number t.moment) o
  is_new None at = tt
  is_new (Some n) at = λ early. (λ w c. not_yet early c, λ d k. not_yet early k.1)
    where
      not_yet : {w : Conversation} → is_exchange_or_later n.state ≡ false → Began w → ⊥
      not_yet {w} early c =
          let no : true ≡ false = sym (its_state number w p.router n at c) ∙ early in absurd cc

  -- ---- after it

  stands : Stored number AccB SentB p.router
      → Stands p.router.id Acc Began Was number t.moment (outcome ended)
  stands was =
      at_end p.router t.moment t.event number Acc Began Was (λ n d a. inr (n, a)) t.outs q.router
      t.happens order
      (record {
        stands = was_there (neighbor_at number p.router.area.links) refl was;
        none = λ d c. of_empty (at_place number _) c;
        new = is_new (neighbor_at number p.router.area.links) refl;
      })

  -- if what was accepted in the event counts from now on, and what is sent was sent before or in
  -- the event
  module _ (takes : (w : Conversation) (d : Description) → Converses number w q.router → Takes d
      → AccN w d)
      (still : (w : Conversation) (d : Description) → Converses number w q.router → AccB w d
      → AccN w d)
      (back : (w : Conversation) (d : Description) → SentN w d
      → (Began w × SentB w d) ⊎ Describes ended.sends number d) where
    its_now : (m : Neighbor) → neighbor_at number q.router.area.links ≡ Some m
        → Sound p.router.id Acc Began (Said p.router.id Acc Began Was number t.moment ended.sends) m
        → Sound p.router.id (AccN (conversation_with m)) Nothing (SentN (conversation_with m)) m
    its_now m at (f, inl e) = (f, inl e)
    its_now m at (f, inr g) = (
      f,
      inr (
        g.0,
        g.1,
        λ w none. absurd none,
        λ d k. more d (g.3 d k),
        by_said,
        λ d k. more d (g.5 d k),
      ),
    )
      where
        exchanging : is_exchange_or_later m.state ≡ true
        exchanging = g.0

        here : Converses number (conversation_with m) q.router
        here = record { neighbor = m; there = at; exchanging = exchanging; is = refl }

        accepted : (d : Description) → Acc d → AccN (conversation_with m) d
        accepted d (inl k) =
            still (conversation_with m) d here
            (subst (λ (w : Conversation). AccB w d) (sym (g.2 k.0 k.1)) k.2)
        accepted d (inr a) = takes (conversation_with m) d here a

        more : (d : Description) → IsRight p.router.id Acc Began m d
            → IsRight p.router.id (AccN (conversation_with m)) Nothing m d
        more d k =
            more_right p.router.id Acc (AccN (conversation_with m)) Began Nothing accepted
            m.is_master (is_exchange_done m.state) m.sequence d k

        by_place : (d : Description)
            → (Began (conversation_with m) × SentB (conversation_with m) d)
            ⊎ Describes ended.sends number d
            → Said p.router.id Acc Began Was number t.moment ended.sends d
        by_place d (inl k) = inl (conversation_with m, k.0, k.1)
        by_place d (inr c) = inr c

        by_said : (d : Description) → SentN (conversation_with m) d
            → IsRight p.router.id (AccN (conversation_with m)) Nothing m d
        by_said d k = more d (g.4 d (by_place d (back (conversation_with m) d k)))

    now_there : (o : Option Neighbor) → neighbor_at number q.router.area.links ≡ o
        → Holds (Sound p.router.id Acc Began
        (Said p.router.id Acc Began Was number t.moment ended.sends)) o
        → Holds (λ (m : Neighbor). Sound p.router.id (AccN (conversation_with m)) Nothing
        (SentN (conversation_with m)) m) o
    now_there None at h = tt
    now_there (Some m) at h = its_now m at h

    pub stored_on : Stored number AccB SentB p.router → Stored number AccN SentN q.router
    stored_on was =
        subst (λ (i : ℕ). Holds (λ (m : Neighbor). Sound i (AccN (conversation_with m)) Nothing
        (SentN (conversation_with m)) m) (neighbor_at number q.router.area.links))
        (sym (router_stays p.router t.moment t.event t.outs q.router t.happens order.own))
        (now_there (neighbor_at number q.router.area.links) refl
        (subst (λ (r : Router). Holds (Sound p.router.id Acc Began
        (Said p.router.id Acc Began Was number t.moment ended.sends))
        (neighbor_at number r.area.links)) (sym t.happens.router) (stands was)))

-- nobody is there
alone : (number : ℕ) (Accepts Sends : Of) (c : Config) (r : Router) → r ≡ initial c
    → Stored number Accepts Sends r
alone number Accepts Sends c r is =
    subst (Stored number Accepts Sends) (sym is)
    (by_neighbor (neighbor_at number (initial c).area.links) (begins_alone c number).0)
  where
    by_neighbor : (o : Option Neighbor) → o ≡ None
        → Holds (λ (n : Neighbor). Sound (initial c).id (Accepts (conversation_with n)) Nothing
        (Sends (conversation_with n)) n) o
    by_neighbor None e = tt
    by_neighbor (Some n) e = absurd cc

-- ---- turns

abbrev pub Turns : (ends : Ends) → Side → Pair → Pair → Option Step → List Send → Type 0
Turns ends side before now event sends =
    ((t : TakesEvent (interface_of side ends) (party (other_side side) before).sent
    (party side before) (party side now)) × (event ≡ Some (step_taken t))
    × (sends ≡ (end_event (party side before).router t.moment t.happens.after).sends))
    ⊎ ((event ≡ None) × (sends ≡ []) × (BeginsAnew (party side before) (party side now)
    ⊎ (party side now ≡ party side before)))

-- what a turn is to either side
pub turn_of : (ends : Ends) (side : Side) (before now : Pair) (t : Turn ends before now)
    → Turns ends side before now (event_of ends side before now t) (sends_of ends side before now t)
turn_of ends side before now t = by_side t.side side t.does t.other
  where
    by_side : (its side : Side)
        → (does : Doing (interface_of its ends) (party (other_side its) before).sent
        (party its before) (party its now))
        → party (other_side its) now ≡ party (other_side its) before
        → Turns ends side before now (cond (is_same_side its side) (event_taken does) None)
        (cond (is_same_side its side) (sends_taken (interface_of its ends)
        (party (other_side its) before).sent (party its before) (party its now) does) [])
    by_side Side.Left Side.Left (Doing.Event t) same = inl (t, refl, refl)
    by_side Side.Left Side.Left (Doing.Start b) same = inr (refl, refl, inl b)
    by_side Side.Left Side.Right does same = inr (refl, refl, inr same)
    by_side Side.Right Side.Left does same = inr (refl, refl, inr same)
    by_side Side.Right Side.Right (Doing.Event t) same = inl (t, refl, refl)
    by_side Side.Right Side.Right (Doing.Start b) same = inr (refl, refl, inl b)

-- ---- histories

abbrev SendsIt : (ends : Ends) (side : Side) → Description → OfTurn ends
SendsIt ends side d before after t =
    Describes (sends_of ends side before after t) (interface_of side ends) d

abbrev Sent : (ends : Ends) → Side → (now : Pair) (earlier : List Pair)
    → IsHistory ends now earlier → Of
Sent ends side now earlier h w d =
    InConversationSince ends side w (SendsIt ends side d) now earlier h

abbrev Taken : (ends : Ends) → Side → (now : Pair) (earlier : List Pair)
    → IsHistory ends now earlier → Of
Taken ends side now earlier h w d = IsAccepted ends side w d now earlier h

-- what was so in a conversation was so while it stood
stood : (ends : Ends) (side : Side) (w : Conversation) (Such : OfTurn ends) (now : Pair)
    (earlier : List Pair) (h : IsHistory ends now earlier)
    → InConversationSince ends side w Such now earlier h
    → Converses (interface_of side ends) w (party side now).router
stood ends side w Such now [] h k = absurd k
stood ends side w Such now (before ∷ earlier) h k = k.0

pub record IsKept (ends : Ends) (side : Side) (now : Pair) (earlier : List Pair)
    (h : IsHistory ends now earlier) : Type 0 where
  pub order : IsConsistent (party side now).router
  pub stored : Stored (interface_of side ends) (Taken ends side now earlier h)
      (Sent ends side now earlier h) (party side now).router

begun : (ends : Ends) (side : Side) (now : Pair) (h : IsHistory ends now [])
    → HasBegun (party side now) → IsKept ends side now [] h
begun ends side now h b = record {
  order = subst IsConsistent (sym b.router) (routers_stay_in_order.first b.config);
  stored = alone (interface_of side ends) (Taken ends side now [] h) (Sent ends side now [] h)
      b.config (party side now).router b.router;
}

module _ (ends : Ends) (side : Side) (now before : Pair) (earlier : List Pair)
    (h : IsHistory ends now (before ∷ earlier)) (was : IsKept ends side before earlier h.1) where
  abbrev number : ℕ
  number = interface_of side ends

  -- an event of this side
  by_event : (t : TakesEvent number (party (other_side side) before).sent (party side before)
      (party side now)) → event_of ends side before now h.0 ≡ Some (step_taken t)
      → sends_of ends side before now h.0
      ≡ (end_event (party side before).router t.moment t.happens.after).sends
      → IsKept ends side now (before ∷ earlier) h
  by_event t is says = record {
    order = routers_stay_in_order.event (party side before).router t.moment t.event t.outs
        (party side now).router t.happens was.order;
    stored = stored_on number (party (other_side side) before).sent (party side before)
        (party side now) t was.order (Taken ends side before earlier h.1)
        (Sent ends side before earlier h.1) (Taken ends side now (before ∷ earlier) h)
        (Sent ends side now (before ∷ earlier) h)
        (λ w d c a. (c, inl (step_taken t, is, a.0, a.1))) (λ w d c k. (c, inr k)) back was.stored;
  }
    where
      back : (w : Conversation) (d : Description) → Sent ends side now (before ∷ earlier) h w d
          → (Converses number w (party side before).router × Sent ends side before earlier h.1 w d)
          ⊎ Describes (end_event (party side before).router t.moment t.happens.after).sends number d
      back w d k = by_place k.1
        where
          by_place : SendsIt ends side d before now h.0 ⊎ Sent ends side before earlier h.1 w d
              → (Converses number w (party side before).router
              × Sent ends side before earlier h.1 w d)
              ⊎ Describes (end_event (party side before).router t.moment t.happens.after).sends
              number d
          by_place (inl c) = inr (subst (λ (s : List Send). Describes s number d) says c)
          by_place (inr j) =
              inl (stood ends side w (SendsIt ends side d) before earlier h.1 j, j)

  by_start : BeginsAnew (party side before) (party side now)
      → IsKept ends side now (before ∷ earlier) h
  by_start b = record {
    order = subst IsConsistent (sym b.router) (routers_stay_in_order.first b.config);
    stored = alone number (Taken ends side now (before ∷ earlier) h)
        (Sent ends side now (before ∷ earlier) h) b.config (party side now).router b.router;
  }

  -- a turn of the other side
  by_other : sends_of ends side before now h.0 ≡ [] → party side now ≡ party side before
      → IsKept ends side now (before ∷ earlier) h
  by_other silent same = record {
    order = subst (λ (x : Party). IsConsistent x.router) (sym same) was.order;
    stored = by_neighbor (neighbor_at number (party side now).router.area.links) refl
        (subst (λ (x : Party). Stored number (Taken ends side before earlier h.1)
        (Sent ends side before earlier h.1) x.router) (sym same) was.stored);
  }
    where
      sent_before : (w : Conversation) (d : Description)
          → Sent ends side now (before ∷ earlier) h w d → Sent ends side before earlier h.1 w d
      sent_before w d k = by_place k.1
        where
          by_place : SendsIt ends side d before now h.0 ⊎ Sent ends side before earlier h.1 w d
              → Sent ends side before earlier h.1 w d
          by_place (inl c) =
              absurd (of_empty (at_place number _)
              (subst (λ (s : List Send). Describes s number d) silent c))
          by_place (inr j) = j

      by_neighbor : (o : Option Neighbor)
          → neighbor_at number (party side now).router.area.links ≡ o
          → Holds (λ (n : Neighbor). Sound (party side now).router.id
          (Taken ends side before earlier h.1 (conversation_with n)) Nothing
          (Sent ends side before earlier h.1 (conversation_with n)) n) o
          → Holds (λ (n : Neighbor). Sound (party side now).router.id
          (Taken ends side now (before ∷ earlier) h (conversation_with n)) Nothing
          (Sent ends side now (before ∷ earlier) h (conversation_with n)) n) o
      by_neighbor None at k = tt
      by_neighbor (Some n) at (f, inl e) = (f, inl e)
      by_neighbor (Some n) at (f, inr g) = (
        f,
        inr (
          g.0,
          g.1,
          g.2,
          λ d k. more d (g.3 d k),
          λ d k. more d (g.4 d (sent_before (conversation_with n) d k)),
          λ d k. more d (g.5 d k),
        ),
      )
        where
          exchanging : is_exchange_or_later n.state ≡ true
          exchanging = g.0

          here : Converses number (conversation_with n) (party side now).router
          here = record { neighbor = n; there = at; exchanging = exchanging; is = refl }

          more : (d : Description)
              → IsRight (party side now).router.id
              (Taken ends side before earlier h.1 (conversation_with n)) Nothing n d
              → IsRight (party side now).router.id
              (Taken ends side now (before ∷ earlier) h (conversation_with n)) Nothing n d
          more d k =
              more_right (party side now).router.id
              (Taken ends side before earlier h.1 (conversation_with n))
              (Taken ends side now (before ∷ earlier) h (conversation_with n)) Nothing Nothing
              (λ e a. (here, inr a)) n.is_master (is_exchange_done n.state) n.sequence d k

  pub goes_on : IsKept ends side now (before ∷ earlier) h
  goes_on = by_turn (turn_of ends side before now h.0)
    where
      by_turn : Turns ends side before now (event_of ends side before now h.0)
          (sends_of ends side before now h.0) → IsKept ends side now (before ∷ earlier) h
      by_turn (inl k) = by_event k.0 k.1 k.2
      by_turn (inr (none, silent, inl b)) = by_start b
      by_turn (inr (none, silent, inr same)) = by_other silent same

pub kept : (ends : Ends) (side : Side) (now : Pair) (earlier : List Pair)
    (h : IsHistory ends now earlier) → IsKept ends side now earlier h
kept ends Side.Left now [] h = begun ends Side.Left now h h.0
kept ends Side.Right now [] h = begun ends Side.Right now h h.1
kept ends side now (before ∷ earlier) h =
    goes_on ends side now before earlier h (kept ends side before earlier h.1)

-- who is at the interface is another router
pub foreigners : (ends : Ends) (side : Side) (now : Pair) (earlier : List Pair)
    (h : IsHistory ends now earlier)
    → Holds (λ (n : Neighbor). is_foreign (party side now).router.id n.router ≡ true)
    (neighbor_at (interface_of side ends) (party side now).router.area.links)
foreigners ends side now earlier h =
    by_neighbor (neighbor_at (interface_of side ends) (party side now).router.area.links)
    (kept ends side now earlier h).stored
  where
    by_neighbor : (o : Option Neighbor)
        → Holds (λ (n : Neighbor). Sound (party side now).router.id
        (Taken ends side now earlier h (conversation_with n)) Nothing
        (Sent ends side now earlier h (conversation_with n)) n) o
        → Holds (λ (n : Neighbor). is_foreign (party side now).router.id n.router ≡ true) o
    by_neighbor None k = tt
    by_neighbor (Some n) k = k.0

-- ---- the law

module _ (ends : Ends) (side : Side) (now : Pair) (earlier : List Pair)
    (h : IsHistory ends now earlier) (n : Neighbor)
    (at : neighbor_at (interface_of side ends) (party side now).router.area.links ≡ Some n)
    (on : is_exchange_or_later n.state ≡ true) where
  abbrev own : ℕ
  own = (party side now).router.id

  abbrev Its : Description → Type 0
  Its = Taken ends side now earlier h (conversation_with n)

  abbrev Mine : Description → Type 0
  Mine = Sent ends side now earlier h (conversation_with n)

  -- the neighbor's role, and what is right of each Description of the conversation
  record GoingOn : Type 0 where
    role : HasRole n.is_master own n.router
    right : (d : Description) → IsOf ends side (conversation_with n) d now earlier h
        → IsRight own Its Nothing n d

  going : GoingOn
  going =
      by_state (subst (Holds (λ (m : Neighbor). Sound own
      (Taken ends side now earlier h (conversation_with m)) Nothing
      (Sent ends side now earlier h (conversation_with m)) m)) at
      (kept ends side now earlier h).stored)
    where
      by_state : Sound own Its Nothing Mine n → GoingOn
      by_state (f, inl e) = let no : true ≡ false = sym on ∙ e.0 in absurd cc
      by_state (f, inr g) = record { role = g.1; right = by_kind }
        where
          by_kind : (d : Description) → IsOf ends side (conversation_with n) d now earlier h
              → IsRight own Its Nothing n d
          by_kind d (IsOf.Opens number attempt is) = g.5 d (number, attempt, is)
          by_kind d (IsOf.Sent k) = g.4 d k

  in_words : (d : Description) → Answered own Its Nothing d
      → IsAnswered ends side (conversation_with n) d now earlier h
  in_words d a = record { answer = a.0; accepted = a.1; number = a.2; role = a.3 }

  slave_answers : n.is_master ≡ false → (d : Description)
      → IsOf ends side (conversation_with n) d now earlier h
      → IsOpening d ⊎ IsAnswered ends side (conversation_with n) d now earlier h
  slave_answers slave d k =
      by_role (subst (λ b. Right own Its Nothing b (is_exchange_done n.state) n.sequence d) slave
      (going.right d k))
    where
      by_role : Right own Its Nothing false (is_exchange_done n.state) n.sequence d
          → IsOpening d ⊎ IsAnswered ends side (conversation_with n) d now earlier h
      by_role (inl o) = inl o
      by_role (inr a) = inr (in_words d a)

  master_is_answered : is_exchange_done n.state ≡ true → n.is_master ≡ true → (d : Description)
      → IsOf ends side (conversation_with n) d now earlier h
      → (d.master ≡ true) × IsAnswered ends side (conversation_with n) d now earlier h
  master_is_answered done master d k =
      by_role (subst (λ b. Right own Its Nothing b (is_exchange_done n.state) n.sequence d) master
      (going.right d k))
    where
      by_role : Right own Its Nothing true (is_exchange_done n.state) n.sequence d
          → (d.master ≡ true) × IsAnswered ends side (conversation_with n) d now earlier h
      by_role (r, inl a) = (r, in_words d a)
      by_role (r, inr e) = let no : true ≡ false = sym done ∙ e.0 in absurd cc

pub answered : DescriptionsAreAnswered
answered = record {
  roles = λ ends side now earlier h n at on. (going ends side now earlier h n at on).role;
  slave = λ ends side now earlier h n at on slave d k.
      slave_answers ends side now earlier h n at on slave d k;
  master = λ ends side now earlier h n at done master d k.
      master_is_answered ends side now earlier h n at (exchange_then n.state done) done master d k;
}
