-- What a router holds was said to its neighbor, or by it, in their present conversation: in every
-- history of two neighbors.
use Rattle.std.proofs.Common.{◌≡◌, ℕ, true, ◌⊎◌, inl, inr, List, [], ◌∷◌, map, Option, None, Some}
use Rattle.std.proofs.Common.{refl, sym, subst}
use Rattle.std.specs.List.{Contains, filter_map}
use Rattle.words.specs.declared.key.Key.{Key}
use Rattle.lsa.specs.Reading.{lsa_in}
use Rattle.lsdb.specs.Headers.{Header, Lsa, key_of}
use Rattle.lsdb.specs.Instances.{ListEntry}
use Rattle.packet.specs.declared.model.PacketBody.{PacketBody}
use Rattle.packet.specs.declared.model.PacketBody.TheVariants as body
use Rattle.packet.specs.declared.model.Packet.{Packet}
use Rattle.packet.specs.Text.{PacketText}
use Rattle.adjacency.specs.Neighbors.{Neighbor, is_exchange_or_later}
use Rattle.received.specs.Holds.{Holds}
use Rattle.received.specs.Links.{neighbor_at}
use Rattle.event_rules.specs.declared.model.Config.{Config}
use Rattle.event_rules.specs.Events.{Step, initial}
use Rattle.event_rules.specs.InstanceIdentities.{identity_of_header, identity_of_lsa}
use Rattle.event_rules.specs.Routers.{Occurrence, Router}
use Rattle.invariants.specs.InOrder.{IsConsistent}
use Rattle.invariants.proofs.Lists.{later_is, of_cons, of_empty}
use Rattle.invariants.proofs.Taken.{named_first}
use Rattle.invariants.proofs.Worlds.{mapped}
use Rattle.agreement_laws.specs.Exchanged.{Conversation, Converses, Describes, IsExchanged}
use Rattle.agreement_laws.specs.Exchanged.{conversation_with, headers_told}
use Rattle.agreement_laws.specs.NeighborHistories.{Ends, IsHistory, Pair, Party, Side, TakesEvent}
use Rattle.agreement_laws.specs.NeighborHistories.{event_of, interface_of, other_side, party}
use Rattle.agreement_laws.specs.NeighborsAgree.{InConversation, BringsInstance, instances_told}
use Rattle.agreement_laws.proofs.Describing.{held}
use Rattle.agreement_laws.proofs.Remembering.{Turns, life_order, remembers, step_taken, turn_of}
use Rattle.agreement_laws.proofs.Runs.{IsSettled, Then, after_event, begins_alone, more_said}
use Rattle.agreement_laws.proofs.Settling.{Saying, Settling}
use Rattle.agreement_laws.proofs.Walk as walk

-- ---- what is exchanged in a turn

-- the router described it, or the other one's packet has it
abbrev pub Exchanged : ℕ → Header → ℕ → Step → Type 0
Exchanged number header own step = Describes own step.outs number header
    ⊎ ((bytes : List ℕ) × BringsInstance number bytes (identity_of_header header) step)

renamed : (lsas : List Lsa) (header : Header) → Contains (map (λ (l : Lsa). l.header) lsas) header
    → Contains (map identity_of_lsa lsas) (identity_of_header header)
renamed [] header c = absurd (of_empty header c)
renamed (l ∷ lsas) header c = by_place (λ k. renamed lsas header k)
    (of_cons l.header (map (λ (l : Lsa). l.header) lsas) header c)
  where
    by_place : (Contains (map (λ (l : Lsa). l.header) lsas) header
        → Contains (map identity_of_lsa lsas) (identity_of_header header)) → (l.header ≡ header)
        ⊎ Contains (map (λ (l : Lsa). l.header) lsas) header
        → Contains (map identity_of_lsa (l ∷ lsas)) (identity_of_header header)
    by_place rest (inl is) = subst (λ (h : Header). Contains (map identity_of_lsa (l ∷ lsas))
        (identity_of_header h)) is (named_first (identity_of_lsa l) (map identity_of_lsa lsas)
        (identity_of_lsa l) refl)
    by_place rest (inr k) = later_is (identity_of_lsa l) (map identity_of_lsa lsas)
        (identity_of_header header) (rest k)

module _ (number : ℕ) (own : ℕ) (step : Step) (header : Header) where
  module _ (bytes : List ℕ) (packet : Packet) (is : step.event ≡ Occurrence.Packet number bytes)
      (text : PacketText bytes packet) where
    told : (b : PacketBody) → packet.body ≡ b
        → Contains (instances_told b) (identity_of_header header) → Exchanged number header own step
    told b same c =
        inr (
          bytes,
          record {
            is = is;
            packet = packet;
            text = text;
            told = subst (λ (x : PacketBody). Contains (instances_told x)
                (identity_of_header header)) (sym same) c;
          },
        )

    heard : (b : PacketBody) → packet.body ≡ b → Contains (headers_told b) header
        → Exchanged number header own step
    heard (body.Hello h) same c = absurd (of_empty header c)
    heard (body.Description d) same c =
        told (body.Description d) same (mapped identity_of_header d.headers header c)
    heard (body.Request keys) same c = absurd (of_empty header c)
    heard (body.Update lsas) same c =
        told (body.Update lsas) same (renamed (filter_map lsa_in lsas) header c)
    heard (body.Acknowledgment headers) same c =
        told (body.Acknowledgment headers) same (mapped identity_of_header headers header c)

  in_turn : (router : ℕ) → IsExchanged own step number router header
      → Exchanged number header own step
  in_turn router (IsExchanged.Told t) = heard t.bytes t.packet t.is t.text t.packet.body refl t.told
  in_turn router (IsExchanged.Described d) = inl d

-- ---- a turn

module _ (key : Key) (number : ℕ) where
  -- said in a turn of the conversation
  abbrev SaidIn : (Conversation → Header → Type 0) → Saying
  SaidIn Earlier with_it l = (key_of l.header ≡ key) × Earlier with_it l.header

  -- in the event of the turn, or before
  abbrev Further : Option Step → Party → Party → (Conversation → Header → Type 0) → Conversation
      → Header → Type 0
  Further event p q Earlier with_it header =
      Converses number with_it q.router
      × (((step : Step) × (event ≡ Some step) × Exchanged number header p.router.id step)
      ⊎ Earlier with_it header)

  here : (r : Router) (m : Neighbor) → neighbor_at number r.area.links ≡ Some m
      → is_exchange_or_later m.state ≡ true → Converses number (conversation_with m) r
  here r m at on = record { neighbor = m; there = at; exchanging = on; is = refl }

  module _ (Earlier : Conversation → Header → Type 0) (event : Option Step) (p q : Party) where
    eventful : (heard : List (List ℕ)) (t : TakesEvent number heard p q) → event
        ≡ Some (step_taken t) → IsConsistent p.router → IsSettled key number (SaidIn Earlier)
        p.router
        → IsSettled key number (SaidIn (Further event p q Earlier)) q.router
    eventful heard t its order was =
        more_said key number q.router (Then key number (SaidIn Earlier) p.router (step_taken t))
        (SaidIn (Further event p q Earlier)) (λ m at on l k. further m at on l k)
        (after_event key number (SaidIn Earlier) p.router (step_taken t) q.router t.happens t.clock
        order was)
      where
        further : (m : Neighbor) → neighbor_at number q.router.area.links ≡ Some m
            → is_exchange_or_later m.state ≡ true → (l : ListEntry)
            → Then key number (SaidIn Earlier) p.router (step_taken t) (conversation_with m) l
            → SaidIn (Further event p q Earlier) (conversation_with m) l
        further m at on l (inl k) = (k.0.0, (here q.router m at on, inr k.0.1))
        further m at on l (inr k) = (
          k.0,
          (
            here q.router m at on,
            inl (
              step_taken t,
              its,
              in_turn number p.router.id (step_taken t) l.header m.router k.1,
            ),
          ),
        )

    same_router : q ≡ p → IsSettled key number (SaidIn Earlier) p.router
        → IsSettled key number (SaidIn (Further event p q Earlier)) q.router
    same_router same was =
        subst (λ (x : Party). IsSettled key number (SaidIn (Further event p x Earlier)) x.router)
        (sym same)
        (more_said key number p.router (SaidIn Earlier) (SaidIn (Further event p p Earlier))
        (λ m at on l k. (k.0, (here p.router m at on, inr k.1))) was)

  -- there is no neighbor
  alone : (Said : Saying) (c : Config) (r : Router) → r ≡ initial c → IsSettled key number Said r
  alone Said c r is = subst (λ (x : Router). IsSettled key number Said x) (sym is)
      (by_neighbor (neighbor_at number (initial c).area.links) (begins_alone c number).0)
    where
      by_neighbor : (o : Option Neighbor) → o ≡ None
          → Holds (Settling key (initial c).moment walk.Anybody Said
          (held (initial c).moment key (initial c).area.database)) o
      by_neighbor None e = tt
      by_neighbor (Some m) e = absurd cc

-- ---- histories

abbrev pub SaidSince : (ends : Ends) → Side → Key → (now : Pair) (earlier : List Pair)
    → IsHistory ends now earlier → Saying
SaidSince ends side key now earlier h with_it l = (key_of l.header ≡ key)
    × InConversation ends side with_it (Exchanged (interface_of side ends) l.header) now earlier h

pub settled : (ends : Ends) (side : Side) (key : Key) (now : Pair) (earlier : List Pair)
    (h : IsHistory ends now earlier) → IsSettled key (interface_of side ends)
    (SaidSince ends side key now earlier h) (party side now).router
settled ends Side.Left key now [] h =
    alone key ends.left (SaidSince ends Side.Left key now [] h) h.0.config now.left.router
    h.0.router
settled ends Side.Right key now [] h =
    alone key ends.right (SaidSince ends Side.Right key now [] h) h.1.config now.right.router
    h.1.router
settled ends side key now (before ∷ earlier) h =
    by_turn (turn_of ends side before now h.0) (settled ends side key before earlier h.1)
  where
    by_turn : Turns ends side before now (event_of ends side before now h.0)
        → IsSettled key (interface_of side ends) (SaidSince ends side key before earlier h.1)
        (party side before).router → IsSettled key (interface_of side ends)
        (SaidSince ends side key now (before ∷ earlier) h) (party side now).router
    by_turn (inl t) was =
        eventful key (interface_of side ends)
        (λ (with_it : Conversation) (header : Header). InConversation ends side with_it
        (Exchanged (interface_of side ends) header) before earlier h.1)
        (event_of ends side before now h.0) (party side before) (party side now)
        (party (other_side side) before).sent t.0 t.1
        (life_order (party side before).router (remembers ends side before earlier h.1).life) was
    by_turn (inr (none, inl b)) was =
        alone key (interface_of side ends) (SaidSince ends side key now (before ∷ earlier) h)
        b.config (party side now).router b.router
    by_turn (inr (none, inr same)) was =
        same_router key (interface_of side ends)
        (λ (with_it : Conversation) (header : Header). InConversation ends side with_it
        (Exchanged (interface_of side ends) header) before earlier h.1)
        (event_of ends side before now h.0) (party side before) (party side now) same was
