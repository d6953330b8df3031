-- A received packet, by the Router ID and the state of the neighbor at its interface.
use Rattle.std.proofs.Common.{◌≡◌, ℕ, Bool, true, false, cond, List, Result, refl, sym, ap, ◌∙◌}
use Rattle.std.specs.Prelude.{◌&&◌, ◌||◌, Option, None, Some}
use mathlib.Core.Bool.{false≢true}
use Rattle.words.specs.declared.key.Key.{Key}
use Rattle.lsdb.specs.Headers.{Header}
use Rattle.packet.specs.declared.model.PacketBody.{PacketBody}
use Rattle.packet.specs.declared.model.PacketBody.TheVariants as body
use Rattle.packet.specs.declared.model.Description.{Description}
use Rattle.packet.specs.declared.model.Hello.{Hello}
use Rattle.packet.specs.declared.model.Packet.{Packet}
use Rattle.adjacency.specs.Neighbors.{Neighbor}
use Rattle.adjacency.specs.Steps.{named_neighbor}
use Rattle.received.specs.Links.{neighbor_at}
use Rattle.event_rules.specs.EventState.{EventState, on_area}
use Rattle.event_rules.specs.Packets.{after_lsas, after_packet, receive_acknowledgment}
use Rattle.event_rules.specs.Packets.{receive_hello}
use Rattle.event_rules.specs.Packets.{neighbor_is_exchange_or_later, after_heard, is_from}
use Rattle.event_rules.specs.Packets.{is_heard}
use Rattle.event_rules.specs.Packets.{receive_description}
use Rattle.event_rules.specs.Packets.{receive_request}
use Rattle.event_rules.specs.Routers.{Router}
use Rattle.router.specs.Kept.{KeptRouter}
use Rattle.router.specs.Making.{Makes, RouterDoes}
use Rattle.router.proofs.Making.{does_if_true, does_same, makes_nothing, makes_same}
use Rattle.router.specs.Received.{is_accepted_before_exchange, is_exchange_or_later_named}
use Rattle.router.specs.Received.{is_from_named}
use Rattle.router.specs.Received.{is_processed}

pub exchange_named : (o : Option Neighbor)
    → is_exchange_or_later_named (named_neighbor o) ≡ neighbor_is_exchange_or_later o
exchange_named None = refl
exchange_named (Some n) = refl

pub from_named : (from : ℕ) (o : Option Neighbor)
    → is_from_named from (named_neighbor o) ≡ is_from from o
from_named from None = refl
from_named from (Some n) = refl

-- ---- which packets are processed

-- what isn't processed changes nothing
unprocessed : (heard in_exchange : Bool) (moment number from : ℕ) (b : PacketBody) (p : EventState)
    → (heard && (in_exchange || is_accepted_before_exchange b)) ≡ false
    → p ≡ cond heard (after_heard moment number from in_exchange b p) p
unprocessed false in_exchange moment number from b p is = refl
unprocessed true true moment number from b p is = absurd (false≢true (sym is))
unprocessed true false moment number from (body.Hello h) p is = absurd (false≢true (sym is))
unprocessed true false moment number from (body.Description d) p is = absurd (false≢true (sym is))
unprocessed true false moment number from (body.Request keys) p is = refl
unprocessed true false moment number from (body.Update lsas) p is = refl
unprocessed true false moment number from (body.Acknowledgment headers) p is = refl

first_holds : (a b : Bool) → (a && b) ≡ true → a ≡ true
first_holds true b is = refl
first_holds false b is = is

-- what is processed, though it waits for Exchange, came in Exchange or later
waited : (heard in_exchange early : Bool) → early ≡ false
    → (heard && (in_exchange || early)) ≡ true → in_exchange ≡ true
waited true true early waits is = refl
waited true false early waits is = sym waits ∙ is
waited false true early waits is = refl
waited false false early waits is = is

module _ (moment number : ℕ) (packet : Packet) where
  abbrev pub is_heard_at : Router → Bool
  is_heard_at r = is_heard r.id packet (neighbor_at number r.area.links)

  abbrev pub exchanges_at : Router → Bool
  exchanges_at r = neighbor_is_exchange_or_later (neighbor_at number r.area.links)

  abbrev pub is_processed_at : Router → Bool
  is_processed_at r = is_processed r.id packet (neighbor_at number r.area.links)

  abbrev pub heard : EventState → EventState
  heard p = after_heard moment number packet.router (exchanges_at p.router) packet.body p

  abbrev pub discarded : EventState → EventState
  discarded p = p

  pub is_discarded : (r : KeptRouter) → is_processed_at r.present ≡ false
      → Makes (after_packet moment number packet) r r
  is_discarded r fails =
      makes_same
      (λ p here. unprocessed (is_heard_at p.router) (exchanges_at p.router) moment number
      packet.router packet.body p (ap is_processed_at here ∙ fails))
      (makes_nothing r)

  is_taken : {X E : Type 0} {old new : KeptRouter} (r : Result X E) (b : Bool)
      → is_processed_at old.present ≡ true → exchanges_at old.present ≡ b
      → RouterDoes (after_heard moment number packet.router b packet.body) old new r
      → RouterDoes (after_packet moment number packet) old new r
  is_taken {old = old} r b holds exchanges a =
      does_if_true heard discarded r is_heard_at
      (first_holds (is_heard_at old.present)
      (exchanges_at old.present || is_accepted_before_exchange packet.body) holds)
      (does_same r
      (λ p here. ap (λ c. after_heard moment number packet.router c packet.body p)
      (sym (ap exchanges_at here ∙ exchanges)))
      a)

  pub came_in_exchange : (r : Router) → is_processed_at r ≡ true
      → is_accepted_before_exchange packet.body ≡ false → exchanges_at r ≡ true
  came_in_exchange r holds waits =
      waited (is_heard_at r) (exchanges_at r) (is_accepted_before_exchange packet.body) waits holds

  -- ---- by the types of packets

  pub greets : {X E : Type 0} {old new : KeptRouter} (r : Result X E) (h : Hello)
      → is_processed_at old.present ≡ true → packet.body ≡ body.Hello h
      → RouterDoes (on_area (receive_hello old.present.id moment number packet.router h)) old new r
      → RouterDoes (after_packet moment number packet) old new r
  greets {old = old} r h holds is a =
      is_taken r (exchanges_at old.present) holds refl
      (does_same r
      (λ p here.
      ap (λ (own : ℕ). on_area (receive_hello own moment number packet.router h) p)
      (sym (ap (λ (r : Router). r.id) here))
      ∙ ap (λ (k : PacketBody). after_heard moment number packet.router
      (exchanges_at old.present) k p) (sym is))
      a)

  pub describes : {X E : Type 0} {old new : KeptRouter} (r : Result X E) (d : Description)
      → is_processed_at old.present ≡ true → packet.body ≡ body.Description d
      → RouterDoes (on_area (receive_description old.present.id moment number d)) old new r
      → RouterDoes (after_packet moment number packet) old new r
  describes {old = old} r d holds is a =
      is_taken r (exchanges_at old.present) holds refl
      (does_same r
      (λ p here.
      ap (λ (own : ℕ). on_area (receive_description own moment number d) p)
      (sym (ap (λ (r : Router). r.id) here))
      ∙ ap (λ (k : PacketBody). after_heard moment number packet.router
      (exchanges_at old.present) k p) (sym is))
      a)

  pub requests : {X E : Type 0} {old new : KeptRouter} (r : Result X E)
      (keys read : List Key)
      → is_processed_at old.present ≡ true → packet.body ≡ body.Request keys → read ≡ keys
      → RouterDoes (on_area (receive_request moment number read)) old new r
      → RouterDoes (after_packet moment number packet) old new r
  requests {old = old} r keys read holds is same a =
      is_taken r true holds (came_in_exchange old.present holds (ap is_accepted_before_exchange is))
      (does_same r
      (λ p _.
      ap (λ (ks : List Key). on_area (receive_request moment number ks) p) same
      ∙ ap (λ (k : PacketBody). after_heard moment number packet.router true k p) (sym is))
      a)

  pub updates : {X E : Type 0} {old new : KeptRouter} (r : Result X E)
      (lsas read : List (List ℕ))
      → is_processed_at old.present ≡ true → packet.body ≡ body.Update lsas → read ≡ lsas
      → RouterDoes (after_lsas moment number read) old new r
      → RouterDoes (after_packet moment number packet) old new r
  updates {old = old} r lsas read holds is same a =
      is_taken r true holds (came_in_exchange old.present holds (ap is_accepted_before_exchange is))
      (does_same r
      (λ p _.
      ap (λ (ls : List (List ℕ)). after_lsas moment number ls p) same
      ∙ ap (λ (k : PacketBody). after_heard moment number packet.router true k p) (sym is))
      a)

  pub acknowledges : {X E : Type 0} {old new : KeptRouter} (r : Result X E)
      (headers read : List Header) → is_processed_at old.present ≡ true
      → packet.body ≡ body.Acknowledgment headers → read ≡ headers
      → RouterDoes (on_area (receive_acknowledgment moment number read)) old new r
      → RouterDoes (after_packet moment number packet) old new r
  acknowledges {old = old} r headers read holds is same a =
      is_taken r true holds (came_in_exchange old.present holds (ap is_accepted_before_exchange is))
      (does_same r
      (λ p _.
      ap (λ (hs : List Header). on_area (receive_acknowledgment moment number hs) p) same
      ∙ ap (λ (k : PacketBody). after_heard moment number packet.router true k p) (sym is))
      a)
