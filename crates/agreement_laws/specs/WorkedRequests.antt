-- Worked cases of what is requested, and of which Descriptions are accepted (RFC 2328, sections
-- 10.6 and 10.8).
use Rattle.std.specs.Prelude.{◌≡◌, ◌⊎◌, true, false, nat_lt, [], ◌∷◌, Some}
use Rattle.std.specs.FinMap as finite
use Rattle.words.specs.Numbers.{Moment, RouterNumber}
use Rattle.words.specs.declared.key.Key.{Key}
use Rattle.lsdb.specs.Copies.{Database}
use Rattle.lsdb.specs.Headers.{Header, key_of}
use Rattle.lsdb.specs.declared.order.Instance.{Instance}
use Rattle.packet.specs.declared.model.Description.{Description}
use Rattle.adjacency.specs.declared.state.NeighborState.TheVariants.{Full, Loading}
use Rattle.adjacency.specs.Descriptions.{is_more_recent, knows_types, with_requests}
use Rattle.adjacency.specs.Neighbors.{Neighbor}
use Rattle.event_rules.specs.Routers.{Router}
use Rattle.agreement_laws.specs.Accepted.{IsLastOfItsKey, accepts_description}
use Rattle.agreement_laws.specs.TakenIn.{WasTakenIn}

pub record WorkedRequests : Type 0 where
  -- two headers of one key, both newer than the copy: the later one is requested, even if the first
  -- one is the newer of the two
  pub later : (moment : Moment) (db : Database) (n : Neighbor) (h g : Header) → key_of g ≡ key_of h
      → is_more_recent moment db h ≡ true → is_more_recent moment db g ≡ true
      → finite.get (with_requests moment db (h ∷ g ∷ []) n).requests (key_of h)
      ≡ Some (record { header = g; at = moment })
  -- one that isn't wanted leaves the first one's request
  pub unwanted : (moment : Moment) (db : Database) (n : Neighbor) (h g : Header)
      → is_more_recent moment db h ≡ true → is_more_recent moment db g ≡ false
      → finite.get (with_requests moment db (h ∷ g ∷ []) n).requests (key_of h)
      ≡ Some (record { header = h; at = moment })
  pub last_of_two : (h g : Header) → IsLastOfItsKey (h ∷ g ∷ []) g
  -- a Description for larger packets isn't accepted, nor one with a header of an unknown type, nor
  -- any once the exchange is over
  pub too_large : (own : RouterNumber) (moment : Moment) (n : Neighbor) (d : Description)
      → nat_lt 8192 d.mtu ≡ true → accepts_description own moment n d ≡ false
  pub unknown_type : (own : RouterNumber) (moment : Moment) (n : Neighbor) (d : Description)
      → knows_types d ≡ false → accepts_description own moment n d ≡ false
  pub exchange_over : (own : RouterNumber) (moment : Moment) (n : Neighbor) (d : Description)
      → (n.state ≡ Loading) ⊎ (n.state ≡ Full) → accepts_description own moment n d ≡ false
  -- without an event nothing is taken in
  pub nothing : (key : Key) (instance : Instance) (old new : Router)
      → WasTakenIn key instance old [] new → ⊥
