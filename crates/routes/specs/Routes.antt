-- The best offers for each prefix, as one route (RFC 2328, sections 11, 16.1 and 16.4), whatever
-- the offers.
use Rattle.std.specs.Prelude.{◌≡◌, ℕ, suc, ◌<◌, ◌≤◌, ◌↔◌, IsTrue, List}
use Rattle.std.specs.List.{AllPairs, Contains}
use Rattle.words.specs.Interfaces.{has_interface}
pub use Rattle.words.specs.Orders.{rank}
use Rattle.words.specs.Prefixes.{IsUnder, Network}
use Rattle.words.specs.declared.route.Route.{Route}
use Rattle.routes.specs.Paths.{Way}
use Rattle.routes.specs.declared.offer.Offer.{Offer}

-- ---- the best offers

-- by kind, then cost, then distance: a is at least as good as b
pub data IsNoWorse (a b : Offer) : Type 0 where
  ByKind : suc (rank a.kind) ≤ rank b.kind → IsNoWorse a b
  ByCost : rank a.kind ≡ rank b.kind → suc a.cost ≤ b.cost → IsNoWorse a b
  ByDistance : rank a.kind ≡ rank b.kind → a.cost ≡ b.cost → a.distance ≤ b.distance → IsNoWorse a b

-- an offer for the prefix that no other one for it beats
pub record IsBestAmong (IsOffered : Offer → Type 0) (prefix : Network) (o : Offer) : Type 0 where
  pub offered : IsOffered o
  pub is_for : o.prefix ≡ prefix
  pub best : (other : Offer) → IsOffered other → other.prefix ≡ prefix → IsNoWorse o other

-- the lesser originator, then the lesser tag
pub data IsNoLater (a b : Offer) : Type 0 where
  ByOriginator : a.originator < b.originator → IsNoLater a b
  ByTag : a.originator ≡ b.originator → a.tag ≤ b.tag → IsNoLater a b

-- ---- routes

-- The route of a prefix: as good as its best offers, with the next hops of all of these, and the
-- least tag of their least originator.
pub record IsRouteAmong (IsOffered : Offer → Type 0) (r : Route) : Type 0 where
  pub first : Offer
  pub is_best : IsBestAmong IsOffered r.prefix first
  pub earliest : (other : Offer) → IsBestAmong IsOffered r.prefix other → IsNoLater first other
  pub kind : r.kind ≡ first.kind
  pub cost : r.cost ≡ first.cost
  pub distance : r.distance ≡ first.distance
  pub tag : r.tag ≡ first.tag
  pub hops : (interface : ℕ) → IsTrue (has_interface r.hops interface)
      ↔ ((o : Offer) × IsBestAmong IsOffered r.prefix o × IsTrue (has_interface o.hops interface))

-- by the prefix's address, then its length
pub data IsBefore (a b : Network) : Type 0 where
  ByAddress : a.address < b.address → IsBefore a b
  ByLength : a.address ≡ b.address → a.length < b.length → IsBefore a b

-- exactly the routes of what is offered, in the order of their prefixes
pub record AreRoutesAmong (IsOffered : Offer → Type 0) (routes : List Route) : Type 0 where
  pub each : (r : Route) → Contains routes r ↔ IsRouteAmong IsOffered r
  pub ascending : AllPairs (λ (a : Route) (b : Route). IsBefore a.prefix b.prefix) routes

-- the way to an address: that of the route with the longest prefix that contains it
pub record IsForwarded (IsOffered : Offer → Type 0) (address : ℕ) (way : Way) : Type 0 where
  pub by : Route
  pub is_route : IsRouteAmong IsOffered by
  pub under : IsUnder address by.prefix
  pub longest : (other : Route) → IsRouteAmong IsOffered other → IsUnder address other.prefix
      → other.prefix.length ≤ by.prefix.length
  pub is : way ≡ record { distance = by.cost; hops = by.hops }
