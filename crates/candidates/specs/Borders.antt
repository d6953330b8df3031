-- Reachable routers with a flag, and what area border routers advertise (RFC 2328, sections 16.2
-- and 16.4).
use Rattle.std.specs.Prelude.{◌≡◌, ◌≢◌, ◌↔◌, ◌⊎◌, ℕ, ◌+◌, ◌<◌, ◌≤◌, Bool, false, true, List, Some}
use Rattle.std.specs.Prelude.{bit_and}
use Rattle.std.specs.Prelude.{slice_index_or}
use Rattle.std.specs.List.{AllPairs, Contains}
use Rattle.words.specs.Constants.{ls_infinity}
use Rattle.words.specs.Prefixes.{IsUnder, Network, network_address}
use Rattle.words.specs.declared.key.Key.{Key}
use Rattle.words.specs.declared.route.Route.{Route}
use Rattle.lsa.specs.declared.body.LsaBody.{LsaBody}
use Rattle.lsa.specs.declared.body.LsaBody.TheVariants as body
use Rattle.lsa.specs.declared.body.ExternalLsa.{ExternalLsa}
use Rattle.lsa.specs.declared.body.RouterLsa.{RouterLsa}
use Rattle.lsa.specs.declared.body.SummaryLsa.{SummaryLsa}
use Rattle.routes.specs.Links.{IsRouterLsa}
use Rattle.routes.specs.Routes.{IsBefore}
use Rattle.routes.specs.Contents.{Contents}
use Rattle.routes.specs.Summaries.{inter}
use Rattle.candidates.specs.Ways.{Ways}
use Rattle.candidates.specs.declared.flagged.Flagged.{Flagged}
use Rattle.routes.specs.declared.graph.Way.{Way}
use Rattle.routes.specs.declared.node.Node.TheVariants.{ARouter}
use Rattle.routes.specs.declared.offer.Offer.{Offer}
use Rattle.routes.specs.declared.root.Root.{Root}

-- the router's LSA has the flag, and this way leads to it
pub record IsFlagged (contents : Contents) (ways : Ways) (router flag : ℕ) (way : Way) : Type
    0 where
  pub lsa : RouterLsa
  pub its : IsRouterLsa contents router lsa
  pub has_flag : bit_and lsa.flags flag ≡ flag
  pub reached : ways (ARouter router) ≡ Some way

-- ---- area border routers and AS boundary routers as a list

-- the flags B and E of a router-LSA (section A.4.2)
abbrev pub IsBorderOrBoundaryFlag : ℕ → Type 0
IsBorderOrBoundaryFlag flag = (flag ≡ 1) ⊎ (flag ≡ 2)

-- the router is among them, with the flag and this way
pub record IsListed (routers : List Flagged) (router flag : ℕ) (way : Way) : Type 0 where
  pub listed : Flagged
  pub among : Contains routers listed
  pub its_router : listed.router ≡ router
  pub has_flag : bit_and listed.flags flag ≡ flag
  pub its_way : way ≡ listed.way

-- exactly the reachable routers with one of these flags, each with its flags and its way
abbrev pub AreFlagged : Contents → Ways → List Flagged → Type 0
AreFlagged contents ways routers =
    (router flag : ℕ) (way : Way) → IsBorderOrBoundaryFlag flag
    → IsFlagged contents ways router flag way ↔ IsListed routers router flag way

-- sorted by their Router IDs, each once
abbrev pub AscendByRouter : List Flagged → Type 0
AscendByRouter routers = AllPairs (λ (a : Flagged) (b : Flagged). a.router < b.router) routers

-- so that the sum of a way and a metric fits in 32 bits
abbrev pub FlaggedDistancesFit : List Flagged → Type 0
FlaggedDistancesFit routers =
    (router : Flagged) → Contains routers router → router.way.distance < 1073741824

-- what the LSA with this key says of its router, if that is reachable and has a flag
pub record TellsFlags (ways : Ways) (one : Key × LsaBody) (router : Flagged) : Type 0 where
  pub is_type : one.0.ls_type ≡ 1
  pub own : one.0.link_state_id ≡ one.0.advertising_router
  pub lsa : RouterLsa
  pub its : one.1 ≡ body.Router lsa
  pub has_flag : (bit_and lsa.flags 1 ≡ 1) ⊎ (bit_and lsa.flags 2 ≡ 2)
  pub reached : ways (ARouter one.0.advertising_router) ≡ Some router.way
  pub its_router : router.router ≡ one.0.advertising_router
  pub its_flags : router.flags ≡ lsa.flags

-- the summary counts: it is of another router, a reachable area border router
pub record IsCounted (root : Root) (routers : List Flagged) (originator : ℕ) (lsa : SummaryLsa)
    (border : Way) : Type 0 where
  pub reachable : lsa.metric < ls_infinity
  pub of_another : originator ≢ root.router
  pub reaches : IsListed routers originator 1 border

-- ---- AS boundary routers

-- a router's host prefix, by which it appears in a list of routes
abbrev pub host : ℕ → Network
host router = record { address = network_address 32 router; length = 32 }

-- the summary-LSA with this key advertises an AS boundary router
pub record Tells (root : Root) (routers : List Flagged) (one : Key × LsaBody)
    (o : Offer) : Type 0 where
  pub is_type : one.0.ls_type ≡ 4
  pub lsa : SummaryLsa
  pub its : one.1 ≡ body.RouterSummary lsa
  pub border : Way
  pub counts : IsCounted root routers one.0.advertising_router lsa border
  pub is : o ≡ inter (host one.0.link_state_id) (border.distance + lsa.metric) border.hops

abbrev pub inner_way : Route → Way
inner_way r = record { distance = r.cost; hops = r.hops }

-- sorted by their prefixes
abbrev pub Ascend : List Route → Type 0
Ascend routes = AllPairs (λ (a : Route) (b : Route). IsBefore a.prefix b.prefix) routes

-- so that their costs plus a metric fit in 32 bits
abbrev pub RouteCostsFit : List Route → Type 0
RouteCostsFit routes = (route : Route) → Contains routes route → route.cost < 2147483648

-- the route for the prefix is among them
pub record IsFound (routes : List Route) (prefix : Network) (route : Route) : Type 0 where
  pub among : Contains routes route
  pub is_for : route.prefix ≡ prefix

-- within the area if there is such a way, else as summary-LSAs advertise
pub data IsBoundary (routers : List Flagged) (advertised : List Route) (router : ℕ)
    (way : Way) : Type 0 where
  Inside : IsListed routers router 2 way → IsBoundary routers advertised router way
  Outside : ((other : Way) → IsListed routers router 2 other → ⊥) → (route : Route)
      → IsFound advertised (host router) route → way ≡ inner_way route
      → IsBoundary routers advertised router way

-- ---- forwarding addresses

-- a route of this length whose network contains the address
pub record IsMatch (routes : List Route) (address length : ℕ) (route : Route) : Type 0 where
  pub among : Contains routes route
  pub under : IsUnder address route.prefix
  pub is_long : route.prefix.length ≡ length

-- the lengths of their prefixes are marked
abbrev pub HasLengths : List Route → List Bool → Type 0
HasLengths routes lengths =
    (route : Route) → Contains routes route
    → slice_index_or lengths route.prefix.length false ≡ true

-- the route with the longest prefix that contains the address
pub record IsLongest (routes : List Route) (address : ℕ) (route : Route) : Type 0 where
  pub among : Contains routes route
  pub under : IsUnder address route.prefix
  pub longest : (other : Route) → Contains routes other → IsUnder address other.prefix
      → other.prefix.length ≤ route.prefix.length

-- the way to an external destination: by the originator, or by the forwarding address
pub record IsOutwardBy (routers : List Flagged) (advertised inner : List Route) (originator : ℕ)
    (forwarding : ℕ) (way : Way) : Type 0 where
  pub boundary : Way
  pub reaches : IsBoundary routers advertised originator boundary
  pub direct : forwarding ≡ 0 → way ≡ boundary
  pub forwarded : forwarding ≢ 0
      → (route : Route) × IsLongest inner forwarding route × (way ≡ inner_way route)

-- the same for what an LSA says
abbrev pub IsOutward : List Flagged → (advertised inner : List Route) → ℕ → ExternalLsa → Way
    → Type 0
IsOutward routers advertised inner originator lsa way =
    IsOutwardBy routers advertised inner originator lsa.forwarding way
