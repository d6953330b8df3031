-- What area border routers advertise of other areas (RFC 2328, sections 16.2 and 16.4): networks,
-- and AS boundary routers.
use Rattle.std.specs.Prelude.{◌≡◌, ◌≢◌, ℕ, ◌+◌, ◌<◌, ◌≤◌, ◌↔◌, ◌⊎◌, IsTrue, bit_and}
use Rattle.words.specs.Constants.{ls_infinity}
use Rattle.words.specs.Interfaces.{has_interface}
use Rattle.words.specs.Prefixes.{Network}
use Rattle.words.specs.declared.key.Key.{Key}
use Rattle.words.specs.declared.route.RouteKind.TheVariants.{Inter}
use Rattle.lsa.specs.declared.body.LsaBody.TheVariants as body
use Rattle.lsa.specs.declared.body.RouterLsa.{RouterLsa}
use Rattle.lsa.specs.declared.body.SummaryLsa.{SummaryLsa}
use Rattle.routes.specs.Links.{IsRouterLsa, Leads, Says}
use Rattle.routes.specs.Offers.{IsPrefix, OffersWithin, ReachesBoundaryRouter}
use Rattle.routes.specs.Paths.{IsWay, Way}
use Rattle.routes.specs.Contents.{Contents}
use Rattle.routes.specs.declared.node.Node.TheVariants.{ARouter}
use Rattle.routes.specs.declared.offer.Offer.{Offer}
use Rattle.routes.specs.declared.root.Root.{Root}

-- the router is reachable, and its flags have bit B
pub record ReachesBorderRouter (contents : Contents) (root : Root) (router : ℕ) (way : Way) : Type
    0 where
  pub lsa : RouterLsa
  pub its : IsRouterLsa contents router lsa
  pub has_b : bit_and lsa.flags 1 ≡ 1
  pub reached : IsWay (Leads contents root) (ARouter root.router) (ARouter router) way

-- a summary-LSA with a metric below LSInfinity, of another router, which is an area border router
-- reached by this way
pub record CountsAsSummary (contents : Contents) (root : Root) (originator : ℕ) (lsa : SummaryLsa)
    (border : Way) : Type 0 where
  pub reachable : lsa.metric < ls_infinity
  pub of_another : originator ≢ root.router
  pub reaches : ReachesBorderRouter contents root originator border

abbrev pub summary_key : ℕ → ℕ → ℕ → Key
summary_key ls_type id originator =
    record { ls_type = ls_type; link_state_id = id; advertising_router = originator }

-- ---- networks (section 16.2)

abbrev pub inter : Network → ℕ → ℕ → Offer
inter prefix cost hops =
    record {
      prefix = prefix;
      kind = Inter;
      cost = cost;
      distance = 0;
      hops = hops;
      tag = 0;
      originator = 0;
    }

pub record OffersBetween (contents : Contents) (root : Root) (o : Offer) : Type 0 where
  pub id : ℕ
  pub originator : ℕ
  pub lsa : SummaryLsa
  pub its : Says contents (summary_key 3 id originator) (body.NetworkSummary lsa)
  pub border : Way
  pub counts : CountsAsSummary contents root originator lsa border
  pub prefix : Network
  pub is_prefix : IsPrefix id lsa.mask prefix
  pub is : o ≡ inter prefix (border.distance + lsa.metric) border.hops

-- the offers that a forwarding address may be reached by
abbrev pub OffersInside : Contents → Root → Offer → Type 0
OffersInside contents root o = OffersWithin contents root o ⊎ OffersBetween contents root o

-- ---- AS boundary routers (section 16.2)

-- an area border router advertises a way with this cost to the router
pub record IsAdvertised (contents : Contents) (root : Root) (router distance : ℕ)
    (border : Way) : Type 0
  where
    pub originator : ℕ
    pub lsa : SummaryLsa
    pub its : Says contents (summary_key 4 router originator) (body.RouterSummary lsa)
    pub counts : CountsAsSummary contents root originator lsa border
    pub is : distance ≡ border.distance + lsa.metric

-- the least cost among those ways, with the next hops of all of that cost
pub record IsWayBetween (contents : Contents) (root : Root) (router : ℕ) (way : Way) : Type 0 where
  pub border : Way
  pub advertised : IsAdvertised contents root router way.distance border
  pub least : (distance : ℕ) (other : Way) → IsAdvertised contents root router distance other
      → way.distance ≤ distance
  pub hops : (interface : ℕ) → IsTrue (has_interface way.hops interface)
      ↔ ((other : Way) × IsAdvertised contents root router way.distance other
      × IsTrue (has_interface other.hops interface))

-- within the area if there is such a way, else between areas
pub data IsBoundaryWay (contents : Contents) (root : Root) (router : ℕ) (way : Way) : Type 0 where
  Inside : ReachesBoundaryRouter contents root router way → IsBoundaryWay contents root router way
  Outside : ((other : Way) → ReachesBoundaryRouter contents root router other → ⊥)
      → IsWayBetween contents root router way → IsBoundaryWay contents root router way
