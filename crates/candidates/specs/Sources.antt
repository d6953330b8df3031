-- What the LSA with a key offers, given the ways to all nodes (RFC 2328, sections 16.1, 16.2 and
-- 16.4).
use Rattle.std.specs.Prelude.{◌≡◌, ◌≢◌, ℕ, ◌+◌, ◌<◌, List, Some, nat_eq, if◌then◌else◌}
use Rattle.words.specs.Constants.{ls_infinity}
use Rattle.words.specs.Prefixes.{Network}
use Rattle.words.specs.declared.key.Key.{Key}
use Rattle.words.specs.declared.route.Route.{Route}
use Rattle.lsa.specs.declared.body.LsaBody.{LsaBody}
use Rattle.lsa.specs.declared.body.LsaBody.TheVariants as body
use Rattle.lsa.specs.declared.body.ExternalLsa.{ExternalLsa}
use Rattle.lsa.specs.declared.body.RouterLink.{RouterLink}
use Rattle.lsa.specs.declared.body.LinkKind.TheVariants.{Stub}
use Rattle.lsa.specs.declared.body.NetworkLsa.{NetworkLsa}
use Rattle.lsa.specs.declared.body.RouterLsa.{RouterLsa}
use Rattle.lsa.specs.declared.body.SummaryLsa.{SummaryLsa}
use Rattle.routes.specs.Candidates.{external_offer}
use Rattle.routes.specs.Offers.{IsPrefix, intra}
use Rattle.routes.specs.Summaries.{inter}
use Rattle.candidates.specs.Ways.{Ways}
use Rattle.routes.specs.declared.graph.Way.{Way}
use Rattle.routes.specs.declared.node.Node.TheVariants.{ANetwork, ARouter}
use Rattle.routes.specs.declared.offer.Offer.{Offer}
use Rattle.routes.specs.declared.root.Root.{Root}
use Rattle.candidates.specs.Borders.{IsCounted, IsOutward}
use Rattle.candidates.specs.Gathering.{OfEach}
use Rattle.candidates.specs.declared.flagged.Flagged.{Flagged}

-- ---- within the area (section 16.1)

-- the offer of a stub link, given the way to its router
pub record IsStub (way : Way) (link : RouterLink) (o : Offer) : Type 0 where
  pub is_stub : link.kind ≡ Stub
  pub prefix : Network
  pub is_prefix : IsPrefix link.link_id link.link_data prefix
  pub is : o ≡ intra prefix (way.distance + link.metric) way.hops

-- the root's own networks have only hop 0
abbrev pub leaving : Root → ℕ → Way → Way
leaving root router way = if nat_eq router root.router then record way { hops = 1 } else way

pub record OfRouter (root : Root) (ways : Ways) (one : Key × LsaBody) (o : Offer) : Type 0 where
  pub is_type : one.0.ls_type ≡ 1
  pub own : one.0.link_state_id ≡ one.0.advertising_router
  pub lsa : RouterLsa
  pub its : one.1 ≡ body.Router lsa
  pub way : Way
  pub reached : ways (ARouter one.0.advertising_router) ≡ Some way
  pub offered : OfEach (IsStub (leaving root one.0.advertising_router way)) lsa.links o

pub record OfNetwork (ways : Ways) (one : Key × LsaBody) (o : Offer) : Type 0 where
  pub is_type : one.0.ls_type ≡ 2
  pub lsa : NetworkLsa
  pub its : one.1 ≡ body.Network lsa
  pub way : Way
  pub reached : ways (ANetwork one.0.link_state_id one.0.advertising_router) ≡ Some way
  pub prefix : Network
  pub is_prefix : IsPrefix one.0.link_state_id lsa.mask prefix
  pub is : o ≡ intra prefix way.distance way.hops

-- ---- between areas (section 16.2)

pub record OfSummary (root : Root) (routers : List Flagged) (one : Key × LsaBody)
    (o : Offer) : Type 0 where
  pub is_type : one.0.ls_type ≡ 3
  pub lsa : SummaryLsa
  pub its : one.1 ≡ body.NetworkSummary lsa
  pub border : Way
  pub counts : IsCounted root routers one.0.advertising_router lsa border
  pub prefix : Network
  pub is_prefix : IsPrefix one.0.link_state_id lsa.mask prefix
  pub is : o ≡ inter prefix (border.distance + lsa.metric) border.hops

-- what the LSA with a key offers within the area and between areas
pub data IsInner (root : Root) (ways : Ways) (routers : List Flagged) (one : Key × LsaBody)
    (o : Offer) : Type 0 where
  ByRouter : OfRouter root ways one o → IsInner root ways routers one o
  ByNetwork : OfNetwork ways one o → IsInner root ways routers one o
  BySummary : OfSummary root routers one o → IsInner root ways routers one o

-- ---- external destinations (section 16.4)

pub record OfExternal (root : Root) (routers : List Flagged) (advertised inner : List Route)
    (one : Key × LsaBody) (o : Offer) : Type 0 where
  pub is_type : one.0.ls_type ≡ 5
  pub lsa : ExternalLsa
  pub its : one.1 ≡ body.External lsa
  pub reachable : lsa.metric < ls_infinity
  pub of_another : one.0.advertising_router ≢ root.router
  pub prefix : Network
  pub is_prefix : IsPrefix one.0.link_state_id lsa.mask prefix
  pub way : Way
  pub is_way : IsOutward routers advertised inner one.0.advertising_router lsa way
  pub is : o
      ≡ external_offer lsa.kind prefix lsa one.0.advertising_router
      (record { distance = way.distance; hops = way.hops })
