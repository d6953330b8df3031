-- What AS-external-LSAs advertise about external destinations, apart from their keys (RFC 2328,
-- sections 16.4 and A.4.5).
use Rattle.std.specs.Prelude.{◌≡◌, ◌≢◌, ◌↔◌, ◌<◌, List, [], Some}
use Rattle.std.specs.List.{Contains}
use Rattle.words.specs.Constants.{ls_infinity}
use Rattle.words.specs.declared.key.Key.{Key}
use Rattle.words.specs.declared.route.Route.{Route}
use Rattle.lsa.specs.declared.body.LsaBody.{LsaBody}
use Rattle.lsa.specs.declared.body.LsaBody.TheVariants as body
use Rattle.lsa.specs.declared.body.ExternalLsa.{ExternalLsa}
use Rattle.routes.specs.Candidates.{external_offer}
use Rattle.routes.specs.Offers.{IsPrefix}
use Rattle.routes.specs.Contents.{Contents}
use Rattle.routes.specs.declared.graph.Way.{Way}
use Rattle.routes.specs.declared.offer.Offer.{Offer}
use Rattle.routes.specs.declared.root.Root.{Root}
use Rattle.candidates.specs.Borders.{IsOutwardBy}
use Rattle.candidates.specs.declared.externals.ExternalAdvertisement.{ExternalAdvertisement}
use Rattle.candidates.specs.declared.flagged.Flagged.{Flagged}

-- the AS-external-LSA with this key advertises it
pub record TellsExternal (one : Key × LsaBody) (e : ExternalAdvertisement) : Type 0 where
  pub is_type : one.0.ls_type ≡ 5
  pub lsa : ExternalLsa
  pub its : one.1 ≡ body.External lsa
  pub is_prefix : IsPrefix one.0.link_state_id lsa.mask e.prefix
  pub originator : e.originator ≡ one.0.advertising_router
  pub kind : e.kind ≡ lsa.kind
  pub metric : e.metric ≡ lsa.metric
  pub forwarding : e.forwarding ≡ lsa.forwarding
  pub tag : e.tag ≡ lsa.tag

-- exactly what these LSAs advertise
abbrev pub AreAdvertisedBy : List (Key × LsaBody) → List ExternalAdvertisement → Type 0
AreAdvertisedBy bodies advertised =
    (e : ExternalAdvertisement) → Contains advertised e
    ↔ ((one : Key × LsaBody) × Contains bodies one × TellsExternal one e)

-- exactly what the LSAs of the database advertise
abbrev pub AreExternals : Contents → List ExternalAdvertisement → Type 0
AreExternals contents advertised =
    (e : ExternalAdvertisement) → Contains advertised e
    ↔ ((one : Key × LsaBody) × (contents one.0 ≡ Some one.1) × TellsExternal one e)

-- the offer with this way to the originator or forwarding address
abbrev pub offer_by : ExternalAdvertisement → Way → Offer
offer_by e way =
    external_offer e.kind e.prefix
    (record {
      mask = 0;
      kind = e.kind;
      metric = e.metric;
      forwarding = e.forwarding;
      tag = e.tag;
      tos = [];
    })
    e.originator (record { distance = way.distance; hops = way.hops })

-- the offer of an external destination: of another router, with a metric below LSInfinity
pub record OfExternalAdvertisement (root : Root) (routers : List Flagged)
    (advertised inner : List Route)
    (e : ExternalAdvertisement)
    (o : Offer) : Type 0 where
  pub reachable : e.metric < ls_infinity
  pub of_another : e.originator ≢ root.router
  pub way : Way
  pub is_way : IsOutwardBy routers advertised inner e.originator e.forwarding way
  pub is : o ≡ offer_by e way
