-- The candidates for the routing table (RFC 2328, sections 16.1 and 16.4): for each prefix the best
-- offers as one route.
use Rattle.std.specs.Prelude.{◌≡◌, ◌≢◌, ℕ, ◌+◌, ◌<◌, List}
use Rattle.words.specs.Constants.{ls_infinity}
use Rattle.words.specs.Prefixes.{Network}
use Rattle.words.specs.declared.route.ExternalType.{ExternalType}
use Rattle.words.specs.declared.route.ExternalType.TheVariants.{Type1, Type2}
use Rattle.words.specs.declared.route.Route.{Route}
use Rattle.words.specs.declared.route.RouteKind.TheVariants.{External1, External2}
use Rattle.lsa.specs.declared.body.LsaBody.TheVariants as body
use Rattle.lsa.specs.declared.body.ExternalLsa.{ExternalLsa}
use Rattle.routes.specs.Links.{Says}
use Rattle.routes.specs.Offers.{IsPrefix, OffersWithin}
use Rattle.routes.specs.Paths.{Way}
use Rattle.routes.specs.Routes.{AreRoutesAmong, IsBestAmong, IsForwarded, IsRouteAmong}
use Rattle.routes.specs.Contents.{Contents}
use Rattle.routes.specs.Summaries.{IsBoundaryWay, OffersBetween, OffersInside}
use Rattle.routes.specs.declared.offer.Offer.{Offer}
use Rattle.routes.specs.declared.root.Root.{Root}

-- ---- the way to an external destination

-- by the forwarding address, or by the originator if that is 0.0.0.0
pub record IsExternalWay (contents : Contents) (root : Root) (originator : ℕ) (lsa : ExternalLsa)
    (way : Way) : Type 0 where
  pub boundary : Way
  pub reaches : IsBoundaryWay contents root originator boundary
  pub direct : lsa.forwarding ≡ 0 → way ≡ boundary
  pub forwarded : lsa.forwarding ≢ 0 → IsForwarded (OffersInside contents root) lsa.forwarding way

abbrev pub external_offer : ExternalType → Network → ExternalLsa → ℕ → Way → Offer
external_offer Type1 prefix lsa originator way =
    record {
      prefix = prefix;
      kind = External1;
      cost = way.distance
          + lsa.metric;
      distance = 0;
      hops = way.hops;
      tag = lsa.tag;
      originator = originator;
    }
external_offer Type2 prefix lsa originator way =
    record {
      prefix = prefix;
      kind = External2;
      cost = lsa.metric;
      distance = way.distance;
      hops = way.hops;
      tag = lsa.tag;
      originator = originator;
    }

-- an AS-external-LSA below MaxAge with a metric below LSInfinity, of another router
pub record OffersExternal (contents : Contents) (root : Root) (o : Offer) : Type 0 where
  pub id : ℕ
  pub originator : ℕ
  pub lsa : ExternalLsa
  pub its : Says contents (record {
    ls_type = 5;
    link_state_id = id;
    advertising_router =
        originator;
  })
      (body.External lsa)
  pub reachable : lsa.metric < ls_infinity
  pub of_another : originator ≢ root.router
  pub prefix : Network
  pub is_prefix : IsPrefix id lsa.mask prefix
  pub way : Way
  pub is_way : IsExternalWay contents root originator lsa way
  pub is : o ≡ external_offer lsa.kind prefix lsa originator way

-- ---- candidates

pub data Offers (contents : Contents) (root : Root) (o : Offer) : Type 0 where
  Within : OffersWithin contents root o → Offers contents root o
  Between : OffersBetween contents root o → Offers contents root o
  External : OffersExternal contents root o → Offers contents root o

abbrev pub IsBest : Contents → Root → Network → Offer → Type 0
IsBest contents root = IsBestAmong (Offers contents root)

abbrev pub IsCandidate : Contents → Root → Route → Type 0
IsCandidate contents root = IsRouteAmong (Offers contents root)

abbrev pub AreCandidates : Contents → Root → List Route → Type 0
AreCandidates contents root = AreRoutesAmong (Offers contents root)
