-- The routes of all that is gathered are the candidates of the database.
use Rattle.std.proofs.Common.{inl, inr, List, []}
use Rattle.std.specs.List.{Contains}
use Rattle.std.specs.Prelude.{◌↔◌}
use Rattle.words.specs.declared.key.Key.{Key}
use Rattle.words.specs.declared.route.Route.{Route}
use Rattle.lsa.specs.declared.body.LsaBody.{LsaBody}
use Rattle.routes.specs.Candidates.{AreCandidates, Offers}
use Rattle.routes.specs.Candidates.Offers.{Between, External, Within}
use Rattle.routes.specs.Routes.{AreRoutesAmong}
use Rattle.routes.specs.Contents.{Contents}
use Rattle.routes.specs.Summaries.{OffersInside}
use Rattle.routes.specs.declared.offer.Offer.{Offer}
use Rattle.routes.specs.declared.root.Root.{Root}
use Rattle.routes.proofs.Listed.{routes_among}
use Rattle.candidates.specs.Bodies.{HaveAll, OfContents}
use Rattle.candidates.specs.Borders.{AreFlagged, Tells}
use Rattle.candidates.specs.Externals.{AreExternals, OfExternalAdvertisement}
use Rattle.candidates.specs.Gathering.{Adds, OfEach}
use Rattle.candidates.specs.Sources.{IsInner, OfExternal}
use Rattle.candidates.specs.Ways.{AreWays, Ways}
use Rattle.candidates.specs.declared.externals.ExternalAdvertisement.{ExternalAdvertisement}
use Rattle.candidates.specs.declared.flagged.Flagged.{Flagged}
use Rattle.candidates.proofs.Gathered.{all_such, such}
use Rattle.candidates.proofs.Carried.{inner_back, inner_forth}
use Rattle.candidates.proofs.Outward.{external_back, external_forth}
use Rattle.candidates.proofs.Told.{of_told_one, told_of}
use Rattle.candidates.proofs.Each.{inner_up_to, of_each, of_said, told_up_to}

module _ (contents : Contents) (root : Root) (ways : Ways) (are : AreWays contents root ways)
    (routers : List Flagged) (flagged : AreFlagged contents ways routers) where
  -- ---- the results from the LSAs of types 1 to 4

  module _ (bodies : List (Key × LsaBody)) (have : HaveAll 4 contents bodies) where
    pub of_inside : (first : List Offer) → Adds [] first (OfEach (IsInner root ways routers) bodies)
        → (o : Offer) → Contains first o ↔ OffersInside contents root o
    of_inside first a o =
        let Q = IsInner root ways routers in (
          (λ t. inner_forth contents root ways are routers flagged o
              (of_said 4 contents bodies have Q o (such first (OfEach Q bodies) a o t))),
          (λ k. all_such first (OfEach Q bodies) a o
              (of_each 4 contents bodies have Q (inner_up_to root ways routers) o
              (inner_back contents root ways are routers flagged o k))),
        )

    pub of_told : (advertised : List Route)
        → AreRoutesAmong (OfEach (Tells root routers) bodies) advertised
        → AreRoutesAmong (OfContents (Tells root routers) contents) advertised
    of_told advertised all = let Q = Tells root routers in
        routes_among (OfEach Q bodies) (OfContents Q contents) advertised
        (of_said 4 contents bodies have Q)
        (of_each 4 contents bodies have Q (told_up_to root routers)) all

    pub of_networks : (first : List Offer) (networks : List Route)
        → Adds [] first (OfEach (IsInner root ways routers) bodies)
        → AreRoutesAmong (λ o. Contains first o) networks
        → AreRoutesAmong (OffersInside contents root) networks
    of_networks first networks a all =
        routes_among (λ o. Contains first o) (OffersInside contents root) networks
        (λ o t. (of_inside first a o).0 t) (λ o k. (of_inside first a o).1 k) all

  -- ---- with external destinations

  module _ (externals : List ExternalAdvertisement) (tell : AreExternals contents externals)
      (advertised networks : List Route)
      (all_told : AreRoutesAmong (OfContents (Tells root routers) contents)
      advertised) (inside : AreRoutesAmong (OffersInside contents root) networks) where
    of_external : (o : Offer) → OfEach (OfExternalAdvertisement root routers advertised networks)
        externals o → Offers contents root o
    of_external o (e, among, k) =
        let one = (tell e).0 among in
        External (external_forth contents root ways are routers flagged advertised all_told networks
        inside o
        (one.0, one.1, of_told_one root routers advertised networks one.0 e one.2 o k))

    of_inner : (o : Offer) → OffersInside contents root o → Offers contents root o
    of_inner o (inl w) = Within w
    of_inner o (inr b) = Between b

    by_external : (o : Offer) → OfContents (OfExternal root routers advertised networks) contents o
        → OfEach (OfExternalAdvertisement root routers advertised networks) externals o
    by_external o (one, is, k) = let t = told_of root routers advertised networks one o k in
        (t.0, (tell t.0).1 (one, is, t.1), t.2)

    pub are_candidates : (first all : List Offer) (routes : List Route)
        → ((o : Offer) → Contains first o ↔ OffersInside contents root o)
        → Adds first all (OfEach (OfExternalAdvertisement root routers advertised networks)
        externals) → AreRoutesAmong (λ o. Contains all o) routes
        → AreCandidates contents root routes
    are_candidates first all routes same more best =
        let put : (o : Offer) → OffersInside contents root o → Contains all o =
        λ o k. (more o).1 (inl ((same o).1 k)) in
        routes_among (λ o. Contains all o) (Offers contents root) routes
        (λ o t.
        elim ((more o).0 t) [
          | inl old ↦ of_inner o ((same o).0 old)
          | inr e ↦ of_external o e
        ])
        (λ o k.
        elim k [
          | Within w ↦ put o (inl w)
          | Between b ↦ put o (inr b)
          | External e ↦ (more o).1 (inr (by_external o
              (external_back contents root ways are routers flagged advertised all_told networks
              inside
              o e)))
        ])
        best
