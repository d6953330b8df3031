use Rattle.std.proofs.Common.{◌≡◌, arith, eqb-true, length, inl, inr, List, ◌++◌, ap, sym, subst}
use Rattle.std.proofs.Common.{◌∙◌}
use Rattle.std.specs.List.{Contains}
use Rattle.std.specs.Prelude.{◌↔◌}
use Rattle.words.specs.declared.route.Route.{Route}
use Rattle.candidates.specs.Borders.{RouteCostsFit, FlaggedDistancesFit, Ascend, AscendByRouter}
use Rattle.candidates.specs.Borders.{HasLengths}
use Rattle.candidates.specs.declared.flagged.Flagged.{Flagged}
use Rattle.candidates.specs.Gathering.{Adds, OfEach}
use Rattle.candidates.specs.Externals.{OfExternalAdvertisement}
use Rattle.routes.specs.Summaries.{OffersInside}
use Rattle.routes.specs.declared.offer.Offer.{Offer}
use Rattle.candidates.proofs.All.{are_candidates}
use Rattle.routes.proofs.OneMore.{same_offers}
use Rattle.routes.specs.Candidates.{AreCandidates}
use Rattle.routes.specs.Routes.{AreRoutesAmong}
use Rattle.candidates.specs.declared.externals.ExternalAdvertisement.{ExternalAdvertisement}
use Rattle.candidates.proofs.calculation.with_externals.Goals as goal

pub push_externals-requires-clause-routers : goal.push_externals-requires-clause-routers
push_externals-requires-clause-routers c =
    let P : List Route → Type 0 = λ xs. Ascend xs × RouteCostsFit xs in
    subst P (sym c.deref-2.ensures.value) c.requires.advertised

pub push_externals-requires-clause-flagged : goal.push_externals-requires-clause-flagged
push_externals-requires-clause-flagged c =
    let P : List Flagged → Type 0 = λ xs. AscendByRouter xs × FlaggedDistancesFit xs in
    subst P (sym c.deref-3.ensures.value) c.requires.flagged

pub push_externals-requires-clause-networks : goal.push_externals-requires-clause-networks
push_externals-requires-clause-networks c =
    let P : List Route → Type 0 = λ xs. Ascend xs × RouteCostsFit xs in
    subst P (sym c.deref-4.ensures.value) c.requires.networks

pub push_externals-requires-clause-lengths : goal.push_externals-requires-clause-lengths
push_externals-requires-clause-lengths c =
    let P : List Route → Type 0 = λ xs. HasLengths xs c.args.inner.now.lengths in
    subst P (sym c.deref-4.ensures.value) c.requires.lengths

pub returns : goal.returns
returns c contents ways are inner tell =
    let root = c.args.root.now in
    let externals = c.args.externals.now in
    let it = c.args.inner.now in
    let copied : c.extend_from_slice.new.self.items ≡ it.offers.items =
    c.in_ok-extend_from_slice.ensures.items
    ∙ ap (λ (xs : List Offer). xs ++ c.deref-5.result.now) c.in_ok-offers.ensures.items
    ∙ c.deref-5.ensures.value in
    let Q : List Flagged → List Route → List Route → Type 0 =
    λ routers advertised networks. Adds c.extend_from_slice.new.self.items
    c.push_externals.new.offers.items
    (OfEach (OfExternalAdvertisement root routers advertised networks) externals)
    in
    let first : Q it.flagged.items c.deref-2.result.now c.deref-4.result.now =
    subst (λ (rs : List Flagged). Q rs c.deref-2.result.now c.deref-4.result.now)
    c.deref-3.ensures.value c.in_ok-push_externals.ensures in
    let second : Q it.flagged.items it.boundary_routes.items c.deref-4.result.now =
    subst (λ (rs : List Route). Q it.flagged.items rs c.deref-4.result.now)
    c.deref-2.ensures.value first in
    let third : Q it.flagged.items it.boundary_routes.items it.networks.items =
    subst (λ (rs : List Route). Q it.flagged.items it.boundary_routes.items rs)
    c.deref-4.ensures.value
    second in
    let offered : (o : Offer) → Contains c.extend_from_slice.new.self.items o ↔ OffersInside
    contents
    root o = subst (λ (xs : List Offer). (o : Offer) → Contains xs o ↔ OffersInside contents root o)
    (sym copied) inner.offers in
    are_candidates contents root ways are it.flagged.items inner.flagged externals tell
    it.boundary_routes.items
    it.networks.items inner.advertised inner.networks
    c.extend_from_slice.new.self.items c.push_externals.new.offers.items c.in_ok-routes.routes.items
    offered third c.in_ok-routes.ensures.routes

pub returns-then-is_empty : goal.returns-then-is_empty
returns-then-is_empty c contents ways are inner tell =
    let root = c.args.root.now in
    let it = c.args.inner.now in
    let offers = it.offers.items in
    let networks = it.networks.items in
    let nothing : List ExternalAdvertisement → Type 0 = λ es. (e : ExternalAdvertisement)
    → Contains es e → ⊥ in
    let none : nothing c.args.externals.now =
    λ e t. omega (
      arith,
      t.1,
      eqb-true (length c.args.externals.now) 0
          (sym c.is_empty.ensures ∙ c.if-is_empty.true),
    ) in
    let among : AreRoutesAmong (λ o. Contains offers o) networks = record {
      each = λ r. (
        (λ t. same_offers (OffersInside contents root) (λ o. Contains offers o) r
            (λ o e p. (inner.offers o).1 p) (λ o e q. (inner.offers o).0 q)
            ((inner.networks.each r).0 t)),
        (λ k. (inner.networks.each r).1
            (same_offers (λ o. Contains offers o) (OffersInside contents root) r
            (λ o e q. (inner.offers o).0 q) (λ o e p. (inner.offers o).1 p) k)),
      );
      ascending = inner.networks.ascending;
    } in
    subst (AreCandidates contents root) (sym
    (c.in_ok-networks.ensures.items ∙ c.deref.ensures.value))
    (are_candidates contents root ways are it.flagged.items inner.flagged c.args.externals.now tell
    it.boundary_routes.items networks inner.advertised inner.networks
    offers offers networks inner.offers
    (λ o. (
      (λ t. inl t),
      (λ s. elim s
          [ inl t ↦ t | inr advertised ↦ absurd (none advertised.0 advertised.1) ]),
    ))
    among)
