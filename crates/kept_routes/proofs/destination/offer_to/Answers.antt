use Rattle.std.proofs.Common.{List, sym, subst}
use Rattle.words.specs.declared.key.Key.{Key}
use Rattle.words.specs.declared.route.Route.{Route}
use Rattle.lsa.specs.declared.body.LsaBody.{LsaBody}
use Rattle.candidates.specs.Borders.{RouteCostsFit, FlaggedDistancesFit, Ascend, AscendByRouter}
use Rattle.candidates.specs.Borders.{HasLengths}
use Rattle.candidates.specs.declared.flagged.Flagged.{Flagged}
use Rattle.candidates.specs.Gathering.{IsOnly}
use Rattle.candidates.specs.Sources.{OfExternal}
use Rattle.kept_routes.proofs.Best.{just_to}
use Rattle.kept_routes.proofs.destination.offer_to.Goals as goal

pub external_offer-requires-clause-routers : goal.external_offer-requires-clause-routers
external_offer-requires-clause-routers c =
    let P : List Route → Type 0 = λ xs. Ascend xs × RouteCostsFit xs in
    subst P (sym c.deref.ensures.value) c.requires.advertised

pub external_offer-requires-clause-flagged : goal.external_offer-requires-clause-flagged
external_offer-requires-clause-flagged c =
    let P : List Flagged → Type 0 = λ xs. AscendByRouter xs × FlaggedDistancesFit xs in
    subst P (sym c.deref-2.ensures.value) c.requires.flagged

pub external_offer-requires-clause-networks : goal.external_offer-requires-clause-networks
external_offer-requires-clause-networks c =
    let P : List Route → Type 0 = λ xs. Ascend xs × RouteCostsFit xs in
    subst P (sym c.deref-3.ensures.value) c.requires.networks

pub external_offer-requires-clause-lengths : goal.external_offer-requires-clause-lengths
external_offer-requires-clause-lengths c =
    let P : List Route → Type 0 = λ xs. HasLengths xs c.args.inner.now.lengths in
    subst P (sym c.deref-3.ensures.value) c.requires.lengths

pub returns-in-None : goal.returns-in-None
returns-in-None c =
    let root = c.args.root.now in
    let one : Key × LsaBody = (c.args.key.now, c.args.lsa_body.now) in
    let it = c.args.inner.now in
    let o = c.external_offer.result in
    let Q : List Flagged → List Route → List Route → Type 0 =
    λ routers advertised networks. IsOnly (OfExternal root routers advertised networks one) o in
    let first = subst (λ (rs : List Flagged). Q rs c.deref.result.now c.deref-3.result.now)
    c.deref-2.ensures.value c.external_offer.ensures in
    let second = subst (λ (rs : List Route). Q it.flagged.items rs c.deref-3.result.now)
    c.deref.ensures.value first in
    let third = subst (λ (rs : List Route). Q it.flagged.items it.boundary_routes.items rs)
    c.deref-3.ensures.value second in
    let none = subst (λ x. IsOnly (OfExternal root it.flagged.items it.boundary_routes.items
    it.networks.items
    one) x) c.in-None.is third in
    λ x p. none x p.0

pub returns-in-Some : goal.returns-in-Some
returns-in-Some c =
    let root = c.args.root.now in
    let one : Key × LsaBody = (c.args.key.now, c.args.lsa_body.now) in
    let it = c.args.inner.now in
    let o = c.external_offer.result in
    let Q : List Flagged → List Route → List Route → Type 0 =
    λ routers advertised networks. IsOnly (OfExternal root routers advertised networks one) o in
    let first = subst (λ (rs : List Flagged). Q rs c.deref.result.now c.deref-3.result.now)
    c.deref-2.ensures.value c.external_offer.ensures in
    let second = subst (λ (rs : List Route). Q it.flagged.items rs c.deref-3.result.now)
    c.deref.ensures.value first in
    let third = subst (λ (rs : List Route). Q it.flagged.items it.boundary_routes.items rs)
    c.deref-3.ensures.value second in
    let R = OfExternal root it.flagged.items it.boundary_routes.items it.networks.items one in
    let some = subst (λ x. IsOnly R x) c.in-Some.is third in
    just_to R c.args.prefix c.in-Some.offer c.to.result some c.to.ensures
