-- Each next hop of a candidate is 0, or the interface of a link of the root that counts.
use Rattle.std.proofs.Common.{◌≡◌, ℕ, ◌⊎◌, inl, inr, IsTrue, ◌∙◌, ap, subst}
use Rattle.std.proofs.lemmas.Bool.{cases_eq}
use Rattle.words.specs.Interfaces.{has_interface}
use Rattle.words.specs.declared.route.Route.{Route}
use Rattle.routes.specs.Candidates.{IsCandidate, Offers, OffersExternal}
use Rattle.routes.specs.Candidates.Offers.{Between, External, Within}
use Rattle.routes.specs.Links.{Leads, LeadsTo}
use Rattle.routes.specs.Offers.{OffersWithin}
use Rattle.routes.specs.Paths.{IsWay, Step, Way}
use Rattle.routes.specs.Routes.{IsForwarded}
use Rattle.routes.specs.Contents.{Contents}
use Rattle.routes.specs.Summaries.{IsBoundaryWay, OffersBetween, OffersInside}
use Rattle.routes.specs.Summaries.IsBoundaryWay.{Inside, Outside}
use Rattle.routes.specs.declared.node.Node.{Node}
use Rattle.routes.specs.declared.node.Node.TheVariants.{ARouter}
use Rattle.routes.specs.declared.offer.Offer.{Offer}
use Rattle.routes.specs.declared.root.Root.{Root}
use Rattle.candidates.proofs.CheapestWalks.{is_root, only_zero}
use Rattle.route_laws.proofs.Outward.{external_hops}

-- a link of the root that counts uses the interface
pub record IsLeft (contents : Contents) (root : Root) (interface : ℕ) : Type 0 where
  pub target : Node
  pub cost : ℕ
  pub leads : LeadsTo contents root (ARouter root.router) target cost interface

module _ (contents : Contents) (root : Root) where
  abbrev pub IsHop : ℕ → Type 0
  IsHop i = (i ≡ 0) ⊎ IsLeft contents root i

  abbrev pub AreHops : ℕ → Type 0
  AreHops hops = (i : ℕ) → IsTrue (has_interface hops i) → IsHop i

  of_way : (node : Node) (w : Way) → IsWay (Leads contents root) (ARouter root.router) node w
      → AreHops w.hops
  of_way node w is i t =
      let hop = (is.hops i).0 t in
      let first : Step Node = hop.0 in
      let P : ℕ → Type 0 = λ k. LeadsTo contents root (ARouter root.router) first.target
      first.cost k
      in
      inr (record {
        target = first.target;
        cost = first.cost;
        leads = subst P hop.3 hop.2.is_walk.0;
      })

  alike : (a b : ℕ) → a ≡ b → AreHops b → AreHops a
  alike a b e are i t = let Has : ℕ → Type 0 = λ hops. IsTrue (has_interface hops i) in
      are i (subst Has e t)

  of_within : (o : Offer) → OffersWithin contents root o → AreHops o.hops
  of_within o x =
      alike o.hops x.hops (ap (λ (y : Offer). y.hops) x.is)
      (elim (is_root contents root x.node) [
        | inl e ↦ alike x.hops 1 (x.by_root e) (λ i t. inl (only_zero i t))
        | inr other ↦ alike x.hops x.way.hops (x.by_others other) (of_way x.node x.way x.reached)
      ])

  of_between : (o : Offer) → OffersBetween contents root o → AreHops o.hops
  of_between o x = alike o.hops x.border.hops (ap (λ (y : Offer). y.hops) x.is)
      (of_way (ARouter x.originator) x.border x.counts.reaches.reached)

  of_inside : (o : Offer) → OffersInside contents root o → AreHops o.hops
  of_inside o (inl x) = of_within o x
  of_inside o (inr x) = of_between o x

  of_boundary : (router : ℕ) (w : Way) → IsBoundaryWay contents root router w → AreHops w.hops
  of_boundary router w (Inside x) i t = of_way (ARouter router) w x.reached i t
  of_boundary router w (Outside none x) i t =
      let h = (x.hops i).0 t in
      of_way (ARouter h.1.originator) h.0 h.1.counts.reaches.reached i h.2

  of_forwarded : (address : ℕ) (w : Way) → IsForwarded (OffersInside contents root) address w
      → AreHops w.hops
  of_forwarded address w f i t =
      let Has : ℕ → Type 0 = λ hops. IsTrue (has_interface hops i) in
      let o = (f.is_route.hops i).0 (subst Has (ap (λ (x : Way). x.hops) f.is) t) in
      of_inside o.0 o.1.offered i o.2

  of_external : (o : Offer) → OffersExternal contents root o → AreHops o.hops
  of_external o x =
      alike o.hops x.way.hops (ap (λ (y : Offer). y.hops) x.is
      ∙ external_hops x.lsa.kind x.prefix x.lsa x.originator x.way)
      (elim (cases_eq x.lsa.forwarding 0) [
        | inl e ↦ alike x.way.hops x.is_way.boundary.hops
            (ap (λ (y : Way). y.hops) (x.is_way.direct e))
            (of_boundary x.originator x.is_way.boundary x.is_way.reaches)
        | inr some ↦ of_forwarded x.lsa.forwarding x.way (x.is_way.forwarded some)
      ])

  of_offer : (o : Offer) → Offers contents root o → AreHops o.hops
  of_offer o (Within x) = of_within o x
  of_offer o (Between x) = of_between o x
  of_offer o (External x) = of_external o x

  pub of_candidate : (r : Route) → IsCandidate contents root r → AreHops r.hops
  of_candidate r k i t =
      let o = (k.hops i).0 t in
      of_offer o.0 o.1.offered i o.2
