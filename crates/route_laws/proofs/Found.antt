-- A list of all candidates has a route to each network that a walk reaches.
use Rattle.std.proofs.Common.{◌≡◌, ℕ, ◌+◌, ◌<◌, ◌⊎◌, inl, inr, List, [], ◌∷◌, length, refl, ◌∙◌, ap}
use Rattle.std.specs.List.{Contains}
use Rattle.std.proofs.lemmas.Bool.{cases_eq}
use Rattle.words.specs.Prefixes.{Network}
use Rattle.words.specs.declared.route.Route.{Route}
use Rattle.candidates.specs.Laws.{CandidatesAreCheapestWalks, EveryOfferHasACandidate, IsReached}
use Rattle.routes.proofs.Lists.{first_is, later_is, of_cons, of_empty}
use Rattle.routes.specs.Candidates.{AreCandidates, Offers}
use Rattle.routes.specs.Candidates.Offers.{Within}
use Rattle.routes.specs.Links.{Leads, LeadsTo}
use Rattle.routes.specs.Offers.{intra}
use Rattle.routes.specs.Paths.{IsWay, Way}
use Rattle.routes.specs.Contents.{Contents}
use Rattle.routes.specs.declared.node.Node.{Node}
use Rattle.routes.specs.declared.node.Node.TheVariants.{ARouter}
use Rattle.routes.specs.declared.offer.Offer.{Offer}
use Rattle.routes.specs.declared.root.Root.{Root}
use Rattle.route_laws.specs.Forwarding.{EachHopIsNearer}
use Rattle.candidates.proofs.CheapestWalks.{counted, is_root}
use Rattle.candidates.proofs.LeastWalks as least
use Rattle.route_laws.proofs.Nearer.{IsNearer, each_hop, reached_next}

-- ---- a list has a route for the prefix, or has none

same_network : (a b : Network) → (a ≡ b) ⊎ (a ≡ b → ⊥)
same_network a b =
    elim (cases_eq a.address b.address) [
      | inr other ↦ inr (λ e. other (ap (λ (n : Network). n.address) e))
      | inl address ↦
          elim (cases_eq a.length b.length) [
            | inr other ↦ inr (λ e. other (ap (λ (n : Network). n.length) e))
            | inl long ↦ inl (λ i. record { address = address i; length = long i })
          ]
    ]

abbrev pub HasRoute : List Route → Network → Type 0
HasRoute routes prefix = (r : Route) × Contains routes r × (r.prefix ≡ prefix)

pub has_route : (routes : List Route) (prefix : Network) → HasRoute routes prefix
    ⊎ (HasRoute routes prefix → ⊥)
has_route [] prefix = inr (λ h. of_empty h.0 h.1)
has_route (r ∷ routes) prefix =
    elim (same_network r.prefix prefix) [
      | inl e ↦ inl (r, first_is r routes, e)
      | inr other ↦
          elim (has_route routes prefix) [
            | inl h ↦ inl (h.0, later_is r routes h.0 h.1, h.2)
            | inr none ↦ inr (λ h. elim (of_cons r routes h.0 h.1) [
              | inl here ↦ other (ap (λ (x : Route). x.prefix) here ∙ h.2)
              | inr later ↦ none (h.0, later, h.2)
            ])
          ]
    ]

-- ---- what a walk reaches is offered

module _ (contents : Contents) (root : Root) where
  pub exit_within : (target : Node) (price exit : ℕ)
      → LeadsTo contents root (ARouter root.router) target price exit → exit
      < length root.addresses + 1
  exit_within target price exit l = (counted contents root target price exit l).1

  offered : (prefix : Network) (cost i : ℕ) (x : IsReached contents root prefix cost i) (w : Way)
      → IsWay (Leads contents root) (ARouter root.router) x.node w → (o : Offer)
      × Offers contents root o
      × (o.prefix ≡ prefix)
  offered prefix cost i x w is =
      elim (is_root contents root x.node) [
        | inl e ↦ by_hops 1 (λ _. refl) (λ other. absurd (other e))
        | inr other ↦ by_hops w.hops (λ e. absurd (other e)) (λ _. refl)
      ]
    where
      by_hops : (hops : ℕ) → (x.node ≡ ARouter root.router → hops ≡ 1)
          → ((x.node ≡ ARouter root.router → ⊥) → hops ≡ w.hops) → (o : Offer)
          × Offers contents root o × (o.prefix ≡ prefix)
      by_hops hops by_root by_others = (
        intra prefix (w.distance + x.more) hops,
        Within (record {
          node = x.node;
          prefix = prefix;
          more = x.more;
          attached = x.attached;
          way = w;
          reached = is;
          hops = hops;
          by_root = by_root;
          by_others = by_others;
          is = refl;
        }),
        refl,
      )

  pub has_one : EveryOfferHasACandidate → (routes : List Route) → AreCandidates contents root routes
      → (prefix : Network) (cost i : ℕ) → IsReached contents root prefix cost i → (r : Route)
      × Contains routes r × (r.prefix ≡ prefix)
  has_one every routes are prefix cost i x =
      elim (has_route routes prefix) [
        | inl h ↦ h
        | inr none ↦ absurd (
            least.way (Leads contents root) (ARouter root.router) x.node (length root.addresses + 1)
            (λ s l. exit_within s.target s.cost s.exit l) x.walk x.is_walk (λ w.
            let o = offered prefix cost i x w.0 w.1 in
            let r = every contents root routes o.0 are o.1 in
            none (r.0, r.1, r.2 ∙ o.2)))
      ]

pub each_is_nearer : CandidatesAreCheapestWalks → EveryOfferHasACandidate → EachHopIsNearer
each_is_nearer laws every = record {
  nearer = λ contents root next route is within hands own. each_hop laws contents root next route is
      within
      hands own;
  has_one = λ contents root next route is within hands own routes are.
      let n : IsNearer contents next route.prefix route.cost =
      reached_next laws contents root next route is within hands own in
      has_one contents next every routes are route.prefix n.less n.by n.reached;
}
