-- Properties of each router of a converged topology; no walk leads out of the topology.
use Rattle.std.proofs.Common.{◌≡◌, ℕ, List, [], ◌∷◌, Some, bit_and, arith, refl, sym, ◌∙◌, ap}
use Rattle.std.proofs.Common.{subst}
use Rattle.std.specs.List.{flat_map}
use Rattle.lsa.specs.declared.body.LsaBody.TheVariants as body
use Rattle.lsa.specs.declared.body.RouterLsa.{RouterLsa}
use Rattle.event_rules.specs.Originations.{links_of, router_body}
use Rattle.routes.specs.Candidates.{AreCandidates}
use Rattle.routes.specs.Links.{IsRouterLsa, Leads, LeadsTo}
use Rattle.routes.specs.Paths.{IsWalk, IsWay, Step, Way}
use Rattle.routes.specs.Offers.{ReachesBoundaryRouter}
use Rattle.routes.specs.Contents.{Contents}
use Rattle.routes.specs.Summaries.{IsBoundaryWay, OffersBetween, ReachesBorderRouter}
use Rattle.routes.specs.Summaries.IsBoundaryWay.{Inside, Outside}
use Rattle.routes.specs.declared.offer.Offer.{Offer}
use Rattle.routes.specs.declared.node.Node.{Node}
use Rattle.routes.specs.declared.node.Node.TheVariants.{ARouter}
use Rattle.route_laws.specs.Forwarding.{NamesItsInterfaces}
use Rattle.route_laws.proofs.Nearer.{leads_there}
use Rattle.route_laws.specs.Premises.{HaveOwnAddresses, IsCurrent}
use Rattle.route_laws.specs.Premises.{OwnRouterLsasMeetThePremises}
use Rattle.route_laws.specs.Topologies.{Forwarder, HasConverged, IsUpToDate, StandsAt}
use Rattle.route_laws.specs.Topologies.{Topology, root_of, says_of}

-- for one router whose database says this
pub record IsMember (contents : Contents) (f : Forwarder) : Type 0 where
  pub current : IsCurrent contents f.router.id f.router.area.links
  pub candidates : AreCandidates contents (root_of f.router) f.table

its_own : (f : Forwarder) → IsUpToDate f → IsMember (says_of f.router) f
its_own f u = record {
  current = u.is_current.current;
  candidates = (let c = u.is_current in record {
    each = λ r. (λ t. ((c.is_table.each r).0 t).0, λ k. (c.is_table.each r).1 (k, c.let_in r k));
    ascending = c.is_table.ascending;
  });
}

pub one_forwarder : (topology : Topology) (place : ℕ) (a b : Forwarder) → StandsAt topology place a
    → StandsAt topology place b → a ≡ b
one_forwarder topology place a b p q = let e : Some a ≡ Some b = sym p ∙ q in cc

module _ (topology : Topology) (converged : HasConverged topology)
    (premises : OwnRouterLsasMeetThePremises) where
  pub same_says : (place other : ℕ) (a b : Forwarder) → StandsAt topology place a
      → StandsAt topology other b → says_of a.router ≡ says_of b.router
  same_says place other a b p q = λ i. λ key. converged.agree place other a b p q key i

  -- for each router, in terms of any router's database
  pub member : (place other : ℕ) (a b : Forwarder) → StandsAt topology place a
      → StandsAt topology other b → IsMember (says_of a.router) b
  member place other a b p q =
      let P : Contents → Type 0 = λ s. IsMember s b in
      subst P (same_says other place b a q p) (its_own b (converged.up_to_date other b q))

  pub addresses : (place : ℕ) (a : Forwarder) → StandsAt topology place a
      → HaveOwnAddresses a.router.area.links
  addresses place a p = (converged.up_to_date place a p).addresses

  pub names : (place other : ℕ) (a b : Forwarder) → StandsAt topology place a
      → StandsAt topology other b → NamesItsInterfaces (says_of a.router) (root_of b.router)
  names place other a b p q = premises.own (says_of a.router) b.router.id b.router.area.links
      (member place other a b p q).current

  -- ---- no walk leads out

  pub record IsAmong (node : Node) : Type 0 where
    pub place : ℕ
    pub forwarder : Forwarder
    pub stands : StandsAt topology place forwarder
    pub is : node ≡ ARouter forwarder.router.id

  -- links that count for any of the routers
  step_among : (place root : ℕ) (a b : Forwarder) → StandsAt topology place a
      → StandsAt topology root b → (from target : Node) (price exit : ℕ) → IsAmong from
      → LeadsTo (says_of a.router) (root_of b.router) from target price exit → IsAmong target
  step_among place root a b p q from target price exit f l =
      let c : Forwarder = f.forwarder in
      let contents : Contents = says_of a.router in
      let L : Node → Type 0 = λ n. LeadsTo contents (root_of b.router) n target price exit in
      let there = leads_there contents (root_of b.router) (root_of c.router)
      (names place f.place a c p f.stands) (ARouter c.router.id) target price exit
      (subst L f.is l) in
      let along = premises.leads contents c.router.id c.router.area.links
      (member place f.place a c p f.stands).current (addresses f.place c f.stands) target price
      there.0 there.1 in
      let next = converged.joined f.place c f.stands there.0 along.neighbor along.is_on along.full
      in
      record {
        place = next.other;
        forwarder = next.forwarder;
        stands = next.stands;
        is = along.is_target
            ∙ ap (λ n. ARouter n) (sym next.is);
      }

  walk_among : (place root : ℕ) (a b : Forwarder) → StandsAt topology place a
      → StandsAt topology root b → (from node : Node) (walk : List (Step Node)) → IsAmong from
      → IsWalk (Leads (says_of a.router) (root_of b.router)) from walk node → IsAmong node
  walk_among place root a b p q from node [] f is = let P : Node → Type 0 = λ n. IsAmong n in
      subst P is f
  walk_among place root a b p q from node (step ∷ rest) f is =
      walk_among place root a b p q step.target node rest
      (step_among place root a b p q from step.target step.cost step.exit f is.0) is.1

  pub reached_among : (place root : ℕ) (a b : Forwarder) → StandsAt topology place a
      → StandsAt topology root b → (node : Node) (way : Way)
      → IsWay (Leads (says_of a.router) (root_of b.router)) (ARouter b.router.id) node way
      → IsAmong node
  reached_among place root a b p q node way is =
      walk_among place root a b p q (ARouter b.router.id) node is.distance.0 (record {
        place = root;
        forwarder = b;
        stands = q;
        is = refl;
      }) is.distance.1.is_walk

  -- none is an area border router
  pub no_border : (place root : ℕ) (a b : Forwarder) → StandsAt topology place a
      → StandsAt topology root b → (router : ℕ) (way : Way)
      → ReachesBorderRouter (says_of a.router) (root_of b.router) router way → ⊥
  no_border place root a b p q router way r =
      let g = reached_among place root a b p q (ARouter router) way r.reached in
      let current = (member place g.place a g.forwarder p g.stands).current in
      let e : ARouter router ≡ ARouter g.forwarder.router.id = g.is in
      let same : router ≡ g.forwarder.router.id = cc in
      let R : ℕ → Type 0 = λ n. IsRouterLsa (says_of a.router) n r.lsa in
      let contents : Some (body.Router r.lsa) ≡ Some (router_body g.forwarder.router.area.links) =
      sym (subst R same r.its) ∙ current in
      let are : r.lsa ≡ record {
        flags = 2;
        links = flat_map links_of g.forwarder.router.area.links;
      } = cc in
      let none : 0 ≡ 1 = ap (λ (x : RouterLsa). bit_and x.flags 1) (sym are) ∙ r.has_b in
      omega (arith, none)

  -- so nothing is offered from another area
  pub none_between : (place root : ℕ) (a b : Forwarder) → StandsAt topology place a
      → StandsAt topology root b → (o : Offer)
      → OffersBetween (says_of a.router) (root_of b.router) o → ⊥
  none_between place root a b p q o x =
      no_border place root a b p q x.originator x.border x.counts.reaches

  pub is_inside : (place root : ℕ) (a b : Forwarder) → StandsAt topology place a
      → StandsAt topology root b → (router : ℕ) (way : Way)
      → IsBoundaryWay (says_of a.router) (root_of b.router) router way
      → ReachesBoundaryRouter (says_of a.router) (root_of b.router) router way
  is_inside place root a b p q router way (Inside r) = r
  is_inside place root a b p q router way (Outside never x) =
      absurd (no_border place root a b p q x.advertised.originator x.border
      x.advertised.counts.reaches)
