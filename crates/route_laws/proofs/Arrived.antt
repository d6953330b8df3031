-- A packet is forwarded at decreasing costs, until a router is attached to the network.
use Rattle.std.proofs.Common.{◌≡◌, ℕ, zero, suc, ◌<◌, ◌⊎◌, inl, inr, Bool, true, false, IsTrue}
use Rattle.std.proofs.Common.{List, [], ◌∷◌, arith, refl, ◌∙◌, subst}
use Rattle.std.specs.List.{Contains}
use Rattle.std.proofs.lemmas.Bool.{cases_lt}
use Rattle.words.specs.Interfaces.{has_interface}
use Rattle.words.specs.Prefixes.{Network}
use Rattle.words.specs.declared.route.Route.{Route}
use Rattle.words.specs.declared.route.RouteKind.TheVariants.{Intra}
use Rattle.candidates.specs.Laws.{CandidatesAreCheapestWalks, EveryOfferHasACandidate}
use Rattle.routes.specs.Candidates.{IsCandidate}
use Rattle.routes.specs.Offers.{Attaches}
use Rattle.routes.specs.Contents.{Contents}
use Rattle.routes.specs.declared.node.Node.TheVariants.{ARouter}
use Rattle.routes.specs.declared.root.Root.{Root}
use Rattle.route_laws.specs.Forwarding.{AreRouters, EachHopIsNearer, ForwardsFor, HandsOn}
use Rattle.route_laws.specs.Forwarding.{IsPassedOn, PacketsArrive, RoutesEndAtTheNetwork, Stop}
use Rattle.route_laws.specs.Forwarding.{last_of}
use Rattle.route_laws.proofs.Found.{each_is_nearer}
use Rattle.route_laws.proofs.Nearer.{last_hop}

pub true_or_not : (b : Bool) → (b ≡ true) ⊎ (b ≡ true → ⊥)
true_or_not true = inl refl
true_or_not false = inr (λ e. cc)

module _ (hops : EachHopIsNearer) (end : RoutesEndAtTheNetwork) (contents : Contents)
    (routers : List Root)
    (table : Root → List Route) (are : AreRouters contents routers table) (prefix : Network) where
  pub record ArrivesFor (first : Stop) : Type 0 where
    pub others : List Stop
    pub passed_on : IsPassedOn contents (ForwardsFor contents prefix) (first ∷ others)
    pub attached : Attaches contents (ARouter (last_of first others).root.router) prefix
        (last_of first others).route.cost

  candidate : (first : Stop) → Contains routers first.root → Contains (table first.root) first.route
      → IsCandidate contents first.root first.route
  candidate first among its = ((are.is_table first.root among).each first.route).0 its

  forwards : (first : Stop) → Contains routers first.root → Contains (table first.root) first.route
      → first.route.prefix ≡ prefix → ForwardsFor contents prefix first
  forwards first among its e = record {
    own = are.own first.root among;
    candidate = candidate first among its;
    is_for = e;
  }

  abbrev pub ArrivesBelow : ℕ → Type 0
  ArrivesBelow cost = (first : Stop) → first.route.cost < cost → Contains routers first.root
      → Contains (table first.root) first.route → first.route.kind ≡ Intra → first.route.prefix
      ≡ prefix → ArrivesFor first

  on : (first : Stop) → ArrivesBelow first.route.cost → Contains routers first.root
      → Contains (table first.root) first.route → first.route.kind ≡ Intra → first.route.prefix
      ≡ prefix → (i : ℕ) → 0 < i → IsTrue (has_interface first.route.hops i) → ArrivesFor first
  on first below among its within e i away t =
      let next = are.joined first.root among first.route its i away t in
      let hands : HandsOn contents first.root first.route next.0.router = record {
        interface = i;
        away = away;
        is_hop = t;
        other_end = next.2;
      } in
      let is : IsCandidate contents first.root first.route = candidate first among its in
      let own = are.own next.0 next.1 in
      let r = hops.has_one contents first.root next.0 first.route is within hands own (table next.0)
      (are.is_table next.0 next.1) in
      let stop : Stop = record { root = next.0; route = r.0 } in
      let near = hops.nearer contents first.root next.0 first.route is within hands own r.0
      (candidate stop next.1 r.1) r.2 in
      let rest : ArrivesFor stop = below stop near.1 next.1 r.1 near.0 (r.2 ∙ e) in
      record {
        others = stop ∷ rest.others;
        passed_on = (forwards first among its e, hands, rest.passed_on);
        attached = rest.attached;
      }

  from : (first : Stop) → ArrivesBelow first.route.cost → Contains routers first.root
      → Contains (table first.root) first.route → first.route.kind ≡ Intra → first.route.prefix
      ≡ prefix → ArrivesFor first
  from first below among its within e =
      elim (true_or_not (has_interface first.route.hops 0)) [
        | inl own ↦ (
            let P : Network → Type 0 = λ p. Attaches contents (ARouter first.root.router) p
            first.route.cost in
            record {
              others = [];
              passed_on = forwards first among its e;
              attached =
                  subst P e (end.attached contents first.root first.route
                  (candidate first among its)
                  within own);
            })
        | inr other ↦
            let hop = end.some_hop contents first.root first.route (candidate first among its)
            within in
            elim (cases_lt 0 hop.0) [
              | inl away ↦ on first below among its within e hop.0 away hop.1
              | inr none ↦ absurd (let itself : hop.0 ≡ 0 = omega (arith, none) in let P : ℕ
                  → Type 0 = λ i. IsTrue (has_interface first.route.hops i) in
                  other (subst P itself hop.1))
            ]
      ]

  pub arrives : (n : ℕ) → ArrivesBelow n
  arrives zero first low among its within e = absurd (omega (arith, low))
  arrives (suc n) first low among its within e =
      from first (λ next less. arrives n next (omega (arith, low, less))) among its within e

pub arrive : CandidatesAreCheapestWalks → EveryOfferHasACandidate → PacketsArrive
arrive laws every contents routers table are first among its within =
    let a = arrives (each_is_nearer laws every) (last_hop laws) contents routers table are
    first.route.prefix (suc first.route.cost) first (omega arith) among its within refl in
    record { others = a.others; passed_on = a.passed_on; attached = a.attached }
