-- Candidates within the area are the cheapest walks.
use Rattle.std.proofs.Common.{◌≡◌, ℕ, zero, suc, ◌+◌, ◌<◌, ◌≤◌, ◌⊎◌, ◌↔◌, inl, inr, Bool, true}
use Rattle.std.proofs.Common.{false, IsTrue, List, [], ◌∷◌, length, arith, refl, sym, ◌∙◌, ap}
use Rattle.std.proofs.Common.{subst}
use Rattle.std.specs.Int.{bit_at}
use Rattle.std.proofs.lemmas.Bool.{cases_eq, cases_lt}
use Rattle.std.proofs.lemmas.Nat.Bits.{bit_at-suc, bit_at-zero}
use Rattle.std.proofs.lemmas.Option.{slice_get_within}
use Rattle.words.specs.Interfaces.{has_interface}
use Rattle.words.specs.Prefixes.{Network}
use Rattle.words.specs.declared.route.ExternalType.{ExternalType}
use Rattle.words.specs.declared.route.ExternalType.TheVariants.{Type1, Type2}
use Rattle.words.specs.declared.route.Route.{Route}
use Rattle.words.specs.declared.route.RouteKind.{RouteKind}
use Rattle.words.specs.declared.route.RouteKind.TheVariants.{External1, External2, Inter, Intra}
use Rattle.lsa.specs.declared.body.ExternalLsa.{ExternalLsa}
use Rattle.lsa.specs.declared.body.LinkKind.{LinkKind}
use Rattle.routes.specs.Candidates.{IsBest, IsCandidate, Offers, external_offer}
use Rattle.routes.specs.Candidates.Offers.{Between, External, Within}
use Rattle.candidates.specs.Laws.{CandidatesAreCheapestWalks, IsReached, first_exit}
use Rattle.routes.specs.Links.{Counts, Leads, LeadsTo}
use Rattle.routes.specs.declared.node.Node.{Node}
use Rattle.routes.specs.declared.node.Node.TheVariants.{ANetwork, ARouter}
use Rattle.routes.specs.Offers.{OffersWithin, intra}
use Rattle.routes.specs.declared.offer.Offer.{Offer}
use Rattle.routes.specs.Routes.IsNoWorse.{ByCost, ByDistance, ByKind}
use Rattle.routes.specs.Paths.{IsLeastWalk, IsWalk, IsWay, Step, Way, cost_of}
use Rattle.routes.specs.declared.root.Root.{Root}
use Rattle.routes.proofs.Determined.{AreAlike, alike, as_good, bit_of_member}
use Rattle.candidates.proofs.LeastWalks as least
use Rattle.routes.specs.Contents.{Contents}
use Rattle.routes.specs.Routes.{IsNoWorse, rank}

-- ---- offers in parallel

pub no_worse_kind : (a b : Offer) → IsNoWorse a b → rank a.kind ≤ rank b.kind
no_worse_kind a b (ByKind p) = omega (arith, p)
no_worse_kind a b (ByCost p q) = omega (arith, p)
no_worse_kind a b (ByDistance p q r) = omega (arith, p)

no_dearer : (a b : Offer) → rank a.kind ≡ rank b.kind → IsNoWorse a b → a.cost ≤ b.cost
no_dearer a b e (ByKind p) = absurd (omega (arith, p, e))
no_dearer a b e (ByCost p q) = omega (arith, q)
no_dearer a b e (ByDistance p q r) = omega (arith, q)

no_farther : (a b : Offer) → rank a.kind ≡ rank b.kind → a.cost ≡ b.cost → IsNoWorse a b
    → a.distance ≤ b.distance
no_farther a b e f (ByKind p) = absurd (omega (arith, p, e))
no_farther a b e f (ByCost p q) = absurd (omega (arith, q, f))
no_farther a b e f (ByDistance p q r) = r

intra_or_not : (k : RouteKind) → (k ≡ Intra) ⊎ (1 ≤ rank k)
intra_or_not Intra = inl refl
intra_or_not Inter = inr (omega arith)
intra_or_not External1 = inr (omega arith)
intra_or_not External2 = inr (omega arith)

pub external_rank : (t : ExternalType) (prefix : Network) (lsa : ExternalLsa) (originator : ℕ)
    (way : Way) → 1 ≤ rank (external_offer t prefix lsa originator way).kind
external_rank Type1 prefix lsa originator way = omega arith
external_rank Type2 prefix lsa originator way = omega arith

pub only_zero : (i : ℕ) → IsTrue (has_interface 1 i) → i ≡ 0
only_zero zero t = refl
only_zero (suc i) t = absurd (let e : bit_at 1 (suc i) ≡ 0 = bit_at-suc 1 i ∙ bit_at-zero i in
    omega (arith, e, bit_of_member 1 (suc i) t))

module _ (contents : Contents) (root : Root) where
  start : Node
  start = ARouter root.router

  from_count : (kind : LinkKind) (id price exit : ℕ)
      → Counts contents root root.router kind id price exit
      → (0 < price) × (exit < length root.addresses + 1)
  from_count kind id price exit c =
      let by = c.by_interface refl in (
        c.not_free,
        let within : by.0 < length root.addresses =
            slice_get_within root.addresses by.0 c.link.link_data by.2 in
            omega (arith, within, by.1),
      )

  -- the root's links cost something, and leave by its interfaces
  pub counted : (target : Node) (price exit : ℕ)
      → LeadsTo contents root (ARouter root.router) target price exit
      → (0 < price) × (exit < length root.addresses + 1)
  counted (ARouter b) price exit l = from_count _ b price exit l.0
  counted (ANetwork id by) price exit l = from_count _ id price exit l.0

  pub is_root : (node : Node) → (node ≡ ARouter root.router) ⊎ (node ≡ ARouter root.router → ⊥)
  is_root (ANetwork id by) = inr (λ e. cc)
  is_root (ARouter router) =
      elim (cases_eq router root.router) [
        | inl e ↦ inl (ap (λ n. ARouter n) e)
        | inr other ↦ inr (λ e. let same : router ≡ root.router = cc in other same)
      ]

  -- ---- from walks to offers

  least_is : (node : Node) (w : Way) → IsWay (Leads contents root) (ARouter root.router) node w
      → (walk : List (Step Node)) → IsWalk (Leads contents root) (ARouter root.router) walk node
      → w.distance ≡ cost_of walk → IsLeastWalk (Leads contents root) (ARouter root.router) walk
      node
  least_is node w is walk p e = record {
    is_walk = p;
    least = λ other q. omega (arith, e, is.distance.2, is.distance.1.least other q);
  }

  at_root : (node : Node) (walk : List (Step Node)) (i : ℕ)
      → IsWalk (Leads contents root) (ARouter root.router) walk node → cost_of walk ≡ 0
      → i ≡ first_exit walk → IsTrue (has_interface 1 i)
  at_root node [] i p e f = let P : ℕ → Type 0 = λ k. IsTrue (has_interface 1 k) in
      subst P (sym f) refl
  at_root node (step ∷ rest) i p e f =
      absurd (let free = counted step.target step.cost step.exit p.0 in omega (arith, free.0, e))

  elsewhere : (node : Node) (w : Way) → IsWay (Leads contents root) (ARouter root.router) node w
      → (node ≡ ARouter root.router → ⊥) → (walk : List (Step Node)) (i : ℕ)
      → IsWalk (Leads contents root) (ARouter root.router) walk node → w.distance ≡ cost_of walk
      → i ≡ first_exit walk → IsTrue (has_interface w.hops i)
  elsewhere node w is other [] i p e f = absurd (other (sym p))
  elsewhere node w is other (step ∷ rest) i p e f =
      (is.hops i).1 (step, rest, least_is node w is (step ∷ rest) p e, sym f)

  -- an offer that costs no more than the walk, and with its interface if it costs the same
  record Stands (prefix : Network) (cost interface : ℕ) : Type 0 where
    offer : Offer
    offered : OffersWithin contents root offer
    is_for : offer.prefix ≡ prefix
    kind : rank offer.kind ≡ 0
    distance : offer.distance ≡ 0
    costs : offer.cost ≤ cost
    hops : offer.cost ≡ cost → IsTrue (has_interface offer.hops interface)

  stands_at_root : (prefix : Network) (cost i : ℕ) (x : IsReached contents root prefix cost i)
      → x.node ≡ ARouter root.router → (w : Way)
      → IsWay (Leads contents root) (ARouter root.router) x.node w → Stands prefix cost i
  stands_at_root prefix cost i x e w is =
      let near : w.distance ≤ cost_of x.walk =
      omega (arith, is.distance.2, is.distance.1.least x.walk x.is_walk) in
      let nothing : w.distance ≤ 0 = omega (arith, is.distance.2, is.distance.1.least [] (sym e)) in
      record {
        offer = intra prefix (w.distance + x.more) 1;
        offered = record {
          node = x.node;
          prefix = prefix;
          more = x.more;
          attached = x.attached;
          way = w;
          reached = is;
          hops = 1;
          by_root = λ _. refl;
          by_others = λ other. absurd (other e);
          is = refl;
        };
        is_for = refl;
        kind = refl;
        distance = refl;
        costs = omega (arith, near, x.costs);
        hops = λ same. at_root x.node x.walk i x.is_walk
            (omega (arith, near, nothing, x.costs, same)) x.leaves_by;
      }

  stands_elsewhere : (prefix : Network) (cost i : ℕ) (x : IsReached contents root prefix cost i)
      → (x.node ≡ ARouter root.router → ⊥) → (w : Way)
      → IsWay (Leads contents root) (ARouter root.router) x.node w → Stands prefix cost i
  stands_elsewhere prefix cost i x other w is =
      let near : w.distance ≤ cost_of x.walk =
      omega (arith, is.distance.2, is.distance.1.least x.walk x.is_walk) in
      record {
        offer = intra prefix (w.distance + x.more) w.hops;
        offered = record {
          node = x.node;
          prefix = prefix;
          more = x.more;
          attached = x.attached;
          way = w;
          reached = is;
          hops = w.hops;
          by_root = λ e. absurd (other e);
          by_others = λ _. refl;
          is = refl;
        };
        is_for = refl;
        kind = refl;
        distance = refl;
        costs = omega (arith, near, x.costs);
        hops = λ same. elsewhere x.node w is other x.walk i x.is_walk
            (omega (arith, near, x.costs, same)) x.leaves_by;
      }

  stands : (prefix : Network) (cost i : ℕ) → IsReached contents root prefix cost i
      → (Stands prefix cost i → ⊥) → ⊥
  stands prefix cost i x none =
      least.way (Leads contents root) (ARouter root.router) x.node (length root.addresses + 1)
      (λ s l. (counted s.target s.cost s.exit l).1) x.walk x.is_walk (λ w.
      elim (is_root x.node) [
        | inl e ↦ none (stands_at_root prefix cost i x e w.0 w.1)
        | inr other ↦ none (stands_elsewhere prefix cost i x other w.0 w.1)
      ])

  -- ---- from offers to walks

  within_of : (o : Offer) → rank o.kind ≡ 0 → Offers contents root o → OffersWithin contents root o
  within_of o e (Within p) = p
  within_of o e (Between p) = absurd
      (let kind : rank o.kind ≡ 1 = ap (λ (x : Offer). rank x.kind) p.is in omega (arith, e, kind))
  within_of o e (External p) = absurd
      (omega (
        arith,
        e,
        ap (λ (x : Offer). rank x.kind) p.is,
        external_rank p.lsa.kind p.prefix p.lsa p.originator p.way,
      ))

  walk_of : (o : Offer) → OffersWithin contents root o → (i : ℕ)
      × IsReached contents root o.prefix o.cost i
  walk_of o x =
      let Reached : Offer → Type 0 = λ y. (i : ℕ) × IsReached contents root y.prefix y.cost i in
      subst Reached (sym x.is) (
        first_exit x.reached.distance.0,
        record {
          node = x.node;
          more = x.more;
          attached = x.attached;
          walk = x.reached.distance.0;
          is_walk = x.reached.distance.1.is_walk;
          costs = omega (arith, x.reached.distance.2);
          leaves_by = refl;
        },
      )

  hop_of : (o : Offer) (i : ℕ) → OffersWithin contents root o → IsTrue (has_interface o.hops i)
      → IsReached contents root o.prefix o.cost i
  hop_of o i x t =
      let Reached : Offer → Type 0 = λ y. IsReached contents root y.prefix y.cost i in
      let Has : ℕ → Type 0 = λ hops. IsTrue (has_interface hops i) in
      let has : Has x.hops = subst Has (ap (λ (y : Offer). y.hops) x.is) t in
      let leads : Node → Step Node → Type 0 = Leads contents root in
      subst Reached (sym x.is)
      (elim (is_root x.node) [
        | inl e ↦
            let zero_hop : i ≡ 0 = only_zero i (subst Has (x.by_root e) has) in
            let nothing : x.way.distance ≤ 0 =
            omega (arith, x.reached.distance.2, x.reached.distance.1.least [] (sym e)) in
            record {
              node = x.node;
              more = x.more;
              attached = x.attached;
              walk = [];
              is_walk = sym e;
              costs = omega (arith, nothing);
              leaves_by = zero_hop;
            }
        | inr other ↦
            let hop = (x.reached.hops i).0 (subst Has (x.by_others other) has) in
            let same : x.way.distance ≡ cost_of (hop.0 ∷ hop.1) =
            omega (
              arith,
              x.reached.distance.2,
              x.reached.distance.1.least (hop.0 ∷ hop.1) hop.2.is_walk,
              hop.2.least x.reached.distance.0 x.reached.distance.1.is_walk,
            ) in
            record {
              node = x.node;
              more = x.more;
              attached = x.attached;
              walk = hop.0 ∷ hop.1;
              is_walk = hop.2.is_walk;
              costs = omega (arith, same);
              leaves_by = sym hop.3;
            }
      ])

  -- ---- candidates

  is_preferred : (r : Route) (cost i : ℕ) → IsCandidate contents root r
      → IsReached contents root r.prefix cost i → r.kind ≡ Intra
  is_preferred r cost i k x =
      elim (intra_or_not r.kind) [
        | inl e ↦ e
        | inr worse ↦ absurd (stands r.prefix cost i x (λ s.
            omega (
              arith,
              worse,
              ap rank k.kind,
              s.kind,
              no_worse_kind k.first s.offer
                  (k.is_best.best s.offer (Within s.offered) s.is_for),
            )))
      ]

  first_rank : (r : Route) (k : IsCandidate contents root r) → r.kind ≡ Intra
      → rank k.first.kind ≡ 0
  first_rank r k e = ap rank (sym k.kind ∙ e)

  is_cheapest : (r : Route) (cost i : ℕ) → IsCandidate contents root r
      → IsReached contents root r.prefix cost i → r.cost ≤ cost
  is_cheapest r cost i k x =
      elim (cases_lt cost r.cost) [
        | inr enough ↦ enough
        | inl less ↦ absurd (stands r.prefix cost i x (λ s.
            let same : rank k.first.kind ≡ rank s.offer.kind =
            first_rank r k (is_preferred r cost i k x) ∙ sym s.kind in
            omega (
              arith,
              less,
              k.cost,
              s.costs,
              no_dearer k.first s.offer same
                  (k.is_best.best s.offer (Within s.offered) s.is_for),
            )))
      ]

  is_reached : (r : Route) → IsCandidate contents root r → r.kind ≡ Intra
      → (i : ℕ) × IsReached contents root r.prefix r.cost i
  is_reached r k e =
      let walk = walk_of k.first (within_of k.first (first_rank r k e) k.is_best.offered) in
      let P : Network → Type 0 = λ n. IsReached contents root n r.cost walk.0 in
      let Q : ℕ → Type 0 = λ c. IsReached contents root k.first.prefix c walk.0 in
      (walk.0, subst P k.is_best.is_for (subst Q (sym k.cost) walk.1))

  hop_is_reached : (r : Route) (i : ℕ) → IsCandidate contents root r → r.kind ≡ Intra
      → IsTrue (has_interface r.hops i) → IsReached contents root r.prefix r.cost i
  hop_is_reached r i k e t =
      let hop = (k.hops i).0 t in
      let o : Offer = hop.0 in
      let same : AreAlike k.first o = alike k.first o (k.is_best.best o hop.1.offered hop.1.is_for)
      (hop.1.best k.first k.is_best.offered k.is_best.is_for) in
      let walk : IsReached contents root o.prefix o.cost i =
      hop_of o i (within_of o (sym same.kind ∙ first_rank r k e) hop.1.offered) hop.2 in
      let cost : o.cost ≡ r.cost = sym same.cost ∙ sym k.cost in
      let P : Network → Type 0 = λ n. IsReached contents root n r.cost i in
      let Q : ℕ → Type 0 = λ c. IsReached contents root o.prefix c i in
      subst P hop.1.is_for (subst Q cost walk)

  reached_is_hop : (r : Route) (i : ℕ) → IsCandidate contents root r → r.kind ≡ Intra
      → (x : IsReached contents root r.prefix r.cost i) → (IsTrue (has_interface r.hops i) → ⊥) → ⊥
  reached_is_hop r i k e x never =
      stands r.prefix r.cost i x (λ s.
      let best : IsNoWorse k.first s.offer = k.is_best.best s.offer (Within s.offered) s.is_for in
      let kind : rank k.first.kind ≡ rank s.offer.kind = first_rank r k e ∙ sym s.kind in
      let dear : k.first.cost ≤ s.offer.cost = no_dearer k.first s.offer kind best in
      let cost : k.first.cost ≡ s.offer.cost = omega (arith, dear, k.cost, s.costs) in
      let far : k.first.distance ≤ s.offer.distance = no_farther k.first s.offer kind cost best in
      let same : AreAlike k.first s.offer = record {
        kind = kind;
        cost = cost;
        distance = omega (arith, far, s.distance);
      } in
      let is_best : IsBest contents root r.prefix s.offer = record {
        offered = Within s.offered;
        is_for = s.is_for;
        best = λ other offered for. as_good k.first s.offer other same
            (k.is_best.best other offered for);
      } in
      never ((k.hops i).1 (s.offer, is_best, s.hops (sym cost ∙ sym k.cost))))

  stable : (b : Bool) → ((b ≡ true → ⊥) → ⊥) → b ≡ true
  stable true p = refl
  stable false p = absurd (p (λ e. cc))

  is_hop : (r : Route) → IsCandidate contents root r → r.kind ≡ Intra → (i : ℕ)
      → IsTrue (has_interface r.hops i) ↔ IsReached contents root r.prefix r.cost i
  is_hop r k e i = (
    λ t. hop_is_reached r i k e t,
    λ x. stable (has_interface r.hops i) (reached_is_hop r i k e x),
  )

pub cheapest_walks : CandidatesAreCheapestWalks
cheapest_walks = record {
  preferred = λ contents root r cost i k x. is_preferred contents root r cost i k x;
  cheapest = λ contents root r cost i k x. is_cheapest contents root r cost i k x;
  reached = λ contents root r k e. is_reached contents root r k e;
  hops = λ contents root r k e i. is_hop contents root r k e i;
}
