-- A walk from one root is a walk from another whose router-LSA is its own, so that the rest of a
-- least-cost walk counts at the next router.
use Rattle.std.proofs.Common.{◌≡◌, ℕ, ◌+◌, ◌<◌, ◌≤◌, ◌⊎◌, inl, inr, IsTrue, List, [], ◌∷◌, length}
use Rattle.std.proofs.Common.{arith, refl, sym, subst}
use Rattle.std.proofs.lemmas.Bool.{cases_eq}
use Rattle.std.proofs.lemmas.Option.{slice_get_read}
use Rattle.words.specs.Interfaces.{has_interface}
use Rattle.words.specs.Prefixes.{Network}
use Rattle.words.specs.declared.route.Route.{Route}
use Rattle.words.specs.declared.route.RouteKind.TheVariants.{Intra}
use Rattle.lsa.specs.declared.body.LinkKind.{LinkKind}
use Rattle.lsa.specs.declared.body.LinkKind.TheVariants.{PointToPoint, Transit}
use Rattle.candidates.specs.Laws.{CandidatesAreCheapestWalks, IsReached, first_exit}
use Rattle.routes.specs.Candidates.{IsCandidate}
use Rattle.routes.specs.Links.{Counts, HasLink, Leads, LeadsTo}
use Rattle.routes.specs.Offers.{Attaches}
use Rattle.routes.specs.Paths.{IsWalk, Step, cost_of}
use Rattle.routes.specs.Contents.{Contents}
use Rattle.routes.specs.declared.node.Node.{Node}
use Rattle.routes.specs.declared.node.Node.TheVariants.{ANetwork, ARouter}
use Rattle.routes.specs.declared.root.Root.{Root}
use Rattle.route_laws.specs.Forwarding.{HandsOn, IsOtherEnd, NamesItsInterfaces}
use Rattle.route_laws.specs.Forwarding.{RoutesEndAtTheNetwork}

-- ---- walks from another root

module _ (contents : Contents) (any to : Root) (own : NamesItsInterfaces contents to) where
  counts_there : (router : ℕ) (kind : LinkKind) (id price exit : ℕ) → (kind ≡ PointToPoint)
      ⊎ (kind ≡ Transit) → Counts contents any router kind id price exit → (other : ℕ)
      × Counts contents to router kind id price other
  counts_there router kind id price exit is c =
      elim (cases_eq router to.router) [
        | inl e ↦
            let Has : ℕ → Type 0 = λ r. HasLink contents r c.link in
            let Is : LinkKind → Type 0 = λ k. (k ≡ PointToPoint) ⊎ (k ≡ Transit) in
            let at = own c.link (subst Has e c.its) (subst Is (sym c.is_kind) is) in (
              at.0 + 1,
              record {
                link = c.link;
                its = c.its;
                is_kind = c.is_kind;
                is_id = c.is_id;
                costs = c.costs;
                not_free = c.not_free;
                by_interface = λ _. (
                  at.0,
                  refl,
                  slice_get_read to.addresses (length to.addresses) at.0 c.link.link_data refl
                      at.1 (sym at.2),
                );
                elsewhere = λ other. absurd (other e);
              },
            )
        | inr other ↦ (
          0,
          record {
            link = c.link;
            its = c.its;
            is_kind = c.is_kind;
            is_id = c.is_id;
            costs = c.costs;
            not_free = c.not_free;
            by_interface = λ e. absurd (other e);
            elsewhere = λ _. refl;
          },
        )
      ]

  pub leads_there : (from target : Node) (price exit : ℕ)
      → LeadsTo contents any from target price exit
      → (other : ℕ) × LeadsTo contents to from target price other
  leads_there (ARouter a) (ARouter b) price exit l =
      let c = counts_there a PointToPoint b price exit (inl refl) l.0 in
      (c.0, (c.1, l.1))
  leads_there (ARouter a) (ANetwork id by) price exit l =
      let c = counts_there a Transit id price exit (inr refl) l.0 in
      (c.0, (c.1, l.1))
  leads_there (ANetwork id by) (ARouter b) price exit l = (exit, l)
  leads_there (ANetwork id by) (ANetwork other its) price exit l = absurd l

  pub walk_there : (from node : Node) (walk : List (Step Node))
      → IsWalk (Leads contents any) from walk node → (other : List (Step Node))
      × IsWalk (Leads contents to) from other node × (cost_of other ≡ cost_of walk)
  walk_there from node [] is = ([], is, refl)
  walk_there from node (step ∷ rest) is =
      let first = leads_there from step.target step.cost step.exit is.0 in
      let others = walk_there step.target node rest is.1 in (
        record { target = step.target; cost = step.cost; exit = first.0 } ∷ others.0,
        (first.1, others.1),
        omega (arith, others.2),
      )

-- ---- one hop

-- a network is reached from the next router at a lower cost
pub record IsNearer (contents : Contents) (next : Root) (prefix : Network) (cost : ℕ) : Type 0 where
  pub less : ℕ
  pub by : ℕ
  pub reached : IsReached contents next prefix less by
  pub is_less : less < cost

pub price_of_own : (contents : Contents) (root : Root) (target : Node) (price exit : ℕ)
    → LeadsTo contents root (ARouter root.router) target price exit → (0 < price) × (0 < exit)
price_of_own contents root (ARouter b) price exit l = let by = l.0.by_interface refl in
    (l.0.not_free, omega (arith, by.1))
price_of_own contents root (ANetwork id by) price exit l = let leaves = l.0.by_interface refl in
    (l.0.not_free, omega (arith, leaves.1))

pub nearer : (contents : Contents) (root next : Root) (prefix : Network) (cost interface : ℕ)
    → NamesItsInterfaces contents next → 0 < interface → IsOtherEnd contents root interface
    next.router
    → IsReached contents root prefix cost interface → IsNearer contents next prefix cost
nearer contents root next prefix cost interface own away end x =
    by_walk x.walk x.is_walk x.costs x.leaves_by
  where
    by_walk : (walk : List (Step Node)) → IsWalk (Leads contents root) (ARouter root.router) walk
        x.node
        → cost ≡ cost_of walk + x.more → interface ≡ first_exit walk
        → IsNearer contents next prefix cost
    by_walk [] is costs leaves = absurd (omega (arith, away, leaves))
    by_walk (step ∷ rest) is costs leaves =
        let P : ℕ → Type 0 = λ i. LeadsTo contents root (ARouter root.router) step.target
        step.cost i
        in
        let here : step.target ≡ ARouter next.router =
        end step.target step.cost (subst P (sym leaves) is.0) in
        let W : Node → Type 0 = λ n. IsWalk (Leads contents root) n rest x.node in
        let there = walk_there contents root next own (ARouter next.router) x.node rest
        (subst W here is.1) in
        let some = price_of_own contents root step.target step.cost step.exit is.0 in
        record {
          less = cost_of there.0 + x.more;
          by = first_exit there.0;
          reached = record {
            node = x.node;
            more = x.more;
            attached = x.attached;
            walk = there.0;
            is_walk = there.1;
            costs = refl;
            leaves_by = refl;
          };
          is_less = omega (arith, costs, there.2, some.0);
        }

pub reached_next : CandidatesAreCheapestWalks → (contents : Contents) (root next : Root)
    (route : Route)
    → IsCandidate contents root route → route.kind ≡ Intra → HandsOn contents root route next.router
    → NamesItsInterfaces contents next → IsNearer contents next route.prefix route.cost
reached_next laws contents root next route is within hands own =
    nearer contents root next route.prefix route.cost hands.interface own hands.away hands.other_end
    ((laws.hops contents root route is within hands.interface).0 hands.is_hop)

pub each_hop : CandidatesAreCheapestWalks → (contents : Contents) (root next : Root) (route : Route)
    → IsCandidate contents root route → route.kind ≡ Intra → HandsOn contents root route next.router
    → NamesItsInterfaces contents next → (following : Route) → IsCandidate contents next following
    → following.prefix ≡ route.prefix → (following.kind ≡ Intra)
    × (following.cost < route.cost)
each_hop laws contents root next route is within hands own following its same =
    let n : IsNearer contents next route.prefix route.cost =
    reached_next laws contents root next route is within hands own in
    let P : Network → Type 0 = λ p. IsReached contents next p n.less n.by in
    let y : IsReached contents next following.prefix n.less n.by = subst P (sym same) n.reached in
    let low : following.cost ≤ n.less = laws.cheapest contents next following n.less n.by its y in
    (laws.preferred contents next following n.less n.by its y, omega (arith, low, n.is_less))

-- ---- the last hop

at_itself : (contents : Contents) (root : Root) (prefix : Network) (cost : ℕ)
    → IsReached contents root prefix cost 0 → Attaches contents (ARouter root.router) prefix cost
at_itself contents root prefix cost x = by_walk x.walk x.is_walk x.costs x.leaves_by
  where
    by_walk : (walk : List (Step Node)) → IsWalk (Leads contents root) (ARouter root.router) walk
        x.node
        → cost ≡ cost_of walk + x.more → 0 ≡ first_exit walk
        → Attaches contents (ARouter root.router) prefix cost
    by_walk [] is costs leaves =
        let more : x.more ≡ cost = omega (arith, costs) in
        let P : Node → Type 0 = λ n. Attaches contents n prefix x.more in
        let Q : ℕ → Type 0 = λ m. Attaches contents (ARouter root.router) prefix m in
        subst Q more (subst P (sym is) x.attached)
    by_walk (step ∷ rest) is costs leaves =
        absurd (let some = price_of_own contents root step.target step.cost step.exit is.0 in
        omega (arith, leaves, some.1))

pub last_hop : CandidatesAreCheapestWalks → RoutesEndAtTheNetwork
last_hop laws = record {
  some_hop = λ contents root route is within. some contents root route is within;
  attached = λ contents root route is within own. at contents root route is within own;
  ends = λ contents root route is within only.
      let hop = some contents root route is within in
      let P : ℕ → Type 0 = λ i. IsTrue (has_interface route.hops i) in
      at contents root route is within (subst P (only hop.0 hop.1) hop.1);
}
  where
    some : (contents : Contents) (root : Root) (route : Route) → IsCandidate contents root route
        → route.kind
        ≡ Intra → (interface : ℕ) × IsTrue (has_interface route.hops interface)
    some contents root route is within =
        let x = laws.reached contents root route is within in
        (x.0, (laws.hops contents root route is within x.0).1 x.1)

    at : (contents : Contents) (root : Root) (route : Route) → IsCandidate contents root route
        → route.kind
        ≡ Intra → IsTrue (has_interface route.hops 0)
        → Attaches contents (ARouter root.router) route.prefix route.cost
    at contents root route is within own =
        at_itself contents root route.prefix route.cost
        ((laws.hops contents root route is within 0).0 own)
