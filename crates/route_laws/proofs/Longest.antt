-- Routers that forward packets to each other reach the same networks, so that the longest match of
-- an address is the same at both.
use Rattle.std.proofs.Common.{◌≡◌, ℕ, Bool, IsTrue, ◌+◌, ◌≤◌, List, [], ◌∷◌, arith, refl, sym, ◌∙◌}
use Rattle.std.proofs.Common.{ap, subst}
use Rattle.words.specs.Prefixes.{IsUnder, Network, network_address}
use Rattle.words.specs.declared.route.Route.{Route}
use Rattle.words.specs.declared.route.RouteKind.TheVariants.{Intra}
use Rattle.candidates.specs.Laws.{CandidatesAreCheapestWalks, EveryOfferHasACandidate, IsReached}
use Rattle.candidates.specs.Laws.{first_exit}
use Rattle.routes.specs.Candidates.{IsCandidate}
use Rattle.routes.specs.Links.{Leads, LeadsTo}
use Rattle.routes.specs.Paths.{IsWalk, Step, cost_of}
use Rattle.routes.specs.Contents.{Contents}
use Rattle.routes.specs.declared.node.Node.{Node}
use Rattle.routes.specs.declared.node.Node.TheVariants.{ARouter}
use Rattle.routes.specs.declared.root.Root.{Root}
use Rattle.route_laws.specs.Forwarding.{ForwardsFor, ForwardsTo, HandsOn, IsPassedOn}
use Rattle.route_laws.specs.Forwarding.{LongestPrefixesAgree, Stop}
use Rattle.route_laws.proofs.Found.{has_one}
use Rattle.route_laws.proofs.Nearer.{IsNearer, reached_next, walk_there}

pub same_prefix : (address : ℕ) (a b : Network) → IsUnder address a → IsUnder address b → a.length
    ≡ b.length → a ≡ b
same_prefix address a b p q long =
    let at : a.address ≡ b.address = sym p ∙ ap (λ k. network_address k address) long ∙ q in
    λ i. record { address = at i; length = long i }

-- the first link of the walk of a route
record Link (contents : Contents) (root : Root) (next : ℕ) : Type 0 where
  cost : ℕ
  exit : ℕ
  leads : LeadsTo contents root (ARouter root.router) (ARouter next) cost exit

first_link : CandidatesAreCheapestWalks → (contents : Contents) (root : Root) (route : Route)
    (next : ℕ)
    → IsCandidate contents root route → route.kind ≡ Intra → HandsOn contents root route next
    → Link contents root next
first_link laws contents root route next is within hands =
    by_walk x.walk x.node x.is_walk x.leaves_by
  where
    x : IsReached contents root route.prefix route.cost hands.interface
    x = (laws.hops contents root route is within hands.interface).0 hands.is_hop

    by_walk : (walk : List (Step Node)) (node : Node)
        → IsWalk (Leads contents root) (ARouter root.router) walk node → hands.interface
        ≡ first_exit walk → Link contents root next
    by_walk [] node p leaves = absurd (omega (arith, hands.away, leaves))
    by_walk (step ∷ rest) node p leaves =
        let P : ℕ → Type 0 = λ i. LeadsTo contents root (ARouter root.router) step.target
        step.cost i
        in
        let here : step.target ≡ ARouter next =
        hands.other_end step.target step.cost (subst P (sym leaves) p.0) in
        let Q : Node → Type 0 = λ n. LeadsTo contents root (ARouter root.router) n step.cost
        step.exit
        in
        record { cost = step.cost; exit = step.exit; leads = subst Q here p.0 }

module _ (laws : CandidatesAreCheapestWalks) (every : EveryOfferHasACandidate) (contents : Contents)
    (let_in : Network → Bool) (address : ℕ) where
  candidate : (stop : Stop) → ForwardsTo contents let_in address stop
      → IsCandidate contents stop.root stop.route
  candidate stop f = (f.are_candidates.each stop.route).0
      ((f.is_part stop.route).0 f.longest.among).0

  -- a router with a route to a network that is let in has one that is no shorter
  no_longer : (stop : Stop) (f : ForwardsTo contents let_in address stop) (prefix : Network)
      → IsUnder address prefix → IsTrue (let_in prefix) → (cost i : ℕ)
      → IsReached contents stop.root prefix cost i → prefix.length ≤ stop.route.prefix.length
  no_longer stop f prefix under allowed cost i x =
      let r = has_one contents stop.root every f.candidates f.are_candidates prefix cost i x in
      let U : Network → Type 0 = λ p. IsUnder address p in
      let A : Network → Type 0 = λ p. IsTrue (let_in p) in
      let low : r.0.prefix.length ≤ stop.route.prefix.length =
      f.longest.longest r.0 ((f.is_part r.0).1 (r.1, subst A (sym r.2) allowed))
      (subst U (sym r.2) under) in
      omega (arith, low, ap (λ (p : Network). p.length) r.2)

  agree : (stop next : Stop) → ForwardsTo contents let_in address stop
      → HandsOn contents stop.root stop.route next.root.router
      → ForwardsTo contents let_in address next
      → next.route.prefix ≡ stop.route.prefix
  agree stop next f hands g =
      let is : IsCandidate contents stop.root stop.route = candidate stop f in
      let its : IsCandidate contents next.root next.route = candidate next g in
      -- the next router has a route for this one's prefix
      let n : IsNearer contents next.root stop.route.prefix stop.route.cost =
      reached_next laws contents stop.root next.root stop.route is f.within hands g.own in
      let forth : stop.route.prefix.length ≤ next.route.prefix.length =
      no_longer next g stop.route.prefix f.longest.under
      ((f.is_part stop.route).0 f.longest.among).1 n.less n.by n.reached in
      -- and this one has a route for the next one's prefix
      let x = (laws.reached contents next.root next.route its g.within).1 in
      let l : Link contents stop.root next.root.router =
      first_link laws contents stop.root stop.route next.root.router is f.within hands in
      let back = walk_there contents next.root stop.root f.own (ARouter next.root.router) x.node
      x.walk
      x.is_walk in
      let step : Step Node = record {
        target = ARouter next.root.router;
        cost = l.cost;
        exit = l.exit;
      } in
      let y : IsReached contents stop.root next.route.prefix (l.cost + cost_of back.0 + x.more)
      l.exit
      = record {
        node = x.node;
        more = x.more;
        attached = x.attached;
        walk = step ∷ back.0;
        is_walk = (l.leads, back.1);
        costs = refl;
        leaves_by = refl;
      } in
      let again : next.route.prefix.length ≤ stop.route.prefix.length =
      no_longer stop f next.route.prefix g.longest.under
      ((g.is_part next.route).0 g.longest.among).1 (l.cost + cost_of back.0 + x.more)
      l.exit y in
      same_prefix address next.route.prefix stop.route.prefix g.longest.under f.longest.under
      (omega (arith, forth, again))

  first_to : (first : Stop) (others : List Stop)
      → IsPassedOn contents (ForwardsTo contents let_in address) (first ∷ others)
      → ForwardsTo contents let_in address first
  first_to first [] p = p
  first_to first (next ∷ others) p = p.0

  for_prefix : (stop : Stop) (prefix : Network) → ForwardsTo contents let_in address stop
      → stop.route.prefix ≡ prefix → ForwardsFor contents prefix stop
  for_prefix stop prefix f e = record { own = f.own; candidate = candidate stop f; is_for = e }

  passed : (prefix : Network) (first : Stop) (others : List Stop) → first.route.prefix ≡ prefix
      → IsPassedOn contents (ForwardsTo contents let_in address) (first ∷ others)
      → IsPassedOn contents (ForwardsFor contents prefix) (first ∷ others)
  passed prefix first [] e p = for_prefix first prefix p e
  passed prefix first (next ∷ others) e p =
      let same : next.route.prefix ≡ prefix = agree first next p.0 p.1 (first_to next others p.2)
      ∙ e in
      (for_prefix first prefix p.0 e, p.1, passed prefix next others same p.2)

pub prefixes_agree : CandidatesAreCheapestWalks → EveryOfferHasACandidate → LongestPrefixesAgree
prefixes_agree laws every contents let_in address first others p =
    passed laws every contents let_in address first.route.prefix first others refl p
