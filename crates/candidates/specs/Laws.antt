-- How candidates relate to offers and to walks (RFC 2328, sections 16.1 and 16.4).
use Rattle.std.specs.Prelude.{◌≡◌, ℕ, ◌+◌, ◌≤◌, ◌↔◌, IsTrue, List, [], ◌∷◌}
use Rattle.std.specs.List.{Contains}
use Rattle.words.specs.Interfaces.{has_interface}
use Rattle.words.specs.Prefixes.{Network}
use Rattle.words.specs.declared.route.Route.{Route}
use Rattle.words.specs.declared.route.RouteKind.TheVariants.{Intra}
use Rattle.routes.specs.Candidates.{AreCandidates, IsCandidate, Offers}
use Rattle.routes.specs.Links.{Leads}
use Rattle.routes.specs.Offers.{Attaches}
use Rattle.routes.specs.Paths.{IsWalk, Step, cost_of}
use Rattle.routes.specs.Contents.{Contents}
use Rattle.routes.specs.declared.node.Node.{Node}
use Rattle.routes.specs.declared.node.Node.TheVariants.{ARouter}
use Rattle.routes.specs.declared.offer.Offer.{Offer}
use Rattle.routes.specs.declared.root.Root.{Root}

-- ---- every offer

-- a prefix that is offered has a candidate, so that a list of all candidates has a route for it
abbrev pub EveryOfferHasACandidate : Type 0
EveryOfferHasACandidate =
    (contents : Contents) (root : Root) (routes : List Route) (o : Offer) → AreCandidates contents
    root routes
    → Offers contents root o
    → (r : Route) × Contains routes r × (r.prefix ≡ o.prefix)

-- ---- routes within the area, in terms of walks alone

-- the interface of the first link; 0 if there is none, since the walk ends at the root
abbrev pub first_exit : List (Step Node) → ℕ
first_exit [] = 0
first_exit (step ∷ rest) = step.exit

-- a walk to a node that attaches the network has this total cost, and leaves by this interface
pub record IsReached (contents : Contents) (root : Root) (prefix : Network) (cost interface : ℕ)
    : Type 0
  where
    pub node : Node
    pub more : ℕ
    pub attached : Attaches contents node prefix more
    pub walk : List (Step Node)
    pub is_walk : IsWalk (Leads contents root) (ARouter root.router) walk node
    pub costs : cost ≡ cost_of walk + more
    pub leaves_by : interface ≡ first_exit walk

-- how candidates relate to walks: those within the area are the cheapest walks, with all their
-- interfaces
pub record CandidatesAreCheapestWalks : Type 0 where
  -- if a walk reaches the network, its candidate is one within the area, and costs no more than the
  -- walk
  pub preferred : (contents : Contents) (root : Root) (r : Route) (cost interface : ℕ)
      → IsCandidate contents root r → IsReached contents root r.prefix cost interface → r.kind
      ≡ Intra
  pub cheapest : (contents : Contents) (root : Root) (r : Route) (cost interface : ℕ)
      → IsCandidate contents root r → IsReached contents root r.prefix cost interface → r.cost
      ≤ cost
  -- some walk has the cost of a candidate within the area
  pub reached : (contents : Contents) (root : Root) (r : Route) → IsCandidate contents root r
      → r.kind ≡ Intra
      → (interface : ℕ) × IsReached contents root r.prefix r.cost interface
  -- the next hops are exactly the interfaces of all walks with its cost
  pub hops : (contents : Contents) (root : Root) (r : Route) → IsCandidate contents root r → r.kind
      ≡ Intra
      → (interface : ℕ)
      → IsTrue (has_interface r.hops interface) ↔ IsReached contents root r.prefix r.cost interface
