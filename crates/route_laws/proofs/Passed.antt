-- The costs decrease along a list of routers each of which forwards packets to the next, so that
-- none is in it twice.
use Rattle.std.proofs.Common.{◌≡◌, ℕ, zero, suc, ◌<◌, ◌≤◌, List, [], ◌∷◌, length, get_or, arith}
use Rattle.std.proofs.Common.{refl, sym, ◌∙◌, subst}
use Rattle.words.specs.Prefixes.{Network}
use Rattle.words.specs.declared.route.RouteKind.TheVariants.{Intra}
use Rattle.candidates.specs.Laws.{CandidatesAreCheapestWalks, IsReached, first_exit}
use Rattle.routes.specs.Links.{Leads}
use Rattle.routes.specs.Paths.{IsWalk}
use Rattle.routes.specs.Contents.{Contents}
use Rattle.routes.specs.declared.node.Node.TheVariants.{ARouter}
use Rattle.route_laws.specs.Forwarding.{ForwardsFor, IsPassedOn, NoPacketReturns, Stop}
use Rattle.route_laws.proofs.Nearer.{each_hop, walk_there}

module _ (laws : CandidatesAreCheapestWalks) (contents : Contents) (prefix : Network) where
  -- a router's candidate costs no more than that of any root with the same Router ID
  no_dearer : (a b : Stop) → ForwardsFor contents prefix a → ForwardsFor contents prefix b
      → b.route.kind
      ≡ Intra → a.root.router ≡ b.root.router → a.route.cost ≤ b.route.cost
  no_dearer a b fa fb within same =
      let reached = laws.reached contents b.root b.route fb.candidate within in
      let x = reached.1 in
      let W : ℕ → Type 0 = λ r. IsWalk (Leads contents b.root) (ARouter r) x.walk x.node in
      let there = walk_there contents b.root a.root fa.own (ARouter a.root.router) x.node x.walk
      (subst W (sym same) x.is_walk) in
      let y : IsReached contents a.root b.route.prefix b.route.cost (first_exit there.0) = record {
        node = x.node;
        more = x.more;
        attached = x.attached;
        walk = there.0;
        is_walk = there.1;
        costs = omega (arith, x.costs, there.2);
        leaves_by = refl;
      } in
      let P : Network → Type 0 = λ p. IsReached contents a.root p b.route.cost
      (first_exit there.0) in
      laws.cheapest contents a.root a.route b.route.cost (first_exit there.0) fa.candidate
      (subst P (fb.is_for ∙ sym fa.is_for) y)

  -- of each stop at an index
  record Later (first : Stop) (stop : Stop) : Type 0 where
    forwards : ForwardsFor contents prefix stop
    within : stop.route.kind ≡ Intra
    no_dearer : stop.route.cost ≤ first.route.cost

  pub first_forwards : (first : Stop) (others : List Stop)
      → IsPassedOn contents (ForwardsFor contents prefix) (first ∷ others)
      → ForwardsFor contents prefix first
  first_forwards first [] p = p
  first_forwards first (next ∷ others) p = p.0

  pub hop : (first next : Stop) (others : List Stop)
      → IsPassedOn contents (ForwardsFor contents prefix) (first ∷ next ∷ others) → first.route.kind
      ≡ Intra
      → (next.route.kind ≡ Intra) × (next.route.cost < first.route.cost)
  hop first next others p within =
      let f : ForwardsFor contents prefix next = first_forwards next others p.2 in
      each_hop laws contents first.root next.root first.route p.0.candidate within p.1 f.own
      next.route
      f.candidate (f.is_for ∙ sym p.0.is_for)

  every : (first : Stop) (others : List Stop)
      → IsPassedOn contents (ForwardsFor contents prefix) (first ∷ others) → first.route.kind
      ≡ Intra
      → (k : ℕ) (d : Stop) → k < length (first ∷ others)
      → Later first (get_or (first ∷ others) k d)
  every first others p within zero d low = record {
    forwards = first_forwards first others p;
    within = within;
    no_dearer = omega arith;
  }
  every first [] p within (suc k) d low = absurd (omega (arith, low))
  every first (next ∷ others) p within (suc k) d low =
      let h = hop first next others p within in
      let e : Later next (get_or (next ∷ others) k d) =
      every next others p.2 h.0 k d (omega (arith, low)) in
      record {
        forwards = e.forwards;
        within = e.within;
        no_dearer = omega (arith, h.1, e.no_dearer);
      }

  pub falling : (first : Stop) (others : List Stop)
      → IsPassedOn contents (ForwardsFor contents prefix) (first ∷ others) → first.route.kind
      ≡ Intra
      → (i j : ℕ) (d : Stop) → i < j → j < length (first ∷ others)
      → (get_or (first ∷ others) j d).route.cost < (get_or (first ∷ others) i d).route.cost
  falling first [] p within i j d before low = absurd (omega (arith, before, low))
  falling first (next ∷ others) p within zero zero d before low = absurd (omega (arith, before))
  falling first (next ∷ others) p within zero (suc j) d before low =
      let h = hop first next others p within in
      let e : Later next (get_or (next ∷ others) j d) =
      every next others p.2 h.0 j d (omega (arith, low)) in
      omega (arith, h.1, e.no_dearer)
  falling first (next ∷ others) p within (suc i) zero d before low = absurd (omega (arith, before))
  falling first (next ∷ others) p within (suc i) (suc j) d before low =
      let h = hop first next others p within in
      falling next others p.2 h.0 i j d (omega (arith, before)) (omega (arith, low))

  pub short : (first : Stop) (others : List Stop)
      → IsPassedOn contents (ForwardsFor contents prefix) (first ∷ others) → first.route.kind
      ≡ Intra
      → length others ≤ first.route.cost
  short first [] p within = omega arith
  short first (next ∷ others) p within =
      let h = hop first next others p within in
      let rest : length others ≤ next.route.cost = short next others p.2 h.0 in
      omega (arith, h.1, rest)

  pub no_twice : (first : Stop) (others : List Stop)
      → IsPassedOn contents (ForwardsFor contents prefix) (first ∷ others) → first.route.kind
      ≡ Intra
      → (i j : ℕ) (d : Stop) → i < j → j < length (first ∷ others)
      → (get_or (first ∷ others) i d).root.router
      ≡ (get_or (first ∷ others) j d).root.router → ⊥
  no_twice first others p within i j d before low same =
      let a : Stop = get_or (first ∷ others) i d in
      let b : Stop = get_or (first ∷ others) j d in
      let at : Later first a = every first others p within i d (omega (arith, before, low)) in
      let later : Later first b = every first others p within j d low in
      let less : b.route.cost < a.route.cost = falling first others p within i j d before low in
      omega (arith, less, no_dearer a b at.forwards later.forwards later.within same)

  pub all_within : (first : Stop) (others : List Stop)
      → IsPassedOn contents (ForwardsFor contents prefix) (first ∷ others) → first.route.kind
      ≡ Intra
      → (k : ℕ) (d : Stop) → k < length (first ∷ others)
      → (get_or (first ∷ others) k d).route.kind ≡ Intra
  all_within first others p within k d low = (every first others p within k d low).within

pub no_packet : CandidatesAreCheapestWalks → NoPacketReturns
no_packet laws = record {
  within = λ contents prefix first others p within. all_within laws contents prefix first others p
      within;
  falling = λ contents prefix first others p within. falling laws contents prefix first others p
      within;
  no_twice = λ contents prefix first others p within. no_twice laws contents prefix first others p
      within;
  short = λ contents prefix first others p within. let rest : length others ≤ first.route.cost =
      short laws contents prefix first others p within in omega (arith, rest);
}
