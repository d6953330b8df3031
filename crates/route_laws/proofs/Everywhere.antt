-- A packet by a route of any kind is forwarded to better routes, until a router is attached or
-- forwards it to the originator.
use Rattle.std.proofs.Common.{◌≡◌, ℕ, zero, suc, ◌<◌, inl, inr, IsTrue, List, [], ◌∷◌, arith, refl}
use Rattle.std.proofs.Common.{sym, ◌∙◌, ap, subst}
use Rattle.std.specs.List.{All, Contains}
use Rattle.std.proofs.lemmas.Bool.{cases_eq, cases_lt}
use Rattle.words.specs.Interfaces.{has_interface}
use Rattle.words.specs.Prefixes.{Network}
use Rattle.words.specs.declared.route.Route.{Route}
use Rattle.words.specs.declared.route.RouteKind.TheVariants.{Intra}
use Rattle.candidates.specs.Laws.{CandidatesAreCheapestWalks, EveryOfferHasACandidate}
use Rattle.routes.specs.Candidates.{IsBest, IsCandidate, Offers, OffersExternal}
use Rattle.routes.specs.Candidates.Offers.{Between, External, Within}
use Rattle.routes.specs.Links.{Leads}
use Rattle.routes.specs.Offers.{Attaches, ReachesBoundaryRouter}
use Rattle.routes.specs.Paths.{IsLeastWalk, IsWay, Step, Way}
use Rattle.routes.specs.Routes.{rank}
use Rattle.routes.specs.Contents.{Contents}
use Rattle.routes.specs.Summaries.{IsBoundaryWay, IsAdvertised, OffersBetween}
use Rattle.routes.specs.Summaries.IsBoundaryWay.{Inside, Outside}
use Rattle.routes.specs.declared.node.Node.{Node}
use Rattle.routes.specs.declared.node.Node.TheVariants.{ARouter}
use Rattle.routes.specs.declared.offer.Offer.{Offer}
use Rattle.routes.specs.declared.root.Root.{Root}
use Rattle.route_laws.specs.Forwarding.{AreRouters, EachHopIsNearer, ForwardsFor, HandsOn}
use Rattle.route_laws.specs.Forwarding.{IsOtherEnd, RoutesEndAtTheNetwork, Stop, last_of}
use Rattle.route_laws.specs.Outward.{AllPacketsArrive, AreBoundariesPlain}
use Rattle.route_laws.specs.Outward.{EachHopLeadsToAnOriginator, HandsFurther, HandsToward}
use Rattle.route_laws.specs.Outward.{IsBetter, IsFollowed, IsPassedFurther, IsStopAmong, IsTheLast}
use Rattle.route_laws.specs.Outward.{IsToward}
use Rattle.route_laws.specs.Outward.HandsFurther.{TowardAnother, InTheArea}
use Rattle.route_laws.specs.Outward.IsBetter.{ByCost, ByDistance, ByKind}
use Rattle.route_laws.specs.Outward.IsFollowed.{AtHome, AtTheOriginator, Further}
use Rattle.route_laws.specs.Outward.IsTheLast.{Attached, BeforeTheOriginator}
use Rattle.route_laws.specs.Outward.IsToward.{Border, Boundary, Told}
use Rattle.route_laws.proofs.Fewer.{no_longer}
use Rattle.route_laws.proofs.Found.{each_is_nearer}
use Rattle.route_laws.proofs.Inside.{within_or_not}
use Rattle.route_laws.proofs.Nearer.{last_hop, price_of_own}
use Rattle.route_laws.proofs.Outward.{candidate_is_as_good, external_hops, none_twice}
use Rattle.route_laws.proofs.Outward.{to_an_originator}
use Rattle.routes.proofs.Determined.{same_kind}

-- ---- the next hops toward another router

-- a way to another router has a next hop, and 0 is none
record LeavesBy (way : Way) : Type 0 where
  interface : ℕ
  is_hop : IsTrue (has_interface way.hops interface)

leaves_by : (contents : Contents) (root : Root) (router : ℕ) (way : Way)
    → IsWay (Leads contents root) (ARouter root.router) (ARouter router) way
    → (router ≡ root.router → ⊥) → LeavesBy way
leaves_by contents root router way is other = by_walk is.distance.0 is.distance.1
  where
    by_walk : (walk : List (Step Node))
        → IsLeastWalk (Leads contents root) (ARouter root.router) walk (ARouter router)
        → LeavesBy way
    by_walk [] l = absurd (let e : ARouter root.router ≡ ARouter router = l.is_walk in
        let same : router ≡ root.router = cc in other same)
    by_walk (first ∷ rest) l = record {
      interface = first.exit;
      is_hop = (is.hops first.exit).1 (first, rest, l, refl);
    }

away_by : (contents : Contents) (root : Root) (router : ℕ) (way : Way)
    → IsWay (Leads contents root) (ARouter root.router) (ARouter router) way → (i : ℕ)
    → IsTrue (has_interface way.hops i) → 0 < i
away_by contents root router way is i t =
    let hop = (is.hops i).0 t in
    let first : Step Node = hop.0 in
    let some = price_of_own contents root first.target first.cost first.exit hop.2.is_walk.0 in
    omega (arith, some.1, hop.3)

-- an offer toward a router, with the way that has these hops
record IsSent (contents : Contents) (root : Root) (offer : Offer) (hops : ℕ) : Type 0 where
  originator : ℕ
  of_another : originator ≡ root.router → ⊥
  toward : IsToward contents root offer originator hops
  way : Way
  reached : IsWay (Leads contents root) (ARouter root.router) (ARouter originator) way
  hops_are : hops ≡ way.hops

-- some of an offer's hops, all of them toward one router
record SentBy (contents : Contents) (root : Root) (offer : Offer) (i : ℕ) : Type 0 where
  hops : ℕ
  sent : IsSent contents root offer hops
  has : IsTrue (has_interface hops i)

module _ (contents : Contents) (plain : AreBoundariesPlain contents) (root : Root) where
  hops_of : (o : Offer) (x : OffersExternal contents root o) → o.hops ≡ x.is_way.boundary.hops
  hops_of o x = ap (λ (y : Offer). y.hops) x.is
      ∙ external_hops x.lsa.kind x.prefix x.lsa x.originator x.way
      ∙ ap (λ (w : Way). w.hops) (x.is_way.direct (plain.direct x.id x.originator x.lsa x.its))

  by_border : (o : Offer) (x : OffersBetween contents root o) → IsSent contents root o o.hops
  by_border o x = record {
    originator = x.originator;
    of_another = x.counts.of_another;
    toward = Border x refl refl;
    way = x.border;
    reached = x.counts.reaches.reached;
    hops_are = ap (λ (y : Offer). y.hops) x.is;
  }

  by_boundary : (o : Offer) (x : OffersExternal contents root o)
      → ReachesBoundaryRouter contents root x.originator x.is_way.boundary
      → IsSent contents root o o.hops
  by_boundary o x r = record {
    originator = x.originator;
    of_another = x.of_another;
    toward = Boundary x refl (plain.direct x.id x.originator x.lsa x.its) x.is_way.boundary r refl;
    way = x.is_way.boundary;
    reached = r.reached;
    hops_are = hops_of o x;
  }

  by_told : (o : Offer) (x : OffersExternal contents root o) (border : Way)
      → IsAdvertised contents root x.originator x.is_way.boundary.distance border
      → IsSent contents root o border.hops
  by_told o x border advertised = record {
    originator = advertised.originator;
    of_another = advertised.counts.of_another;
    toward = Told x (plain.direct x.id x.originator x.lsa x.its)
        (λ lsa its. plain.elsewhere x.originator advertised.originator advertised.lsa advertised.its
        lsa its) border
        advertised refl refl;
    way = border;
    reached = advertised.counts.reaches.reached;
    hops_are = refl;
  }

  sent : (o : Offer) → Offers contents root o → (rank o.kind ≡ 0 → ⊥) → (i : ℕ)
      → IsTrue (has_interface o.hops i) → SentBy contents root o i
  sent o (Within x) other i t = absurd (other (ap (λ (y : Offer). rank y.kind) x.is))
  sent o (Between x) other i t = record { hops = o.hops; sent = by_border o x; has = t }
  sent o (External x) other i t = by_way x.is_way.reaches
    where
      by_way : IsBoundaryWay contents root x.originator x.is_way.boundary → SentBy contents root o i
      by_way (Inside r) = record { hops = o.hops; sent = by_boundary o x r; has = t }
      by_way (Outside never b) =
          let Has : ℕ → Type 0 = λ h. IsTrue (has_interface h i) in
          let k = (b.hops i).0 (subst Has (hops_of o x) t) in
          record { hops = k.0.hops; sent = by_told o x k.0 k.1; has = k.2 }

  -- each such offer has a hop
  hop_of : (o : Offer) → Offers contents root o → (rank o.kind ≡ 0 → ⊥) → (i : ℕ)
      × IsTrue (has_interface o.hops i)
  hop_of o (Within x) other = absurd (other (ap (λ (y : Offer). rank y.kind) x.is))
  hop_of o (Between x) other = by_sent o.hops (by_border o x)
    where
      by_sent : (hops : ℕ) → IsSent contents root o hops → (i : ℕ) × IsTrue (has_interface hops i)
      by_sent hops s = let l = leaves_by contents root s.originator s.way s.reached s.of_another in
          let Has : ℕ → Type 0 = λ h. IsTrue (has_interface h l.interface) in
          (l.interface, subst Has (sym s.hops_are) l.is_hop)
  hop_of o (External x) other = by_way x.is_way.reaches
    where
      by_sent : (hops : ℕ) → IsSent contents root o hops → (i : ℕ) × IsTrue (has_interface hops i)
      by_sent hops s = let l = leaves_by contents root s.originator s.way s.reached s.of_another in
          let Has : ℕ → Type 0 = λ h. IsTrue (has_interface h l.interface) in
          (l.interface, subst Has (sym s.hops_are) l.is_hop)

      by_way : IsBoundaryWay contents root x.originator x.is_way.boundary → (i : ℕ)
          × IsTrue (has_interface o.hops i)
      by_way (Inside r) = by_sent o.hops (by_boundary o x r)
      by_way (Outside never b) =
          let k = by_sent b.border.hops (by_told o x b.border b.advertised) in
          let Has : ℕ → Type 0 = λ h. IsTrue (has_interface h k.0) in
          (k.0, subst Has (sym (hops_of o x)) ((b.hops k.0).1 (b.border, b.advertised, k.1)))

-- ---- on to the last router

module _ (hops : EachHopIsNearer) (end : RoutesEndAtTheNetwork)
    (toward : EachHopLeadsToAnOriginator) (contents : Contents) (routers : List Root)
    (table : Root → List Route) (are : AreRouters contents routers table)
    (within : AreBoundariesPlain contents)
    (prefix : Network) where
  pub record ArrivesFor (first : Stop) : Type 0 where
    pub others : List Stop
    pub passed_on : IsPassedFurther contents prefix (first ∷ others)
    pub is_last : IsTheLast contents (last_of first others)

  abbrev pub IsOne : Stop → Type 0
  IsOne stop = IsStopAmong routers table prefix stop

  candidate : (stop : Stop) → IsOne stop → IsCandidate contents stop.root stop.route
  candidate stop one = ((are.is_table stop.root one.among).each stop.route).0 one.has_route

  forwards : (stop : Stop) → IsOne stop → ForwardsFor contents prefix stop
  forwards stop one = record {
    own = are.own stop.root one.among;
    candidate = candidate stop one;
    is_for = one.is_for;
  }

  abbrev pub ArrivesAtBetter : Stop → Type 0
  ArrivesAtBetter stop = (next : Stop) → IsOne next → IsBetter next.route stop.route
      → ArrivesFor next

  on : (stop next : Stop) → IsOne stop → HandsFurther contents stop.root stop.route next.root.router
      → ArrivesFor next → ArrivesFor stop
  on stop next one hands rest = record {
    others = next ∷ rest.others;
    passed_on = (forwards stop one, hands, rest.passed_on);
    is_last = rest.is_last;
  }

  -- what happens to a packet by a next hop: if it goes on, to a better route
  pub data Turn (stop : Stop) (i : ℕ) : Type 0 where
    Home : i ≡ 0 → stop.route.kind ≡ Intra
        → Attaches contents (ARouter stop.root.router) stop.route.prefix stop.route.cost
        → Turn stop i
    Out : (originator : ℕ) → IsOtherEnd contents stop.root i originator
        → HandsToward contents stop.root stop.route originator originator → Turn stop i
    Next : (next : Stop) → IsOne next → IsOtherEnd contents stop.root i next.root.router
        → HandsFurther contents stop.root stop.route next.root.router
        → IsBetter next.route stop.route
        → Turn stop i

  -- by an intra-area route
  inside : (stop : Stop) → IsOne stop → stop.route.kind ≡ Intra → (i : ℕ) → 0 < i
      → IsTrue (has_interface stop.route.hops i) → Turn stop i
  inside stop one intra i away t =
      let next = are.joined stop.root one.among stop.route one.has_route i away t in
      let hands : HandsOn contents stop.root stop.route next.0.router = record {
        interface = i;
        away = away;
        is_hop = t;
        other_end = next.2;
      } in
      let own = are.own next.0 next.1 in
      let r = hops.has_one contents stop.root next.0 stop.route (candidate stop one) intra hands own
      (table next.0) (are.is_table next.0 next.1) in
      let there : Stop = record { root = next.0; route = r.0 } in
      let other : IsOne there = record {
        among = next.1;
        has_route = r.1;
        is_for = r.2 ∙ one.is_for;
      } in
      let near = hops.nearer contents stop.root next.0 stop.route (candidate stop one) intra
      hands own
      r.0 (candidate there other) r.2 in
      Next there other next.2 (InTheArea intra hands) (ByCost (ap rank (near.0 ∙ sym intra)) near.1)

  at_network : (stop : Stop) → IsOne stop → stop.route.kind ≡ Intra → (i : ℕ)
      → IsTrue (has_interface stop.route.hops i) → Turn stop i
  at_network stop one intra i t =
      elim (cases_lt 0 i) [
        | inl away ↦ inside stop one intra i away t
        | inr none ↦
            let itself : i ≡ 0 = omega (arith, none) in
            let P : ℕ → Type 0 = λ k. IsTrue (has_interface stop.route.hops k) in
            Home itself intra (end.attached contents stop.root stop.route (candidate stop one) intra
            (subst P itself t))
      ]

  -- toward another router
  outside : (stop : Stop) → IsOne stop → (o : Offer) → IsBest contents stop.root stop.route.prefix o
      → (i : ℕ) → IsTrue (has_interface o.hops i) → SentBy contents stop.root o i → Turn stop i
  outside stop one o best i is_hop by =
      let s = by.sent in
      let Has : ℕ → Type 0 = λ hops. IsTrue (has_interface hops i) in
      let k = candidate stop one in
      let away : 0 < i = away_by contents stop.root s.originator s.way s.reached i
      (subst Has s.hops_are by.has) in
      let t : IsTrue (has_interface stop.route.hops i) = (k.hops i).1 (o, best, is_hop) in
      let next = are.joined stop.root one.among stop.route one.has_route i away t in
      let hands : HandsToward contents stop.root stop.route next.0.router s.originator = record {
        offer = o;
        is_best = best;
        hops = by.hops;
        toward = s.toward;
        interface = i;
        is_hop = by.has;
        other_end = next.2;
      } in
      elim (cases_eq next.0.router s.originator) [
        | inl e ↦ (
            let P : ℕ → Type 0 = λ n. HandsToward contents stop.root stop.route n s.originator in
            let Q : ℕ → Type 0 = λ n. IsOtherEnd contents stop.root i n in
            Out s.originator (subst Q e next.2) (subst P e hands))
        | inr other ↦
            let own = are.own next.0 next.1 in
            let r = toward.has_one contents stop.root next.0 stop.route s.originator k hands
            own other
            (table next.0) (are.is_table next.0 next.1) in
            let there : Stop = record { root = next.0; route = r.0 } in
            let another : IsOne there = record {
              among = next.1;
              has_route = r.1;
              is_for = r.2 ∙ one.is_for;
            } in
            let good : IsBetter r.0 stop.route =
            toward.better contents stop.root next.0 stop.route s.originator k hands own other r.0
            (candidate there another) r.2 in
            Next there another next.2 (TowardAnother s.originator hands other) good
      ]

  -- a route that isn't intra-area comes from no intra-area offer
  other_kind : (stop : Stop) → IsOne stop → (stop.route.kind ≡ Intra → ⊥) → (o : Offer)
      → IsBest contents stop.root stop.route.prefix o → rank o.kind ≡ 0 → ⊥
  other_kind stop one other o best e =
      other (same_kind stop.route.kind Intra
      ((candidate_is_as_good contents stop.root stop.route o (candidate stop one) best).kind ∙ e))

  turn : (stop : Stop) → IsOne stop → (i : ℕ) → IsTrue (has_interface stop.route.hops i)
      → Turn stop i
  turn stop one i t =
      elim (within_or_not stop.route.kind) [
        | inl intra ↦ at_network stop one intra i t
        | inr other ↦
            let o = ((candidate stop one).hops i).0 t in
            outside stop one o.0 o.1 i o.2
            (sent contents within stop.root o.0 o.1.offered (other_kind stop one other o.0 o.1) i
            o.2)
      ]

  -- each route has a next hop
  some_hop : (stop : Stop) → IsOne stop → (i : ℕ) × IsTrue (has_interface stop.route.hops i)
  some_hop stop one =
      let k = candidate stop one in
      elim (within_or_not stop.route.kind) [
        | inl intra ↦ end.some_hop contents stop.root stop.route k intra
        | inr other ↦
            let h = hop_of contents within stop.root k.first k.is_best.offered
            (other_kind stop one other k.first k.is_best) in
            (h.0, (k.hops h.0).1 (k.first, k.is_best, h.1))
      ]

  pub followed : (stop : Stop) → IsOne stop → (i : ℕ) → IsTrue (has_interface stop.route.hops i)
      → IsFollowed contents routers table stop i
  followed stop one i t = by_turn (turn stop one i t)
    where
      by_turn : Turn stop i → IsFollowed contents routers table stop i
      by_turn (Home e intra at) = AtHome e at
      by_turn (Out originator there hands) = AtTheOriginator originator there hands
      by_turn (Next next other there hands good) = Further next (record {
        among = other.among;
        has_route = other.has_route;
        is_for = other.is_for
            ∙ sym one.is_for;
      }) there hands

  from : (stop : Stop) → IsOne stop → ArrivesAtBetter stop → ArrivesFor stop
  from stop one further =
      let hop = some_hop stop one in
      by_turn hop.0 (turn stop one hop.0 hop.1)
    where
      by_turn : (i : ℕ) → Turn stop i → ArrivesFor stop
      by_turn i (Home e intra at) = record {
        others = [];
        passed_on = forwards stop one;
        is_last = Attached intra at;
      }
      by_turn i (Out originator there hands) = record {
        others = [];
        passed_on = forwards stop one;
        is_last = BeforeTheOriginator originator hands;
      }
      by_turn i (Next next other there hands good) =
          on stop next one hands (further next other good)

  -- by kind, then cost, then distance

  abbrev pub BelowKind : ℕ → Type 0
  BelowKind k = (stop : Stop) → IsOne stop → rank stop.route.kind < k → ArrivesFor stop

  abbrev pub BelowCost : ℕ → ℕ → Type 0
  BelowCost k c = (stop : Stop) → IsOne stop → rank stop.route.kind ≡ k → stop.route.cost < c
      → ArrivesFor stop

  abbrev pub BelowDistance : ℕ → ℕ → ℕ → Type 0
  BelowDistance k c d = (stop : Stop) → IsOne stop → rank stop.route.kind ≡ k → stop.route.cost ≡ c
      → stop.route.distance < d → ArrivesFor stop

  at_better : (stop : Stop) (k c d : ℕ) → BelowKind k → BelowCost k c → BelowDistance k c d
      → rank stop.route.kind ≡ k → stop.route.cost ≡ c → stop.route.distance ≡ d
      → ArrivesAtBetter stop
  at_better stop k c d by_kind by_cost by_distance ek ec ed next one (ByKind p) =
      by_kind next one (omega (arith, p, ek))
  at_better stop k c d by_kind by_cost by_distance ek ec ed next one (ByCost p q) =
      by_cost next one (p ∙ ek) (omega (arith, q, ec))
  at_better stop k c d by_kind by_cost by_distance ek ec ed next one (ByDistance p q r) =
      by_distance next one (p ∙ ek) (q ∙ ec) (omega (arith, r, ed))

  distances : (k c : ℕ) → BelowKind k → BelowCost k c → (d : ℕ) → BelowDistance k c d
  distances k c by_kind by_cost zero stop one ek ec low = absurd (omega (arith, low))
  distances k c by_kind by_cost (suc d) stop one ek ec low =
      elim (cases_lt stop.route.distance d) [
        | inl less ↦ distances k c by_kind by_cost d stop one ek ec less
        | inr past ↦ from stop one (at_better stop k c d by_kind by_cost
            (distances k c by_kind by_cost d) ek ec (omega (arith, low, past)))
      ]

  costs : (k : ℕ) → BelowKind k → (c : ℕ) → BelowCost k c
  costs k by_kind zero stop one ek low = absurd (omega (arith, low))
  costs k by_kind (suc c) stop one ek low =
      elim (cases_lt stop.route.cost c) [
        | inl less ↦ costs k by_kind c stop one ek less
        | inr past ↦ distances k c by_kind (costs k by_kind c) (suc stop.route.distance) stop one ek
            (omega (arith, low, past)) (omega arith)
      ]

  pub kinds : (k : ℕ) → BelowKind k
  kinds zero stop one low = absurd (omega (arith, low))
  kinds (suc k) stop one low =
      elim (cases_lt (rank stop.route.kind) k) [
        | inl less ↦ kinds k stop one less
        | inr past ↦ costs k (kinds k) (suc stop.route.cost) stop one (omega (arith, low, past))
            (omega arith)
      ]

each_among : (routers : List Root) (table : Root → List Route) (prefix : Network)
    (stops : List Stop) → All (IsStopAmong routers table prefix) stops → (stop : Stop)
    → Contains stops stop → Contains routers stop.root
each_among routers table prefix stops all stop t =
    let P : Stop → Type 0 = λ s. IsStopAmong routers table prefix s in
    let one : IsStopAmong routers table prefix stop = subst P t.2 (all t.0 stop t.1) in
    one.among

pub all_arrive : CandidatesAreCheapestWalks → EveryOfferHasACandidate → AllPacketsArrive
all_arrive laws every = record {
  arrives = λ contents routers table are within prefix first one.
      let one_of : IsStopAmong routers table first.route.prefix first = record {
        among = one.among;
        has_route = one.has_route;
        is_for = refl;
      } in
      let a = kinds (each_is_nearer laws every) (last_hop laws) (to_an_originator every) contents
      routers table are within first.route.prefix (suc (rank first.route.kind)) first one_of
      (omega arith) in
      record { others = a.others; passed_on = a.passed_on; is_last = a.is_last };
  short = λ contents routers table are within prefix stops passed all.
      no_longer (λ (s : Stop). s.root) stops routers (each_among routers table prefix stops all)
      (none_twice laws contents prefix stops passed);
  each_hop = λ contents routers table are within prefix stop one i t. followed
      (each_is_nearer laws every) (last_hop laws) (to_an_originator every) contents routers
      table are
      within prefix stop one i t;
}
