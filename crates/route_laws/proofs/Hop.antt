-- One hop: the next router has a better route with the same prefix, which is its longest match for
-- the address, or announces the address itself.
use Rattle.std.proofs.Common.{◌≡◌, ◌≢◌, ℕ, ◌+◌, ◌<◌, ◌≤◌, inl, inr, IsTrue, List, [], ◌∷◌, Some}
use Rattle.std.proofs.Common.{length, arith, refl, sym, ◌∙◌, ap, subst}
use Rattle.std.specs.List.{Contains}
use Rattle.std.proofs.lemmas.Bool.{cases_eq, cases_lt}
use Rattle.std.proofs.lemmas.Option.{slice_get_read}
use Rattle.words.specs.Interfaces.{has_interface}
use Rattle.words.specs.Prefixes.{IsUnder, Network}
use Rattle.words.specs.declared.route.Route.{Route}
use Rattle.words.specs.declared.route.ExternalType.{ExternalType}
use Rattle.words.specs.declared.route.ExternalType.TheVariants.{Type1, Type2}
use Rattle.words.specs.declared.route.RouteKind.TheVariants.{Inter, Intra}
use Rattle.lsa.specs.declared.body.LsaBody.TheVariants as body
use Rattle.lsa.specs.declared.body.ExternalLsa.{ExternalLsa}
use Rattle.lsa.specs.declared.body.RouterLink.{RouterLink}
use Rattle.lsa.specs.declared.body.LinkKind.TheVariants.{PointToPoint}
use Rattle.candidates.specs.Laws.{CandidatesAreCheapestWalks, EveryOfferHasACandidate, IsReached}
use Rattle.candidates.specs.Borders.{IsLongest}
use Rattle.routes.proofs.Determined.{same_kind}
use Rattle.routes.specs.Candidates.{IsBest, IsCandidate, Offers, OffersExternal, external_offer}
use Rattle.routes.specs.Candidates.Offers.{Between, External, Within}
use Rattle.routes.specs.Links.{Counts, Leads, LeadsTo, Says}
use Rattle.routes.specs.Offers.{IsPrefix, OffersWithin, ReachesBoundaryRouter}
use Rattle.routes.specs.Paths.{IsLeastWalk, IsWalk, IsWay, Step, Way, cost_of}
use Rattle.routes.specs.Routes.{IsForwarded, IsRouteAmong, rank}
use Rattle.routes.specs.Contents.{Contents}
use Rattle.routes.specs.Summaries.{OffersBetween, OffersInside}
use Rattle.routes.specs.Summaries.IsBoundaryWay.{Inside}
use Rattle.routes.specs.declared.node.Node.{Node}
use Rattle.routes.specs.declared.node.Node.TheVariants.{ARouter}
use Rattle.routes.specs.declared.offer.Offer.{Offer}
use Rattle.routes.specs.declared.root.Root.{Root}
use Rattle.route_laws.specs.Forwarding.{EachHopIsNearer, HandsOn, IsOtherEnd, RoutesEndAtTheNetwork}
use Rattle.route_laws.specs.Outward.{EachHopLeadsToAnOriginator, HandsToward, IsBetter}
use Rattle.route_laws.specs.Outward.IsBetter.{ByCost}
use Rattle.route_laws.specs.Outward.IsToward.{Boundary}
use Rattle.route_laws.proofs.Found.{HasRoute, exit_within, has_one, has_route}
use Rattle.candidates.proofs.LeastWalks as least
use Rattle.route_laws.proofs.Nearer.{price_of_own, walk_there}
use Rattle.route_laws.proofs.Outward.{Again, again_has_route, again_is_better}
use Rattle.route_laws.proofs.Outward.{candidate_is_as_good, external_beats, external_hops}
use Rattle.route_laws.proofs.Outward.{external_prefix}
use Rattle.route_laws.specs.Premises.{OwnRouterLsasMeetThePremises}
use Rattle.route_laws.specs.Networks.{EachHopLeadsOn, IsAttached, LeadsOn}
use Rattle.route_laws.specs.Networks.IsAttached.{ToForwardingAddress, ToNetwork}
use Rattle.route_laws.specs.Networks.LeadsOn.{AtHome, Further, ToAnnouncer}
use Rattle.route_laws.specs.Topologies.{Announces, ComesBefore, Forwarder, HasConverged}
use Rattle.route_laws.specs.Topologies.{IsAnnouncedAt, StandsAt, TellsOf, Topology, root_of}
use Rattle.route_laws.specs.Topologies.{says_of}
use Rattle.route_laws.proofs.Longest.{same_prefix}
use Rattle.route_laws.proofs.Members.{IsMember, addresses, is_inside, member, names}
use Rattle.route_laws.proofs.Members.{none_between, same_says}
use Rattle.route_laws.proofs.Inside.{LongestInside, from_candidate, is_intra, longest_inside}
use Rattle.route_laws.proofs.Inside.{to_candidate, within_or_not}

prefix_of : (contents : Contents) (root : Root) (o : Offer) (x : OffersExternal contents root o)
    → o.prefix
    ≡ x.prefix
prefix_of contents root o x = ap (λ (y : Offer). y.prefix) x.is
    ∙ external_prefix x.lsa.kind x.prefix x.lsa x.originator x.way

-- the router that originated an AS-external-LSA advertises its destination
tells_of : (contents : Contents) (root : Root) (o : Offer) (x : OffersExternal contents root o)
    (router address : ℕ) → x.originator ≡ router → IsUnder address o.prefix
    → TellsOf contents router address o.prefix
tells_of contents root o x router address e under =
    let S : ℕ → Type 0 = λ r. Says contents (record {
      ls_type = 5;
      link_state_id = x.id;
      advertising_router = r;
    }) (body.External x.lsa) in
    let P : Network → Type 0 = λ n. IsPrefix x.id x.lsa.mask n in
    record {
      id = x.id;
      lsa = x.lsa;
      its = subst S e x.its;
      reachable = x.reachable;
      is_prefix = subst P (sym (prefix_of contents root o x)) x.is_prefix;
      under = under;
    }

-- an external destination has another kind than an inter-area one
external_not_inter : (kind : ExternalType) (prefix : Network) (lsa : ExternalLsa) (by : ℕ)
    (way : Way) → (external_offer kind prefix lsa by way).kind ≡ Inter → ⊥
external_not_inter Type1 prefix lsa by way e = cc
external_not_inter Type2 prefix lsa by way e = cc

module _ (topology : Topology) (converged : HasConverged topology)
    (premises : OwnRouterLsasMeetThePremises) (every : EveryOfferHasACandidate)
    (cheapest : CandidatesAreCheapestWalks) where
  -- ---- back: if a link leads to a router, each of its networks is known at this end too

  module _ (place other : ℕ) (a b : Forwarder) (p : StandsAt topology place a)
      (q : StandsAt topology other b) (price exit : ℕ)
      (link : LeadsTo (says_of a.router) (root_of a.router) (ARouter a.router.id)
      (ARouter b.router.id) price exit) where
    abbrev step : Step Node
    step = record { target = ARouter b.router.id; cost = price; exit = exit }

    -- a walk of the other router as one of this router
    record IsWalkHere (node : Node) : Type 0 where
      walk : List (Step Node)
      is_walk : IsWalk (Leads (says_of a.router) (root_of a.router)) (ARouter b.router.id) walk node

    walk_here : (node : Node) (way : Way)
        → IsWay (Leads (says_of a.router) (root_of b.router)) (ARouter b.router.id) node way
        → IsWalkHere node
    walk_here node way is =
        let there = walk_there (says_of a.router) (root_of b.router) (root_of a.router)
        (names topology converged premises place place a a p p) (ARouter b.router.id) node
        is.distance.0 is.distance.1.is_walk in
        record { walk = there.0; is_walk = there.1 }

    -- a route within the area, for a prefix
    record HasIntra (prefix : Network) : Type 0 where
      route : Route
      among : Contains a.table route
      is_for : route.prefix ≡ prefix
      intra : route.kind ≡ Intra

    mine : IsMember (says_of a.router) a
    mine = member topology converged premises place place a a p p

    within_here : (o : Offer) → OffersWithin (says_of a.router) (root_of b.router) o
        → HasIntra o.prefix
    within_here o x =
        let w = walk_here x.node x.way x.reached in
        let cost : ℕ = price + cost_of w.walk + x.more in
        let y : IsReached (says_of a.router) (root_of a.router) x.prefix cost exit = record {
          node = x.node;
          more = x.more;
          attached = x.attached;
          walk = step ∷ w.walk;
          is_walk = (link, w.is_walk);
          costs = refl;
          leaves_by = refl;
        } in
        let r = has_one (says_of a.router) (root_of a.router) every a.table mine.candidates x.prefix
        cost exit y in
        let P : Network → Type 0 = λ n. IsReached (says_of a.router) (root_of a.router) n cost exit
        in
        record {
          route = r.0;
          among = r.1;
          is_for = r.2 ∙ sym (ap (λ (y : Offer). y.prefix) x.is);
          intra = cheapest.preferred (says_of a.router) (root_of a.router) r.0 cost exit
              ((mine.candidates.each r.0).0 r.1) (subst P (sym r.2) y);
        }

    -- a route of the other router, among those that may lead to a forwarding address
    inside_here : (r : Route) → IsRouteAmong (OffersInside (says_of a.router) (root_of b.router)) r
        → HasIntra r.prefix
    inside_here r k = by_case k.is_best.offered
      where
        by_case : OffersInside (says_of a.router) (root_of b.router) k.first → HasIntra r.prefix
        by_case (inr x) = absurd (none_between topology converged premises place other a b p q
            k.first x)
        by_case (inl x) = let h = within_here k.first x in record {
          route = h.route;
          among = h.among;
          is_for = h.is_for ∙ k.is_best.is_for;
          intra = h.intra;
        }

    -- the way to an external destination at this end
    record IsWayHere (lsa : ExternalLsa) (boundary : Way) : Type 0 where
      way : Way
      direct : lsa.forwarding ≡ 0 → way ≡ boundary
      forwarded : lsa.forwarding ≢ 0 → IsForwarded
          (OffersInside (says_of a.router) (root_of a.router)) lsa.forwarding way

    way_here : (o : Offer) (x : OffersExternal (says_of a.router) (root_of b.router) o)
        (boundary : Way) → IsWayHere x.lsa boundary
    way_here o x boundary =
        elim (cases_eq x.lsa.forwarding 0) [
          | inl e ↦ record {
            way = boundary;
            direct = λ _. refl;
            forwarded = λ some. absurd (some e);
          }
          | inr some ↦
              let f = x.is_way.forwarded some in
              let h = inside_here f.by f.is_route in
              let U : Network → Type 0 = λ n. IsUnder x.lsa.forwarding n in
              let best : LongestInside a.table x.lsa.forwarding =
              longest_inside a.table x.lsa.forwarding h.route h.among
              (h.intra, subst U (sym h.is_for) f.under) in
              let none = none_between topology converged premises place place a a p p in
              record {
                way = record { distance = best.route.cost; hops = best.route.hops };
                direct = λ e. absurd (some e);
                forwarded = λ _. record {
                  by = best.route;
                  is_route = from_candidate (says_of a.router) (root_of a.router) none best.route
                      ((mine.candidates.each best.route).0 best.among) best.leads.0;
                  under = best.leads.1;
                  longest = λ r k under. best.longest r
                      ((mine.candidates.each r).1
                      (to_candidate (says_of a.router) (root_of a.router) none r k))
                      (is_intra (says_of a.router) (root_of a.router) none r k, under);
                  is = refl;
                };
              }
        ]

    external_here : (o : Offer) (x : OffersExternal (says_of a.router) (root_of b.router) o)
        → (x.originator ≡ a.router.id → ⊥) → HasRoute a.table o.prefix
    external_here o x other_router =
        let r = is_inside topology converged premises place other a b p q x.originator
        x.is_way.boundary x.is_way.reaches in
        let w = walk_here (ARouter x.originator) x.is_way.boundary r.reached in
        elim (has_route a.table o.prefix) [
          | inl h ↦ h
          | inr none ↦ absurd (
              least.way (Leads (says_of a.router) (root_of a.router)) (ARouter a.router.id)
              (ARouter x.originator) (length (root_of a.router).addresses + 1)
              (λ s l. exit_within (says_of a.router) (root_of a.router) s.target s.cost s.exit l)
              (step ∷ w.walk) (link, w.is_walk) (λ boundary.
              let there = way_here o x boundary.0 in
              let own : Offer = external_offer x.lsa.kind x.prefix x.lsa x.originator there.way in
              let offered : Offers (says_of a.router) (root_of a.router) own = External (record {
                id = x.id;
                originator = x.originator;
                lsa = x.lsa;
                its = x.its;
                reachable = x.reachable;
                of_another = other_router;
                prefix = x.prefix;
                is_prefix = x.is_prefix;
                way = there.way;
                is_way = record {
                  boundary = boundary.0;
                  reaches = Inside (record {
                    lsa = r.lsa;
                    its = r.its;
                    has_e = r.has_e;
                    reached = boundary.1;
                  });
                  direct = there.direct;
                  forwarded = there.forwarded;
                };
                is = refl;
              }) in
              let known = every (says_of a.router) (root_of a.router) a.table own mine.candidates
              offered in
              none (
                known.0,
                known.1,
                known.2
                    ∙ external_prefix x.lsa.kind x.prefix x.lsa x.originator there.way
                    ∙ sym (prefix_of (says_of a.router) (root_of b.router) o x),
              )))
        ]

    here : (address : ℕ) (o : Offer) → (TellsOf (says_of a.router) a.router.id address o.prefix → ⊥)
        → Offers (says_of a.router) (root_of b.router) o → IsUnder address o.prefix
        → HasRoute a.table o.prefix
    here address o silent (Within x) under = let h = within_here o x in (h.route, h.among, h.is_for)
    here address o silent (Between x) under =
        absurd (none_between topology converged premises place other a b p q o x)
    here address o silent (External x) under =
        elim (cases_eq x.originator a.router.id) [
          | inl e ↦ absurd (silent (tells_of (says_of a.router) (root_of b.router) o x a.router.id
              address e under))
          | inr another ↦ external_here o x another
        ]

    known_here : (address : ℕ) (r : Route)
        → (TellsOf (says_of a.router) a.router.id address r.prefix → ⊥) → Contains b.table r
        → IsUnder address r.prefix → HasRoute a.table r.prefix
    known_here address r silent t under =
        let k : IsCandidate (says_of a.router) (root_of b.router) r =
        ((member topology converged premises place other a b p q).candidates.each r).0 t in
        let U : Network → Type 0 = λ n. IsUnder address n in
        let T : Network → Type 0 = λ n. TellsOf (says_of a.router) a.router.id address n → ⊥ in
        let h = here address k.first (subst T (sym k.is_best.is_for) silent) k.is_best.offered
        (subst U (sym k.is_best.is_for) under) in
        (h.0, h.1, h.2 ∙ k.is_best.is_for)

    -- the other router has no route with a longer prefix, unless this one announces the address
    pub no_longer : (address : ℕ) (r : Route) → IsLongest a.table address r
        → (Announces a address → ⊥) → (route : Route) → Contains b.table route
        → IsUnder address route.prefix → route.prefix.length ≤ r.prefix.length
    no_longer address r longest silent route t under =
        elim (cases_lt r.prefix.length route.prefix.length) [
          | inr low ↦ omega (arith, low)
          | inl less ↦
              let U : Network → Type 0 = λ n. IsUnder address n in
              let unheard : TellsOf (says_of a.router) a.router.id address route.prefix → ⊥ =
              λ tells. silent (record {
                prefix = route.prefix;
                tells = tells;
                before = λ (own : Route) (its : IsLongest a.table address own). inl
                    (let low : own.prefix.length ≤ r.prefix.length =
                    longest.longest own its.among its.under in omega (arith, low, less));
              }) in
              let h = known_here address route unheard t under in
              let low : h.0.prefix.length ≤ r.prefix.length =
              longest.longest h.0 h.1 (subst U (sym h.2) under) in
              omega (arith, low, ap (λ (m : Network). m.length) h.2)
        ]

  -- ---- forth

  -- the router that a next hop leads to
  pub record IsNext (place : ℕ) (a : Forwarder) (interface : ℕ) : Type 0 where
    pub other : ℕ
    pub is_across : topology.across place interface ≡ Some other
    pub next : Forwarder
    pub stands : StandsAt topology other next
    pub cost : ℕ
    pub link : LeadsTo (says_of a.router) (root_of a.router) (ARouter a.router.id)
        (ARouter next.router.id) cost interface
    pub end : IsOtherEnd (says_of a.router) (root_of a.router) interface next.router.id

  pub candidate : (place : ℕ) (a : Forwarder) → StandsAt topology place a → (r : Route)
      → Contains a.table r → IsCandidate (says_of a.router) (root_of a.router) r
  candidate place a p r t = ((member topology converged premises place place a a p
      p).candidates.each r).0 t

  pub next_by : (place : ℕ) (a : Forwarder) → StandsAt topology place a → (r : Route)
      → Contains a.table r → (i : ℕ) → 0 < i → IsTrue (has_interface r.hops i) → IsNext place a i
  next_by place a p r t i away is_hop =
      let current = (member topology converged premises place place a a p p).current in
      let apart = addresses topology converged premises place a p in
      let hop = premises.next_hops (says_of a.router) a.router.id a.router.area.links current apart
      r (candidate place a p r t) i away is_hop in
      let across = converged.joined place a p i hop.neighbor hop.is_on hop.full in
      let end = premises.other_end (says_of a.router) a.router.id a.router.area.links current apart
      i hop.neighbor hop.is_on in
      let L : ℕ → Type 0 = λ n. LeadsTo (says_of a.router) (root_of a.router) (ARouter a.router.id)
      (ARouter n) hop.cost i in
      let E : ℕ → Type 0 = λ n. IsOtherEnd (says_of a.router) (root_of a.router) i n in
      record {
        other = across.other;
        is_across = across.is_across;
        next = across.forwarder;
        stands = across.stands;
        cost = hop.cost;
        link = subst L (sym across.is) hop.leads;
        end = subst E (sym across.is) end;
      }

  -- it has a better route for the prefix, or announces the address itself
  pub data Forth (address : ℕ) (r : Route) (place : ℕ) (next : Forwarder) : Type 0 where
    Better : (following : Route) → Contains next.table following → following.prefix ≡ r.prefix
        → IsBetter following r → Forth address r place next
    Announcing : IsAnnouncedAt topology address place → Forth address r place next

  -- an AS-external-LSA by which packets are sent, and the way to the router that originated it
  record IsSent (place : ℕ) (a : Forwarder) (o : Offer) : Type 0 where
    x : OffersExternal (says_of a.router) (root_of a.router) o
    inside : ReachesBoundaryRouter (says_of a.router) (root_of a.router) x.originator
        x.is_way.boundary

  sent : (place : ℕ) (a : Forwarder) → StandsAt topology place a → (o : Offer)
      → Offers (says_of a.router) (root_of a.router) o → (rank o.kind ≡ 0 → ⊥) → IsSent place a o
  sent place a p o (Within x) outside = absurd (outside (ap (λ (y : Offer). rank y.kind) x.is))
  sent place a p o (Between x) outside =
      absurd (none_between topology converged premises place place a a p p o x)
  sent place a p o (External x) outside = record {
    x = x;
    inside = is_inside topology converged premises place place a a p p x.originator
        x.is_way.boundary x.is_way.reaches;
  }

  hops_of : (place : ℕ) (a : Forwarder) (o : Offer) (s : IsSent place a o) → o.hops ≡ s.x.way.hops
  hops_of place a o s = ap (λ (y : Offer). y.hops) s.x.is
      ∙ external_hops s.x.lsa.kind s.x.prefix s.x.lsa s.x.originator s.x.way

  -- the route to a forwarding address is in the table
  record IsBy (a : Forwarder) (way : Way) (address : ℕ) : Type 0 where
    f : IsForwarded (OffersInside (says_of a.router) (root_of a.router)) address way
    among : Contains a.table f.by
    intra : f.by.kind ≡ Intra
    hops : way.hops ≡ f.by.hops

  by_of : (place : ℕ) (a : Forwarder) → StandsAt topology place a → (way : Way) (address : ℕ)
      → IsForwarded (OffersInside (says_of a.router) (root_of a.router)) address way
      → IsBy a way address
  by_of place a p way address f =
      let none = none_between topology converged premises place place a a p p in
      record {
        f = f;
        among = ((member topology converged premises place place a a p p).candidates.each f.by).1
            (to_candidate (says_of a.router) (root_of a.router) none f.by f.is_route);
        intra = is_intra (says_of a.router) (root_of a.router) none f.by f.is_route;
        hops = ap (λ (w : Way). w.hops) f.is;
      }

  -- a route that isn't intra-area comes from no intra-area offer
  outside : (place : ℕ) (a : Forwarder) → StandsAt topology place a → (r : Route)
      → Contains a.table r → (r.kind ≡ Intra → ⊥) → (o : Offer)
      → IsBest (says_of a.router) (root_of a.router) r.prefix o → rank o.kind ≡ 0 → ⊥
  outside place a p r t other o best e =
      other (same_kind r.kind Intra ((candidate_is_as_good (says_of a.router) (root_of a.router) r o
      (candidate place a p r t) best).kind ∙ e))

  module _ (hops : EachHopIsNearer) (toward : EachHopLeadsToAnOriginator)
      (ends : RoutesEndAtTheNetwork) where
    -- the next router's intra-area route for a prefix
    record IsOn (r : Route) (next : Forwarder) : Type 0 where
      following : Route
      among : Contains next.table following
      is_for : following.prefix ≡ r.prefix
      intra : following.kind ≡ Intra
      less : following.cost < r.cost

    within_on : (place : ℕ) (a : Forwarder) → StandsAt topology place a → (r : Route)
        → Contains a.table r → r.kind ≡ Intra → (i : ℕ) → 0 < i → IsTrue (has_interface r.hops i)
        → (n : IsNext place a i) → IsOn r n.next
    within_on place a p r t intra i away is_hop n =
        let k = candidate place a p r t in
        let hands : HandsOn (says_of a.router) (root_of a.router) r n.next.router.id = record {
          interface = i;
          away = away;
          is_hop = is_hop;
          other_end = n.end;
        } in
        let own = names topology converged premises place n.other a n.next p n.stands in
        let its = (member topology converged premises place n.other a n.next p n.stands).candidates
        in
        let f = hops.has_one (says_of a.router) (root_of a.router) (root_of n.next.router) r k intra
        hands own n.next.table its in
        let near = hops.nearer (says_of a.router) (root_of a.router) (root_of n.next.router) r k
        intra hands own f.0 ((its.each f.0).0 f.1) f.2 in
        record { following = f.0; among = f.1; is_for = f.2; intra = near.0; less = near.1 }

    within_forth : (place : ℕ) (a : Forwarder) → StandsAt topology place a
        → (address : ℕ) (r : Route) → Contains a.table r → r.kind ≡ Intra → (i : ℕ) → 0 < i
        → IsTrue (has_interface r.hops i) → (n : IsNext place a i)
        → Forth address r n.other n.next
    within_forth place a p address r t intra i away is_hop n =
        let f = within_on place a p r t intra i away is_hop n in
        Better f.following f.among f.is_for (ByCost (ap rank (f.intra ∙ sym intra)) f.less)

    -- a link leads back
    record IsBack (place : ℕ) (a b : Forwarder) : Type 0 where
      cost : ℕ
      exit : ℕ
      link : LeadsTo (says_of a.router) (root_of b.router) (ARouter b.router.id)
          (ARouter a.router.id) cost exit

    back_by : (place : ℕ) (a : Forwarder) → StandsAt topology place a
        → (i : ℕ) (n : IsNext place a i) → IsBack place a n.next
    back_by place a p i n =
        let contents = says_of a.router in
        let root = root_of n.next.router in
        let its : RouterLink = n.link.1.0 in
        let named = names topology converged premises place n.other a n.next p n.stands its
        n.link.1.1 (inl n.link.1.2) in
        let current = (member topology converged premises place n.other a n.next p n.stands).current
        in
        let counts : Counts contents root n.next.router.id PointToPoint a.router.id its.metric
        (named.0 + 1) = record {
          link = its;
          its = n.link.1.1;
          is_kind = n.link.1.2;
          is_id = n.link.1.3;
          costs = refl;
          not_free = premises.not_free contents n.next.router.id n.next.router.area.links current
              (converged.up_to_date n.other n.next n.stands).costs its n.link.1.1 n.link.1.2;
          by_interface = λ _. (
            named.0,
            refl,
            slice_get_read root.addresses (length root.addresses) named.0 its.link_data refl
                named.1 (sym named.2),
          );
          elsewhere = λ other. absurd (other refl);
        } in
        record {
          cost = its.metric;
          exit = named.0 + 1;
          link = (counts, (n.link.0.link, n.link.0.its, n.link.0.is_kind, n.link.0.is_id));
        }

    -- the next router offers the same destination at a lower cost
    module _ (place : ℕ) (a : Forwarder) (p : StandsAt topology place a) (o : Offer)
        (s : IsSent place a o) (i : ℕ) (is_hop : IsTrue (has_interface o.hops i))
        (n : IsNext place a i)
        (other_router : n.next.router.id ≡ s.x.originator → ⊥) (some : s.x.lsa.forwarding ≢ 0)
        (away : 0 < i) where
      by : IsBy a s.x.way s.x.lsa.forwarding
      by = by_of place a p s.x.way s.x.lsa.forwarding (s.x.is_way.forwarded some)

      on : IsOn by.f.by n.next
      on = let Has : ℕ → Type 0 = λ h. IsTrue (has_interface h i) in
          within_on place a p by.f.by by.among by.intra i away
          (subst Has (hops_of place a o s ∙ by.hops) is_hop) n

      abbrev its_said : Contents
      its_said = says_of a.router

      none_there : (x : Offer) → OffersBetween its_said (root_of n.next.router) x → ⊥
      none_there = none_between topology converged premises place n.other a n.next p n.stands

      its : IsMember its_said n.next
      its = member topology converged premises place n.other a n.next p n.stands

      forwarded_there : IsForwarded (OffersInside its_said (root_of n.next.router))
          s.x.lsa.forwarding (record { distance = on.following.cost; hops = on.following.hops })
      forwarded_there =
          let U : Network → Type 0 = λ m. IsUnder s.x.lsa.forwarding m in
          record {
            by = on.following;
            is_route = from_candidate its_said (root_of n.next.router) none_there on.following
                ((its.candidates.each on.following).0 on.among) on.intra;
            under = subst U (sym on.is_for) by.f.under;
            longest = λ r k under.
                let h = inside_here place n.other a n.next p n.stands n.cost i n.link r k in
                let here : IsRouteAmong (OffersInside its_said (root_of a.router)) h.route =
                from_candidate its_said (root_of a.router)
                (none_between topology converged premises place place a a p p) h.route
                (candidate place a p h.route h.among) h.intra in
                let low : h.route.prefix.length ≤ by.f.by.prefix.length =
                by.f.longest h.route here (subst U (sym h.is_for) under) in
                omega (
                  arith,
                  low,
                  ap (λ (m : Network). m.length) h.is_for,
                  ap (λ (m : Network). m.length) on.is_for,
                );
            is = refl;
          }

      forwarded_again : (Again its_said (root_of n.next.router) o → ⊥) → ⊥
      forwarded_again none =
          let home = back_by place a p i n in
          let walk : List (Step Node) = s.inside.reached.distance.0 in
          let there = walk_there its_said (root_of a.router) (root_of n.next.router)
          (names topology converged premises place n.other a n.next p n.stands)
          (ARouter a.router.id) (ARouter s.x.originator) walk
          s.inside.reached.distance.1.is_walk in
          let first : Step Node = record {
            target = ARouter a.router.id;
            cost = home.cost;
            exit = home.exit;
          } in
          least.way (Leads its_said (root_of n.next.router)) (ARouter n.next.router.id)
          (ARouter s.x.originator) (length (root_of n.next.router).addresses + 1)
          (λ st l. exit_within its_said (root_of n.next.router) st.target st.cost st.exit l)
          (first ∷ there.0) (home.link, there.1) (λ boundary.
          let far : Way = s.x.way in
          let near : Way = record { distance = on.following.cost; hops = on.following.hops } in
          let less : near.distance < far.distance =
          omega (arith, on.less, ap (λ (w : Way). w.distance) by.f.is) in
          let P : Offer → Type 0 = λ y. Again its_said (root_of n.next.router) y in
          none (subst P (sym s.x.is) (record {
            offer = external_offer s.x.lsa.kind s.x.prefix s.x.lsa s.x.originator near;
            offered = External (record {
              id = s.x.id;
              originator = s.x.originator;
              lsa = s.x.lsa;
              its = s.x.its;
              reachable = s.x.reachable;
              of_another = λ e. other_router (sym e);
              prefix = s.x.prefix;
              is_prefix = s.x.is_prefix;
              way = near;
              is_way = record {
                boundary = boundary.0;
                reaches = Inside (record {
                  lsa = s.inside.lsa;
                  its = s.inside.its;
                  has_e = s.inside.has_e;
                  reached = boundary.1;
                });
                direct = λ e. absurd (some e);
                forwarded = λ _. forwarded_there;
              };
              is = refl;
            });
            is_for = external_prefix s.x.lsa.kind s.x.prefix s.x.lsa s.x.originator near
                ∙ sym (external_prefix s.x.lsa.kind s.x.prefix s.x.lsa s.x.originator far);
            beats = external_beats s.x.lsa.kind s.x.prefix s.x.lsa s.x.originator near far less;
          })))

    -- the next router announces the destination of an external route
    announced_next : (place : ℕ) (a : Forwarder) (p : StandsAt topology place a) (address : ℕ)
        (r : Route) → IsLongest a.table address r → (Announces a address → ⊥)
        → (i : ℕ) (n : IsNext place a i) (o : Offer)
        → IsBest (says_of a.router) (root_of a.router) r.prefix o → (rank o.kind ≡ 0 → ⊥)
        → (s : IsSent place a o) → n.next.router.id ≡ s.x.originator
        → IsAnnouncedAt topology address n.other
    announced_next place a p address r longest silent i n o best far s e =
        record {
          forwarder = n.next;
          stands = n.stands;
          announces = record {
            prefix = o.prefix;
            tells = its_tells;
            before = before;
          };
        }
      where
        its_said : Contents
        its_said = says_of a.router

        U : Network → Type 0
        U m = IsUnder address m

        its_tells : TellsOf (says_of n.next.router) n.next.router.id address o.prefix
        its_tells =
            let T : Contents → Type 0 = λ d. TellsOf d n.next.router.id address o.prefix in
            subst T (same_says topology converged premises place n.other a n.next p n.stands)
            (tells_of its_said (root_of a.router) o s.x n.next.router.id address (sym e)
            (subst U (sym best.is_for) longest.under))

        none_there : (x : Offer) → OffersBetween its_said (root_of n.next.router) x → ⊥
        none_there = none_between topology converged premises place n.other a n.next p n.stands

        among_theirs : (route : Route) → Contains n.next.table route
            → IsCandidate its_said (root_of n.next.router) route
        among_theirs route t = ((member topology converged premises place n.other a n.next p
            n.stands).candidates.each route).0 t

        -- an intra-area route would be known here too
        not_within : (route : Route) → Contains n.next.table route → route.prefix ≡ r.prefix
            → route.kind ≡ Intra → ⊥
        not_within route t same intra =
            let h = inside_here place n.other a n.next p n.stands n.cost i n.link route
            (from_candidate its_said (root_of n.next.router) none_there route
            (among_theirs route t) intra) in
            let B : Network → Type 0 = λ m. IsBest its_said (root_of a.router) m o in
            let here : IsBest its_said (root_of a.router) h.route.prefix o =
            subst B (sym (h.is_for ∙ same)) best in
            far (sym (candidate_is_as_good its_said (root_of a.router) h.route o
            (candidate place a p h.route h.among) here).kind ∙ ap rank h.intra)

        not_between : (route : Route) → Contains n.next.table route → route.kind ≡ Inter → ⊥
        not_between route t inter = by_offer k.is_best.offered
          where
            k : IsCandidate its_said (root_of n.next.router) route
            k = among_theirs route t

            by_offer : Offers its_said (root_of n.next.router) k.first → ⊥
            by_offer (Within x) = (let both : Intra ≡ Inter = sym (ap (λ (y : Offer). y.kind) x.is)
                ∙ sym k.kind ∙ inter in cc)
            by_offer (Between x) = none_there k.first x
            by_offer (External x) = external_not_inter x.lsa.kind x.prefix x.lsa x.originator x.way
                (sym (ap (λ (y : Offer). y.kind) x.is) ∙ sym k.kind ∙ inter)

        before : (route : Route) → IsLongest n.next.table address route → ComesBefore o.prefix route
        before route its =
            let low : route.prefix.length ≤ r.prefix.length =
            no_longer place n.other a n.next p n.stands n.cost i n.link address r longest
            silent route its.among its.under in
            let size : o.prefix.length ≡ r.prefix.length =
            ap (λ (m : Network). m.length) best.is_for in
            elim (cases_lt route.prefix.length o.prefix.length) [
              | inl less ↦ inl less
              | inr least ↦
                  let long : route.prefix.length ≡ r.prefix.length =
                  omega (arith, least, low, size) in
                  let same : route.prefix ≡ r.prefix =
                  same_prefix address route.prefix r.prefix its.under longest.under long in
                  inr (
                    long ∙ sym size,
                    not_within route its.among same,
                    not_between route its.among,
                  )
            ]

    external_forth : (place : ℕ) (a : Forwarder) → StandsAt topology place a
        → (address : ℕ) (r : Route) → IsLongest a.table address r → (Announces a address → ⊥)
        → (i : ℕ) → 0 < i → (n : IsNext place a i) → (o : Offer)
        → IsBest (says_of a.router) (root_of a.router) r.prefix o → (rank o.kind ≡ 0 → ⊥)
        → IsTrue (has_interface o.hops i) → IsSent place a o
        → Forth address r n.other n.next
    external_forth place a p address r longest silent i away n o best far is_hop s =
        let k = candidate place a p r longest.among in
        let own = names topology converged premises place n.other a n.next p n.stands in
        let its = (member topology converged premises place n.other a n.next p n.stands).candidates
        in
        elim (cases_eq n.next.router.id s.x.originator) [
          | inl e ↦ Announcing (announced_next place a p address r longest silent i n o best far s
              e)
          | inr other ↦
              elim (cases_eq s.x.lsa.forwarding 0) [
                | inl direct ↦
                    let hands : HandsToward (says_of a.router) (root_of a.router) r n.next.router.id
                    s.x.originator = record {
                      offer = o;
                      is_best = best;
                      hops = o.hops;
                      toward = Boundary s.x refl direct s.x.is_way.boundary s.inside refl;
                      interface = i;
                      is_hop = is_hop;
                      other_end = n.end;
                    } in
                    let f = toward.has_one (says_of a.router) (root_of a.router)
                    (root_of n.next.router) r s.x.originator k hands own other n.next.table its
                    in
                    Better f.0 f.1 f.2 (toward.better (says_of a.router) (root_of a.router)
                    (root_of n.next.router) r s.x.originator k hands own other f.0
                    ((its.each f.0).0 f.1) f.2)
                | inr some ↦
                    let again = forwarded_again place a p o s i is_hop n other some away in
                    let f = again_has_route every (says_of a.router) (root_of n.next.router)
                    r.prefix o best.is_for again n.next.table its in
                    Better f.0 f.1 f.2 (again_is_better (says_of a.router) (root_of a.router)
                    (root_of n.next.router) r o k best again f.0 ((its.each f.0).0 f.1) f.2)
              ]
        ]

    forth : (place : ℕ) (a : Forwarder) → StandsAt topology place a → (address : ℕ) (r : Route)
        → IsLongest a.table address r → (Announces a address → ⊥) → (i : ℕ) → 0 < i
        → IsTrue (has_interface r.hops i) → (n : IsNext place a i)
        → Forth address r n.other n.next
    forth place a p address r longest silent i away is_hop n =
        elim (within_or_not r.kind) [
          | inl intra ↦ within_forth place a p address r longest.among intra i away is_hop n
          | inr other ↦
              let o = ((candidate place a p r longest.among).hops i).0 is_hop in
              let far = outside place a p r longest.among other o.0 o.1 in
              external_forth place a p address r longest silent i away n o.0 o.1 far o.2
              (sent place a p o.0 o.1.offered far)
        ]

    -- ---- the next hop 0

    -- if the way is that to the router that originated the LSA, it has a next hop, and 0 is none
    away_from : (place : ℕ) (a : Forwarder) (o : Offer) (s : IsSent place a o) → s.x.lsa.forwarding
        ≡ 0 → (i : ℕ) → IsTrue (has_interface o.hops i) → 0 < i
    away_from place a o s direct i t =
        let Has : ℕ → Type 0 = λ h. IsTrue (has_interface h i) in
        let hop = (s.inside.reached.hops i).0
        (subst Has (hops_of place a o s ∙ ap (λ (w : Way). w.hops) (s.x.is_way.direct direct))
        t) in
        let first : Step Node = hop.0 in
        let some = price_of_own (says_of a.router) (root_of a.router) first.target first.cost
        first.exit hop.2.is_walk.0 in
        omega (arith, some.1, hop.3)

    direct_hop : (place : ℕ) (a : Forwarder) (o : Offer) (s : IsSent place a o) → s.x.lsa.forwarding
        ≡ 0 → (i : ℕ) × IsTrue (has_interface o.hops i)
    direct_hop place a o s direct = by_walk s.inside.reached.distance.0 s.inside.reached.distance.1
      where
        hops_are : o.hops ≡ s.x.is_way.boundary.hops
        hops_are = hops_of place a o s ∙ ap (λ (w : Way). w.hops) (s.x.is_way.direct direct)

        by_walk : (walk : List (Step Node))
            → IsLeastWalk (Leads (says_of a.router) (root_of a.router)) (ARouter a.router.id) walk
            (ARouter s.x.originator) → (i : ℕ) × IsTrue (has_interface o.hops i)
        by_walk [] l = absurd (let e : ARouter a.router.id ≡ ARouter s.x.originator = l.is_walk in
            let same : s.x.originator ≡ a.router.id = cc in s.x.of_another same)
        by_walk (first ∷ rest) l =
            let Has : ℕ → Type 0 = λ h. IsTrue (has_interface h first.exit) in (
              first.exit,
              subst Has (sym hops_are)
                  ((s.inside.reached.hops first.exit).1 (first, rest, l, refl)),
            )

    first_hop : (place : ℕ) (a : Forwarder) → StandsAt topology place a
        → (o : Offer) (s : IsSent place a o) → (i : ℕ) × IsTrue (has_interface o.hops i)
    first_hop place a p o s =
        elim (cases_eq s.x.lsa.forwarding 0) [
          | inl direct ↦ direct_hop place a o s direct
          | inr some ↦
              let by = by_of place a p s.x.way s.x.lsa.forwarding (s.x.is_way.forwarded some) in
              let h = ends.some_hop (says_of a.router) (root_of a.router) by.f.by
              (candidate place a p by.f.by by.among) by.intra in
              let Has : ℕ → Type 0 = λ hops. IsTrue (has_interface hops h.0) in
              (h.0, subst Has (sym (hops_of place a o s ∙ by.hops)) h.1)
        ]

    external_home : (place : ℕ) (a : Forwarder) → StandsAt topology place a → (r : Route)
        → (o : Offer) → IsBest (says_of a.router) (root_of a.router) r.prefix o
        → IsTrue (has_interface o.hops 0) → (s : IsSent place a o) → IsAttached a r
    external_home place a p r o best is_hop s =
        elim (cases_eq s.x.lsa.forwarding 0) [
          | inl direct ↦ absurd (let away : 0 < 0 = away_from place a o s direct 0 is_hop in
              omega (arith, away))
          | inr some ↦
              let by = by_of place a p s.x.way s.x.lsa.forwarding (s.x.is_way.forwarded some) in
              let Has : ℕ → Type 0 = λ hops. IsTrue (has_interface hops 0) in
              let at = ends.attached (says_of a.router) (root_of a.router) by.f.by
              (candidate place a p by.f.by by.among) by.intra
              (subst Has (hops_of place a o s ∙ by.hops) is_hop) in
              ToForwardingAddress o best s.x by.f.by.prefix by.f.by.cost by.f.under at
        ]

    pub at_home : (place : ℕ) (a : Forwarder) → StandsAt topology place a → (r : Route)
        → Contains a.table r → IsTrue (has_interface r.hops 0) → IsAttached a r
    at_home place a p r t is_hop =
        let k = candidate place a p r t in
        elim (within_or_not r.kind) [
          | inl intra ↦ ToNetwork (ends.attached (says_of a.router) (root_of a.router) r k intra
              is_hop)
          | inr other ↦ (let o = (k.hops 0).0 is_hop in
              external_home place a p r o.0 o.1 o.2
              (sent place a p o.0 o.1.offered (outside place a p r t other o.0 o.1)))
        ]

    -- each route has a next hop
    pub some_hop : (place : ℕ) (a : Forwarder) → StandsAt topology place a → (r : Route)
        → Contains a.table r → (i : ℕ) × IsTrue (has_interface r.hops i)
    some_hop place a p r t =
        let k = candidate place a p r t in
        elim (within_or_not r.kind) [
          | inl intra ↦ ends.some_hop (says_of a.router) (root_of a.router) r k intra
          | inr other ↦
              let s = sent place a p k.first k.is_best.offered
              (outside place a p r t other k.first k.is_best) in
              let h = first_hop place a p k.first s in
              (h.0, (k.hops h.0).1 (k.first, k.is_best, h.1))
        ]

    -- ---- the law

    pub leads_on : (address place : ℕ) (a : Forwarder) → StandsAt topology place a
        → (IsAnnouncedAt topology address place → ⊥) → (r : Route) → IsLongest a.table address r
        → (i : ℕ) → IsTrue (has_interface r.hops i) → LeadsOn topology address place a r i
    leads_on address place a p silent r longest i is_hop =
        elim (cases_lt 0 i) [
          | inr none ↦
              let itself : i ≡ 0 = omega (arith, none) in
              let P : ℕ → Type 0 = λ k. IsTrue (has_interface r.hops k) in
              AtHome itself (at_home place a p r longest.among (subst P itself is_hop))
          | inl away ↦
              let n = next_by place a p r longest.among i away is_hop in
              on n (forth place a p address r longest (λ x. silent (record {
                forwarder = a;
                stands = p;
                announces = x;
              })) i away is_hop n)
        ]
      where
        is_longest : (n : IsNext place a i) → (f : Route) → Contains n.next.table f → f.prefix
            ≡ r.prefix → IsLongest n.next.table address f
        is_longest n f t same =
            let U : Network → Type 0 = λ m. IsUnder address m in
            record {
              among = t;
              under = subst U (sym same) longest.under;
              longest = λ other its under.
                  let low : other.prefix.length ≤ r.prefix.length =
                  no_longer place n.other a n.next p n.stands n.cost i n.link address r longest
                  (λ x. silent (record {
                    forwarder = a;
                    stands = p;
                    announces = x;
                  })) other its under in
                  omega (arith, low, ap (λ (m : Network). m.length) same);
            }

        on : (n : IsNext place a i) → Forth address r n.other n.next
            → LeadsOn topology address place a r i
        on n (Better f t same good) = Further n.other n.next f n.is_across n.stands
            (is_longest n f t same) same good
        on n (Announcing x) = ToAnnouncer n.other n.is_across x

pub each_hop : OwnRouterLsasMeetThePremises → EveryOfferHasACandidate → CandidatesAreCheapestWalks
    → EachHopIsNearer → EachHopLeadsToAnOriginator → RoutesEndAtTheNetwork → EachHopLeadsOn
each_hop premises every cheapest hops toward ends topology converged address place a p silent r
    longest i is_hop =
    leads_on topology converged premises every cheapest hops toward ends address place a p silent r
    longest i is_hop
