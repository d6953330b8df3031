-- The worked topology in which the interface of the left router has cost 0: its candidates,
-- premises, and the packet that is lost.
use Rattle.std.proofs.Common.{◌≡◌, ◌≢◌, ℕ, ◌+◌, ◌≤◌, ◌||◌, inl, inr, Bool, true, false, not, nat_eq}
use Rattle.std.proofs.Common.{eqb-true, List, [], ◌∷◌, filter, Some, slice_get, arith, refl, sym}
use Rattle.std.proofs.Common.{◌∙◌, ap, subst}
use Rattle.std.specs.List.{AllByRecursion, Contains}
use Rattle.words.specs.Prefixes.{IsUnder, Network}
use Rattle.words.specs.declared.key.Key.{Key}
use Rattle.words.specs.declared.route.ExternalType.TheVariants.{Type1}
use Rattle.words.specs.declared.route.Route.{Route}
use Rattle.lsa.specs.declared.body.LsaBody.TheVariants as body
use Rattle.lsa.specs.declared.body.ExternalLsa.{ExternalLsa}
use Rattle.lsa.specs.declared.body.RouterLink.{RouterLink}
use Rattle.event_rules.specs.Originations.{router_body, router_key}
use Rattle.candidates.specs.Borders.{IsLongest}
use Rattle.routes.proofs.Determined.{one_way}
use Rattle.routes.proofs.Prefixes.{one_prefix}
use Rattle.routes.specs.Candidates.{AreCandidates, Offers, OffersExternal, external_offer}
use Rattle.routes.specs.Candidates.Offers.{Between, External, Within}
use Rattle.routes.specs.Links.{IsRouterLsa, Leads, LeadsTo, Says}
use Rattle.routes.specs.Offers.{Attaches, IsPrefix, OffersWithin}
use Rattle.routes.specs.Paths.{IsWalk, IsWay, Step, Way}
use Rattle.routes.specs.Routes.{IsForwarded, IsRouteAmong}
use Rattle.routes.specs.Contents.{Contents, contents_at}
use Rattle.routes.specs.Summaries.{OffersInside}
use Rattle.routes.specs.Summaries.IsBoundaryWay.{Inside}
use Rattle.routes.specs.declared.node.Node.{Node}
use Rattle.routes.specs.declared.node.Node.TheVariants.{ANetwork, ARouter}
use Rattle.routes.specs.declared.offer.Offer.{Offer}
use Rattle.route_laws.specs.Worked.{database, ipv4, network_24, router_lsa}
use Rattle.route_laws.proofs.Alone.{alone_among, is_stub, kind_is_stub, route_of}
use Rattle.route_laws.proofs.Entries.{all_pass, has_link, is_no_network, is_said, kept, links_of}
use Rattle.route_laws.proofs.Entries.{sayings}
use Rattle.route_laws.proofs.Labels.{AreChecked, either_true, is_point, not_both}
use Rattle.route_laws.proofs.Made.{no_hop, says}
use Rattle.route_laws.proofs.NoSummaries.{is_inside, is_within, nothing_between}
use Rattle.route_laws.specs.Networks.{IsThere}
use Rattle.route_laws.specs.Networks.IsThere.{Announced, Attached}
use Rattle.route_laws.specs.Topologies.{Announces, Forwarder, IsAnnouncedAt, IsCurrentForwarder}
use Rattle.route_laws.specs.Topologies.{IsUpToDate, external_key}
use Rattle.route_laws.specs.WorkedTopologies.{ZeroCostsMayLosePackets, abroad, abroad_lsa}
use Rattle.route_laws.specs.WorkedTopologies.{address_abroad, between, interface_at, left_id}
use Rattle.route_laws.specs.WorkedTopologies.{middle_id, middle_links, narrow, right_id}
use Rattle.route_laws.specs.WorkedTopologies.{right_links, wide, wide_network, with_zero_cost}
use Rattle.route_laws.specs.WorkedTopologies.{zero_cost, zero_left, zero_links, zero_middle}
use Rattle.route_laws.specs.WorkedTopologies.{zero_right}
use Rattle.route_laws.proofs.OneOffer.{IsWayFrom, candidates_of, hops_at, stub_by, stub_within, way}
use Rattle.route_laws.proofs.OneOffer.{way_to}
use Rattle.route_laws.proofs.ThreeRouters.{IsRow, RowWays, all_agree, all_joined, at_first, at_left}
use Rattle.route_laws.proofs.ThreeRouters.{at_middle, at_right, at_second, between_offer, by_router}
use Rattle.route_laws.proofs.ThreeRouters.{inner, is_current, lsa_of, middle_ways, narrow_offer}
use Rattle.route_laws.proofs.ThreeRouters.{offered, right_candidates, three_places, up_to_date}
use Rattle.route_laws.proofs.ThreeRouters.{wide_offer, wide_stub}
use Rattle.route_laws.proofs.Ordered.{in_order, one_for_prefix}
use Rattle.route_laws.proofs.Listed.{each_route}
use Rattle.route_laws.proofs.ExternalOffers.{CountsAsExternal, IsOfferOf, counts_24, each_external}
use Rattle.route_laws.proofs.ExternalOffers.{is_offer_of, offered_by_address, only_by_address}
use Rattle.route_laws.proofs.Parts.{not_under, one_of}
use Rattle.adjacency.specs.declared.interface.Interface.{Interface}

abbrev zero_says : Contents
zero_says = contents_at 0 (database zero_cost)

left_says : IsRouterLsa zero_says left_id (router_lsa (lsa_of zero_links))
left_says = says zero_cost (router_key left_id) (router_body zero_links) refl

middle_says : IsRouterLsa zero_says middle_id (router_lsa (lsa_of middle_links))
middle_says = says zero_cost (router_key middle_id) (router_body middle_links) refl

right_says : IsRouterLsa zero_says right_id (router_lsa (lsa_of right_links))
right_says = says zero_cost (router_key right_id) (router_body right_links) refl

abbrev abroad_key : Key
abroad_key = external_key (ipv4 203 0 113 0) right_id

is_row : IsRow zero_cost 0 (lsa_of zero_links) (lsa_of middle_links)
is_row = record {
  stubs = refl;
  networks = refl;
  summaries = refl;
  left = left_says;
  has_wide = (1, omega arith, refl);
  from_left = (0, omega arith, refl);
  middle = middle_says;
  has_stub = (1, omega arith, refl);
  toward_left = ipv4 10 0 0 1;
  to_left = (0, omega arith, refl);
  toward_right = ipv4 10 0 0 2;
  to_right = (2, omega arith, refl);
  right = right_says;
}

-- ---- ways

-- the label of the middle router is below its distance, since it has none
left_checked : AreChecked at_left (sayings zero_cost) (by_router 0 0 0) (by_router 0 2 0)
left_checked = record { start = refl; routers = refl; links = refl }

left_left : IsWayFrom zero_cost at_left left_id (way 0 0)
left_left = way_to zero_cost at_left (by_router 0 0 0) (by_router 0 2 0) left_checked left_id []
    refl refl (λ i t. absurd (no_hop i t))

of_middle : RowWays zero_cost at_middle (way 5 2) (way 0 0) (way 5 4) 2 1 4
of_middle = middle_ways zero_cost 0 (lsa_of zero_links) is_row
    (record { start = refl; routers = refl; links = refl })

-- ---- no way leads out of the left router

abbrev has_no_metric : ℕ × RouterLink → Bool
has_no_metric x = not (nat_eq x.0 left_id) || (not (is_point x.1.kind) || nat_eq x.1.metric 0)

nowhere : (node : Node) (price exit : ℕ)
    → LeadsTo zero_says at_left (ARouter left_id) node price exit → ⊥
nowhere (ARouter b) price exit l =
    let k = l.0 in
    let e : (not (is_point k.link.kind) || nat_eq k.link.metric 0) ≡ true =
    all_pass has_no_metric (links_of (sayings zero_cost)) refl (left_id, k.link)
    (has_link 0 zero_cost left_id k.link k.its) in
    elim (either_true (not (is_point k.link.kind)) (nat_eq k.link.metric 0) e) [
      | inl other ↦ not_both (is_point k.link.kind) other (ap is_point k.is_kind)
      | inr none ↦ let zero : k.link.metric ≡ 0 = eqb-true k.link.metric 0 none in
          omega (arith, zero, k.costs, k.not_free)
    ]
nowhere (ANetwork id by) price exit l =
    let e : false ≡ true = all_pass is_no_network (sayings zero_cost) refl (
      record {
        ls_type = 2;
        link_state_id = id;
        advertising_router = by;
      },
      body.Network l.1.lsa,
    )
    (is_said 0 zero_cost _ (body.Network l.1.lsa) l.1.its) in
    cc

stays_home : (walk : List (Step Node)) (node : Node)
    → IsWalk (Leads zero_says at_left) (ARouter left_id) walk node → ARouter left_id ≡ node
stays_home [] node p = p
stays_home (s ∷ rest) node p = absurd (nowhere s.target s.cost s.exit p.0)

at_home : (node : Node) (w : Way) → IsWay (Leads zero_says at_left) (ARouter left_id) node w
    → ARouter left_id ≡ node
at_home node w is = stays_home is.distance.0 node is.distance.1.is_walk

-- ---- the candidate of the left router

abbrev home_offer : Offer
home_offer = wide_offer 0 1

abbrev IsHome : ℕ × RouterLink → Type 0
IsHome x = x.0 ≡ left_id → x.1 ≡ wide_stub 0

homes : AllByRecursion IsHome (filter is_stub (links_of (sayings zero_cost)))
homes = (
  λ e. refl,
  (
    λ e. absurd (omega (arith, e)),
    (λ e. absurd (omega (arith, e)), (λ e. absurd (omega (arith, e)), tt)),
  ),
)

home_alone : (o : Offer) → OffersWithin zero_says at_left o → o ≡ home_offer
home_alone o x =
    let here : ARouter left_id ≡ x.node = at_home x.node x.way x.reached in
    let A : Node → Type 0 = λ n. Attaches zero_says n x.prefix x.more in
    let a : Attaches zero_says (ARouter left_id) x.prefix x.more = subst A (sym here) x.attached in
    let W : Node → Type 0 = λ n. IsWay (Leads zero_says at_left) (ARouter left_id) n x.way in
    let w : way 0 0 ≡ x.way = one_way (Leads zero_says at_left) (ARouter left_id) (ARouter left_id)
    (way 0 0) x.way left_left (subst W (sym here) x.reached) in
    let l : a.0 ≡ wide_stub 0 = one_of IsHome (filter is_stub (links_of (sayings zero_cost))) homes
    (left_id, a.0) (kept is_stub (links_of (sayings zero_cost)) (left_id, a.0)
    (has_link 0 zero_cost left_id a.0 a.1) (ap kind_is_stub a.2)) refl in
    let P : RouterLink → Type 0 = λ k. IsPrefix k.link_id k.link_data x.prefix in
    let p : wide_network ≡ x.prefix =
    one_prefix (wide_stub 0).link_id (wide_stub 0).link_data 23 x.prefix (omega arith) refl
    (subst P l a.3) in
    let d : 0 ≡ x.way.distance = ap (λ (v : Way). v.distance) w in
    let m : x.more ≡ 0 = a.4 ∙ ap (λ (k : RouterLink). k.metric) l in
    let cost : x.way.distance + x.more ≡ 0 = omega (arith, d, m) in
    let h : x.hops ≡ 1 = x.by_root (sym here) in
    x.is ∙ (λ i. record {
      prefix = sym p i;
      kind = home_offer.kind;
      cost = cost i;
      distance = 0;
      hops = h i;
      tag = 0;
      originator = 0;
    })

home_offers : (o : Offer) → Offers zero_says at_left o → Contains (home_offer ∷ []) o
home_offers o (Within x) = (0, omega arith, sym (home_alone o x))
home_offers o (Between x) = absurd (nothing_between 0 zero_cost refl at_left o x)
home_offers o (External x) =
    let reaches = is_inside 0 zero_cost refl at_left x.originator x.is_way.boundary x.is_way.reaches
    in
    let here : ARouter left_id ≡ ARouter x.originator =
    at_home (ARouter x.originator) x.is_way.boundary reaches.reached in
    absurd (x.of_another (let same : x.originator ≡ left_id = cc in same))

home_offered : Offers zero_says at_left home_offer
home_offered = Within (stub_within zero_cost at_left left_id (lsa_of zero_links) left_says
    (wide_stub 0) (1, omega arith, refl) refl 23 home_offer
    (stub_by zero_cost at_left left_id (wide_stub 0) 23 (way 0 0) 1 left_left
    (hops_at at_left left_id refl 0) (omega arith) refl))

left_candidates : AreCandidates zero_says at_left (wide 0 1 ∷ [])
left_candidates =
    candidates_of zero_says at_left (home_offer ∷ [])
    (in_order (λ (o : Offer). o.prefix) (home_offer ∷ []) refl)
    (λ o t. one_of (λ (x : Offer). Offers zero_says at_left x) (home_offer ∷ []) (home_offered, tt)
    o t) home_offers

-- ---- the AS-external-LSA

abbrev IsTheOne : Key → ExternalLsa → Type 0
IsTheOne k lsa = (k ≡ abroad_key) × (lsa ≡ abroad_lsa)

the_one : (k : Key) (lsa : ExternalLsa) → Says zero_says k (body.External lsa) → IsTheOne k lsa
the_one = each_external IsTheOne zero_cost (tt, (tt, (tt, ((refl, refl), tt))))

-- ---- the candidates of the right router, whose own LSA it is

none_abroad : (o : Offer) → OffersExternal zero_says at_right o → ⊥
none_abroad o x = x.of_another (ap (λ (k : Key). k.advertising_router) (the_one _ x.lsa x.its).0)

of_right : AreCandidates zero_says at_right (between 10 2 ∷ wide 10 2 ∷ narrow 5 1 ∷ [])
of_right = right_candidates zero_cost 0 (lsa_of zero_links) (lsa_of middle_links) is_row
    (record { start = refl; routers = refl; links = refl }) none_abroad

-- ---- the candidates of the middle router

abbrev nearby : List Offer
nearby = between_offer 5 1 ∷ wide_offer 5 2 ∷ narrow_offer 10 4 ∷ []

within_nearby : (o : Offer) → OffersWithin zero_says at_middle o → Contains nearby o
within_nearby = inner zero_cost 0 (lsa_of zero_links) (lsa_of middle_links) is_row at_middle
    (way 5 2) (way 0 0) (way 5 4) 2 1 4 of_middle

nearby_offered : (o : Offer) → Contains nearby o → Offers zero_says at_middle o
nearby_offered = offered zero_cost 0 (lsa_of zero_links) (lsa_of middle_links) is_row at_middle
    (way 5 2) (way 0 0) (way 5 4) 2 1 4 of_middle

nearby_inside : (o : Offer) → OffersInside zero_says at_middle o → Contains nearby o
nearby_inside o x = within_nearby o (is_within 0 zero_cost refl at_middle o x)

-- ---- the forwarding address, which is in the left router's network

wide_there : OffersWithin zero_says at_middle (wide_offer 5 2)
wide_there = stub_within zero_cost at_middle left_id (lsa_of zero_links) left_says (wide_stub 0)
    (1, omega arith, refl) refl 23 (wide_offer 5 2)
    (stub_by zero_cost at_middle left_id (wide_stub 0) 23 (way 5 2) 2 of_middle.to_l of_middle.of_l
    (omega arith) refl)

abbrev forwarding : ℕ
forwarding = ipv4 192 0 3 9

-- a network with a prefix of at most 23 bits, or one that doesn't contain the address
abbrev IsShort : Network → Type 0
IsShort n = IsUnder forwarding n → n.length ≤ 23

short : (r : Route) → IsRouteAmong (OffersInside zero_says at_middle) r → IsShort r.prefix
short = each_route (OffersInside zero_says at_middle) nearby nearby_inside IsShort (
  (λ u. absurd (not_under forwarding (network_24 10 0 0) refl u)),
  (
    (λ u. let low : 23 ≤ 23 = omega arith in low),
    ((λ u. absurd (not_under forwarding (network_24 192 0 2) refl u)), tt),
  ),
)

to_forwarding : IsForwarded (OffersInside zero_says at_middle) forwarding (way 5 2)
to_forwarding = record {
  by = route_of (wide_offer 5 2);
  is_route = alone_among (OffersInside zero_says at_middle) (wide_offer 5 2) (inl wide_there)
      (λ o given same. inl (one_for_prefix (λ (x : Offer). x.prefix) nearby
      (in_order (λ (x : Offer). x.prefix) nearby refl) o (wide_offer 5 2) (nearby_inside o given)
      (1, omega arith, refl) same));
  under = refl;
  longest = λ r k u. short r k u;
  is = refl;
}

some_forwarding : abroad_lsa.forwarding ≢ 0
some_forwarding e = let z : ipv4 192 0 3 9 ≡ 0 = e in omega (arith, z)

-- ---- all that the middle router is offered

abbrev abroad_offer : Offer
abroad_offer = external_offer Type1 (network_24 203 0 113) abroad_lsa right_id (way 5 2)

abroad_counts : CountsAsExternal zero_says at_middle (ipv4 203 0 113 0) right_id abroad_lsa 24
abroad_counts = counts_24 zero_cost at_middle (ipv4 203 0 113 0) right_id abroad_lsa refl
    (omega arith) (λ e. omega (arith, e)) refl

abroad_offered : Offers zero_says at_middle abroad_offer
abroad_offered = External (offered_by_address zero_says at_middle (ipv4 203 0 113 0) right_id
    abroad_lsa 24 abroad_counts some_forwarding (way 5 2) to_forwarding (way 5 4) (Inside (record {
      lsa = router_lsa (lsa_of right_links);
      its = right_says;
      has_e = refl;
      reached = of_middle.to_r;
    })))

abroad_alone : (o : Offer) → OffersExternal zero_says at_middle o → abroad_offer ≡ o
abroad_alone o x =
    each_external (λ (k : Key) (l : ExternalLsa). (y : Offer)
    → IsOfferOf zero_says at_middle k.link_state_id k.advertising_router l y → abroad_offer ≡ y)
    zero_cost (
      tt,
      (
        tt,
        (
          tt,
          (
            only_by_address zero_says at_middle (ipv4 203 0 113 0) right_id abroad_lsa 24
                abroad_counts some_forwarding (way 5 2) to_forwarding,
            tt,
          ),
        ),
      ),
    ) (external_key x.id x.originator) x.lsa x.its o (is_offer_of zero_says at_middle o x)

abbrev all : List Offer
all = between_offer 5 1 ∷ wide_offer 5 2 ∷ narrow_offer 10 4 ∷ abroad_offer ∷ []

all_offers : (o : Offer) → Offers zero_says at_middle o → Contains all o
all_offers o (Within x) = one_of (λ (y : Offer). Contains all y) nearby
    ((0, omega arith, refl), ((1, omega arith, refl), ((2, omega arith, refl), tt))) o
    (within_nearby o x)
all_offers o (Between x) = absurd (nothing_between 0 zero_cost refl at_middle o x)
all_offers o (External x) = (3, omega arith, abroad_alone o x)

each_offered : (o : Offer) → Contains all o → Offers zero_says at_middle o
each_offered = one_of (λ (y : Offer). Offers zero_says at_middle y) all (
  nearby_offered (between_offer 5 1) (0, omega arith, refl),
  (
    nearby_offered (wide_offer 5 2) (1, omega arith, refl),
    (nearby_offered (narrow_offer 10 4) (2, omega arith, refl), (abroad_offered, tt)),
  ),
)

middle_candidates : AreCandidates zero_says at_middle zero_middle.table
middle_candidates = candidates_of zero_says at_middle all
    (in_order (λ (o : Offer). o.prefix) all refl) each_offered all_offers

-- ---- premises

abbrev the_routers : List Forwarder
the_routers = zero_left ∷ zero_middle ∷ zero_right ∷ []

left_is : IsCurrentForwarder zero_left
left_is = is_current zero_cost left_id zero_links zero_left.table left_says left_candidates

others_are : (place : ℕ) (f : Forwarder) → slice_get the_routers place ≡ Some f → place ≢ 0
    → IsUpToDate f
others_are =
    three_places (λ place f. place ≢ 0 → IsUpToDate f) zero_left zero_middle zero_right
    (λ other. absurd (other refl))
    (λ _. up_to_date zero_cost middle_id middle_links zero_middle.table middle_says refl refl
    middle_candidates)
    (λ _. up_to_date zero_cost right_id right_links zero_right.table right_says refl refl
    of_right)

abbrev of_zero_cost : Interface
of_zero_cost = record (interface_at (ipv4 192 0 3 1) 23) { cost = 0 }

-- ---- the packet

abroad_longest : IsLongest zero_middle.table address_abroad abroad
abroad_longest = record {
  among = (3, omega arith, refl);
  under = refl;
  longest = λ r t u. one_of (λ (x : Route). x.prefix.length ≤ 24) zero_middle.table (
    (let low : 24 ≤ 24 = omega arith in low),
    (
      (let low : 23 ≤ 24 = omega arith in low),
      (
        (let low : 24 ≤ 24 = omega arith in low),
        ((let low : 24 ≤ 24 = omega arith in low), tt),
      ),
    ),
  ) r t;
}

-- only the right router announces anything
not_announced : (place : ℕ) → place ≢ 2 → IsAnnouncedAt with_zero_cost address_abroad place → ⊥
not_announced place other x =
    three_places (λ at f. at ≢ 2 → Announces f address_abroad → ⊥) zero_left zero_middle zero_right
    (λ _ a. let e : left_id ≡ right_id =
    ap (λ (k : Key). k.advertising_router) (the_one _ a.tells.lsa a.tells.its).0 in
    omega (arith, e))
    (λ _ a. let e : middle_id ≡ right_id =
    ap (λ (k : Key). k.advertising_router) (the_one _ a.tells.lsa a.tells.its).0 in
    omega (arith, e))
    (λ same. absurd (same refl)) place x.forwarder x.stands other x.announces

no_route : (f : Forwarder) → slice_get the_routers 0 ≡ Some f → (route : Route)
    → IsLongest f.table address_abroad route → ⊥
no_route f stands route longest =
    let same : zero_left ≡ f = cc in
    let P : Forwarder → Type 0 = λ x. IsLongest x.table address_abroad route in
    let of_left : IsLongest zero_left.table address_abroad route = subst P (sym same) longest in
    one_of (λ (r : Route). IsUnder address_abroad r.prefix → ⊥) zero_left.table
    (not_under address_abroad wide_network refl, tt) route of_left.among of_left.under

not_there : IsThere with_zero_cost address_abroad 0 → ⊥
not_there (Attached f stands route longest attached) = no_route f stands route longest
not_there (Announced x) = not_announced 0 (λ e. omega (arith, e)) x

pub zero_costs : ZeroCostsMayLosePackets
zero_costs = record {
  is_current = left_is;
  addresses = refl;
  others = others_are;
  agree = all_agree zero_cost of_zero_cost at_first at_second zero_left.table zero_middle.table
      zero_right.table;
  joined = all_joined zero_cost of_zero_cost at_first at_second zero_left.table zero_middle.table
      zero_right.table;
  has_route = abroad_longest;
  handed_along = (
    record {
      forwarder = zero_middle;
      stands = refl;
      route = abroad;
      longest = abroad_longest;
      interface = 1;
      away = omega arith;
      is_hop = refl;
      is_across = refl;
    },
    not_announced 1 (λ e. omega (arith, e)),
    tt,
  );
  goes_no_further = λ to h. no_route h.forwarder h.stands h.route h.longest;
  is_not_there = not_there;
}
