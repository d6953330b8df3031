-- The worked topologies: candidates of each router, premises, and packets.
use Rattle.std.proofs.Common.{◌≡◌, ℕ, zero, suc, ◌+◌, ◌<◌, ◌≤◌, inl, inr, cond, true, IsTrue}
use Rattle.std.proofs.Common.{nat_eq, List, [], ◌∷◌, filter, Option, None, Some, slice_get, arith}
use Rattle.std.proofs.Common.{refl, sym, ◌∙◌, ap, subst}
use Rattle.std.specs.List.{AllByRecursion, Contains, flat_map, list_all}
use Rattle.words.specs.Numbers.{InterfaceNumber}
use Rattle.words.specs.declared.route.Route.{Route}
use Rattle.lsa.specs.declared.body.LsaBody.TheVariants as body
use Rattle.lsa.specs.declared.body.RouterLink.{RouterLink}
use Rattle.adjacency.specs.Neighbors.{Neighbor, is_full}
use Rattle.adjacency.specs.declared.interface.Interface.{Interface}
use Rattle.area_routes.specs.Offers.{root_by}
use Rattle.event_rules.specs.Originations.{links_of as links_made, router_body, router_key, stub}
use Rattle.candidates.specs.Borders.{IsLongest}
use Rattle.received.specs.Links.{Link, neighbor_at}
use Rattle.routes.proofs.Lists.{later_is, of_cons}
use Rattle.routes.specs.Candidates.{AreCandidates, Offers, OffersExternal}
use Rattle.routes.specs.Candidates.Offers.{Between, External, Within}
use Rattle.routes.specs.Links.{IsRouterLsa, LeadsTo, Says}
use Rattle.routes.specs.Offers.{OffersWithin, intra}
use Rattle.routes.specs.Paths.{Way}
use Rattle.routes.specs.Routes.IsBefore.{ByAddress}
use Rattle.routes.specs.Contents.{Contents, contents_at}
use Rattle.routes.specs.declared.node.Node.TheVariants.{ARouter}
use Rattle.routes.specs.declared.offer.Offer.{Offer}
use Rattle.routes.specs.declared.root.Root.{Root}
use Rattle.route_laws.specs.Worked.{Entries, database, ipv4, network_24, point_to_point, router_lsa}
use Rattle.route_laws.proofs.Alone.{Known, StubOffer, is_stub, route_of}
use Rattle.route_laws.proofs.Entries.{is_no_network, links_of, mapped, sayings}
use Rattle.route_laws.proofs.Labels.{AreChecked}
use Rattle.route_laws.proofs.Made.{back, from_other, from_root, linked, no_hop, only_one, only_two}
use Rattle.route_laws.proofs.Made.{says}
use Rattle.route_laws.proofs.NoSummaries.{is_no_summary, nothing_between}
use Rattle.route_laws.specs.Premises.{HaveCosts, HaveOwnAddresses}
use Rattle.route_laws.specs.Networks.IsAttached.{ToNetwork}
use Rattle.route_laws.specs.Networks.IsThere.{Attached}
use Rattle.route_laws.specs.Topologies.{AreJoined, Forwarder, HandsTo, HasConverged, IsAcross}
use Rattle.route_laws.specs.Topologies.{IsAnnouncedAt, IsCurrentForwarder, IsUpToDate}
use Rattle.route_laws.specs.Topologies.{HaveSameContents}
use Rattle.route_laws.specs.Topologies.{Topology, says_of}
use Rattle.route_laws.specs.WorkedTopologies.{CrossedLinksMayLoop, WorkedTopology, across_row}
use Rattle.route_laws.specs.WorkedTopologies.{address, between, crossed_row, forwarder, full}
use Rattle.route_laws.specs.WorkedTopologies.{in_a_row, interface_at, its_copy, left, left_id}
use Rattle.route_laws.specs.WorkedTopologies.{left_links, left_routes, link_with, middle, middle_id}
use Rattle.route_laws.specs.WorkedTopologies.{middle_links, middle_routes, narrow, right, right_id}
use Rattle.route_laws.specs.WorkedTopologies.{right_links, right_routes, row, wide, wide_network}
use Rattle.route_laws.proofs.OneOffer.{HopsTo, IsWayFrom, Walk, candidates_of, each_stub, hops_at}
use Rattle.route_laws.proofs.OneOffer.{hops_from, is_router, no_external, stub_by, stub_within, to}
use Rattle.route_laws.proofs.OneOffer.{way, way_to}
use Rattle.route_laws.proofs.Ordered.{in_order}
use Rattle.route_laws.proofs.Parts.{in_front, one_of}
use Rattle.routes.specs.Routes.{IsBefore}

-- ---- lists of three

pub three_places : {X : Type 0} (P : ℕ → X → Type 0) (a b c : X) → P 0 a → P 1 b → P 2 c
    → (k : ℕ) (x : X) → slice_get (a ∷ b ∷ c ∷ []) k ≡ Some x → P k x
three_places P a b c at_a at_b at_c zero x e = let same : a ≡ x = cc in subst (P 0) same at_a
three_places P a b c at_a at_b at_c (suc zero) x e = let same : b ≡ x = cc in subst (P 1) same at_b
three_places P a b c at_a at_b at_c (suc (suc zero)) x e = let same : c ≡ x = cc in
    subst (P 2) same at_c
three_places P a b c at_a at_b at_c (suc (suc (suc k))) x e = absurd (cc)

pub two_places : {X : Type 0} (P : ℕ → X → Type 0) (a b : X) → P 0 a → P 1 b → (k : ℕ) (x : X)
    → slice_get (a ∷ b ∷ []) k ≡ Some x → P k x
two_places P a b at_a at_b zero x e = let same : a ≡ x = cc in subst (P 0) same at_a
two_places P a b at_a at_b (suc zero) x e = let same : b ≡ x = cc in subst (P 1) same at_b
two_places P a b at_a at_b (suc (suc k)) x e = absurd (cc)

-- ---- the routers

abbrev pub lsa_of : List Link → List RouterLink
lsa_of links = flat_map links_made links

abbrev pub at_left : Root
at_left = root_by left_id left_links

abbrev pub at_middle : Root
at_middle = root_by middle_id middle_links

abbrev pub at_right : Root
at_right = root_by right_id right_links

-- ---- their stub links

abbrev pub wide_stub : ℕ → RouterLink
wide_stub cost = stub (record (interface_at (ipv4 192 0 3 1) 23) { cost = cost })

abbrev pub first_stub : RouterLink
first_stub = stub (interface_at (ipv4 10 0 0 1) 24)

abbrev pub second_stub : RouterLink
second_stub = stub (interface_at (ipv4 10 0 0 2) 24)

abbrev pub narrow_stub : RouterLink
narrow_stub = stub (interface_at (ipv4 192 0 2 1) 24)

-- of all three, with this cost of the left one's interface
abbrev pub row_stubs : ℕ → List (ℕ × RouterLink)
row_stubs cost = (left_id, wide_stub cost) ∷ (middle_id, first_stub) ∷ (middle_id, second_stub)
    ∷ (right_id, narrow_stub) ∷ []

-- ---- databases of the three

abbrev pub by_router : ℕ → ℕ → ℕ → ℕ → ℕ
by_router l m r router = cond (nat_eq router left_id) l
    (cond (nat_eq router middle_id) m (cond (nat_eq router right_id) r 0))

abbrev pub said_in : Entries → Contents
said_in es = contents_at 0 (database es)

-- The router-LSAs of the three, with these links of the left one, whose interface has this cost,
-- and of the middle one. There may be other LSAs, but no network-LSA or summary-LSA, and no further
-- stub link.
pub record IsRow (es : Entries) (cost : ℕ) (of_left of_middle : List RouterLink) : Type 0 where
  pub stubs : filter is_stub (links_of (sayings es)) ≡ row_stubs cost
  pub networks : list_all is_no_network (sayings es) ≡ true
  pub summaries : list_all is_no_summary (sayings es) ≡ true
  pub left : IsRouterLsa (said_in es) left_id (router_lsa of_left)
  pub has_wide : Contains of_left (wide_stub cost)
  pub from_left : Contains of_left (point_to_point middle_id (ipv4 192 0 3 1) cost)
  pub middle : IsRouterLsa (said_in es) middle_id (router_lsa of_middle)
  pub has_stub : Contains of_middle first_stub
  -- the middle router's addresses on its links to the other two
  pub toward_left : ℕ
  pub to_left : Contains of_middle (point_to_point left_id toward_left 5)
  pub toward_right : ℕ
  pub to_right : Contains of_middle (point_to_point right_id toward_right 5)
  pub right : IsRouterLsa (said_in es) right_id (router_lsa (lsa_of right_links))

-- ---- candidates

abbrev pub between_offer : ℕ → ℕ → Offer
between_offer cost hops = intra (network_24 10 0 0) cost hops

abbrev pub wide_offer : ℕ → ℕ → Offer
wide_offer cost hops = intra wide_network cost hops

abbrev pub narrow_offer : ℕ → ℕ → Offer
narrow_offer cost hops = intra (network_24 192 0 2) cost hops

-- a root's ways to the three, and the hops of the offers by them
pub record RowWays (es : Entries) (root : Root) (l m r : Way) (hl hm hr : ℕ) : Type 0 where
  pub to_l : IsWayFrom es root left_id l
  pub to_m : IsWayFrom es root middle_id m
  pub to_r : IsWayFrom es root right_id r
  pub of_l : HopsTo root left_id l.hops hl
  pub of_m : HopsTo root middle_id m.hops hm
  pub of_r : HopsTo root right_id r.hops hr

module _ (es : Entries) (cost : ℕ) (of_left of_middle : List RouterLink)
    (its : IsRow es cost of_left of_middle)
    (root : Root) (l m r : Way) (hl hm hr : ℕ) (ways : RowWays es root l m r hl hm hr) where
  abbrev offers : List Offer
  offers = between_offer (m.distance + 5) hm ∷ wide_offer (l.distance + cost) hl
      ∷ narrow_offer (r.distance + 5) hr ∷ []

  abbrev Among : Offer → Type 0
  Among o = Contains offers o

  first_is : StubOffer (said_in es) root middle_id first_stub 24
      (between_offer (m.distance + 5) hm)
  first_is = stub_by es root middle_id first_stub 24 m hm ways.to_m ways.of_m (omega arith) refl

  second_is : StubOffer (said_in es) root middle_id second_stub 24
      (between_offer (m.distance + 5) hm)
  second_is = stub_by es root middle_id second_stub 24 m hm ways.to_m ways.of_m (omega arith) refl

  wide_is : StubOffer (said_in es) root left_id (wide_stub cost) 23
      (wide_offer (l.distance + cost) hl)
  wide_is = stub_by es root left_id (wide_stub cost) 23 l hl ways.to_l ways.of_l (omega arith) refl

  narrow_is : StubOffer (said_in es) root right_id narrow_stub 24
      (narrow_offer (r.distance + 5) hr)
  narrow_is = stub_by es root right_id narrow_stub 24 r hr ways.to_r ways.of_r (omega arith) refl

  abbrev AreKnown : List (ℕ × RouterLink) → Type 0
  AreKnown xs = AllByRecursion (λ (x : ℕ × RouterLink). Known 0 es root Among x.0 x.1) xs

  known : AreKnown (row_stubs cost)
  known = (
    (23, wide_offer (l.distance + cost) hl, wide_is, (1, omega arith, refl)),
    (
      (
        24,
        between_offer (m.distance + 5) hm,
        first_is,
        (0, omega arith, refl),
      ),
      (
        (
          24,
          between_offer (m.distance + 5) hm,
          second_is,
          (0, omega arith, refl),
        ),
        ((24, narrow_offer (r.distance + 5) hr, narrow_is, (2, omega arith, refl)), tt),
      ),
    ),
  )

  pub inner : (o : Offer) → OffersWithin (said_in es) root o → Among o
  inner = each_stub es root Among its.networks (subst AreKnown (sym its.stubs) known)

  only_inner : ((o : Offer) → OffersExternal (said_in es) root o → ⊥) → (o : Offer)
      → Offers (said_in es) root o → Among o
  only_inner no_external o (Within x) = inner o x
  only_inner no_external o (Between x) = absurd (nothing_between 0 es its.summaries root o x)
  only_inner no_external o (External x) = absurd (no_external o x)

  pub offered : (o : Offer) → Among o → Offers (said_in es) root o
  offered = one_of (λ (x : Offer). Offers (said_in es) root x) offers (
    Within (stub_within es root middle_id of_middle its.middle first_stub its.has_stub refl 24
        (between_offer (m.distance + 5) hm) first_is),
    (
      Within (stub_within es root left_id of_left its.left (wide_stub cost) its.has_wide
          refl 23 (wide_offer (l.distance + cost) hl) wide_is),
      (
        Within (stub_within es root right_id (lsa_of right_links) its.right narrow_stub
            (1, omega arith, refl) refl 24 (narrow_offer (r.distance + 5) hr) narrow_is),
        tt,
      ),
    ),
  )

  abbrev all_routes : List Route
  all_routes = between (m.distance + 5) hm ∷ wide (l.distance + cost) hl
      ∷ narrow (r.distance + 5) hr ∷ []

  pub candidates_are : ((o : Offer) → OffersExternal (said_in es) root o → ⊥)
      → AreCandidates (said_in es) root all_routes
  candidates_are no_external = candidates_of (said_in es) root offers
      (in_order (λ (o : Offer). o.prefix) offers refl) offered (only_inner no_external)

  -- the same with one external destination, whose prefix comes before these
  module _ (o : Offer) (is_offered : Offers (said_in es) root o)
      (only : (x : Offer) → OffersExternal (said_in es) root x → o ≡ x)
      (first : o.prefix.address < ipv4 10 0 0 0) where
    with_one : (x : Offer) → Contains (o ∷ offers) x → Offers (said_in es) root x
    with_one x t =
        let P : Offer → Type 0 = λ y. Offers (said_in es) root y in
        elim (of_cons o offers x t) [
          | inl e ↦ subst P e is_offered
          | inr later ↦ offered x later
        ]

    only_with_one : (x : Offer) → Offers (said_in es) root x → Contains (o ∷ offers) x
    only_with_one x (Within y) = later_is o offers x (inner x y)
    only_with_one x (Between y) = absurd (nothing_between 0 es its.summaries root x y)
    only_with_one x (External y) = (0, omega arith, only x y)

    pub candidates_with : AreCandidates (said_in es) root (route_of o ∷ all_routes)
    candidates_with =
        candidates_of (said_in es) root (o ∷ offers)
        (in_front (λ (a : Offer) (b : Offer). IsBefore a.prefix b.prefix) o offers (
          ByAddress first,
          (ByAddress (omega (arith, first)), (ByAddress (omega (arith, first)), tt)),
        )
        (in_order (λ (x : Offer). x.prefix) offers refl))
        with_one only_with_one

-- ---- the right router, whatever the cost of the left one's interface

module _ (es : Entries) (cost : ℕ) (of_left of_middle : List RouterLink)
    (its : IsRow es cost of_left of_middle)
    (checked : AreChecked at_right (sayings es) (by_router 10 5 0) (by_router 2 2 0)) where
  right_to_middle : LeadsTo (said_in es) at_right (ARouter right_id) (ARouter middle_id) 5 1
  right_to_middle = (
    from_root es at_right (lsa_of right_links) its.right middle_id (ipv4 192 0 2 1)
        5 0 (0, omega arith, refl) (omega arith) refl,
    back es middle_id of_middle its.middle right_id its.toward_right 5 its.to_right,
  )

  right_over_middle : Walk es at_right (to middle_id 1 ∷ to left_id 0 ∷ []) left_id
  right_over_middle = (
    right_to_middle,
    (
      (
        from_other es at_right middle_id of_middle its.middle (λ e. omega (arith, e))
            left_id its.toward_left 5 its.to_left (omega arith),
        back es left_id of_left its.left middle_id (ipv4 192 0 3 1) cost its.from_left,
      ),
      refl,
    ),
  )

  pub right_middle : IsWayFrom es at_right middle_id (way 5 2)
  right_middle = way_to es at_right (by_router 10 5 0) (by_router 2 2 0) checked middle_id
      (to middle_id 1 ∷ []) (right_to_middle, refl) refl
      (λ i t. (to middle_id 1, [], (right_to_middle, refl), refl, sym (only_one i t)))

  right_ways : RowWays es at_right (way 10 2) (way 5 2) (way 0 0) 2 2 1
  right_ways = record {
    to_l = way_to es at_right (by_router 10 5 0) (by_router 2 2 0) checked left_id
        (to middle_id 1 ∷ to left_id 0 ∷ []) right_over_middle refl
        (λ i t. (to middle_id 1, to left_id 0 ∷ [], right_over_middle, refl, sym (only_one i t)));
    to_m = right_middle;
    to_r = way_to es at_right (by_router 10 5 0) (by_router 2 2 0) checked right_id [] refl refl
        (λ i t. absurd (no_hop i t));
    of_l = hops_from at_right left_id (λ e. omega (arith, e)) 2;
    of_m = hops_from at_right middle_id (λ e. omega (arith, e)) 2;
    of_r = hops_at at_right right_id refl 0;
  }

  pub right_candidates : ((o : Offer) → OffersExternal (said_in es) at_right o → ⊥)
      → AreCandidates (said_in es) at_right (between 10 2 ∷ wide (10 + cost) 2 ∷ narrow 5 1 ∷ [])
  right_candidates = candidates_are es cost of_left of_middle its at_right (way 10 2)
      (way 5 2) (way 0 0) 2 2 1 right_ways

  pub right_candidates_with : (o : Offer) → Offers (said_in es) at_right o
      → ((x : Offer) → OffersExternal (said_in es) at_right x → o ≡ x)
      → o.prefix.address < ipv4 10 0 0 0 → AreCandidates (said_in es) at_right
      (route_of o ∷ between 10 2 ∷ wide (10 + cost) 2 ∷ narrow 5 1 ∷ [])
  right_candidates_with = candidates_with es cost of_left of_middle its at_right (way 10 2)
      (way 5 2) (way 0 0) 2 2 1 right_ways

-- ---- the left router, whose interface has cost 5

module _ (es : Entries) (of_left of_middle : List RouterLink) (its : IsRow es 5 of_left of_middle)
    (checked : AreChecked at_left (sayings es) (by_router 0 5 10) (by_router 0 2 2)) where
  left_to_middle : LeadsTo (said_in es) at_left (ARouter left_id) (ARouter middle_id) 5 1
  left_to_middle = (
    from_root es at_left of_left its.left middle_id (ipv4 192 0 3 1) 5 0 its.from_left
        (omega arith) refl,
    back es middle_id of_middle its.middle left_id its.toward_left 5 its.to_left,
  )

  left_over_middle : Walk es at_left (to middle_id 1 ∷ to right_id 0 ∷ []) right_id
  left_over_middle = (
    left_to_middle,
    (
      (
        from_other es at_left middle_id of_middle its.middle (λ e. omega (arith, e))
            right_id its.toward_right 5 its.to_right (omega arith),
        back es right_id (lsa_of right_links) its.right middle_id (ipv4 192 0 2 1) 5
            (0, omega arith, refl),
      ),
      refl,
    ),
  )

  pub left_middle : IsWayFrom es at_left middle_id (way 5 2)
  left_middle = way_to es at_left (by_router 0 5 10) (by_router 0 2 2) checked middle_id
      (to middle_id 1 ∷ []) (left_to_middle, refl) refl
      (λ i t. (to middle_id 1, [], (left_to_middle, refl), refl, sym (only_one i t)))

  left_ways : RowWays es at_left (way 0 0) (way 5 2) (way 10 2) 1 2 2
  left_ways = record {
    to_l = way_to es at_left (by_router 0 5 10) (by_router 0 2 2) checked left_id [] refl refl
        (λ i t. absurd (no_hop i t));
    to_m = left_middle;
    to_r = way_to es at_left (by_router 0 5 10) (by_router 0 2 2) checked right_id
        (to middle_id 1 ∷ to right_id 0 ∷ []) left_over_middle refl
        (λ i t. (to middle_id 1, to right_id 0 ∷ [], left_over_middle, refl, sym (only_one i t)));
    of_l = hops_at at_left left_id refl 0;
    of_m = hops_from at_left middle_id (λ e. omega (arith, e)) 2;
    of_r = hops_from at_left right_id (λ e. omega (arith, e)) 2;
  }

  pub left_candidates : ((o : Offer) → OffersExternal (said_in es) at_left o → ⊥)
      → AreCandidates (said_in es) at_left left_routes
  left_candidates = candidates_are es 5 of_left of_middle its at_left (way 0 0) (way 5 2)
      (way 10 2) 1 2 2 left_ways

  pub left_candidates_with : (o : Offer) → Offers (said_in es) at_left o
      → ((x : Offer) → OffersExternal (said_in es) at_left x → o ≡ x)
      → o.prefix.address < ipv4 10 0 0 0
      → AreCandidates (said_in es) at_left (route_of o ∷ left_routes)
  left_candidates_with = candidates_with es 5 of_left of_middle its at_left (way 0 0) (way 5 2)
      (way 10 2) 1 2 2 left_ways

-- ---- the middle router, with an address of its own on each of its interfaces

module _ (es : Entries) (cost : ℕ) (of_left : List RouterLink)
    (its : IsRow es cost of_left (lsa_of middle_links))
    (checked : AreChecked at_middle (sayings es) (by_router 5 0 5) (by_router 2 0 4)) where
  middle_to_left : LeadsTo (said_in es) at_middle (ARouter middle_id) (ARouter left_id) 5 1
  middle_to_left = (
    from_root es at_middle (lsa_of middle_links) its.middle left_id (ipv4 10 0 0 1)
        5 0 (0, omega arith, refl) (omega arith) refl,
    back es left_id of_left its.left middle_id (ipv4 192 0 3 1) cost its.from_left,
  )

  middle_to_right : LeadsTo (said_in es) at_middle (ARouter middle_id) (ARouter right_id) 5 2
  middle_to_right = (
    from_root es at_middle (lsa_of middle_links) its.middle right_id
        (ipv4 10 0 0 2) 5 1 (2, omega arith, refl) (omega arith) refl,
    back es right_id (lsa_of right_links) its.right middle_id (ipv4 192 0 2 1) 5
        (0, omega arith, refl),
  )

  pub middle_ways : RowWays es at_middle (way 5 2) (way 0 0) (way 5 4) 2 1 4
  middle_ways = record {
    to_l = way_to es at_middle (by_router 5 0 5) (by_router 2 0 4) checked left_id
        (to left_id 1 ∷ []) (middle_to_left, refl) refl
        (λ i t. (to left_id 1, [], (middle_to_left, refl), refl, sym (only_one i t)));
    to_m = way_to es at_middle (by_router 5 0 5) (by_router 2 0 4) checked middle_id [] refl refl
        (λ i t. absurd (no_hop i t));
    to_r = way_to es at_middle (by_router 5 0 5) (by_router 2 0 4) checked right_id
        (to right_id 2 ∷ []) (middle_to_right, refl) refl
        (λ i t. (to right_id 2, [], (middle_to_right, refl), refl, sym (only_two i t)));
    of_l = hops_from at_middle left_id (λ e. omega (arith, e)) 2;
    of_m = hops_at at_middle middle_id refl 0;
    of_r = hops_from at_middle right_id (λ e. omega (arith, e)) 4;
  }

-- ---- all three, with cost 5

pub record HasRow (es : Entries) : Type 0 where
  pub is_row : IsRow es 5 (lsa_of left_links) (lsa_of middle_links)
  pub from_left : AreChecked at_left (sayings es) (by_router 0 5 10) (by_router 0 2 2)
  pub from_middle : AreChecked at_middle (sayings es) (by_router 5 0 5) (by_router 2 0 4)
  pub from_right : AreChecked at_right (sayings es) (by_router 10 5 0) (by_router 2 2 0)

pub middle_candidates : (es : Entries) (has : HasRow es)
    → ((o : Offer) → OffersExternal (said_in es) at_middle o → ⊥)
    → AreCandidates (said_in es) at_middle middle_routes
middle_candidates es has = candidates_are es 5 (lsa_of left_links) (lsa_of middle_links) has.is_row
    at_middle (way 5 2) (way 0 0) (way 5 4) 2 1 4
    (middle_ways es 5 (lsa_of left_links) has.is_row has.from_middle)

-- ---- each router by itself

pub is_current : (es : Entries) (id : ℕ) (links : List Link) (routes : List Route)
    → Says (contents_at 0 (database es)) (router_key id) (router_body links)
    → AreCandidates (contents_at 0 (database es)) (root_by id links) routes
    → IsCurrentForwarder (forwarder id links es routes)
is_current es id links routes current are = record {
  current = current;
  is_table = record {
    each = λ r. (
      λ t. ((are.each r).0 t, mapped (λ (x : Route). (x, 0)) routes r t),
      λ k. (are.each r).1 k.0,
    );
    ascending = are.ascending;
  };
  let_in = λ r k. mapped (λ (x : Route). (x, 0)) routes r ((are.each r).1 k);
}

pub up_to_date : (es : Entries) (id : ℕ) (links : List Link) (routes : List Route)
    → Says (contents_at 0 (database es)) (router_key id) (router_body links)
    → HaveOwnAddresses links
    → HaveCosts links → AreCandidates (contents_at 0 (database es)) (root_by id links) routes
    → IsUpToDate (forwarder id links es routes)
up_to_date es id links routes current apart costs are = record {
  is_current = is_current es id links routes current are;
  addresses = apart;
  costs = costs;
}

-- ---- links

module _ (topology : Topology) (place : ℕ) where
  abbrev pub EachJoined : List Link → Type 0
  EachJoined links = (interface : InterfaceNumber) (neighbor : Neighbor)
      → neighbor_at interface links ≡ Some neighbor → IsTrue (is_full neighbor.state)
      → IsAcross topology place interface neighbor.router

  pub one_joined : (i : Interface) (n : Neighbor) → IsAcross topology place 1 n.router
      → EachJoined (link_with i (Some n) ∷ [])
  one_joined i n across zero neighbor e t = absurd (cc)
  one_joined i n across (suc zero) neighbor e t = let same : n ≡ neighbor = cc in let P : Neighbor
      → Type 0 = λ x. IsAcross topology place 1 x.router in subst P same across
  one_joined i n across (suc (suc k)) neighbor e t = absurd (cc)

  pub two_joined : (i j : Interface) (n o : Neighbor) → IsAcross topology place 1 n.router
      → IsAcross topology place 2 o.router
      → EachJoined (link_with i (Some n) ∷ link_with j (Some o) ∷ [])
  two_joined i j n o first second zero neighbor e t = absurd (cc)
  two_joined i j n o first second (suc zero) neighbor e t = let same : n ≡ neighbor = cc in
      let P : Neighbor → Type 0 = λ x. IsAcross topology place 1 x.router in subst P same first
  two_joined i j n o first second (suc (suc zero)) neighbor e t = let same : o ≡ neighbor = cc in
      let P : Neighbor → Type 0 = λ x. IsAcross topology place 2 x.router in subst P same second
  two_joined i j n o first second (suc (suc (suc k))) neighbor e t = absurd (cc)

  pub first_joined : (i j : Interface) (n : Neighbor) → IsAcross topology place 1 n.router
      → EachJoined (link_with i (Some n) ∷ link_with j None ∷ [])
  first_joined i j n first zero neighbor e t = absurd (cc)
  first_joined i j n first (suc zero) neighbor e t = let same : n ≡ neighbor = cc in
      let P : Neighbor → Type 0 = λ x. IsAcross topology place 1 x.router in subst P same first
  first_joined i j n first (suc (suc zero)) neighbor e t = absurd (cc)
  first_joined i j n first (suc (suc (suc k))) neighbor e t = absurd (cc)

-- ---- three routers with such a database, whose interfaces are these, with these tables

module _ (es : Entries) (of_left first second : Interface) (left_table middle_table right_table :
    List Route) where
  abbrev the_left : Forwarder
  the_left = forwarder left_id (link_with of_left (Some (full middle_id)) ∷ []) es left_table

  abbrev the_middle : Forwarder
  the_middle = forwarder middle_id
      (link_with first (Some (full left_id)) ∷ link_with second (Some (full right_id)) ∷ []) es
      middle_table

  abbrev the_right : Forwarder
  the_right = forwarder right_id right_links es right_table

  abbrev the_three : List Forwarder
  the_three = the_left ∷ the_middle ∷ the_right ∷ []

  abbrev the_row : Topology
  the_row = record { routers = the_three; across = across_row 2 }

  pub all_say : (place : ℕ) (f : Forwarder) → slice_get the_three place ≡ Some f
      → says_of f.router ≡ said_in es
  all_say = three_places (λ place f. says_of f.router ≡ said_in es) the_left the_middle the_right
      refl refl refl

  pub all_agree : HaveSameContents the_row
  all_agree place other a b p q key = ap (λ (s : Contents). s key)
      (all_say place a p ∙ sym (all_say other b q))

  pub all_joined : AreJoined the_row
  all_joined =
      three_places (λ place f. EachJoined the_row place f.router.area.links) the_left the_middle
      the_right
      (one_joined the_row 0 of_left (full middle_id) (record {
        other = 1;
        is_across = refl;
        forwarder = the_middle;
        stands = refl;
        is = refl;
      }))
      (two_joined the_row 1 first second (full left_id) (full right_id) (record {
        other = 0;
        is_across = refl;
        forwarder = the_left;
        stands = refl;
        is = refl;
      })
      (record { other = 2; is_across = refl; forwarder = the_right; stands = refl; is = refl }))
      (one_joined the_row 2 (interface_at (ipv4 192 0 2 1) 24) (full middle_id) (record {
        other = 1;
        is_across = refl;
        forwarder = the_middle;
        stands = refl;
        is = refl;
      }))

abbrev pub at_wide : Interface
at_wide = interface_at (ipv4 192 0 3 1) 23

abbrev pub at_first : Interface
at_first = interface_at (ipv4 10 0 0 1) 24

abbrev pub at_second : Interface
at_second = interface_at (ipv4 10 0 0 2) 24

module _ (es : Entries) (has : HasRow es) (of_left of_middle of_right : List Route) where
  abbrev three : List Forwarder
  three = the_three es at_wide at_first at_second of_left of_middle of_right

  module _ (all_left : AreCandidates (said_in es) at_left of_left)
      (all_middle : AreCandidates (said_in es) at_middle of_middle)
      (all_right : AreCandidates (said_in es) at_right of_right) where
    all_up_to_date : (place : ℕ) (f : Forwarder) → slice_get three place ≡ Some f
        → IsUpToDate f
    all_up_to_date =
        three_places (λ place f. IsUpToDate f) (forwarder left_id left_links es of_left)
        (forwarder middle_id middle_links es of_middle) (forwarder right_id right_links es of_right)
        (up_to_date es left_id left_links of_left has.is_row.left refl refl all_left)
        (up_to_date es middle_id middle_links of_middle has.is_row.middle refl refl all_middle)
        (up_to_date es right_id right_links of_right has.is_row.right refl refl all_right)

    pub converged : HasConverged (the_row es at_wide at_first at_second of_left of_middle of_right)
    converged = record {
      up_to_date = all_up_to_date;
      agree = all_agree es at_wide at_first at_second of_left of_middle of_right;
      joined = all_joined es at_wide at_first at_second of_left of_middle of_right;
    }

-- ---- the row

abbrev pub with_others : Entries → Entries
with_others others = its_copy left_id left_links ∷ its_copy middle_id middle_links
    ∷ its_copy right_id right_links ∷ others

-- the router-LSAs of the three, and other LSAs without links
pub has_row : (others : Entries)
    → filter is_stub (links_of (sayings (with_others others))) ≡ row_stubs 5
    → list_all is_no_network (sayings (with_others others)) ≡ true
    → list_all is_no_summary (sayings (with_others others)) ≡ true
    → AreChecked at_left (sayings (with_others others)) (by_router 0 5 10) (by_router 0 2 2)
    → AreChecked at_middle (sayings (with_others others)) (by_router 5 0 5) (by_router 2 0 4)
    → AreChecked at_right (sayings (with_others others)) (by_router 10 5 0) (by_router 2 2 0)
    → HasRow (with_others others)
has_row others stubs networks summaries from_left from_middle from_right = record {
  is_row = record {
    stubs = stubs;
    networks = networks;
    summaries = summaries;
    left = says (with_others others) (router_key left_id) (router_body left_links) refl;
    has_wide = (1, omega arith, refl);
    from_left = (0, omega arith, refl);
    middle = says (with_others others) (router_key middle_id) (router_body middle_links) refl;
    has_stub = (1, omega arith, refl);
    toward_left = ipv4 10 0 0 1;
    to_left = (0, omega arith, refl);
    toward_right = ipv4 10 0 0 2;
    to_right = (2, omega arith, refl);
    right = says (with_others others) (router_key right_id) (router_body right_links) refl;
  };
  from_left = from_left;
  from_middle = from_middle;
  from_right = from_right;
}

row_has : HasRow row
row_has = has_row [] refl refl refl (record { start = refl; routers = refl; links = refl })
    (record { start = refl; routers = refl; links = refl })
    (record { start = refl; routers = refl; links = refl })

silent_offers : (root : Root) (o : Offer) → OffersExternal (said_in row) root o → ⊥
silent_offers root o x = no_external row refl _ x.lsa x.its

row_converged : HasConverged in_a_row
row_converged = converged row row_has left_routes middle_routes right_routes
    (left_candidates row (lsa_of left_links) (lsa_of middle_links) row_has.is_row row_has.from_left
    (silent_offers at_left)) (middle_candidates row row_has (silent_offers at_middle))
    (right_candidates row 5 (lsa_of left_links) (lsa_of middle_links) row_has.is_row
    row_has.from_right (silent_offers at_right))

pub left_is : IsUpToDate left
left_is = row_converged.up_to_date 0 left refl

-- ---- packets

pub narrow_longest : (a b c d e f : ℕ)
    → IsLongest (between a b ∷ wide c d ∷ narrow e f ∷ []) address (narrow e f)
narrow_longest a b c d e f = record {
  among = (2, omega arith, refl);
  under = refl;
  longest = λ r t under. one_of (λ (x : Route). x.prefix.length ≤ 24)
      (between a b ∷ wide c d ∷ narrow e f ∷ []) (
        (let low : 24 ≤ 24 = omega arith in low),
        (
          (let low : 23 ≤ 24 = omega arith in low),
          ((let low : 24 ≤ 24 = omega arith in low), tt),
        ),
      ) r t;
}

-- nothing is announced where all databases have router-LSAs alone
pub silent : (topology : Topology) (es : Entries) → list_all is_router (sayings es) ≡ true
    → ((place : ℕ) (f : Forwarder) → slice_get topology.routers place ≡ Some f → says_of f.router
    ≡ said_in es) → (to place : ℕ) → IsAnnouncedAt topology to place → ⊥
silent topology es routers say to place x =
    let P : Contents → Type 0 = λ s. Says s (record {
      ls_type = 5;
      link_state_id = x.announces.tells.id;
      advertising_router = x.forwarder.router.id;
    }) (body.External x.announces.tells.lsa) in
    no_external es routers _ x.announces.tells.lsa
    (subst P (say place x.forwarder x.stands) x.announces.tells.its)

silent_row : (across : ℕ → ℕ → Option ℕ) (place : ℕ) → IsAnnouncedAt (record {
  routers = left ∷ middle ∷ right ∷ [];
  across = across;
}) address place → ⊥
silent_row across = silent (record { routers = left ∷ middle ∷ right ∷ []; across = across }) row
    refl (all_say row at_wide at_first at_second left_routes middle_routes right_routes) address

-- from the left router by its only interface
pub left_hands : (topology : Topology) (f : Forwarder) → slice_get topology.routers 0 ≡ Some f
    → IsLongest f.table address (narrow 15 2) → topology.across 0 1 ≡ Some 1
    → HandsTo topology address 0 1
left_hands topology f stands longest across = record {
  forwarder = f;
  stands = stands;
  route = narrow 15 2;
  longest = longest;
  interface = 1;
  away = omega arith;
  is_hop = refl;
  is_across = across;
}

left_to_1 : (across : ℕ → ℕ → Option ℕ) → across 0 1 ≡ Some 1 → HandsTo (record {
  routers = left ∷ middle ∷ right ∷ [];
  across = across;
}) address 0 1
left_to_1 across e = left_hands (record {
  routers = left ∷ middle ∷ right ∷ [];
  across = across;
}) left refl (narrow_longest 10 2 5 1 15 2) e

middle_to : (across : ℕ → ℕ → Option ℕ) (second : ℕ) → across 1 2 ≡ Some second → HandsTo (record {
  routers = left ∷ middle ∷ right ∷ [];
  across = across;
}) address 1 second
middle_to across second e = record {
  forwarder = middle;
  stands = refl;
  route = narrow 10 4;
  longest = narrow_longest 5 1 10 2 10 4;
  interface = 2;
  away = omega arith;
  is_hop = refl;
  is_across = e;
}

pub worked : WorkedTopology
worked = record {
  converged = row_converged;
  handed_along = (
    left_to_1 in_a_row.across refl,
    silent_row in_a_row.across 0,
    (middle_to in_a_row.across 2 refl, silent_row in_a_row.across 1, tt),
  );
  is_there = Attached right refl (narrow 5 1) (narrow_longest 10 2 15 2 5 1)
      (ToNetwork (
        narrow_stub,
        linked row right_id (lsa_of right_links) row_has.is_row.right narrow_stub
            (1, omega arith, refl),
        refl,
        (omega arith, refl, refl),
        refl,
      ));
}

pub crossed_links : CrossedLinksMayLoop
crossed_links = record {
  up_to_date = row_converged.up_to_date;
  agree = row_converged.agree;
  comes_back = (
    left_to_1 crossed_row.across refl,
    silent_row crossed_row.across 0,
    (middle_to crossed_row.across 0 refl, silent_row crossed_row.across 1, tt),
  );
}
