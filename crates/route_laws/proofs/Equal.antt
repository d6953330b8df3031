-- The worked topology in which two interfaces of the middle router have the same address: its
-- candidates, premises, and the packet that comes back.
use Rattle.std.proofs.Common.{◌≡◌, ◌≢◌, ℕ, ◌+◌, inl, inr, IsTrue, List, [], ◌∷◌, Some, slice_get}
use Rattle.std.proofs.Common.{arith, refl, sym}
use Rattle.words.specs.Interfaces.{has_interface}
use Rattle.area_routes.specs.Offers.{root_by}
use Rattle.event_rules.specs.Originations.{router_body, router_key}
use Rattle.routes.specs.Candidates.{AreCandidates, OffersExternal}
use Rattle.routes.specs.Links.{IsRouterLsa, LeadsTo}
use Rattle.routes.specs.Paths.{Step, cost_of}
use Rattle.routes.specs.Contents.{Contents, contents_at}
use Rattle.routes.specs.declared.node.Node.{Node}
use Rattle.routes.specs.declared.node.Node.TheVariants.{ARouter}
use Rattle.routes.specs.declared.offer.Offer.{Offer}
use Rattle.routes.specs.declared.root.Root.{Root}
use Rattle.route_laws.specs.Worked.{database, ipv4, router_lsa}
use Rattle.route_laws.proofs.Entries.{sayings}
use Rattle.route_laws.proofs.Labels.{AreChecked}
use Rattle.route_laws.proofs.Made.{back, from_root, no_hop, one_or_two, says}
use Rattle.route_laws.specs.Topologies.{Forwarder, IsAnnouncedAt, IsCurrentForwarder, IsUpToDate}
use Rattle.route_laws.specs.Topologies.{says_of}
use Rattle.route_laws.specs.WorkedTopologies.{EqualAddressesMayLoop, address, equal, equal_links}
use Rattle.route_laws.specs.WorkedTopologies.{equal_middle, equal_routes, forwarder, left_id}
use Rattle.route_laws.specs.WorkedTopologies.{left_links, left_routes, middle_id, narrow, right_id}
use Rattle.route_laws.specs.WorkedTopologies.{right_links, right_routes, with_equal_addresses}
use Rattle.route_laws.proofs.OneOffer.{Walk, hops_at, hops_from, no_external, to, way, way_to}
use Rattle.route_laws.proofs.ThreeRouters.{IsRow, RowWays, all_agree, all_joined, all_say, at_first}
use Rattle.route_laws.proofs.ThreeRouters.{at_left, at_right, at_wide, by_router, candidates_are}
use Rattle.route_laws.proofs.ThreeRouters.{is_current, left_candidates, lsa_of, narrow_longest}
use Rattle.route_laws.proofs.ThreeRouters.{right_candidates, silent, three_places, up_to_date}
use Rattle.route_laws.proofs.ThreeRouters.{left_hands}

abbrev equal_says : Contents
equal_says = contents_at 0 (database equal)

abbrev at_middle : Root
at_middle = root_by middle_id equal_links

left_says : IsRouterLsa equal_says left_id (router_lsa (lsa_of left_links))
left_says = says equal (router_key left_id) (router_body left_links) refl

middle_says : IsRouterLsa equal_says middle_id (router_lsa (lsa_of equal_links))
middle_says = says equal (router_key middle_id) (router_body equal_links) refl

right_says : IsRouterLsa equal_says right_id (router_lsa (lsa_of right_links))
right_says = says equal (router_key right_id) (router_body right_links) refl

silent_offers : (root : Root) (o : Offer) → OffersExternal equal_says root o → ⊥
silent_offers root o x = no_external equal refl _ x.lsa x.its

is_row : IsRow equal 5 (lsa_of left_links) (lsa_of equal_links)
is_row = record {
  stubs = refl;
  networks = refl;
  summaries = refl;
  left = left_says;
  has_wide = (1, omega arith, refl);
  from_left = (0, omega arith, refl);
  middle = middle_says;
  has_stub = (1, omega arith, refl);
  toward_left = ipv4 10 0 0 1;
  to_left = (0, omega arith, refl);
  toward_right = ipv4 10 0 0 1;
  to_right = (2, omega arith, refl);
  right = right_says;
}

-- ---- links and ways

-- the middle router's links to the left one and to the right one use each interface with this
-- address
middle_to_left : (n : ℕ) → slice_get at_middle.addresses n ≡ Some (ipv4 10 0 0 1)
    → LeadsTo equal_says at_middle (ARouter middle_id) (ARouter left_id) 5 (n + 1)
middle_to_left n at = (
  from_root equal at_middle (lsa_of equal_links) middle_says left_id
      (ipv4 10 0 0 1) 5 n (0, omega arith, refl) (omega arith) at,
  back equal left_id (lsa_of left_links) left_says middle_id (ipv4 192 0 3 1) 5
      (0, omega arith, refl),
)

middle_to_right : (n : ℕ) → slice_get at_middle.addresses n ≡ Some (ipv4 10 0 0 1)
    → LeadsTo equal_says at_middle (ARouter middle_id) (ARouter right_id) 5 (n + 1)
middle_to_right n at = (
  from_root equal at_middle (lsa_of equal_links) middle_says right_id
      (ipv4 10 0 0 1) 5 n (2, omega arith, refl) (omega arith) at,
  back equal right_id (lsa_of right_links) right_says middle_id (ipv4 192 0 2 1) 5
      (0, omega arith, refl),
)

middle_checked : AreChecked at_middle (sayings equal) (by_router 5 0 5) (by_router 6 0 6)
middle_checked = record { start = refl; routers = refl; links = refl }

-- a first hop to the router, at its distance
abbrev HasFirst : ℕ → ℕ → Type 0
HasFirst router i = (first : Step Node) × (rest : List (Step Node))
    × Walk equal at_middle (first ∷ rest) router × (cost_of (first ∷ rest) ≡ 5) × (first.exit ≡ i)

left_by : (i : ℕ) → IsTrue (has_interface 6 i) → HasFirst left_id i
left_by i t =
    elim (one_or_two i t) [
      | inl e ↦ (to left_id 1, [], (middle_to_left 0 refl, refl), refl, sym e)
      | inr e ↦ (to left_id 2, [], (middle_to_left 1 refl, refl), refl, sym e)
    ]

right_by : (i : ℕ) → IsTrue (has_interface 6 i) → HasFirst right_id i
right_by i t =
    elim (one_or_two i t) [
      | inl e ↦ (to right_id 1, [], (middle_to_right 0 refl, refl), refl, sym e)
      | inr e ↦ (to right_id 2, [], (middle_to_right 1 refl, refl), refl, sym e)
    ]

middle_ways : RowWays equal at_middle (way 5 6) (way 0 0) (way 5 6) 6 1 6
middle_ways = record {
  to_l = way_to equal at_middle (by_router 5 0 5) (by_router 6 0 6) middle_checked left_id
      (to left_id 1 ∷ []) (middle_to_left 0 refl, refl) refl left_by;
  to_m = way_to equal at_middle (by_router 5 0 5) (by_router 6 0 6) middle_checked middle_id []
      refl refl (λ i t. absurd (no_hop i t));
  to_r = way_to equal at_middle (by_router 5 0 5) (by_router 6 0 6) middle_checked right_id
      (to right_id 1 ∷ []) (middle_to_right 0 refl, refl) refl right_by;
  of_l = hops_from at_middle left_id (λ e. omega (arith, e)) 6;
  of_m = hops_at at_middle middle_id refl 0;
  of_r = hops_from at_middle right_id (λ e. omega (arith, e)) 6;
}

-- ---- candidates

left_are : AreCandidates equal_says at_left left_routes
left_are = left_candidates equal (lsa_of left_links) (lsa_of equal_links) is_row
    (record { start = refl; routers = refl; links = refl }) (silent_offers at_left)

middle_are : AreCandidates equal_says at_middle equal_routes
middle_are = candidates_are equal 5 (lsa_of left_links) (lsa_of equal_links) is_row at_middle
    (way 5 6) (way 0 0) (way 5 6) 6 1 6 middle_ways (silent_offers at_middle)

right_are : AreCandidates equal_says at_right right_routes
right_are = right_candidates equal 5 (lsa_of left_links) (lsa_of equal_links) is_row
    (record { start = refl; routers = refl; links = refl }) (silent_offers at_right)

-- ---- premises

abbrev left : Forwarder
left = forwarder left_id left_links equal left_routes

abbrev right : Forwarder
right = forwarder right_id right_links equal right_routes

middle_is : IsCurrentForwarder equal_middle
middle_is = is_current equal middle_id equal_links equal_routes middle_says middle_are

others_are : (place : ℕ) (f : Forwarder) → slice_get (left ∷ equal_middle ∷ right ∷ []) place
    ≡ Some f → place ≢ 1 → IsUpToDate f
others_are =
    three_places (λ place f. place ≢ 1 → IsUpToDate f) left equal_middle right
    (λ _. up_to_date equal left_id left_links left_routes left_says refl refl left_are)
    (λ other. absurd (other refl))
    (λ _. up_to_date equal right_id right_links right_routes right_says refl refl right_are)

say_equal : (place : ℕ) (f : Forwarder) → slice_get (left ∷ equal_middle ∷ right ∷ []) place
    ≡ Some f → says_of f.router ≡ equal_says
say_equal = all_say equal at_wide at_first at_first left_routes equal_routes right_routes

-- ---- the packet

silent_equal : (place : ℕ) → IsAnnouncedAt with_equal_addresses address place → ⊥
silent_equal = silent with_equal_addresses equal refl say_equal address

pub equal_addresses : EqualAddressesMayLoop
equal_addresses = record {
  is_current = middle_is;
  costs = refl;
  others = others_are;
  agree = all_agree equal at_wide at_first at_first left_routes equal_routes right_routes;
  joined = all_joined equal at_wide at_first at_first left_routes equal_routes right_routes;
  comes_back = (
    left_hands with_equal_addresses left refl (narrow_longest 10 2 5 1 15 2) refl,
    silent_equal 0,
    (
      record {
        forwarder = equal_middle;
        stands = refl;
        route = narrow 10 6;
        longest = narrow_longest 5 1 10 6 10 6;
        interface = 1;
        away = omega arith;
        is_hop = refl;
        is_across = refl;
      },
      silent_equal 1,
      tt,
    ),
  );
}
