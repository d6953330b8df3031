-- The worked topology in which the middle router has restarted: its candidates, premises, and the
-- packet that comes back.
use Rattle.std.proofs.Common.{◌≡◌, ℕ, ◌≤◌, List, [], ◌∷◌, Some, slice_get, arith, refl, sym}
use Rattle.std.specs.List.{AllByRecursion, Contains}
use Rattle.words.specs.Prefixes.{IsUnder}
use Rattle.words.specs.declared.key.Key.{Key}
use Rattle.words.specs.declared.route.Route.{Route}
use Rattle.lsa.specs.declared.body.LsaBody.TheVariants as body
use Rattle.lsa.specs.declared.body.ExternalLsa.{ExternalLsa}
use Rattle.area_routes.specs.Offers.{root_by}
use Rattle.event_rules.specs.Originations.{router_body, router_key}
use Rattle.candidates.specs.Borders.{IsLongest}
use Rattle.routes.specs.Candidates.{AreCandidates, Offers}
use Rattle.routes.specs.Links.{IsRouterLsa, LeadsTo, Says}
use Rattle.routes.specs.Contents.{Contents, contents_at}
use Rattle.routes.specs.declared.node.Node.TheVariants.{ARouter}
use Rattle.routes.specs.declared.offer.Offer.{Offer}
use Rattle.routes.specs.declared.root.Root.{Root}
use Rattle.route_laws.specs.Worked.{database, ipv4, router_lsa}
use Rattle.route_laws.proofs.Alone.{StubOffer}
use Rattle.route_laws.proofs.Entries.{sayings}
use Rattle.route_laws.proofs.Labels.{AreChecked}
use Rattle.route_laws.proofs.Made.{back, from_root, no_hop, only_one, says}
use Rattle.route_laws.specs.Topologies.{AreJoined, Forwarder, IsAnnouncedAt, IsUpToDate, says_of}
use Rattle.route_laws.specs.WorkedTopologies.{DifferingDatabasesMayLoop, address, anew, anew_links}
use Rattle.route_laws.specs.WorkedTopologies.{anew_routes, differing, forwarder, full, interface_at}
use Rattle.route_laws.specs.WorkedTopologies.{left, left_id, left_links, middle_id, row, wide}
use Rattle.route_laws.proofs.OneOffer.{AreStubsKnown, IsWayFrom, candidates_of, hops_at, hops_from}
use Rattle.route_laws.proofs.OneOffer.{no_external, only_within, stub_by, stub_within, to, way}
use Rattle.route_laws.proofs.OneOffer.{way_to}
use Rattle.route_laws.proofs.ThreeRouters.{EachJoined, between_offer, by_router, first_joined}
use Rattle.route_laws.proofs.ThreeRouters.{first_stub, left_is, lsa_of, narrow_longest, one_joined}
use Rattle.route_laws.proofs.ThreeRouters.{second_stub, two_places, up_to_date, wide_offer}
use Rattle.route_laws.proofs.ThreeRouters.{wide_stub, left_hands}
use Rattle.route_laws.proofs.Ordered.{in_order}
use Rattle.route_laws.proofs.Parts.{one_of}
use Rattle.routes.specs.Candidates.Offers.{Within}

abbrev anew_says : Contents
anew_says = contents_at 0 (database anew)

abbrev root : Root
root = root_by middle_id anew_links

left_says : IsRouterLsa anew_says left_id (router_lsa (lsa_of left_links))
left_says = says anew (router_key left_id) (router_body left_links) refl

its_says : IsRouterLsa anew_says middle_id (router_lsa (lsa_of anew_links))
its_says = says anew (router_key middle_id) (router_body anew_links) refl

is_checked : AreChecked root (sayings anew) (by_router 5 0 0) (by_router 2 0 0)
is_checked = record { start = refl; routers = refl; links = refl }

by_link : LeadsTo anew_says root (ARouter middle_id) (ARouter left_id) 5 1
by_link = (
  from_root anew root (lsa_of anew_links) its_says left_id (ipv4 10 0 0 1) 5 0
      (0, omega arith, refl) (omega arith) refl,
  back anew left_id (lsa_of left_links) left_says middle_id (ipv4 192 0 3 1) 5
      (0, omega arith, refl),
)

to_left : IsWayFrom anew root left_id (way 5 2)
to_left = way_to anew root (by_router 5 0 0) (by_router 2 0 0) is_checked left_id
    (to left_id 1 ∷ []) (by_link, refl) refl
    (λ i t. (to left_id 1, [], (by_link, refl), refl, sym (only_one i t)))

to_itself : IsWayFrom anew root middle_id (way 0 0)
to_itself = way_to anew root (by_router 5 0 0) (by_router 2 0 0) is_checked middle_id [] refl refl
    (λ i t. absurd (no_hop i t))

-- ---- its candidates

abbrev offers : List Offer
offers = between_offer 5 1 ∷ wide_offer 10 2 ∷ []

abbrev Among : Offer → Type 0
Among o = Contains offers o

first_is : StubOffer anew_says root middle_id first_stub 24 (between_offer 5 1)
first_is = stub_by anew root middle_id first_stub 24 (way 0 0) 1 to_itself
    (hops_at root middle_id refl 0) (omega arith) refl

second_is : StubOffer anew_says root middle_id second_stub 24 (between_offer 5 1)
second_is = stub_by anew root middle_id second_stub 24 (way 0 0) 1 to_itself
    (hops_at root middle_id refl 0) (omega arith) refl

wide_is : StubOffer anew_says root left_id (wide_stub 5) 23 (wide_offer 10 2)
wide_is = stub_by anew root left_id (wide_stub 5) 23 (way 5 2) 2 to_left
    (hops_from root left_id (λ e. omega (arith, e)) 2) (omega arith) refl

known : AreStubsKnown anew root Among
known = (
  (23, wide_offer 10 2, wide_is, (1, omega arith, refl)),
  (
    (24, between_offer 5 1, first_is, (0, omega arith, refl)),
    ((24, between_offer 5 1, second_is, (0, omega arith, refl)), tt),
  ),
)

offered : AllByRecursion (λ (o : Offer). Offers anew_says root o) offers
offered = (
  Within (stub_within anew root middle_id (lsa_of anew_links) its_says first_stub
      (1, omega arith, refl) refl 24 (between_offer 5 1) first_is),
  (
    Within (stub_within anew root left_id (lsa_of left_links) left_says (wide_stub 5)
        (1, omega arith, refl) refl 23 (wide_offer 10 2) wide_is),
    tt,
  ),
)

candidates_are : AreCandidates anew_says root anew_routes
candidates_are =
    candidates_of anew_says root offers (in_order (λ (o : Offer). o.prefix) offers refl)
    (one_of (λ (o : Offer). Offers anew_says root o) offers offered)
    (only_within anew root offers refl refl refl known)

-- ---- premises and packets

abbrev it : Forwarder
it = forwarder middle_id anew_links anew anew_routes

is_up_to_date : IsUpToDate it
is_up_to_date = up_to_date anew middle_id anew_links anew_routes its_says refl refl candidates_are

are_joined : AreJoined differing
are_joined =
    two_places (λ place f. EachJoined differing place f.router.area.links) left it
    (one_joined differing 0 (interface_at (ipv4 192 0 3 1) 23) (full middle_id) (record {
      other = 1;
      is_across = refl;
      forwarder = it;
      stands = refl;
      is = refl;
    }))
    (first_joined differing 1 (interface_at (ipv4 10 0 0 1) 24) (interface_at (ipv4 10 0 0 2) 24)
    (full left_id) (record {
      other = 0;
      is_across = refl;
      forwarder = left;
      stands = refl;
      is = refl;
    }))

-- nothing is announced
silent : (place : ℕ) → IsAnnouncedAt differing address place → ⊥
silent place x = none place x.forwarder x.stands _ x.announces.tells.lsa x.announces.tells.its
  where
    none : (k : ℕ) (f : Forwarder) → slice_get (left ∷ it ∷ []) k ≡ Some f
        → (key : Key) (lsa : ExternalLsa) → Says (says_of f.router) key (body.External lsa) → ⊥
    none = two_places (λ k f. (key : Key) (lsa : ExternalLsa)
        → Says (says_of f.router) key (body.External lsa) → ⊥) left it (no_external row refl)
        (no_external anew refl)

wide_longest : IsLongest anew_routes address (wide 10 2)
wide_longest = record {
  among = (1, omega arith, refl);
  under = refl;
  longest = one_of (λ (r : Route). IsUnder address r.prefix → r.prefix.length ≤ 23) anew_routes (
    (λ under. absurd (let at : ipv4 192 0 2 0 ≡ ipv4 10 0 0 0 = under in omega (arith, at))),
    ((λ under. (let low : 23 ≤ 23 = omega arith in low)), tt),
  );
}

pub differing_databases : DifferingDatabasesMayLoop
differing_databases = record {
  up_to_date = two_places (λ place f. IsUpToDate f) left it left_is is_up_to_date;
  joined = are_joined;
  comes_back = (
    left_hands differing left refl (narrow_longest 10 2 5 1 15 2) refl,
    silent 0,
    (
      record {
        forwarder = it;
        stands = refl;
        route = wide 10 2;
        longest = wide_longest;
        interface = 1;
        away = omega arith;
        is_hop = refl;
        is_across = refl;
      },
      silent 1,
      tt,
    ),
  );
}
