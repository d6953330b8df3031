-- The worked links that don't count: no walk leads from the router and its neighbor to another
-- router.
use Rattle.std.proofs.Common.{◌≡◌, ℕ, zero, suc, inl, inr, Bool, true, false, cond, ◌&&◌, ◌||◌, not}
use Rattle.std.proofs.Common.{nat_eq, eq-eqb, eqb-true, List, [], ◌∷◌, filter, Some, slice_get}
use Rattle.std.proofs.Common.{arith, refl, sym, ◌∙◌, ap, subst}
use Rattle.std.specs.List.{AllByRecursion, Contains, list_all}
use Rattle.lsa.specs.declared.body.LsaBody.TheVariants as body
use Rattle.lsa.specs.declared.body.RouterLink.{RouterLink}
use Rattle.lsa.specs.declared.body.LinkKind.TheVariants.{PointToPoint}
use Rattle.routes.specs.Candidates.{Offers}
use Rattle.routes.specs.Candidates.Offers.{Between, External, Within}
use Rattle.routes.specs.Links.{IsRouterLsa, Leads, LeadsTo, LinksBack}
use Rattle.routes.specs.declared.node.Node.{Node}
use Rattle.routes.specs.declared.node.Node.TheVariants.{ANetwork, ARouter}
use Rattle.routes.specs.Offers.{OffersWithin, intra}
use Rattle.routes.specs.declared.offer.Offer.{Offer}
use Rattle.routes.specs.Paths.{IsWalk, IsWay, Step, Way}
use Rattle.route_laws.specs.Worked.{Entries, database, ipv4, key, mask_24, near_router, network_24}
use Rattle.route_laws.specs.Worked.{router_lsa, stub}
use Rattle.route_laws.specs.WorkedUncounted.{WorkedUncounted, counting_links, neighbor_links}
use Rattle.route_laws.specs.WorkedUncounted.{uncounted_entries}
use Rattle.routes.specs.declared.root.Root.{Root}
use Rattle.route_laws.proofs.Alone.{StubOffer, is_stub}
use Rattle.route_laws.proofs.Entries.{all_pass, both_true, has_link, is_no_network, is_said}
use Rattle.route_laws.proofs.Entries.{links_of, sayings}
use Rattle.route_laws.proofs.Labels.{AreLabels, either_true, is_point, not_both, way_by}
use Rattle.route_laws.proofs.Made.{back, from_root, only_one, says}
use Rattle.route_laws.proofs.NetworkLabels.{AreRising, IsStubKnown, at, each_offer, pass, rising}
use Rattle.route_laws.proofs.Parts.{one_of}
use Rattle.routes.specs.Contents.{Contents, contents_at}
use Rattle.route_laws.proofs.NoSummaries.{nothing_between}
use Rattle.route_laws.proofs.Ordered.{in_order}
use Rattle.route_laws.proofs.OneOffer.{candidates_of, hops_from, no_external, stub_by, stub_within}
use Rattle.route_laws.proofs.OneOffer.{way}

-- ---- walks that don't leave a set of routers, without networks

abbrev has_no_exit : List ℕ → ℕ → Bool
has_no_exit [] address = true
has_no_exit (a ∷ addresses) address = not (nat_eq a address) && has_no_exit addresses address

no_exit : (addresses : List ℕ) (address n : ℕ) → has_no_exit addresses address ≡ true
    → slice_get addresses n ≡ Some address → ⊥
no_exit [] address n e p = cc
no_exit (a ∷ addresses) address zero e p =
    let same : a ≡ address = cc in
    not_both (nat_eq a address) (both_true (not (nat_eq a address)) (has_no_exit addresses address)
    e).0 (eq-eqb a address same)
no_exit (a ∷ addresses) address (suc n) e p =
    no_exit addresses address n (both_true (not (nat_eq a address)) (has_no_exit addresses address)
    e).1 p

-- a point-to-point link of a router inside leads inside, has no link back, has metric 0, or is one
-- of the root by an address that isn't its own
abbrev has_no_back : List (ℕ × RouterLink) → ℕ → ℕ → Bool
has_no_back links from to = list_all
    (λ (y : ℕ × RouterLink). not (nat_eq y.0 to) ||
    (not (is_point y.1.kind) || not (nat_eq y.1.link_id from))) links

abbrev stays_by : Root → (ℕ → Bool) → List (ℕ × RouterLink) → ℕ × RouterLink → Bool
stays_by root inside links x =
    inside x.1.link_id || (nat_eq x.1.metric 0 ||
    (has_no_back links x.0 x.1.link_id ||
    (nat_eq x.0 root.router && has_no_exit root.addresses x.1.link_data)))

abbrev stays_in : Root → (ℕ → Bool) → List (ℕ × RouterLink) → ℕ × RouterLink → Bool
stays_in root inside links x = not (inside x.0) ||
    (not (is_point x.1.kind) || stays_by root inside links x)

abbrev is_inside : (ℕ → Bool) → Node → Bool
is_inside inside (ARouter router) = inside router
is_inside inside (ANetwork id by) = false

module _ (root : Root) (es : Entries) (inside : ℕ → Bool)
    (routers : list_all is_no_network (sayings es) ≡ true)
    (stay : list_all (stays_in root inside (links_of (sayings es))) (links_of (sayings es)) ≡ true)
  where
    no_back : (a b : ℕ) → has_no_back (links_of (sayings es)) a b ≡ true
        → LinksBack (contents_at 0 (database es)) b PointToPoint a → ⊥
    no_back a b e l =
        let first = all_pass (λ (y : ℕ × RouterLink). not (nat_eq y.0 b) ||
        (not (is_point y.1.kind) || not (nat_eq y.1.link_id a))) (links_of (sayings es)) e
        (b, l.0) (has_link 0 es b l.0 l.1) in
        let second = pass (nat_eq b b) (not (is_point l.0.kind) || not (nat_eq l.0.link_id a)) first
        (eq-eqb b b refl) in
        let third = pass (is_point l.0.kind) (not (nat_eq l.0.link_id a)) second (ap is_point l.2)
        in
        not_both (nat_eq l.0.link_id a) third (eq-eqb l.0.link_id a l.3)

    leads_inside : (v w : Node) (price exit : ℕ)
        → LeadsTo (contents_at 0 (database es)) root v w price exit → is_inside inside v ≡ true
        → is_inside inside w ≡ true
    leads_inside (ARouter a) (ARouter b) price exit l t =
        let k = l.0 in
        let x : ℕ × RouterLink = (a, k.link) in
        let links : List (ℕ × RouterLink) = links_of (sayings es) in
        let first = all_pass (stays_in root inside links) links stay x
        (has_link 0 es a k.link k.its)
        in
        let second = pass (inside a) (not (is_point k.link.kind) || stays_by root inside links x)
        first t in
        let third = pass (is_point k.link.kind) (stays_by root inside links x) second
        (ap is_point k.is_kind) in
        let last : Bool = nat_eq a root.router && has_no_exit root.addresses k.link.link_data in
        elim (either_true (inside k.link.link_id)
        (nat_eq k.link.metric 0 || (has_no_back links a k.link.link_id || last)) third) [
          | inl here ↦ subst (λ n. inside n ≡ true) k.is_id here
          | inr fourth ↦
              elim (either_true (nat_eq k.link.metric 0)
              (has_no_back links a k.link.link_id || last)
              fourth) [
                | inl free ↦ let none : k.link.metric ≡ 0 = eqb-true k.link.metric 0 free in
                    absurd (omega (arith, none, k.costs, k.not_free))
                | inr fifth ↦
                    elim (either_true (has_no_back links a k.link.link_id) last fifth) [
                      | inl none ↦ absurd (no_back a b
                          (subst (λ n. has_no_back links a n ≡ true) k.is_id none) l.1)
                      | inr by ↦
                          let both = both_true (nat_eq a root.router)
                          (has_no_exit root.addresses k.link.link_data) by in
                          let exits = k.by_interface (eqb-true a root.router both.0) in
                          absurd (no_exit root.addresses k.link.link_data exits.0 both.1 exits.2)
                    ]
              ]
        ]
    leads_inside (ARouter a) (ANetwork id by) price exit l t =
        absurd (let e : false ≡ true = all_pass is_no_network (sayings es) routers (
          record {
            ls_type = 2;
            link_state_id = id;
            advertising_router = by;
          },
          body.Network l.1.lsa,
        )
        (is_said 0 es _ (body.Network l.1.lsa) l.1.its) in cc)
    leads_inside (ANetwork id by) w price exit l t = absurd (cc)

    walks_inside : (v : Node) (walk : List (Step Node)) (w : Node)
        → IsWalk (Leads (contents_at 0 (database es)) root) v walk w → is_inside inside v ≡ true
        → is_inside inside w ≡ true
    walks_inside v [] w p t = subst (λ n. is_inside inside n ≡ true) p t
    walks_inside v (s ∷ walk) w p t =
        walks_inside s.target walk w p.1 (leads_inside v s.target s.cost s.exit p.0 t)

    outside : inside root.router ≡ true → (router : ℕ) → inside router ≡ false → (way : Way)
        → IsWay (Leads (contents_at 0 (database es)) root) (ARouter root.router)
        (ARouter router) way
        → ⊥
    outside start router e way is =
        let t : inside router ≡ true = walks_inside (ARouter root.router) is.distance.0
        (ARouter router) is.distance.1.is_walk start in
        let f : false ≡ true = sym e ∙ t in
        cc

-- ---- the way to the neighbor

abbrev contents : Contents
contents = contents_at 0 (database uncounted_entries)

abbrev near : ℕ
near = ipv4 1 1 1 1

abbrev neighbor : ℕ
neighbor = ipv4 2 2 2 2

-- for the routers that aren't reached, any distance works that no link improves
abbrev dr : ℕ → ℕ
dr r = cond (nat_eq r neighbor) 10 (cond (nat_eq r (ipv4 4 4 4 4)) 9 0)

abbrev hr : ℕ → ℕ
hr r = cond (nat_eq r neighbor) 2 0

abbrev none_of : ℕ → ℕ → ℕ
none_of id by = 0

labels : AreRising near_router (sayings uncounted_entries) dr hr none_of none_of
labels = record { start = refl; points = refl; enters = refl; leaves = refl }

abbrev leads : Node → Step Node → Type 0
leads = Leads contents near_router

near_says : IsRouterLsa contents near (router_lsa counting_links)
near_says = says uncounted_entries (key 1 near near) (body.Router (router_lsa counting_links)) refl

neighbor_says : IsRouterLsa contents neighbor (router_lsa neighbor_links)
neighbor_says = says uncounted_entries (key 1 neighbor neighbor)
    (body.Router (router_lsa neighbor_links)) refl

abbrev to_neighbor : Step Node
to_neighbor = record { target = ARouter neighbor; cost = 10; exit = 1 }

link : leads (ARouter near) to_neighbor
link = (
  from_root uncounted_entries near_router counting_links near_says neighbor (ipv4 10 0 1 1) 10
      0 (0, omega arith, refl) (omega arith) refl,
  back uncounted_entries neighbor neighbor_links neighbor_says near (ipv4 10 0 1 2) 10
      (0, omega arith, refl),
)

are : AreLabels leads (ARouter near) (at dr none_of) (at hr none_of)
are = rising near_router 0 uncounted_entries dr hr none_of none_of labels

neighbor_way : IsWay leads (ARouter near) (ARouter neighbor) (way 10 2)
neighbor_way = way_by leads (ARouter near) (at dr none_of) (at hr none_of) are (ARouter neighbor)
    (to_neighbor ∷ []) (link, refl) refl
    (λ i t. (to_neighbor, [], (link, refl), refl, sym (only_one i t)))

abbrev is_counted : ℕ → Bool
is_counted r = nat_eq r near || nat_eq r neighbor

never : (router : ℕ) → is_counted router ≡ false → (way : Way)
    → IsWay leads (ARouter near) (ARouter router) way → ⊥
never router e = outside near_router uncounted_entries is_counted refl refl refl router e

-- ---- the one offer

abbrev offer : Offer
offer = intra (network_24 192 0 2) 11 2

abbrev IsOffer : Offer → Type 0
IsOffer o = Contains (offer ∷ []) o

abbrev neighbor_stub : RouterLink
neighbor_stub = stub (ipv4 192 0 2 0) mask_24 1

abbrev IsKnown : ℕ × RouterLink → Type 0
IsKnown x = IsStubKnown 0 uncounted_entries near_router IsOffer x.0 x.1

of_stub : StubOffer contents near_router neighbor neighbor_stub 24 offer
of_stub = stub_by uncounted_entries near_router neighbor neighbor_stub 24 (way 10 2) 2
    neighbor_way (hops_from near_router neighbor (λ e. omega (arith, e)) 2) (omega arith) refl

stubs_known : AllByRecursion IsKnown (filter is_stub (links_of (sayings uncounted_entries)))
stubs_known = (
  inr (24, offer, of_stub, (0, omega arith, refl)),
  (
    inl (never (ipv4 3 3 3 3) refl),
    (
      inl (never (ipv4 4 4 4 4) refl),
      (inl (never (ipv4 5 5 5 5) refl), (inl (never (ipv4 6 6 6 6) refl), tt)),
    ),
  ),
)

within : (o : Offer) → OffersWithin contents near_router o → IsOffer o
within o x =
    each_offer 0 uncounted_entries near_router IsOffer
    (λ router l t. one_of IsKnown (filter is_stub (links_of (sayings uncounted_entries)))
    stubs_known (router, l) t)
    (λ id by lsa t. absurd (let e : false ≡ true =
    all_pass is_no_network (sayings uncounted_entries) refl (
      record {
        ls_type = 2;
        link_state_id = id;
        advertising_router = by;
      },
      body.Network lsa,
    ) t in cc))
    o x

only_offer : (o : Offer) → Offers contents near_router o → IsOffer o
only_offer o (Within x) = within o x
only_offer o (Between x) = absurd (nothing_between 0 uncounted_entries refl near_router o x)
only_offer o (External x) = absurd (no_external uncounted_entries refl _ x.lsa x.its)

offered : Offers contents near_router offer
offered = Within (stub_within uncounted_entries near_router neighbor neighbor_links neighbor_says
    neighbor_stub (4, omega arith, refl) refl 24 offer of_stub)

pub worked : WorkedUncounted
worked =
    candidates_of contents near_router (offer ∷ [])
    (in_order (λ (o : Offer). o.prefix) (offer ∷ []) refl)
    (one_of (λ (o : Offer). Offers contents near_router o) (offer ∷ []) (offered, tt)) only_offer
