-- The candidates of a database that is given as a list of copies, if each prefix has one offer; the
-- offers of its stub links, and ways over its point-to-point links.
use Rattle.std.proofs.Common.{◌≡◌, ℕ, suc, inl, inr, Bool, true, false, IsTrue, List, [], ◌∷◌, map}
use Rattle.std.proofs.Common.{filter, arith, refl, sym, ap, subst, ◌+◌, ◌≤◌}
use Rattle.std.specs.List.{All, AllByRecursion, Contains, list_all}
use Rattle.std.proofs.lemmas.List.Elements.{All-cons, All-nil}
use Rattle.std.proofs.lemmas.List.Kept.{AllPairs-cons}
use Rattle.words.specs.Interfaces.{has_interface}
use Rattle.words.specs.Prefixes.{Network, mask_of, network_address}
use Rattle.words.specs.declared.key.Key.{Key}
use Rattle.words.specs.declared.route.Route.{Route}
use Rattle.lsa.specs.declared.body.LsaBody.{LsaBody}
use Rattle.lsa.specs.declared.body.LsaBody.TheVariants as body
use Rattle.lsa.specs.declared.body.ExternalLsa.{ExternalLsa}
use Rattle.lsa.specs.declared.body.RouterLink.{RouterLink}
use Rattle.lsa.specs.declared.body.LinkKind.TheVariants.{Stub}
use Rattle.routes.proofs.Lists.{first_is, later_is, of_cons, of_empty}
use Rattle.routes.specs.Candidates.{AreCandidates, IsCandidate, Offers}
use Rattle.routes.specs.Candidates.Offers.{Between, External, Within}
use Rattle.routes.specs.Links.{IsRouterLsa, Leads, Says}
use Rattle.routes.specs.Paths.{IsWalk, IsWay, Step, Way, cost_of}
use Rattle.routes.specs.Routes.{IsBefore}
use Rattle.routes.specs.Contents.{Contents, contents_at}
use Rattle.routes.specs.declared.node.Node.{Node}
use Rattle.routes.specs.declared.node.Node.TheVariants.{ARouter}
use Rattle.routes.specs.declared.offer.Offer.{Offer}
use Rattle.routes.specs.declared.root.Root.{Root}
use Rattle.route_laws.specs.Worked.{Entries, database, router_lsa}
use Rattle.route_laws.proofs.Alone.{IsAlone, Known, StubOffer, all_candidates, alone, each_within}
use Rattle.route_laws.proofs.Alone.{is_stub, route_of}
use Rattle.route_laws.proofs.Entries.{all_pass, is_no_network, is_said, links_of, mapped, sayings}
use Rattle.route_laws.proofs.Labels.{AreChecked, at_node, checked, way_by}
use Rattle.route_laws.proofs.Made.{linked}
use Rattle.route_laws.proofs.NoSummaries.{is_no_summary, nothing_between}
use Rattle.route_laws.proofs.Ordered.{InOrder, one_for_prefix}
use Rattle.route_laws.proofs.Parts.{one_of}
use Rattle.routes.specs.Offers.{OffersWithin, intra}

of_map : (offers : List Offer) (r : Route) → Contains (map (λ (o : Offer). route_of o) offers) r
    → (o : Offer) × Contains offers o × (route_of o ≡ r)
of_map [] r t = absurd (of_empty r t)
of_map (o ∷ offers) r t =
    elim (of_cons (route_of o) (map (λ (x : Offer). route_of x) offers) r t) [
      | inl e ↦ (o, first_is o offers, e)
      | inr later ↦ (let k = of_map offers r later in (k.0, later_is o offers k.0 k.1, k.2))
    ]

-- the network of each of these offers comes after p
after : (p : Network) (offers : List Offer) → All (λ (o : Offer). IsBefore p o.prefix) offers
    → All (λ (r : Route). IsBefore p r.prefix) (map (λ (o : Offer). route_of o) offers)
after p [] all = All-nil (λ (r : Route). IsBefore p r.prefix)
after p (o ∷ offers) all =
    All-cons (λ (r : Route). IsBefore p r.prefix) (route_of o)
    (map (λ (x : Offer). route_of x) offers) (all 0 o (omega arith))
    (after p offers (λ k d low. all (suc k) d (omega (arith, low))))

routes_in_order : (offers : List Offer) → InOrder (λ (o : Offer). o.prefix) offers
    → InOrder (λ (r : Route). r.prefix) (map (λ (o : Offer). route_of o) offers)
routes_in_order [] up = λ i j d before low. absurd (omega (arith, before, low))
routes_in_order (o ∷ offers) up =
    AllPairs-cons (λ (a : Route) (b : Route). IsBefore a.prefix b.prefix) (route_of o)
    (map (λ (x : Offer). route_of x) offers)
    (after o.prefix offers (λ k d low. up 0 (suc k) d (omega arith) (omega (arith, low))))
    (routes_in_order offers
    (λ i j d before low. up (suc i) (suc j) d (omega (arith, before)) (omega (arith, low))))

-- offers for prefixes in ascending order, and no others, are candidates
pub candidates_of : (contents : Contents) (root : Root) (offers : List Offer)
    → InOrder (λ (o : Offer). o.prefix) offers
    → ((o : Offer) → Contains offers o → Offers contents root o)
    → ((o : Offer) → Offers contents root o → Contains offers o)
    → AreCandidates contents root (map (λ (o : Offer). route_of o) offers)
candidates_of contents root offers ordered offered only =
    all_candidates contents root (map (λ (o : Offer). route_of o) offers)
    (λ r t.
    let k = of_map offers r t in
    let alone_is : IsAlone contents root k.0 =
    λ other o same. inl (one_for_prefix (λ (x : Offer). x.prefix) offers ordered other k.0
    (only other o) k.1 same) in
    let P : Route → Type 0 = λ x. IsCandidate contents root x in
    subst P k.2 (alone contents root k.0 (offered k.0 k.1) alone_is))
    (λ o given. (route_of o, mapped (λ (x : Offer). route_of x) offers o (only o given), refl))
    (routes_in_order offers ordered)

-- ---- ways

abbrev pub way : ℕ → ℕ → Way
way distance hops = record { distance = distance; hops = hops }

-- by a point-to-point link with cost 5
abbrev pub to : ℕ → ℕ → Step Node
to router exit = record { target = ARouter router; cost = 5; exit = exit }

abbrev pub Walk : Entries → Root → List (Step Node) → ℕ → Type 0
Walk es root walk router =
    IsWalk (Leads (contents_at 0 (database es)) root) (ARouter root.router) walk (ARouter router)

abbrev pub IsWayFrom : Entries → Root → ℕ → Way → Type 0
IsWayFrom es root router w =
    IsWay (Leads (contents_at 0 (database es)) root) (ARouter root.router) (ARouter router) w

pub way_to : (es : Entries) (root : Root) (distance hops : ℕ → ℕ)
    → AreChecked root (sayings es) distance hops → (router : ℕ) (walk : List (Step Node))
    → Walk es root walk router → cost_of walk ≡ distance router
    → ((i : ℕ) → IsTrue (has_interface (hops router) i) → (first : Step Node)
    × (rest : List (Step Node)) × Walk es root (first ∷ rest) router
    × (cost_of (first ∷ rest) ≡ distance router) × (first.exit ≡ i))
    → IsWayFrom es root router (way (distance router) (hops router))
way_to es root distance hops are router walk is costs each =
    way_by (Leads (contents_at 0 (database es)) root) (ARouter root.router) (at_node distance)
    (at_node hops) (checked root 0 es distance hops are) (ARouter router) walk is costs each

-- ---- the offers of stub links

pub stub_within : (es : Entries) (root : Root) (router : ℕ) (links : List RouterLink)
    → IsRouterLsa (contents_at 0 (database es)) router (router_lsa links) → (l : RouterLink)
    → Contains links l → l.kind ≡ Stub → (length : ℕ) (o : Offer)
    → StubOffer (contents_at 0 (database es)) root router l length o
    → OffersWithin (contents_at 0 (database es)) root o
stub_within es root router links its l among kind length o s = record {
  node = ARouter router;
  prefix = record { address = network_address length l.link_id; length = length };
  more = l.metric;
  attached = (l, linked es router links its l among, kind, (s.within, s.mask, refl), refl);
  way = s.way;
  reached = s.reached;
  hops = s.hops;
  by_root = λ e. s.by_root (let same : router ≡ root.router = cc in same);
  by_others = λ other. s.by_others (λ e. other (ap (λ n. ARouter n) e));
  is = sym s.is;
}

-- the hops of an offer by the way to this router
abbrev pub HopsTo : Root → ℕ → ℕ → ℕ → Type 0
HopsTo root router hops own = (router ≡ root.router → own ≡ 1)
    × ((router ≡ root.router → ⊥) → own ≡ hops)

pub hops_at : (root : Root) (router : ℕ) → router ≡ root.router → (hops : ℕ)
    → HopsTo root router hops 1
hops_at root router same hops = (λ _. refl, λ other. absurd (other same))

pub hops_from : (root : Root) (router : ℕ) → (router ≡ root.router → ⊥) → (hops : ℕ)
    → HopsTo root router hops hops
hops_from root router other hops = (λ e. absurd (other e), λ _. refl)

-- by a known way
pub stub_by : (es : Entries) (root : Root) (router : ℕ) (l : RouterLink) (length : ℕ) (by : Way)
    (hops : ℕ) → IsWayFrom es root router by → HopsTo root router by.hops hops → length ≤ 32
    → l.link_data ≡ mask_of length → StubOffer (contents_at 0 (database es)) root router l length
    (intra (record {
      address = network_address length l.link_id;
      length = length;
    }) (by.distance + l.metric) hops)
stub_by es root router l length by hops reached of_hops within mask = record {
  way = by;
  reached = reached;
  within = within;
  mask = mask;
  hops = hops;
  by_root = of_hops.0;
  by_others = of_hops.1;
  is = refl;
}

-- ---- all stub links

abbrev pub AreStubsKnown : Entries → Root → (Offer → Type 0) → Type 0
AreStubsKnown es root P = AllByRecursion (λ (x : ℕ × RouterLink). Known 0 es root P x.0 x.1)
    (filter is_stub (links_of (sayings es)))

-- without networks, an offer within the area is that of a stub link
pub each_stub : (es : Entries) (root : Root) (P : Offer → Type 0)
    → list_all is_no_network (sayings es) ≡ true → AreStubsKnown es root P → (o : Offer)
    → OffersWithin (contents_at 0 (database es)) root o → P o
each_stub es root P networks known o x =
    each_within 0 es root P networks
    (λ router l t. one_of (λ (y : ℕ × RouterLink). Known 0 es root P y.0 y.1)
    (filter is_stub (links_of (sayings es))) known (router, l) t) o x

-- ---- only router-LSAs

abbrev pub is_router : Key × LsaBody → Bool
is_router (k, body.Router r) = true
is_router (k, body.Network n) = false
is_router (k, body.NetworkSummary s) = false
is_router (k, body.RouterSummary s) = false
is_router (k, body.External e) = false

pub no_external : (es : Entries) → list_all is_router (sayings es) ≡ true
    → (key : Key) (lsa : ExternalLsa) → Says (contents_at 0 (database es)) key
    (body.External lsa) → ⊥
no_external es all key lsa its = let e : false ≡ true =
    all_pass is_router (sayings es) all (key, body.External lsa)
    (is_said 0 es key (body.External lsa) its) in cc

pub only_within : (es : Entries) (root : Root) (offers : List Offer)
    → list_all is_router (sayings es) ≡ true → list_all is_no_network (sayings es) ≡ true
    → list_all is_no_summary (sayings es) ≡ true
    → AreStubsKnown es root (λ o. Contains offers o) → (o : Offer)
    → Offers (contents_at 0 (database es)) root o → Contains offers o
only_within es root offers routers networks summaries known o (Within x) =
    each_stub es root (λ y. Contains offers y) networks known o x
only_within es root offers routers networks summaries known o (Between x) =
    absurd (nothing_between 0 es summaries root o x)
only_within es root offers routers networks summaries known o (External x) =
    absurd (no_external es routers _ x.lsa x.its)
