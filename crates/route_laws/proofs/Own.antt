-- The links of a router's own router-LSA are those of interfaces with Full neighbors, and of
-- subnets.
use Rattle.std.proofs.Common.{◌≡◌, ℕ, ◌<◌, ◌≤◌, zero, suc, ◌⊎◌, ◌==◌, inl, inr, Bool, true, false}
use Rattle.std.proofs.Common.{cond, not, IsTrue, eq-eqb, leb-true, nat_le, List, [], ◌∷◌, map}
use Rattle.std.proofs.Common.{Option, None, Some, slice_get, arith, refl, sym, ◌∙◌, ap, subst}
use Rattle.std.specs.List.{Contains, flat_map, list_all, list_any}
use Rattle.std.proofs.lemmas.List.Elements.{Contains-append_cases}
use Rattle.words.specs.Numbers.{InterfaceNumber, RouterNumber}
use Rattle.lsa.specs.declared.body.LsaBody.TheVariants as body
use Rattle.lsa.specs.declared.body.RouterLink.{RouterLink}
use Rattle.lsa.specs.declared.body.LinkKind.{LinkKind}
use Rattle.lsa.specs.declared.body.LinkKind.TheVariants.{PointToPoint, Stub, Transit}
use Rattle.lsa.specs.declared.body.RouterLsa.{RouterLsa}
use Rattle.adjacency.specs.Neighbors.{Neighbor, is_full}
use Rattle.adjacency.specs.declared.interface.Interface.{Interface}
use Rattle.area_routes.specs.Offers.{root_by}
use Rattle.event_rules.specs.Originations.{links_of, point_to_point, router_body, stub}
use Rattle.event_rules.specs.Routers.{are_distinct}
use Rattle.received.specs.Links.{Link, neighbor_at}
use Rattle.routes.proofs.Lists.{first_is, later_is, of_cons, of_empty}
use Rattle.routes.specs.Candidates.{IsCandidate}
use Rattle.words.specs.Interfaces.{has_interface}
use Rattle.words.specs.declared.route.Route.{Route}
use Rattle.route_laws.proofs.Entries.{both_true}
use Rattle.route_laws.proofs.Hops.{of_candidate}
use Rattle.route_laws.proofs.Labels.{not_both, or_left, or_right}
use Rattle.routes.specs.Links.{Counts, HasLink, LeadsTo}
use Rattle.routes.specs.Contents.{Contents}
use Rattle.routes.specs.declared.node.Node.{Node}
use Rattle.routes.specs.declared.node.Node.TheVariants.{ANetwork, ARouter}
use Rattle.route_laws.specs.Forwarding.{IsOtherEnd, NamesItsInterfaces}
use Rattle.route_laws.specs.Premises.{HaveCosts, HaveOwnAddresses, IsCurrent, IsNextHop, LeadsAlong}
use Rattle.route_laws.specs.Premises.{OwnRouterLsasMeetThePremises}

-- ---- one interface

abbrev toward_link : Interface → RouterNumber → RouterLink
toward_link i router = record {
  link_id = router;
  link_data = i.address;
  kind = PointToPoint;
  metric = i.cost;
  tos = [];
}

record IsToward (i : Interface) (on : Option Neighbor) (link : RouterLink) : Type 0 where
  neighbor : Neighbor
  is_on : on ≡ Some neighbor
  full : IsTrue (is_full neighbor.state)
  is : toward_link i neighbor.router ≡ link

toward : (i : Interface) (on : Option Neighbor) (link : RouterLink)
    → Contains (point_to_point i on) link → IsToward i on link
toward i None link t = absurd (of_empty link t)
toward i (Some n) link t = by_state (is_full n.state) refl t
  where
    by_state : (full : Bool) → is_full n.state ≡ full
        → Contains (cond full (toward_link i n.router ∷ []) []) link → IsToward i (Some n) link
    by_state true e t =
        elim (of_cons (toward_link i n.router) [] link t) [
          | inl is ↦ record { neighbor = n; is_on = refl; full = e; is = is }
          | inr none ↦ absurd (of_empty link none)
        ]
    by_state false e t = absurd (of_empty link t)

of_interface : (at : Link) (link : RouterLink) → Contains (links_of at) link
    → IsToward at.interface at.neighbor link ⊎ (stub at.interface ≡ link)
of_interface at link t =
    elim (Contains-append_cases (point_to_point at.interface at.neighbor) (stub at.interface ∷ [])
    link t) [
      | inl first ↦ inl (toward at.interface at.neighbor link first)
      | inr second ↦
          elim (of_cons (stub at.interface) [] link second) [
            | inl e ↦ inr e
            | inr none ↦ absurd (of_empty link none)
          ]
    ]

-- ---- all interfaces

record HasPlace (links : List Link) (link : RouterLink) : Type 0 where
  place : ℕ
  at : Link
  stands : slice_get links place ≡ Some at
  among : Contains (links_of at) link

placed : (links : List Link) (link : RouterLink) → Contains (flat_map links_of links) link
    → HasPlace links link
placed [] link t = absurd (of_empty link t)
placed (x ∷ links) link t =
    elim (Contains-append_cases (links_of x) (flat_map links_of links) link t) [
      | inl here ↦ record { place = 0; at = x; stands = refl; among = here }
      | inr later ↦ (let p = placed links link later in record {
        place = suc p.place;
        at = p.at;
        stands = p.stands;
        among = p.among;
      })
    ]

module _ (contents : Contents) (router : RouterNumber) (links : List Link)
    (current : IsCurrent contents router links) where
  links_are : (link : RouterLink) → HasLink contents router link → HasPlace links link
  links_are link h =
      let same : Some (body.Router h.lsa) ≡ Some (router_body links) = sym h.its ∙ current in
      let are : h.lsa ≡ record { flags = 2; links = flat_map links_of links } = cc in
      let P : RouterLsa → Type 0 = λ r. Contains r.links link in
      placed links link (subst P are h.among)

stub_kind : (k : LinkKind) → Stub ≡ k → (k ≡ PointToPoint) ⊎ (k ≡ Transit) → ⊥
stub_kind k e (inl f) = let no : Stub ≡ PointToPoint = e ∙ f in cc
stub_kind k e (inr f) = let no : Stub ≡ Transit = e ∙ f in cc

-- the link of an interface toward its neighbor
record IsAlong (links : List Link) (link : RouterLink) : Type 0 where
  place : ℕ
  at : Link
  stands : slice_get links place ≡ Some at
  toward : IsToward at.interface at.neighbor link

along : (links : List Link) (link : RouterLink) → HasPlace links link → (link.kind ≡ PointToPoint)
    ⊎ (link.kind ≡ Transit) → IsAlong links link
along links link p on =
    elim (of_interface p.at link p.among) [
      | inl t ↦ record { place = p.place; at = p.at; stands = p.stands; toward = t }
      | inr e ↦ absurd (stub_kind link.kind (ap (λ (x : RouterLink). x.kind) e) on)
    ]

-- ---- addresses

abbrev addresses_of : List Link → List ℕ
addresses_of links = map (λ (link : Link). link.interface.address) links

has_address : (links : List Link) (place : ℕ) (at : Link) → slice_get links place ≡ Some at
    → Contains (addresses_of links) at.interface.address
has_address [] place at e = absurd (cc)
has_address (x ∷ links) zero at e =
    let same : x ≡ at = cc in
    let P : Link → Type 0 = λ y. Contains (addresses_of (x ∷ links)) y.interface.address in
    subst P same (first_is x.interface.address (addresses_of links))
has_address (x ∷ links) (suc place) at e =
    later_is x.interface.address (addresses_of links) at.interface.address
    (has_address links place at e)

record HasAddress (links : List Link) (place address : ℕ) : Type 0 where
  at : Link
  stands : slice_get links place ≡ Some at
  is : at.interface.address ≡ address

of_address : (links : List Link) (place address : ℕ) → slice_get (addresses_of links) place
    ≡ Some address → HasAddress links place address
of_address [] place address e = absurd (cc)
of_address (x ∷ links) zero address e = let same : x.interface.address ≡ address = cc in record {
  at = x;
  stands = refl;
  is = same;
}
of_address (x ∷ links) (suc place) address e = let h = of_address links place address e in record {
  at = h.at;
  stands = h.stands;
  is = h.is;
}

abbrev interfaces_of : List Link → List Interface
interfaces_of links = map (λ (link : Link). link.interface) links

abbrev has_it : ℕ → List Link → Bool
has_it address links = list_any (λ (j : Interface). j.address == address) (interfaces_of links)

is_there : (links : List Link) (place : ℕ) (at : Link) (address : ℕ) → slice_get links place
    ≡ Some at → at.interface.address ≡ address → has_it address links ≡ true
is_there [] place at address e f = absurd (cc)
is_there (x ∷ links) zero at address e f =
    let same : x ≡ at = cc in
    or_left (x.interface.address == address) (has_it address links)
    (eq-eqb x.interface.address address (ap (λ (y : Link). y.interface.address) same ∙ f))
is_there (x ∷ links) (suc place) at address e f =
    or_right (x.interface.address == address) (has_it address links)
    (is_there links place at address e f)

one_place : (links : List Link) → are_distinct (interfaces_of links) ≡ true → (m n : ℕ) (a b : Link)
    → slice_get links m ≡ Some a → slice_get links n ≡ Some b → a.interface.address
    ≡ b.interface.address → m ≡ n
one_place [] apart m n a b p q e = absurd (cc)
one_place (x ∷ links) apart zero zero a b p q e = refl
one_place (x ∷ links) apart zero (suc n) a b p q e =
    let same : x ≡ a = cc in
    let parts = both_true (not (has_it x.interface.address links))
    (are_distinct (interfaces_of links)) apart in
    absurd (not_both (has_it x.interface.address links) parts.0
    (is_there links n b x.interface.address q
    (sym e ∙ ap (λ (y : Link). y.interface.address) (sym same))))
one_place (x ∷ links) apart (suc m) zero a b p q e =
    let same : x ≡ b = cc in
    let parts = both_true (not (has_it x.interface.address links))
    (are_distinct (interfaces_of links)) apart in
    absurd (not_both (has_it x.interface.address links) parts.0
    (is_there links m a x.interface.address p
    (e ∙ ap (λ (y : Link). y.interface.address) (sym same))))
one_place (x ∷ links) apart (suc m) (suc n) a b p q e =
    let parts = both_true (not (has_it x.interface.address links))
    (are_distinct (interfaces_of links)) apart in
    ap (λ k. suc k) (one_place links parts.1 m n a b p q e)

-- ---- the premises

names : (contents : Contents) (router : RouterNumber) (links : List Link)
    → IsCurrent contents router links
    → NamesItsInterfaces contents (root_by router links)
names contents router links current link h on =
    let a : IsAlong links link = along links link
    (links_are contents router links current link h) on in
    let P : ℕ → Type 0 = λ address. Contains (addresses_of links) address in
    subst P (ap (λ (x : RouterLink). x.link_data) a.toward.is)
    (has_address links a.place a.at a.stands)

cost_at : (links : List Link) → list_all (λ (link : Link). nat_le 1 link.interface.cost) links
    ≡ true → (place : ℕ) (at : Link) → slice_get links place ≡ Some at → 0 < at.interface.cost
cost_at [] costs place at e = absurd (cc)
cost_at (x ∷ links) costs zero at e =
    let same : x ≡ at = cc in
    let parts = both_true (nat_le 1 x.interface.cost)
    (list_all (λ (link : Link). nat_le 1 link.interface.cost) links) costs in
    let some : 1 ≤ x.interface.cost = leb-true 1 x.interface.cost parts.0 in
    omega (arith, some, ap (λ (y : Link). y.interface.cost) same)
cost_at (x ∷ links) costs (suc place) at e =
    cost_at links (both_true (nat_le 1 x.interface.cost)
    (list_all (λ (link : Link). nat_le 1 link.interface.cost) links) costs).1 place at e

not_free : (contents : Contents) (router : RouterNumber) (links : List Link)
    → IsCurrent contents router links
    → HaveCosts links → (link : RouterLink) → HasLink contents router link → link.kind
    ≡ PointToPoint
    → 0 < link.metric
not_free contents router links current costs link h kind =
    let a : IsAlong links link = along links link (links_are contents router links current link h)
    (inl kind) in
    let some = cost_at links costs a.place a.at a.stands in
    omega (arith, some, ap (λ (x : RouterLink). x.metric) a.toward.is)

module _ (contents : Contents) (router : RouterNumber) (links : List Link)
    (current : IsCurrent contents router links) (apart : HaveOwnAddresses links) where
  -- a link that counts leads along its interface
  record Counted (id interface : ℕ) : Type 0 where
    at : Link
    neighbor : Neighbor
    is_on : neighbor_at interface links ≡ Some neighbor
    full : IsTrue (is_full neighbor.state)
    is_id : neighbor.router ≡ id

  counted : (kind : LinkKind) (id price interface : ℕ) → (kind ≡ PointToPoint) ⊎ (kind ≡ Transit)
      → (c : Counts contents (root_by router links) router kind id price interface)
      → Counted id interface × (PointToPoint ≡ kind)
  counted kind id price interface on c =
      let link : RouterLink = c.link in
      let Is : LinkKind → Type 0 = λ k. (k ≡ PointToPoint) ⊎ (k ≡ Transit) in
      let a : IsAlong links link = along links link
      (links_are contents router links current link c.its)
      (subst Is (sym c.is_kind) on) in
      let by = c.by_interface refl in
      let h : HasAddress links by.0 link.link_data = of_address links by.0 link.link_data by.2 in
      let data_is : a.at.interface.address ≡ link.link_data =
      ap (λ (x : RouterLink). x.link_data) a.toward.is in
      let same : a.place ≡ by.0 = one_place links apart a.place by.0 a.at h.at a.stands h.stands
      (data_is ∙ sym h.is) in
      let number : suc a.place ≡ interface = omega (arith, same, by.1) in
      let here : neighbor_at (suc a.place) links ≡ a.at.neighbor =
      neighbor_there links a.place a.at a.stands in
      let P : ℕ → Type 0 = λ k. neighbor_at k links ≡ Some a.toward.neighbor in (
        record {
          at = a.at;
          neighbor = a.toward.neighbor;
          is_on = subst P number (here ∙ a.toward.is_on);
          full = a.toward.full;
          is_id = ap (λ (x : RouterLink). x.link_id) a.toward.is
              ∙ c.is_id;
        },
        ap (λ (x : RouterLink). x.kind) a.toward.is ∙ c.is_kind,
      )
    where
      neighbor_there : (ls : List Link) (place : ℕ) (at : Link) → slice_get ls place ≡ Some at
          → neighbor_at (suc place) ls ≡ at.neighbor
      neighbor_there [] place at e = absurd (cc)
      neighbor_there (x ∷ ls) zero at e = let same : x ≡ at = cc in
          ap (λ (y : Link). y.neighbor) same
      neighbor_there (x ∷ ls) (suc place) at e = neighbor_there ls place at e

  leads : (target : Node) (price interface : ℕ)
      → LeadsTo contents (root_by router links) (ARouter router) target price interface
      → LeadsAlong links interface target
  leads (ARouter b) price interface l =
      let c = (counted PointToPoint b price interface (inl refl) l.0).0 in
      record {
        neighbor = c.neighbor;
        is_on = c.is_on;
        full = c.full;
        is_target = ap (λ k. ARouter k) (sym c.is_id);
      }
  leads (ANetwork id by) price interface l =
      absurd (let e : PointToPoint ≡ Transit =
      (counted Transit id price interface (inr refl) l.0).1 in cc)

  other_end : (interface : InterfaceNumber) (neighbor : Neighbor) → neighbor_at interface links
      ≡ Some neighbor → IsOtherEnd contents (root_by router links) interface neighbor.router
  other_end interface neighbor is target price l =
      let t : LeadsAlong links interface target = leads target price interface l in
      let same : Some t.neighbor ≡ Some neighbor = sym t.is_on ∙ is in
      let one : t.neighbor ≡ neighbor = cc in
      t.is_target ∙ ap (λ (n : Neighbor). ARouter n.router) one

  next_hops : (route : Route) → IsCandidate contents (root_by router links) route
      → (interface : InterfaceNumber) → 0 < interface → IsTrue (has_interface route.hops interface)
      → IsNextHop contents router links interface
  next_hops route k interface away t =
      elim (of_candidate contents (root_by router links) route k interface t) [
        | inl none ↦ absurd (omega (arith, away, none))
        | inr left ↦
            let l = leads left.target left.cost interface left.leads in
            let P : Node → Type 0 = λ n. LeadsTo contents (root_by router links) (ARouter router) n
            left.cost interface in
            record {
              neighbor = l.neighbor;
              is_on = l.is_on;
              full = l.full;
              cost = left.cost;
              leads = subst P l.is_target left.leads;
            }
      ]

pub premises : OwnRouterLsasMeetThePremises
premises = record {
  own = λ contents router links current. names contents router links current;
  not_free = λ contents router links current costs. not_free contents router links current costs;
  leads = λ contents router links current apart. leads contents router links current apart;
  other_end = λ contents router links current apart. other_end contents router links current apart;
  next_hops = λ contents router links current apart. next_hops contents router links current apart;
}
