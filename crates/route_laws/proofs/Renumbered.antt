-- The worked row whose middle router has another address than in its router-LSA: it reaches only
-- the left router.
use Rattle.std.proofs.Common.{◌≡◌, ℕ, zero, suc, ◌+◌, ◌⊎◌, ◌&&◌, ◌||◌, inl, inr, Bool, true, false}
use Rattle.std.proofs.Common.{not, nat_eq, eqb-true, eq-eqb, List, [], ◌∷◌, Some, slice_get, arith}
use Rattle.std.proofs.Common.{refl, sym, ◌∙◌, ap, subst}
use Rattle.std.specs.List.{AllByRecursion, Contains}
use Rattle.words.specs.Prefixes.{Network, network_address}
use Rattle.lsa.specs.declared.body.LsaBody.TheVariants as body
use Rattle.lsa.specs.declared.body.RouterLink.{RouterLink}
use Rattle.routes.proofs.Determined.{one_way}
use Rattle.routes.proofs.Lists.{of_cons, of_empty}
use Rattle.routes.proofs.Prefixes.{one_prefix}
use Rattle.routes.specs.Candidates.{AreCandidates, Offers, OffersExternal}
use Rattle.routes.specs.Candidates.Offers.{Between, External, Within}
use Rattle.routes.specs.Links.{Leads, LeadsTo}
use Rattle.routes.specs.Offers.{Attaches, OffersWithin, intra}
use Rattle.routes.specs.Paths.{IsWalk, IsWay, Step, Way}
use Rattle.routes.specs.declared.node.Node.{Node}
use Rattle.routes.specs.declared.node.Node.TheVariants.{ANetwork, ARouter}
use Rattle.routes.specs.declared.offer.Offer.{Offer}
use Rattle.route_laws.proofs.Alone.{is_stub, kind_is_stub}
use Rattle.route_laws.proofs.Entries.{all_pass, both_true, has_link, is_no_network, is_said, kept}
use Rattle.route_laws.proofs.Entries.{links_of, sayings}
use Rattle.route_laws.proofs.Labels.{AreChecked, either_true, is_point, not_both, or_left, or_right}
use Rattle.route_laws.proofs.Made.{back, from_root, linked, only_one}
use Rattle.route_laws.proofs.NoSummaries.{is_inside, nothing_between}
use Rattle.route_laws.specs.Worked.{ipv4, point_to_point}
use Rattle.route_laws.specs.Forwarding.{NamesItsInterfaces}
use Rattle.route_laws.specs.WorkedForwarding.{StaleRouterLsasMayLoop, left_links, middle_links}
use Rattle.route_laws.specs.WorkedForwarding.{narrow, renumbered_middle, row, row_says}
use Rattle.route_laws.specs.WorkedForwarding.{wide_network, without_narrow}
use Rattle.route_laws.proofs.Row.{abroad_offer, at_left, at_middle, at_right, by_router}
use Rattle.route_laws.proofs.Row.{each_of_two, has, left_abroad, left_candidates, left_counts}
use Rattle.route_laws.proofs.Row.{left_hands, left_says, middle_says, narrow_longest, narrow_stub}
use Rattle.route_laws.proofs.Row.{other_end, reaches_left, wide_longest, wide_stub}
use Rattle.route_laws.proofs.Ordered.{in_order}
use Rattle.route_laws.proofs.ExternalOffers.{CountsAsExternal, offered_directly, only_directly}
use Rattle.route_laws.proofs.OneOffer.{IsWayFrom, Walk, candidates_of, hops_from, stub_by}
use Rattle.route_laws.proofs.OneOffer.{stub_within, to, way, way_to}
use Rattle.route_laws.proofs.Parts.{one_of}
use Rattle.routes.specs.Summaries.{IsBoundaryWay}

-- ---- the way to the left router

is_checked : AreChecked renumbered_middle (sayings row) (by_router 5 0 5) (by_router 2 0 0)
is_checked = record { start = refl; routers = refl; links = refl }

by_link : Walk row renumbered_middle (to at_left 1 ∷ []) at_left
by_link = (
  (
    from_root row renumbered_middle middle_links middle_says at_left (ipv4 10 0 1 2) 5 0
        (0, omega arith, refl) (omega arith) refl,
    back row at_left left_links left_says at_middle (ipv4 10 0 1 1) 5 (0, omega arith, refl),
  ),
  refl,
)

to_left : IsWayFrom row renumbered_middle at_left (way 5 2)
to_left = way_to row renumbered_middle (by_router 5 0 5) (by_router 2 0 0) is_checked at_left
    (to at_left 1 ∷ []) by_link refl (λ i t. (to at_left 1, [], by_link, refl, sym (only_one i t)))

-- ---- no way to the right one

abbrev IsNear : Node → Type 0
IsNear node = (node ≡ ARouter at_left) ⊎ (node ≡ ARouter at_middle)

-- a link of the left router or the middle one leads to one of the two, or its Link Data is no
-- address of the middle one
abbrev leads_near : ℕ × RouterLink → Bool
leads_near x = not (is_point x.1.kind) ||
    (nat_eq x.0 at_right || ((nat_eq x.1.link_id at_left || nat_eq x.1.link_id at_middle) ||
    (nat_eq x.0 at_middle && not (has renumbered_middle.addresses x.1.link_data))))

has_at : (addresses : List ℕ) (n d : ℕ) → slice_get addresses n ≡ Some d → has addresses d ≡ true
has_at [] n d e = absurd (cc)
has_at (a ∷ addresses) zero d e =
    let same : a ≡ d = cc in
    or_left (nat_eq a d) (has addresses d) (eq-eqb a d same)
has_at (a ∷ addresses) (suc n) d e =
    or_right (nat_eq a d) (has addresses d) (has_at addresses n d e)

near_step : (router b price exit : ℕ) → (router ≡ at_right → ⊥)
    → LeadsTo row_says renumbered_middle (ARouter router) (ARouter b) price exit
    → IsNear (ARouter b)
near_step router b price exit other l =
    let link : RouterLink = l.0.link in
    let e : leads_near (router, link) ≡ true =
    all_pass leads_near (links_of (sayings row)) refl (router, link)
    (has_link 0 row router link l.0.its) in
    let named : ℕ → Node = λ k. ARouter k in
    elim (either_true (not (is_point link.kind))
    (nat_eq router at_right || ((nat_eq link.link_id at_left || nat_eq link.link_id at_middle)
    || (nat_eq router at_middle && not (has renumbered_middle.addresses link.link_data))))
    e) [
      | inl no_point ↦ absurd (not_both (is_point link.kind) no_point (ap is_point l.0.is_kind))
      | inr f ↦
          elim (either_true (nat_eq router at_right)
          ((nat_eq link.link_id at_left || nat_eq link.link_id at_middle) ||
          (nat_eq router at_middle && not (has renumbered_middle.addresses link.link_data)))
          f) [
            | inl here ↦ absurd (other (eqb-true router at_right here))
            | inr g ↦
                elim (either_true (nat_eq link.link_id at_left || nat_eq link.link_id at_middle)
                (nat_eq router at_middle && not
                (has renumbered_middle.addresses link.link_data)) g) [
                  | inl near ↦
                      elim (either_true (nat_eq link.link_id at_left)
                      (nat_eq link.link_id at_middle) near) [
                        | inl at_l ↦ inl (ap named
                            (sym l.0.is_id ∙ eqb-true link.link_id at_left at_l))
                        | inr at_m ↦ inr (ap named
                            (sym l.0.is_id ∙ eqb-true link.link_id at_middle at_m))
                      ]
                  | inr foreign ↦
                      let parts = both_true (nat_eq router at_middle)
                      (not (has renumbered_middle.addresses link.link_data)) foreign in
                      let by = l.0.by_interface (eqb-true router at_middle parts.0) in
                      absurd (not_both (has renumbered_middle.addresses link.link_data) parts.1
                      (has_at renumbered_middle.addresses by.0 link.link_data by.2))
                ]
          ]
    ]

not_right : (router : ℕ) → IsNear (ARouter router) → router ≡ at_right → ⊥
not_right router (inl e) r = let same : router ≡ at_left = cc in omega (arith, same, r)
not_right router (inr e) r = let same : router ≡ at_middle = cc in omega (arith, same, r)

near_any : (from target : Node) (price exit : ℕ) → IsNear from
    → LeadsTo row_says renumbered_middle from target price exit → IsNear target
near_any (ARouter r) (ARouter b) price exit near l = near_step r b price exit (not_right r near) l
near_any (ARouter r) (ANetwork id by) price exit near l =
    absurd (let e : false ≡ true = all_pass is_no_network (sayings row) refl (
      record {
        ls_type = 2;
        link_state_id = id;
        advertising_router = by;
      },
      body.Network l.1.lsa,
    )
    (is_said 0 row _ (body.Network l.1.lsa) l.1.its) in cc)
near_any (ANetwork id by) target price exit (inl e) l = absurd (cc)
near_any (ANetwork id by) target price exit (inr e) l = absurd (cc)

near_walk : (from : Node) (walk : List (Step Node)) (node : Node) → IsNear from
    → IsWalk (Leads row_says renumbered_middle) from walk node → IsNear node
near_walk from [] node near is = let P : Node → Type 0 = λ n. IsNear n in subst P is near
near_walk from (step ∷ rest) node near is =
    near_walk step.target rest node (near_any from step.target step.cost step.exit near is.0) is.1

right_far : (w : Way) → IsWayFrom row renumbered_middle at_right w → ⊥
right_far w is = not_right at_right
    (near_walk (ARouter at_middle) is.distance.0 (ARouter at_right) (inr refl)
    is.distance.1.is_walk) refl

-- ---- the offers

abbrev From : Node → Way → Type 0
From node w = IsWay (Leads row_says renumbered_middle) (ARouter at_middle) node w

by_node : (node : Node) (prefix : Network) (more : ℕ) → Attaches row_says node prefix more
    → (w : Way) → From node w → (hops : ℕ) → ((node ≡ ARouter at_middle → ⊥) → hops ≡ w.hops)
    → intra wide_network 15 2 ≡ intra prefix (w.distance + more) hops
by_node (ANetwork id by) prefix more a w reached hops others =
    absurd (let e : false ≡ true = all_pass is_no_network (sayings row) refl (
      record {
        ls_type = 2;
        link_state_id = id;
        advertising_router = by;
      },
      body.Network a.0,
    )
    (is_said 0 row _ (body.Network a.0) a.1) in cc)
by_node (ARouter router) prefix more a w reached hops others =
    let l : RouterLink = a.0 in
    let R : ℕ → Type 0 = λ r. From (ARouter r) w in
    elim (of_cons {X = ℕ × RouterLink} (at_left, wide_stub) ((at_right, narrow_stub) ∷ [])
    (router, l)
    (kept is_stub (links_of (sayings row)) (router, l) (has_link 0 row router l a.1)
    (ap kind_is_stub a.2))) [
      | inl e ↦
          let er : at_left ≡ router = ap (λ (x : ℕ × RouterLink). x.0) e in
          let el : wide_stub ≡ l = ap (λ (x : ℕ × RouterLink). x.1) e in
          let is_way : way 5 2 ≡ w = one_way (Leads row_says renumbered_middle) (ARouter at_middle)
          (ARouter at_left) (way 5 2) w to_left (subst R (sym er) reached) in
          let p : wide_network ≡ prefix = ap (λ (x : RouterLink). record {
            address = network_address 23 x.link_id;
            length = 23;
          }) el
          ∙ one_prefix l.link_id l.link_data 23 prefix (omega arith)
          (sym (ap (λ (x : RouterLink). x.link_data) el)) a.3 in
          let m : 10 ≡ more = ap (λ (x : RouterLink). x.metric) el ∙ sym a.4 in
          let h : 2 ≡ hops = ap (λ (x : Way). x.hops) is_way
          ∙ sym (others (λ f. let same : router ≡ at_middle = cc in omega (arith, er, same))) in
          λ i. intra (p i) ((is_way i).distance + m i) (h i)
      | inr later ↦
          elim (of_cons {X = ℕ × RouterLink} (at_right, narrow_stub) [] (router, l) later) [
            | inl e ↦ absurd (right_far w (subst R (sym (ap (λ (x : ℕ × RouterLink). x.0) e))
                reached))
            | inr none ↦ absurd (of_empty {X = ℕ × RouterLink} (router, l) none)
          ]
    ]

within_is : (o : Offer) → OffersWithin row_says renumbered_middle o → intra wide_network 15 2 ≡ o
within_is o x = by_node x.node x.prefix x.more x.attached x.way x.reached x.hops x.by_others
    ∙ sym x.is

abbrev by_left : Offer
by_left = abroad_offer left_abroad at_left (way 5 2)

counts : CountsAsExternal row_says renumbered_middle (ipv4 203 0 113 0) at_left left_abroad 24
counts = left_counts renumbered_middle (λ e. omega (arith, e))

reaches : IsBoundaryWay row_says renumbered_middle at_left (way 5 2)
reaches = reaches_left renumbered_middle (way 5 2) to_left

external_is : (o : Offer) → OffersExternal row_says renumbered_middle o → by_left ≡ o
external_is = each_of_two renumbered_middle (λ o. by_left ≡ o)
    (only_directly row_says renumbered_middle (ipv4 203 0 113 0) at_left left_abroad 24 counts refl
    (way 5 2) reaches)
    (λ o g. absurd (right_far g.is_way.boundary
    (is_inside 0 row refl renumbered_middle at_right g.is_way.boundary g.is_way.reaches).reached))

abbrev offers : List Offer
offers = intra wide_network 15 2 ∷ by_left ∷ []

only : (o : Offer) → Offers row_says renumbered_middle o → Contains offers o
only o (Within x) = (0, omega arith, within_is o x)
only o (Between x) = absurd (nothing_between 0 row refl renumbered_middle o x)
only o (External x) = (1, omega arith, external_is o x)

offered : AllByRecursion (λ (o : Offer). Offers row_says renumbered_middle o) offers
offered = (
  Within (stub_within row renumbered_middle at_left left_links left_says wide_stub
      (1, omega arith, refl) refl 23 (intra wide_network 15 2)
      (stub_by row renumbered_middle at_left wide_stub 23 (way 5 2) 2 to_left
      (hops_from renumbered_middle at_left (λ e. omega (arith, e)) 2) (omega arith) refl)),
  (
    External (offered_directly row_says renumbered_middle (ipv4 203 0 113 0) at_left left_abroad 24
        counts refl (way 5 2) reaches),
    tt,
  ),
)

candidates_are : AreCandidates row_says renumbered_middle without_narrow
candidates_are =
    candidates_of row_says renumbered_middle offers
    (in_order (λ (o : Offer). o.prefix) offers refl)
    (one_of (λ (o : Offer). Offers row_says renumbered_middle o) offers offered) only

-- ---- the hops

is_stale : NamesItsInterfaces row_says renumbered_middle → ⊥
is_stale names =
    let t : Contains renumbered_middle.addresses (ipv4 10 0 2 1) =
    names (point_to_point at_right (ipv4 10 0 2 1) 5)
    (linked row at_middle middle_links middle_says
    (point_to_point at_right (ipv4 10 0 2 1) 5) (1, omega arith, refl)) (inl refl) in
    elim (of_cons (ipv4 10 0 1 2) (ipv4 10 0 9 1 ∷ []) (ipv4 10 0 2 1) t) [
      | inl e ↦ omega (arith, e)
      | inr later ↦
          elim (of_cons (ipv4 10 0 9 1) [] (ipv4 10 0 2 1) later) [
            | inl e ↦ omega (arith, e)
            | inr none ↦ of_empty (ipv4 10 0 2 1) none
          ]
    ]

pub stale : StaleRouterLsasMayLoop
stale = record {
  stale = is_stale;
  at_left = left_candidates;
  at_middle = candidates_are;
  forth = narrow_longest 20 2 10 1 30 2;
  to_middle = left_hands (narrow 20 2) refl;
  back = wide_longest;
  to_left = record {
    interface = 1;
    away = omega arith;
    is_hop = refl;
    other_end = other_end renumbered_middle 0 (ipv4 10 0 1 2) at_left refl refl;
  };
}
