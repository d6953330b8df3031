-- The worked row: its ways, its offers, the candidates of its three routers, and its hops.
use Rattle.std.proofs.Common.{◌≡◌, ℕ, zero, suc, ◌+◌, ◌<◌, ◌≤◌, ◌↔◌, ◌⊎◌, ◌||◌, inl, inr, Bool}
use Rattle.std.proofs.Common.{true, false, cond, not, IsTrue, nat_eq, eqb-true, eq-eqb, List, []}
use Rattle.std.proofs.Common.{◌∷◌, Some, slice_get, arith, refl, sym, ◌∙◌, ap, subst, ◌≢◌}
use Rattle.std.specs.Int.{bit_at}
use Rattle.std.specs.List.{Contains, list_all}
use Rattle.std.proofs.lemmas.Nat.Bits.{bit_at-suc, bit_at-zero}
use Rattle.words.specs.Interfaces.{has_interface}
use Rattle.words.specs.Prefixes.{IsUnder, Network}
use Rattle.words.specs.declared.key.Key.{Key}
use Rattle.words.specs.declared.route.Route.{Route}
use Rattle.words.specs.declared.route.RouteKind.TheVariants.{Intra}
use Rattle.lsa.specs.declared.body.LsaBody.{LsaBody}
use Rattle.lsa.specs.declared.body.LsaBody.TheVariants as body
use Rattle.lsa.specs.declared.body.RouterLink.{RouterLink}
use Rattle.lsa.specs.declared.body.LinkKind.{LinkKind}
use Rattle.lsa.specs.declared.body.LinkKind.TheVariants.{PointToPoint, Stub, Transit, Virtual}
use Rattle.candidates.specs.Borders.{IsLongest}
use Rattle.routes.proofs.Determined.{bit_of_member}
use Rattle.routes.proofs.Lists.{first_is, later_is}
use Rattle.lsa.specs.declared.body.ExternalLsa.{ExternalLsa}
use Rattle.words.specs.declared.route.ExternalType.TheVariants.{Type1}
use Rattle.routes.specs.Candidates.{AreCandidates, IsBest, IsCandidate, Offers, OffersExternal}
use Rattle.routes.specs.Candidates.{external_offer}
use Rattle.routes.specs.Candidates.Offers.{Between, External, Within}
use Rattle.routes.specs.Links.{IsRouterLsa}
use Rattle.routes.specs.Offers.{intra}
use Rattle.routes.specs.Paths.{Way}
use Rattle.routes.specs.Routes.{IsBefore, IsNoWorse}
use Rattle.routes.specs.Routes.IsBefore.{ByAddress, ByLength}
use Rattle.routes.specs.Routes.IsNoWorse.{ByCost}
use Rattle.routes.specs.Summaries.{IsBoundaryWay, summary_key}
use Rattle.routes.specs.Summaries.IsBoundaryWay.{Inside}
use Rattle.routes.specs.Tables.{RouteWords, IsLetIn}
use Rattle.routes.specs.declared.node.Node.TheVariants.{ANetwork, ARouter}
use Rattle.routes.specs.declared.offer.Offer.{Offer}
use Rattle.routes.specs.declared.root.Root.{Root}
use Rattle.route_laws.specs.Worked.{ipv4, key, mask_24, router_lsa, stub}
use Rattle.route_laws.proofs.Alone.{StubOffer, all_candidates, alone, dearer, no_worse_itself}
use Rattle.route_laws.proofs.Alone.{route_of}
use Rattle.route_laws.proofs.Entries.{all_pass, has_link, is_no_network, is_said, links_of, sayings}
use Rattle.route_laws.proofs.Labels.{AreChecked, either_true, is_point, not_both}
use Rattle.route_laws.proofs.Made.{back, from_other, from_root, no_hop, only_one, only_two, says}
use Rattle.route_laws.proofs.NoSummaries.{is_no_summary, nothing_between}
use Rattle.route_laws.specs.Forwarding.{AreRouters, ForwardsFor, ForwardsTo, HandsOn, IsOtherEnd}
use Rattle.route_laws.specs.Forwarding.{NamesItsInterfaces}
use Rattle.route_laws.specs.Outward.{AreBoundariesPlain, HandsToward}
use Rattle.route_laws.specs.Outward.HandsFurther.{TowardAnother}
use Rattle.route_laws.specs.Outward.IsTheLast.{BeforeTheOriginator}
use Rattle.route_laws.specs.Outward.IsToward.{Boundary}
use Rattle.route_laws.specs.WorkedExternals.{external}
use Rattle.route_laws.specs.WorkedForwarding.{OriginatorsMayGetPacketsBack, VetoesMayLoop}
use Rattle.route_laws.specs.WorkedForwarding.{WorkedRow, abroad, abroad_network, left, left_links}
use Rattle.route_laws.specs.WorkedForwarding.{left_routes, middle, middle_links, middle_routes}
use Rattle.route_laws.specs.WorkedForwarding.{narrow, narrow_network, right, right_links}
use Rattle.route_laws.specs.WorkedForwarding.{right_routes, row, row_routers, row_says, row_table}
use Rattle.route_laws.specs.WorkedForwarding.{wide, wide_network, without_narrow}
use Rattle.route_laws.proofs.Ordered.{in_order}
use Rattle.route_laws.proofs.ExternalOffers.{CountsAsExternal, IsOfferOf, counts_24, each_external}
use Rattle.route_laws.proofs.ExternalOffers.{is_offer_of, offered_directly, only_directly}
use Rattle.route_laws.proofs.OneOffer.{AreStubsKnown, HopsTo, IsWayFrom, Walk, each_stub, hops_at}
use Rattle.route_laws.proofs.OneOffer.{hops_from, stub_by, stub_within, to, way, way_to}
use Rattle.route_laws.proofs.Parts.{in_front, one_of}

abbrev pub at_left : ℕ
at_left = ipv4 1 1 1 1

abbrev pub at_middle : ℕ
at_middle = ipv4 2 2 2 2

abbrev pub at_right : ℕ
at_right = ipv4 3 3 3 3

abbrev pub by_router : ℕ → ℕ → ℕ → ℕ → ℕ
by_router l m r router = cond (nat_eq router at_left) l
    (cond (nat_eq router at_middle) m (cond (nat_eq router at_right) r 0))

pub left_says : IsRouterLsa row_says at_left (router_lsa left_links)
left_says = says row (key 1 at_left at_left) (body.Router (router_lsa left_links)) refl

pub middle_says : IsRouterLsa row_says at_middle (router_lsa middle_links)
middle_says = says row (key 1 at_middle at_middle) (body.Router (router_lsa middle_links)) refl

pub right_says : IsRouterLsa row_says at_right (router_lsa right_links)
right_says = says row (key 1 at_right at_right) (body.Router (router_lsa right_links)) refl

-- ---- the candidates of a root with known ways to both ends

abbrev pub wide_stub : RouterLink
wide_stub = stub (ipv4 192 0 2 0) (ipv4 255 255 254 0) 10

abbrev pub narrow_stub : RouterLink
narrow_stub = stub (ipv4 192 0 2 0) mask_24 10

abbrev pub left_abroad : ExternalLsa
left_abroad = external Type1 10 0 0

abbrev pub right_abroad : ExternalLsa
right_abroad = external Type1 20 0 0

abbrev pub abroad_offer : ExternalLsa → ℕ → Way → Offer
abroad_offer lsa by way = external_offer Type1 abroad_network lsa by way

abbrev Ahead : Route → Route → Type 0
Ahead a b = IsBefore a.prefix b.prefix

abbrev IsSameOrWorse : Offer → Offer → Type 0
IsSameOrWorse best o = (o ≡ best) ⊎ (IsNoWorse best o × (IsNoWorse o best → ⊥))

-- what each AS-external-LSA offers, has the property P, if what the two of the row offer does
pub each_of_two : (root : Root) (P : Offer → Type 0)
    → ((o : Offer) → IsOfferOf row_says root (ipv4 203 0 113 0) at_left left_abroad o → P o)
    → ((o : Offer) → IsOfferOf row_says root (ipv4 203 0 113 0) at_right right_abroad o → P o)
    → (o : Offer) → OffersExternal row_says root o → P o
each_of_two root P of_left of_right o x =
    each_external (λ (k : Key) (lsa : ExternalLsa). (y : Offer)
    → IsOfferOf row_says root k.link_state_id k.advertising_router lsa y → P y) row
    (tt, (tt, (tt, (of_left, (of_right, tt))))) (key 5 x.id x.originator) x.lsa x.its o
    (is_offer_of row_says root o x)

pub left_counts : (root : Root) → at_left ≢ root.router
    → CountsAsExternal row_says root (ipv4 203 0 113 0) at_left left_abroad 24
left_counts root other = counts_24 row root (ipv4 203 0 113 0) at_left left_abroad refl
    (omega arith) other refl

pub reaches_left : (root : Root) (way : Way) → IsWayFrom row root at_left way
    → IsBoundaryWay row_says root at_left way
reaches_left root way there = Inside (record {
  lsa = router_lsa left_links;
  its = left_says;
  has_e = refl;
  reached = there;
})

module _ (root : Root) (wide_way narrow_way : Way)
    (to_left : IsWayFrom row root at_left wide_way)
    (to_right : IsWayFrom row root at_right narrow_way)
  where
    -- ---- external destinations

    abbrev by_left : Offer
    by_left = abroad_offer left_abroad at_left wide_way

    abbrev by_right : Offer
    by_right = abroad_offer right_abroad at_right narrow_way

    reaches_right : IsBoundaryWay row_says root at_right narrow_way
    reaches_right = Inside (record {
      lsa = router_lsa right_links;
      its = right_says;
      has_e = refl;
      reached = to_right;
    })

    right_counts : at_right ≢ root.router
        → CountsAsExternal row_says root (ipv4 203 0 113 0) at_right right_abroad 24
    right_counts other = counts_24 row root (ipv4 203 0 113 0) at_right right_abroad refl
        (omega arith) other refl

    left_offers : (at_left ≡ root.router → ⊥) → OffersExternal row_says root by_left
    left_offers other = offered_directly row_says root (ipv4 203 0 113 0) at_left left_abroad 24
        (left_counts root other) refl wide_way (reaches_left root wide_way to_left)

    right_offers : (at_right ≡ root.router → ⊥) → OffersExternal row_says root by_right
    right_offers other = offered_directly row_says root (ipv4 203 0 113 0) at_right right_abroad 24
        (right_counts other) refl narrow_way reaches_right

    abbrev IsByOne : Offer → Type 0
    IsByOne o = ((at_left ≡ root.router → ⊥) × (by_left ≡ o))
        ⊎ ((at_right ≡ root.router → ⊥) × (by_right ≡ o))

    by_one_of : (o : Offer) → OffersExternal row_says root o → IsByOne o
    by_one_of = each_of_two root IsByOne
        (λ o g. inl (
          g.of_another,
          only_directly row_says root (ipv4 203 0 113 0) at_left left_abroad 24
              (left_counts root g.of_another) refl wide_way (reaches_left root wide_way to_left) o
              g,
        ))
        (λ o g. inr (
          g.of_another,
          only_directly row_says root (ipv4 203 0 113 0) at_right right_abroad 24
              (right_counts g.of_another) refl narrow_way reaches_right o g,
        ))

    -- ---- the candidates

    module _ (wide_hops narrow_hops : ℕ) (of_wide : HopsTo root at_left wide_way.hops wide_hops)
        (of_narrow : HopsTo root at_right narrow_way.hops narrow_hops)
        (best : Offer) (offered : OffersExternal row_says root best)
        (is_for : abroad_network ≡ best.prefix)
        (only : (o : Offer) → IsByOne o → IsSameOrWorse best o) where
      abbrev wide_offer : Offer
      wide_offer = intra wide_network (wide_way.distance + 10) wide_hops

      abbrev narrow_offer : Offer
      narrow_offer = intra narrow_network (narrow_way.distance + 10) narrow_hops

      abbrev IsWithin : Offer → Type 0
      IsWithin o = (wide_offer ≡ o) ⊎ (narrow_offer ≡ o)

      wide_stub_is : StubOffer row_says root at_left wide_stub 23 wide_offer
      wide_stub_is = stub_by row root at_left wide_stub 23 wide_way wide_hops to_left of_wide
          (omega arith) refl

      narrow_stub_is : StubOffer row_says root at_right narrow_stub 24 narrow_offer
      narrow_stub_is = stub_by row root at_right narrow_stub 24 narrow_way narrow_hops to_right
          of_narrow (omega arith) refl

      known : AreStubsKnown row root IsWithin
      known = (
        (23, wide_offer, wide_stub_is, inl refl),
        ((24, narrow_offer, narrow_stub_is, inr refl), tt),
      )

      only_offers : (o : Offer) → Offers row_says root o → IsWithin o ⊎ IsByOne o
      only_offers o (Within x) = inl (each_stub row root IsWithin refl known o x)
      only_offers o (Between x) = absurd (nothing_between 0 row refl root o x)
      only_offers o (External x) = inr (by_one_of o x)

      wide_offered : Offers row_says root wide_offer
      wide_offered = Within (stub_within row root at_left left_links left_says wide_stub
          (1, omega arith, refl) refl 23 wide_offer wide_stub_is)

      narrow_offered : Offers row_says root narrow_offer
      narrow_offered = Within (stub_within row root at_right right_links right_says narrow_stub
          (1, omega arith, refl) refl 24 narrow_offer narrow_stub_is)

      apart : wide_network ≡ narrow_network → ⊥
      apart e = let long : 23 ≡ 24 = ap (λ (n : Network). n.length) e in omega (arith, long)

      wide_apart : wide_network ≡ abroad_network → ⊥
      wide_apart e = let long : 23 ≡ 24 = ap (λ (n : Network). n.length) e in omega (arith, long)

      narrow_apart : narrow_network ≡ abroad_network → ⊥
      narrow_apart e = let at : narrow_network.address ≡ abroad_network.address =
          ap (λ (n : Network). n.address) e in omega (arith, at)

      abroad_is : (o : Offer) → IsByOne o → abroad_network ≡ o.prefix
      abroad_is o (inl k) = ap (λ (x : Offer). x.prefix) k.1
      abroad_is o (inr k) = ap (λ (x : Offer). x.prefix) k.1

      wide_is : IsCandidate row_says root (route_of wide_offer)
      wide_is = alone row_says root wide_offer wide_offered
          (λ other o e. elim (only_offers other o) [
            | inr k ↦ absurd (wide_apart (sym (abroad_is other k ∙ e)))
            | inl within ↦
                elim within [
                  | inl same ↦ inl (sym same)
                  | inr same ↦ absurd (apart (sym (ap (λ (x : Offer). x.prefix) same ∙ e)))
                ]
          ])

      narrow_is : IsCandidate row_says root (route_of narrow_offer)
      narrow_is = alone row_says root narrow_offer narrow_offered
          (λ other o e. elim (only_offers other o) [
            | inr k ↦ absurd (narrow_apart (sym (abroad_is other k ∙ e)))
            | inl within ↦
                elim within [
                  | inl same ↦ absurd (apart (ap (λ (x : Offer). x.prefix) same ∙ e))
                  | inr same ↦ inl (sym same)
                ]
          ])

      outward_is : IsCandidate row_says root (route_of best)
      outward_is = alone row_says root best (External offered)
          (λ other o e. elim (only_offers other o) [
            | inr k ↦ only other k
            | inl within ↦
                elim within [
                  | inl same ↦ absurd (wide_apart
                      (ap (λ (x : Offer). x.prefix) same ∙ e ∙ sym is_for))
                  | inr same ↦ absurd (narrow_apart
                      (ap (λ (x : Offer). x.prefix) same ∙ e ∙ sym is_for))
                ]
          ])

      outward_best : IsBest row_says root best.prefix best
      outward_best = record {
        offered = External offered;
        is_for = refl;
        best = λ other o e.
            let P : Offer → Type 0 = λ x. IsNoWorse best x in
            elim (only_offers other o) [
              | inr k ↦
                  elim (only other k) [
                    | inl same ↦ subst P (sym same) (no_worse_itself best)
                    | inr worse ↦ worse.0
                  ]
              | inl within ↦
                  elim within [
                    | inl same ↦ absurd (wide_apart
                        (ap (λ (x : Offer). x.prefix) same ∙ e ∙ sym is_for))
                    | inr same ↦ absurd (narrow_apart
                        (ap (λ (x : Offer). x.prefix) same ∙ e ∙ sym is_for))
                  ]
            ];
      }

      abbrev all_routes : List Route
      all_routes = route_of wide_offer ∷ route_of narrow_offer ∷ route_of best ∷ []

      candidates_are : AreCandidates row_says root all_routes
      candidates_are =
          let Narrow : Network → Type 0 = λ n. IsBefore narrow_network n in
          let Wide : Network → Type 0 = λ n. IsBefore wide_network n in
          all_candidates row_says root all_routes
          (one_of (λ (r : Route). IsCandidate row_says root r) all_routes
          (wide_is, (narrow_is, (outward_is, tt))))
          (λ o given. elim (only_offers o given) [
            | inr k ↦ (route_of best, (2, omega arith, refl), sym is_for ∙ abroad_is o k)
            | inl within ↦
                elim within [
                  | inl e ↦ (
                    route_of wide_offer,
                    (0, omega arith, refl),
                    ap (λ (x : Offer). x.prefix) e,
                  )
                  | inr e ↦ (
                    route_of narrow_offer,
                    (1, omega arith, refl),
                    ap (λ (x : Offer). x.prefix) e,
                  )
                ]
          ])
          (in_front Ahead (route_of wide_offer) (route_of narrow_offer ∷ route_of best ∷ [])
          (ByLength refl (omega arith), (subst Wide is_for (ByAddress (omega arith)), tt))
          (in_front Ahead (route_of narrow_offer) (route_of best ∷ [])
          (subst Narrow is_for (ByAddress (omega arith)), tt)
          (in_order (λ (r : Route). r.prefix) (route_of best ∷ []) refl)))

-- ---- the ways

left_checked : AreChecked left (sayings row) (by_router 0 5 10) (by_router 0 2 2)
left_checked = record { start = refl; routers = refl; links = refl }

middle_checked : AreChecked middle (sayings row) (by_router 5 0 5) (by_router 2 0 4)
middle_checked = record { start = refl; routers = refl; links = refl }

right_checked : AreChecked right (sayings row) (by_router 10 5 0) (by_router 2 2 0)
right_checked = record { start = refl; routers = refl; links = refl }

left_to_right : Walk row left (to at_middle 1 ∷ to at_right 0 ∷ []) at_right
left_to_right = (
  (
    from_root row left left_links left_says at_middle (ipv4 10 0 1 1) 5 0 (0, omega arith, refl)
        (omega arith) refl,
    back row at_middle middle_links middle_says at_left (ipv4 10 0 1 2) 5
        (0, omega arith, refl),
  ),
  (
    (
      from_other row left at_middle middle_links middle_says (λ e. omega (arith, e)) at_right
          (ipv4 10 0 2 1) 5 (1, omega arith, refl) (omega arith),
      back row at_right right_links right_says at_middle (ipv4 10 0 2 2) 5
          (0, omega arith, refl),
    ),
    refl,
  ),
)

right_to_left : Walk row right (to at_middle 1 ∷ to at_left 0 ∷ []) at_left
right_to_left = (
  (
    from_root row right right_links right_says at_middle (ipv4 10 0 2 2) 5 0 (0, omega arith, refl)
        (omega arith) refl,
    back row at_middle middle_links middle_says at_right (ipv4 10 0 2 1) 5
        (1, omega arith, refl),
  ),
  (
    (
      from_other row right at_middle middle_links middle_says (λ e. omega (arith, e)) at_left
          (ipv4 10 0 1 2) 5 (0, omega arith, refl) (omega arith),
      back row at_left left_links left_says at_middle (ipv4 10 0 1 1) 5 (0, omega arith, refl),
    ),
    refl,
  ),
)

middle_to_left : Walk row middle (to at_left 1 ∷ []) at_left
middle_to_left = (
  (
    from_root row middle middle_links middle_says at_left (ipv4 10 0 1 2) 5 0
        (0, omega arith, refl) (omega arith) refl,
    back row at_left left_links left_says at_middle (ipv4 10 0 1 1) 5 (0, omega arith, refl),
  ),
  refl,
)

middle_to_right : Walk row middle (to at_right 2 ∷ []) at_right
middle_to_right = (
  (
    from_root row middle middle_links middle_says at_right (ipv4 10 0 2 1) 5 1
        (1, omega arith, refl) (omega arith) refl,
    back row at_right right_links right_says at_middle (ipv4 10 0 2 2) 5
        (0, omega arith, refl),
  ),
  refl,
)

left_left : IsWayFrom row left at_left (way 0 0)
left_left = way_to row left (by_router 0 5 10) (by_router 0 2 2) left_checked at_left [] refl refl
    (λ i t. absurd (no_hop i t))

left_right : IsWayFrom row left at_right (way 10 2)
left_right = way_to row left (by_router 0 5 10) (by_router 0 2 2) left_checked at_right
    (to at_middle 1 ∷ to at_right 0 ∷ []) left_to_right refl
    (λ i t. (to at_middle 1, to at_right 0 ∷ [], left_to_right, refl, sym (only_one i t)))

middle_left : IsWayFrom row middle at_left (way 5 2)
middle_left = way_to row middle (by_router 5 0 5) (by_router 2 0 4) middle_checked at_left
    (to at_left 1 ∷ []) middle_to_left refl
    (λ i t. (to at_left 1, [], middle_to_left, refl, sym (only_one i t)))

middle_right : IsWayFrom row middle at_right (way 5 4)
middle_right = way_to row middle (by_router 5 0 5) (by_router 2 0 4) middle_checked at_right
    (to at_right 2 ∷ []) middle_to_right refl
    (λ i t. (to at_right 2, [], middle_to_right, refl, sym (only_two i t)))

right_left : IsWayFrom row right at_left (way 10 2)
right_left = way_to row right (by_router 10 5 0) (by_router 2 2 0) right_checked at_left
    (to at_middle 1 ∷ to at_left 0 ∷ []) right_to_left refl
    (λ i t. (to at_middle 1, to at_left 0 ∷ [], right_to_left, refl, sym (only_one i t)))

right_right : IsWayFrom row right at_right (way 0 0)
right_right = way_to row right (by_router 10 5 0) (by_router 2 2 0) right_checked at_right []
    refl refl (λ i t. absurd (no_hop i t))

-- the left router ignores its own AS-external-LSA, the middle one takes the nearer of two, and the
-- right one ignores its own

left_external : OffersExternal row_says left (abroad_offer right_abroad at_right (way 10 2))
left_external = right_offers left (way 0 0) (way 10 2) left_left left_right (λ e. omega (arith, e))

left_only : (o : Offer) → IsByOne left (way 0 0) (way 10 2) left_left left_right o
    → IsSameOrWorse (abroad_offer right_abroad at_right (way 10 2)) o
left_only o (inl k) = absurd (k.0 refl)
left_only o (inr k) = inl (sym k.1)

middle_external : OffersExternal row_says middle (abroad_offer left_abroad at_left (way 5 2))
middle_external = left_offers middle (way 5 2) (way 5 4) middle_left middle_right
    (λ e. omega (arith, e))

middle_only : (o : Offer) → IsByOne middle (way 5 2) (way 5 4) middle_left middle_right o
    → IsSameOrWorse (abroad_offer left_abroad at_left (way 5 2)) o
middle_only o (inl k) = inl (sym k.1)
middle_only o (inr k) =
    let best : Offer = abroad_offer left_abroad at_left (way 5 2) in
    let other : Offer = abroad_offer right_abroad at_right (way 5 4) in
    let P : Offer → Type 0 = λ x. IsNoWorse best x × (IsNoWorse x best → ⊥) in
    let worse : IsNoWorse best other = ByCost refl (omega arith) in
    inr (subst P k.1 (worse, λ n. dearer best other refl (omega arith) n))

right_external : OffersExternal row_says right (abroad_offer left_abroad at_left (way 10 2))
right_external = left_offers right (way 10 2) (way 0 0) right_left right_right
    (λ e. omega (arith, e))

right_only : (o : Offer) → IsByOne right (way 10 2) (way 0 0) right_left right_right o
    → IsSameOrWorse (abroad_offer left_abroad at_left (way 10 2)) o
right_only o (inl k) = inl (sym k.1)
right_only o (inr k) = absurd (k.0 refl)

pub left_candidates : AreCandidates row_says left left_routes
left_candidates = candidates_are left (way 0 0) (way 10 2) left_left left_right 1 2
    (hops_at left at_left refl 0) (hops_from left at_right (λ e. omega (arith, e)) 2)
    (abroad_offer right_abroad at_right (way 10 2)) left_external refl left_only

middle_candidates : AreCandidates row_says middle middle_routes
middle_candidates =
    candidates_are middle (way 5 2) (way 5 4) middle_left middle_right 2 4
    (hops_from middle at_left (λ e. omega (arith, e)) 2)
    (hops_from middle at_right (λ e. omega (arith, e)) 4)
    (abroad_offer left_abroad at_left (way 5 2)) middle_external refl middle_only

right_candidates : AreCandidates row_says right right_routes
right_candidates = candidates_are right (way 10 2) (way 0 0) right_left right_right 2 1
    (hops_from right at_left (λ e. omega (arith, e)) 2) (hops_at right at_right refl 0)
    (abroad_offer left_abroad at_left (way 10 2)) right_external refl right_only

-- ---- the routers name their interfaces

abbrev pub has : List ℕ → ℕ → Bool
has [] address = false
has (a ∷ addresses) address = nat_eq a address || has addresses address

has_is : (addresses : List ℕ) (address : ℕ) → has addresses address ≡ true
    → Contains addresses address
has_is [] address e = absurd (cc)
has_is (a ∷ addresses) address e =
    elim (either_true (nat_eq a address) (has addresses address) e) [
      | inl here ↦ (let P : ℕ → Type 0 = λ x. Contains (a ∷ addresses) x in
          subst P (eqb-true a address here) (first_is a addresses))
      | inr later ↦ later_is a addresses address (has_is addresses address later)
    ]

abbrev leads_on : LinkKind → Bool
leads_on PointToPoint = true
leads_on Transit = true
leads_on Stub = false
leads_on Virtual = false

abbrev is_named : Root → ℕ × RouterLink → Bool
is_named root x = not (nat_eq x.0 root.router) ||
    (not (leads_on x.1.kind) || has root.addresses x.1.link_data)

does_lead : (k : LinkKind) → (k ≡ PointToPoint) ⊎ (k ≡ Transit) → leads_on k ≡ true
does_lead k (inl e) = ap leads_on e
does_lead k (inr e) = ap leads_on e

names : (root : Root) → list_all (is_named root) (links_of (sayings row)) ≡ true
    → NamesItsInterfaces row_says root
names root all link its on =
    let e : is_named root (root.router, link) ≡ true =
    all_pass (is_named root) (links_of (sayings row)) all (root.router, link)
    (has_link 0 row root.router link its) in
    elim (either_true (not (nat_eq root.router root.router))
    (not (leads_on link.kind) || has root.addresses link.link_data) e) [
      | inl other ↦ absurd (not_both (nat_eq root.router root.router) other
          (eq-eqb root.router root.router refl))
      | inr f ↦
          elim (either_true (not (leads_on link.kind)) (has root.addresses link.link_data) f) [
            | inl not_on ↦ absurd (not_both (leads_on link.kind) not_on (does_lead link.kind on))
            | inr named ↦ has_is root.addresses link.link_data named
          ]
    ]

-- ---- the other ends

abbrev is_toward : Root → ℕ → ℕ → ℕ × RouterLink → Bool
is_toward root address next x = not (nat_eq x.0 root.router) ||
    (not (is_point x.1.kind) || (not (nat_eq x.1.link_data address) || nat_eq x.1.link_id next))

pub other_end : (root : Root) (n address next : ℕ) → slice_get root.addresses n ≡ Some address
    → list_all (is_toward root address next) (links_of (sayings row)) ≡ true
    → IsOtherEnd row_says root (n + 1) next
other_end root n address next at all (ANetwork id by) price l =
    absurd (let e : false ≡ true = all_pass is_no_network (sayings row) refl (
      record {
        ls_type = 2;
        link_state_id = id;
        advertising_router = by;
      },
      body.Network l.1.lsa,
    )
    (is_said 0 row _ (body.Network l.1.lsa) l.1.its) in cc)
other_end root n address next at all (ARouter b) price l =
    let link : RouterLink = l.0.link in
    let by = l.0.by_interface refl in
    let number : by.0 ≡ n = omega (arith, by.1) in
    let Q : ℕ → Type 0 = λ k. slice_get root.addresses k ≡ Some link.link_data in
    let same : link.link_data ≡ address =
    (let both : Some link.link_data ≡ Some address = sym (subst Q number by.2) ∙ at in cc) in
    let e : is_toward root address next (root.router, link) ≡ true =
    all_pass (is_toward root address next) (links_of (sayings row)) all (root.router, link)
    (has_link 0 row root.router link l.0.its) in
    elim (either_true (not (nat_eq root.router root.router))
    (not (is_point link.kind) || (not (nat_eq link.link_data address) || nat_eq link.link_id
    next)) e) [
      | inl other ↦ absurd (not_both (nat_eq root.router root.router) other
          (eq-eqb root.router root.router refl))
      | inr f ↦
          elim (either_true (not (is_point link.kind))
          (not (nat_eq link.link_data address) || nat_eq link.link_id next) f) [
            | inl no_point ↦ absurd (not_both (is_point link.kind) no_point
                (ap is_point l.0.is_kind))
            | inr g ↦
                elim (either_true (not (nat_eq link.link_data address)) (nat_eq link.link_id next)
                g) [
                  | inl elsewhere ↦ absurd (not_both (nat_eq link.link_data address) elsewhere
                      (eq-eqb link.link_data address same))
                  | inr there ↦ ap (λ k. ARouter k)
                      (sym l.0.is_id ∙ eqb-true link.link_id next there)
                ]
          ]
    ]

hands : (root : Root) (n address next : ℕ) → slice_get root.addresses n ≡ Some address
    → list_all (is_toward root address next) (links_of (sayings row)) ≡ true → (route : Route)
    → IsTrue (has_interface route.hops (n + 1)) → HandsOn row_says root route next
hands root n address next at all route t = record {
  interface = n + 1;
  away = omega arith;
  is_hop = t;
  other_end = other_end root n address next at all;
}

pub left_hands : (route : Route) → IsTrue (has_interface route.hops 1)
    → HandsOn row_says left route at_middle
left_hands = hands left 0 (ipv4 10 0 1 1) at_middle refl refl

right_hands : (route : Route) → IsTrue (has_interface route.hops 1)
    → HandsOn row_says right route at_middle
right_hands = hands right 0 (ipv4 10 0 2 2) at_middle refl refl

middle_hands_left : (route : Route) → IsTrue (has_interface route.hops 1)
    → HandsOn row_says middle route at_left
middle_hands_left = hands middle 0 (ipv4 10 0 1 2) at_left refl refl

middle_hands_right : (route : Route) → IsTrue (has_interface route.hops 2)
    → HandsOn row_says middle route at_right
middle_hands_right = hands middle 1 (ipv4 10 0 2 1) at_right refl refl

-- ---- all routers

abbrev Joined : Root → Route → Type 0
Joined root route = (interface : ℕ) → 0 < interface → IsTrue (has_interface route.hops interface)
    → (next : Root) × Contains row_routers next × IsOtherEnd row_says root interface next.router

itself_alone : (i : ℕ) → 0 < i → IsTrue (has_interface 1 i) → ⊥
itself_alone zero away t = omega (arith, away)
itself_alone (suc i) away t = let e : bit_at 1 (suc i) ≡ 0 = bit_at-suc 1 i ∙ bit_at-zero i in
    omega (arith, e, bit_of_member 1 (suc i) t)

by_one : (root next : Root) (route : Route) → Contains row_routers next
    → IsOtherEnd row_says root 1 next.router → route.hops ≡ 2 → Joined root route
by_one root next route among end e i away t =
    let Has : ℕ → Type 0 = λ hops. IsTrue (has_interface hops i) in
    let P : ℕ → Type 0 = λ k. IsOtherEnd row_says root k next.router in
    (next, among, subst P (sym (only_one i (subst Has e t))) end)

by_two : (root next : Root) (route : Route) → Contains row_routers next
    → IsOtherEnd row_says root 2 next.router → route.hops ≡ 4 → Joined root route
by_two root next route among end e i away t =
    let Has : ℕ → Type 0 = λ hops. IsTrue (has_interface hops i) in
    let P : ℕ → Type 0 = λ k. IsOtherEnd row_says root k next.router in
    (next, among, subst P (sym (only_two i (subst Has e t))) end)

by_none : (root : Root) (route : Route) → route.hops ≡ 1 → Joined root route
by_none root route e i away t = let Has : ℕ → Type 0 = λ hops. IsTrue (has_interface hops i) in
    absurd (itself_alone i away (subst Has e t))

routers : AreRouters row_says row_routers row_table
routers = record {
  own = one_of (λ (root : Root). NamesItsInterfaces row_says root) row_routers
      (names left refl, (names middle refl, (names right refl, tt)));
  is_table = one_of (λ (root : Root). AreCandidates row_says root (row_table root)) row_routers
      (left_candidates, (middle_candidates, (right_candidates, tt)));
  joined = λ root among route its. joined root among route its;
}
  where
    left_end : IsOtherEnd row_says left 1 at_middle
    left_end = other_end left 0 (ipv4 10 0 1 1) at_middle refl refl

    right_end : IsOtherEnd row_says right 1 at_middle
    right_end = other_end right 0 (ipv4 10 0 2 2) at_middle refl refl

    middle_end : IsOtherEnd row_says middle 1 at_left
    middle_end = other_end middle 0 (ipv4 10 0 1 2) at_left refl refl

    at_l : (r : Route) → Contains left_routes r → Joined left r
    at_l = one_of (λ (r : Route). Joined left r) left_routes (
      by_none left (wide 10 1) refl,
      (
        by_one left middle (narrow 20 2) (1, omega arith, refl) left_end refl,
        (by_one left middle (abroad 30 2) (1, omega arith, refl) left_end refl, tt),
      ),
    )

    at_m : (r : Route) → Contains middle_routes r → Joined middle r
    at_m = one_of (λ (r : Route). Joined middle r) middle_routes (
      by_one middle left (wide 15 2) (0, omega arith, refl) middle_end refl,
      (
        by_two middle right (narrow 15 4) (2, omega arith, refl)
            (other_end middle 1 (ipv4 10 0 2 1) at_right refl refl) refl,
        (by_one middle left (abroad 15 2) (0, omega arith, refl) middle_end refl, tt),
      ),
    )

    at_r : (r : Route) → Contains right_routes r → Joined right r
    at_r = one_of (λ (r : Route). Joined right r) right_routes (
      by_one right middle (wide 20 2) (1, omega arith, refl) right_end refl,
      (
        by_none right (narrow 10 1) refl,
        (by_one right middle (abroad 20 2) (1, omega arith, refl) right_end refl, tt),
      ),
    )

    joined : (root : Root) → Contains row_routers root → (route : Route)
        → Contains (row_table root) route → Joined root route
    joined = one_of (λ (root : Root). (route : Route) → Contains (row_table root) route
        → Joined root route) row_routers (at_l, (at_m, (at_r, tt)))

-- ---- the packets

for : (root : Root) (routes : List Route) → AreCandidates row_says root routes
    → NamesItsInterfaces row_says root → (route : Route) → Contains routes route
    → ForwardsFor row_says route.prefix (record { root = root; route = route })
for root routes are own route among = record {
  own = own;
  candidate = (are.each route).0 among;
  is_for = refl;
}

abbrev pub address : ℕ
address = ipv4 192 0 2 5

pub narrow_longest : (cost hops other more far by : ℕ)
    → IsLongest (wide other more ∷ narrow cost hops ∷ abroad far by ∷ []) address (narrow cost hops)
narrow_longest cost hops other more far by = record {
  among = (1, omega arith, refl);
  under = refl;
  longest = λ r t under. one_of (λ (x : Route). x.prefix.length ≤ 24)
      (wide other more ∷ narrow cost hops ∷ abroad far by ∷ []) (
        (let low : 23 ≤ 24 = omega arith in low),
        (
          (let low : 24 ≤ 24 = omega arith in low),
          ((let low : 24 ≤ 24 = omega arith in low), tt),
        ),
      ) r t;
}

abbrev wide_let_in : Network → Bool
wide_let_in network = nat_eq network.length 23

to_address : (root : Root) (routes : List Route) → AreCandidates row_says root routes
    → NamesItsInterfaces row_says root → (route : Route) → IsLongest routes address route
    → route.kind ≡ Intra
    → ForwardsTo row_says (λ network. true) address (record { root = root; route = route })
to_address root routes are own route longest within = record {
  own = own;
  candidates = routes;
  are_candidates = are;
  table = routes;
  is_part = λ r. ((λ t. (t, refl)), (λ k. k.0));
  longest = longest;
  within = within;
}

abbrev IsIn : List Route → Route → Type 0
IsIn routes r = IsTrue (wide_let_in r.prefix) → Contains routes r

never : (P : Type 0) → IsTrue false → P
never P t = absurd (let no : false ≡ true = t in cc)

wide_alone : (cost hops other more far by : ℕ) (r : Route)
    → Contains (wide cost hops ∷ []) r ↔
    (Contains (wide cost hops ∷ narrow other more ∷ abroad far by ∷ []) r
    × IsTrue (wide_let_in r.prefix))
wide_alone cost hops other more far by r = (
  one_of (λ (x : Route). Contains (wide cost hops ∷ narrow other more ∷ abroad far by ∷ []) x
      × IsTrue (wide_let_in x.prefix)) (wide cost hops ∷ []) (((0, omega arith, refl), refl), tt) r,
  (λ k. one_of (λ (x : Route). IsIn (wide cost hops ∷ []) x)
      (wide cost hops ∷ narrow other more ∷ abroad far by ∷ []) (
        (λ _. first_is (wide cost hops) []),
        (
          (λ t. never (Contains (wide cost hops ∷ []) (narrow other more)) t),
          ((λ t. never (Contains (wide cost hops ∷ []) (abroad far by)) t), tt),
        ),
      ) r k.0 k.1),
)

to_wide : (root : Root) (cost hops other more far by : ℕ)
    → AreCandidates row_says root (wide cost hops ∷ narrow other more ∷ abroad far by ∷ [])
    → NamesItsInterfaces row_says root
    → ForwardsTo row_says wide_let_in address (record { root = root; route = wide cost hops })
to_wide root cost hops other more far by are own = record {
  own = own;
  candidates = wide cost hops ∷ narrow other more ∷ abroad far by ∷ [];
  are_candidates = are;
  table = wide cost hops ∷ [];
  is_part = wide_alone cost hops other more far by;
  longest = record {
    among = (0, omega arith, refl);
    under = refl;
    longest = λ r t under. one_of (λ (x : Route). x.prefix.length ≤ 23) (wide cost hops ∷ [])
        ((let low : 23 ≤ 23 = omega arith in low), tt) r t;
  };
  within = refl;
}

-- ---- toward an originator

left_toward : HandsToward row_says left (abroad 30 2) at_middle at_right
unfolding left_external right_offers offered_directly
left_toward = record {
  offer = abroad_offer right_abroad at_right (way 10 2);
  is_best = outward_best left (way 0 0) (way 10 2) left_left left_right 1 2
      (hops_at left at_left refl 0) (hops_from left at_right (λ e. omega (arith, e)) 2)
      (abroad_offer right_abroad at_right (way 10 2)) left_external refl left_only;
  hops = 2;
  toward = Boundary left_external refl refl (way 10 2) (record {
    lsa = router_lsa right_links;
    its = right_says;
    has_e = refl;
    reached = left_right;
  }) refl;
  interface = 1;
  is_hop = refl;
  other_end = other_end left 0 (ipv4 10 0 1 1) at_middle refl refl;
}

middle_toward : HandsToward row_says middle (abroad 15 2) at_left at_left
unfolding middle_external left_offers offered_directly
middle_toward = record {
  offer = abroad_offer left_abroad at_left (way 5 2);
  is_best = outward_best middle (way 5 2) (way 5 4) middle_left middle_right 2 4
      (hops_from middle at_left (λ e. omega (arith, e)) 2)
      (hops_from middle at_right (λ e. omega (arith, e)) 4)
      (abroad_offer left_abroad at_left (way 5 2)) middle_external refl middle_only;
  hops = 2;
  toward = Boundary middle_external refl refl (way 5 2) (record {
    lsa = router_lsa left_links;
    its = left_says;
    has_e = refl;
    reached = middle_left;
  }) refl;
  interface = 1;
  is_hop = refl;
  other_end = other_end middle 0 (ipv4 10 0 1 2) at_left refl refl;
}

right_toward : HandsToward row_says right (abroad 20 2) at_middle at_left
unfolding right_external left_offers offered_directly
right_toward = record {
  offer = abroad_offer left_abroad at_left (way 10 2);
  is_best = outward_best right (way 10 2) (way 0 0) right_left right_right 2 1
      (hops_from right at_left (λ e. omega (arith, e)) 2) (hops_at right at_right refl 0)
      (abroad_offer left_abroad at_left (way 10 2)) right_external refl right_only;
  hops = 2;
  toward = Boundary right_external refl refl (way 10 2) (record {
    lsa = router_lsa left_links;
    its = left_says;
    has_e = refl;
    reached = right_left;
  }) refl;
  interface = 1;
  is_hop = refl;
  other_end = other_end right 0 (ipv4 10 0 2 2) at_middle refl refl;
}

abbrev goes_direct : Key × LsaBody → Bool
goes_direct (k, body.Router r) = true
goes_direct (k, body.Network n) = true
goes_direct (k, body.NetworkSummary s) = true
goes_direct (k, body.RouterSummary s) = true
goes_direct (k, body.External e) = nat_eq e.forwarding 0

boundaries : AreBoundariesPlain row_says
boundaries = record {
  direct = λ id originator lsa its. eqb-true lsa.forwarding 0
      (all_pass goes_direct (sayings row) refl (key 5 id originator, body.External lsa)
      (is_said 0 row (key 5 id originator) (body.External lsa) its));
  elsewhere = λ router originator lsa its.
      let no : false ≡ true = all_pass is_no_summary (sayings row) refl
      (summary_key 4 router originator, body.RouterSummary lsa)
      (is_said 0 row (summary_key 4 router originator) (body.RouterSummary lsa) its) in
      absurd (cc);
}

pub worked : WorkedRow
worked = record {
  at_left = left_candidates;
  at_middle = middle_candidates;
  at_right = right_candidates;
  routers = routers;
  boundaries = boundaries;
  rightward = (
    for left left_routes left_candidates (names left refl) (narrow 20 2) (1, omega arith, refl),
    left_hands (narrow 20 2) refl,
    (
      for middle middle_routes middle_candidates (names middle refl) (narrow 15 4)
          (1, omega arith, refl),
      middle_hands_right (narrow 15 4) refl,
      for right right_routes right_candidates (names right refl) (narrow 10 1)
          (1, omega arith, refl),
    ),
  );
  leftward = (
    for right right_routes right_candidates (names right refl) (wide 20 2) (0, omega arith, refl),
    right_hands (wide 20 2) refl,
    (
      for middle middle_routes middle_candidates (names middle refl) (wide 15 2)
          (0, omega arith, refl),
      middle_hands_left (wide 15 2) refl,
      for left left_routes left_candidates (names left refl) (wide 10 1) (0, omega arith, refl),
    ),
  );
  by_address = (
    to_address left left_routes left_candidates (names left refl) (narrow 20 2)
        (narrow_longest 20 2 10 1 30 2) refl,
    left_hands (narrow 20 2) refl,
    (
      to_address middle middle_routes middle_candidates (names middle refl) (narrow 15 4)
          (narrow_longest 15 4 15 2 15 2) refl,
      middle_hands_right (narrow 15 4) refl,
      to_address right right_routes right_candidates (names right refl) (narrow 10 1)
          (narrow_longest 10 1 20 2 20 2) refl,
    ),
  );
  by_wide = (
    to_wide right 20 2 10 1 20 2 right_candidates (names right refl),
    right_hands (wide 20 2) refl,
    (
      to_wide middle 15 2 15 4 15 2 middle_candidates (names middle refl),
      middle_hands_left (wide 15 2) refl,
      to_wide left 10 1 20 2 30 2 left_candidates (names left refl),
    ),
  );
  outward = (
    for right right_routes right_candidates (names right refl) (abroad 20 2) (2, omega arith, refl),
    TowardAnother at_left right_toward (λ e. omega (arith, e)),
    for middle middle_routes middle_candidates (names middle refl) (abroad 15 2)
        (2, omega arith, refl),
  );
  to_originator = BeforeTheOriginator at_left middle_toward;
}

pub back_to_originator : OriginatorsMayGetPacketsBack
back_to_originator = record {
  toward_right = left_toward;
  passed_on = (
    for left left_routes left_candidates (names left refl) (abroad 30 2) (2, omega arith, refl),
    TowardAnother at_right left_toward (λ e. omega (arith, e)),
    for middle middle_routes middle_candidates (names middle refl) (abroad 15 2)
        (2, omega arith, refl),
  );
  toward_left = middle_toward;
}

-- ---- the veto

abbrev left_answers : RouteWords
left_answers = (wide 10 1, 0) ∷ (narrow 20 2, 0) ∷ (abroad 30 2, 0) ∷ []

abbrev middle_answers : RouteWords
middle_answers = (wide 15 2, 0) ∷ (narrow 15 4, 1) ∷ (abroad 15 2, 0) ∷ []

left_let_in : (r : Route) → Contains left_routes r → IsLetIn left_answers r
left_let_in = one_of (λ (r : Route). IsLetIn left_answers r) left_routes
    ((0, omega arith, refl), ((1, omega arith, refl), ((2, omega arith, refl), tt)))

middle_let_in : (r : Route) → IsLetIn middle_answers r → Contains without_narrow r
middle_let_in r t =
    one_of (λ (x : Route × ℕ). x.1 ≡ 0 → Contains without_narrow x.0) middle_answers (
      (λ _. (0, omega arith, refl)),
      (
        (λ e. absurd (let words : 1 ≡ 0 = e in omega (arith, words))),
        ((λ _. (1, omega arith, refl)), tt),
      ),
    ) (r, 0) t refl

pub wide_longest : IsLongest without_narrow address (wide 15 2)
wide_longest = record {
  among = (0, omega arith, refl);
  under = refl;
  longest = one_of (λ (r : Route). IsUnder address r.prefix → r.prefix.length ≤ 23) without_narrow (
    (λ under. (let low : 23 ≤ 23 = omega arith in low)),
    (
      (λ under. absurd (let at : ipv4 192 0 2 0 ≡ ipv4 203 0 113 0 = under in omega (arith, at))),
      tt,
    ),
  );
}

pub vetoes : VetoesMayLoop
vetoes = record {
  left_table = record {
    each = λ r. (
      (λ t. ((left_candidates.each r).0 t, left_let_in r t)),
      (λ k. (left_candidates.each r).1 k.0),
    );
    ascending = left_candidates.ascending;
  };
  middle_table = record {
    each = λ r. (
      one_of (λ (x : Route). IsCandidate row_says middle x × IsLetIn middle_answers x)
          without_narrow (
            ((middle_candidates.each (wide 15 2)).0 (0, omega arith, refl), (0, omega arith, refl)),
            (
              (
                (middle_candidates.each (abroad 15 2)).0 (2, omega arith, refl),
                (2, omega arith, refl),
              ),
              tt,
            ),
          ) r,
      (λ k. middle_let_in r k.1),
    );
    ascending = in_order (λ (r : Route). r.prefix) without_narrow refl;
  };
  forth = narrow_longest 20 2 10 1 30 2;
  to_middle = left_hands (narrow 20 2) refl;
  back = wide_longest;
  to_left = middle_hands_left (wide 15 2) refl;
}
