-- The worked square: its ways, its offer, its candidate and its tables.
use Rattle.std.proofs.Common.{◌≡◌, ℕ, ◌||◌, inl, inr, cond, nat_eq, [], ◌∷◌, arith, refl, sym, ap}
use Rattle.std.specs.List.{Contains}
use Rattle.words.specs.declared.route.Route.{Route}
use Rattle.lsa.specs.declared.body.LsaBody.TheVariants as body
use Rattle.lsa.specs.declared.body.RouterLink.{RouterLink}
use Rattle.routes.specs.Candidates.{AreCandidates, Offers}
use Rattle.routes.specs.Candidates.Offers.{Within}
use Rattle.routes.specs.Links.{IsRouterLsa}
use Rattle.routes.specs.Offers.{intra}
use Rattle.routes.specs.declared.offer.Offer.{Offer}
use Rattle.routes.specs.Tables.{IsLetIn}
use Rattle.route_laws.specs.Worked.{WorkedSquare, across, database, ipv4, key, mask_24, network_24}
use Rattle.route_laws.specs.Worked.{router_lsa, square, square_corner, square_far, square_left}
use Rattle.route_laws.specs.Worked.{square_right, square_root, stub}
use Rattle.route_laws.proofs.Alone.{StubOffer}
use Rattle.route_laws.proofs.Entries.{sayings}
use Rattle.route_laws.proofs.Labels.{AreChecked}
use Rattle.routes.proofs.Lists.{first_is, of_cons, of_empty}
use Rattle.route_laws.proofs.Made.{back, from_other, from_root, one_or_two, says}
use Rattle.routes.specs.Contents.{contents_at}
use Rattle.route_laws.proofs.Ordered.{in_order}
use Rattle.route_laws.proofs.OneOffer.{IsWayFrom, Walk, candidates_of, hops_from, only_within}
use Rattle.route_laws.proofs.OneOffer.{stub_by, stub_within, to, way, way_to}
use Rattle.route_laws.proofs.Parts.{one_of}

abbrev corner : ℕ
corner = ipv4 1 1 1 1

abbrev left : ℕ
left = ipv4 2 2 2 2

abbrev right : ℕ
right = ipv4 3 3 3 3

abbrev far : ℕ
far = ipv4 4 4 4 4

abbrev distance : ℕ → ℕ
distance r = cond (nat_eq r left || nat_eq r right) 5 (cond (nat_eq r far) 10 0)

abbrev hops : ℕ → ℕ
hops r = cond (nat_eq r left) 2 (cond (nat_eq r right) 4 (cond (nat_eq r far) 6 0))

labels : AreChecked square_root (sayings square) distance hops
labels = record { start = refl; routers = refl; links = refl }

corner_says : IsRouterLsa (contents_at 0 (database square)) corner (router_lsa square_corner)
corner_says = says square (key 1 corner corner) (body.Router (router_lsa square_corner)) refl

left_says : IsRouterLsa (contents_at 0 (database square)) left (router_lsa square_left)
left_says = says square (key 1 left left) (body.Router (router_lsa square_left)) refl

right_says : IsRouterLsa (contents_at 0 (database square)) right (router_lsa square_right)
right_says = says square (key 1 right right) (body.Router (router_lsa square_right)) refl

far_says : IsRouterLsa (contents_at 0 (database square)) far (router_lsa square_far)
far_says = says square (key 1 far far) (body.Router (router_lsa square_far)) refl

by_left : Walk square square_root (to left 1 ∷ to far 0 ∷ []) far
by_left = (
  (
    from_root square square_root square_corner corner_says left (ipv4 10 0 1 1) 5 0
        (0, omega arith, refl) (omega arith) refl,
    back square left square_left left_says corner (ipv4 10 0 1 2) 5 (0, omega arith, refl),
  ),
  (
    (
      from_other square square_root left square_left left_says (λ e. omega (arith, e)) far
          (ipv4 10 0 3 1) 5 (1, omega arith, refl) (omega arith),
      back square far square_far far_says left (ipv4 10 0 3 2) 5 (0, omega arith, refl),
    ),
    refl,
  ),
)

by_right : Walk square square_root (to right 2 ∷ to far 0 ∷ []) far
by_right = (
  (
    from_root square square_root square_corner corner_says right (ipv4 10 0 2 1) 5 1
        (1, omega arith, refl) (omega arith) refl,
    back square right square_right right_says corner (ipv4 10 0 2 2) 5
        (0, omega arith, refl),
  ),
  (
    (
      from_other square square_root right square_right right_says (λ e. omega (arith, e)) far
          (ipv4 10 0 4 1) 5 (1, omega arith, refl) (omega arith),
      back square far square_far far_says right (ipv4 10 0 4 2) 5 (1, omega arith, refl),
    ),
    refl,
  ),
)

way_far : IsWayFrom square square_root far (way 10 6)
way_far = way_to square square_root distance hops labels far (to left 1 ∷ to far 0 ∷ []) by_left
    refl
    (λ i t. elim (one_or_two i t) [
      | inl e ↦ (to left 1, to far 0 ∷ [], by_left, refl, sym e)
      | inr e ↦ (to right 2, to far 0 ∷ [], by_right, refl, sym e)
    ])

abbrev offer : Offer
offer = intra (network_24 192 0 2) 20 6

abbrev far_stub : RouterLink
far_stub = stub (ipv4 192 0 2 0) mask_24 10

of_stub : StubOffer (contents_at 0 (database square)) square_root far far_stub 24 offer
of_stub = stub_by square square_root far far_stub 24 (way 10 6) 6 way_far
    (hops_from square_root far (λ e. omega (arith, e)) 6) (omega arith) refl

only_offer : (o : Offer) → Offers (contents_at 0 (database square)) square_root o
    → Contains (offer ∷ []) o
only_offer = only_within square square_root (offer ∷ []) refl refl refl
    ((24, offer, of_stub, (0, omega arith, refl)), tt)

offered : Offers (contents_at 0 (database square)) square_root offer
offered = Within (stub_within square square_root far square_far far_says far_stub
    (2, omega arith, refl) refl 24 offer of_stub)

square_candidates : AreCandidates (contents_at 0 (database square)) square_root (across ∷ [])
square_candidates = candidates_of (contents_at 0 (database square)) square_root (offer ∷ [])
    (in_order (λ (o : Offer). o.prefix) (offer ∷ []) refl)
    (one_of (λ (o : Offer). Offers (contents_at 0 (database square)) square_root o) (offer ∷ [])
    (offered, tt))
    only_offer

answered : (r : Route) → Contains (across ∷ []) r → IsLetIn ((across, 0) ∷ []) r
answered = one_of (λ (r : Route). IsLetIn ((across, 0) ∷ []) r) (across ∷ [])
    (first_is {X = Route × ℕ} (across, 0) [], tt)

never : (r : Route) → IsLetIn ((across, 1) ∷ []) r → ⊥
never r t =
    elim (of_cons {X = Route × ℕ} (across, 1) [] (r, 0) t) [
      | inl e ↦ let words : 1 ≡ 0 = ap (λ (x : Route × ℕ). x.1) e in omega (arith, words)
      | inr none ↦ of_empty {X = Route × ℕ} (r, 0) none
    ]

pub worked : WorkedSquare
worked = record {
  candidates = square_candidates;
  let_in = record {
    each = λ r. (
      (λ t. ((square_candidates.each r).0 t, answered r t)),
      (λ k. (square_candidates.each r).1 k.0),
    );
    ascending = square_candidates.ascending;
  };
  vetoed = record {
    each = λ r. ((λ t. absurd (of_empty r t)), (λ k. absurd (never r k.1)));
    ascending = λ i j d before within. absurd (omega (arith, before, within));
  };
}
