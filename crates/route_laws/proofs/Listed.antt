-- Candidates among offers that are those of a list, checked one by one.
use Rattle.std.proofs.Common.{◌≡◌, ℕ, zero, suc, ◌⊎◌, ◌&&◌, ◌||◌, inl, inr, Bool, true, false, not}
use Rattle.std.proofs.Common.{nat_eq, eqb-true, List, [], ◌∷◌, Some, slice_get, refl, sym, ◌∙◌}
use Rattle.std.proofs.Common.{subst}
use Rattle.std.specs.List.{AllByRecursion, Contains, list_all}
use Rattle.words.specs.Prefixes.{Network}
use Rattle.words.specs.declared.route.Route.{Route}
use Rattle.routes.proofs.Lists.{first_is, later_is, of_cons, of_empty}
use Rattle.routes.specs.Candidates.{AreCandidates, IsCandidate, Offers}
use Rattle.routes.specs.Routes.{IsNoWorse, IsRouteAmong}
use Rattle.routes.specs.Contents.{Contents}
use Rattle.routes.specs.declared.offer.Offer.{Offer}
use Rattle.routes.specs.declared.root.Root.{Root}
use Rattle.route_laws.proofs.Alone.{IsAloneAmong, all_candidates}
use Rattle.route_laws.proofs.Entries.{all_pass, both_true}
use Rattle.route_laws.proofs.Labels.{either_true}
use Rattle.route_laws.proofs.Ordered.{ascend, in_order}
use Rattle.route_laws.proofs.Parts.{apart, one_of}

-- ---- offers that no other one for their prefix equals

-- if x is an offer for this prefix, it is c, or is worse
abbrev pub IsBeaten : Offer → Offer → Type 0
IsBeaten c x = x.prefix ≡ c.prefix → (x ≡ c) ⊎ (IsNoWorse c x × (IsNoWorse x c → ⊥))

abbrev is_elsewhere : Offer → Offer → Bool
is_elsewhere c x = not (nat_eq x.prefix.address c.prefix.address)

pub elsewhere : (c x : Offer) → is_elsewhere c x ≡ true → IsBeaten c x
elsewhere c x far e = absurd (apart x.prefix c.prefix far e)

pub itself : (c : Offer) → IsBeaten c c
itself c e = inl refl

-- all but the n-th are for networks with other addresses than c's
abbrev pub others_elsewhere : ℕ → Offer → List Offer → Bool
others_elsewhere n c [] = true
others_elsewhere zero c (x ∷ xs) = list_all (is_elsewhere c) xs
others_elsewhere (suc n) c (x ∷ xs) = is_elsewhere c x && others_elsewhere n c xs

one_there : (n : ℕ) (c : Offer) (xs : List Offer) → slice_get xs n ≡ Some c
    → others_elsewhere n c xs ≡ true → (o : Offer) → Contains xs o → o.prefix ≡ c.prefix → o ≡ c
one_there n c [] at e o t same = absurd (of_empty o t)
one_there zero c (x ∷ xs) at e o t same =
    let first : x ≡ c = cc in
    elim (of_cons x xs o t) [
      | inl here ↦ sym here ∙ first
      | inr later ↦ absurd (apart o.prefix c.prefix (all_pass (is_elsewhere c) xs e o later) same)
    ]
one_there (suc n) c (x ∷ xs) at e o t same =
    let both = both_true (is_elsewhere c x) (others_elsewhere n c xs) e in
    elim (of_cons x xs o t) [
      | inl here ↦
          let P : Offer → Type 0 = λ y. is_elsewhere c y ≡ true in
          absurd (apart o.prefix c.prefix (subst P here both.0) same)
      | inr later ↦ one_there n c xs at both.1 o later same
    ]

module _ (IsOffered : Offer → Type 0) (offers : List Offer)
    (complete : (o : Offer) → IsOffered o → Contains offers o) where
  pub beaten : (c : Offer) → AllByRecursion (IsBeaten c) offers → IsAloneAmong IsOffered c
  beaten c all o offered e = one_of (IsBeaten c) offers all o (complete o offered) e

  -- the n-th one, if the others are elsewhere
  pub lone : (n : ℕ) (c : Offer) → slice_get offers n ≡ Some c → others_elsewhere n c offers ≡ true
      → IsAloneAmong IsOffered c
  lone n c at far o offered e = inl (one_there n c offers at far o (complete o offered) e)

  -- what holds of the networks of all offers, holds of those of routes
  pub each_route : (P : Network → Type 0) → AllByRecursion (λ (o : Offer). P o.prefix) offers
      → (r : Route) → IsRouteAmong IsOffered r → P r.prefix
  each_route P all r k =
      subst P k.is_best.is_for (one_of (λ (o : Offer). P o.prefix) offers all k.first
      (complete k.first k.is_best.offered))

-- ---- candidates

abbrev is_route_for : Network → Route → Bool
is_route_for p r = nat_eq r.prefix.address p.address && nat_eq r.prefix.length p.length

abbrev pub has_route : List Route → Network → Bool
has_route [] p = false
has_route (r ∷ routes) p = is_route_for p r || has_route routes p

route_for : (routes : List Route) (p : Network) → has_route routes p ≡ true
    → (s : Route) × Contains routes s × (s.prefix ≡ p)
route_for [] p e = absurd (cc)
route_for (r ∷ routes) p e =
    elim (either_true (is_route_for p r) (has_route routes p) e) [
      | inl here ↦ (r, first_is r routes, the_prefix here)
      | inr later ↦ (let k = route_for routes p later in (k.0, later_is r routes k.0 k.1, k.2))
    ]
  where
    the_prefix : is_route_for p r ≡ true → r.prefix ≡ p
    the_prefix here =
        let both = both_true (nat_eq r.prefix.address p.address) (nat_eq r.prefix.length p.length)
        here in
        let at : r.prefix.address ≡ p.address = eqb-true r.prefix.address p.address both.0 in
        let long : r.prefix.length ≡ p.length = eqb-true r.prefix.length p.length both.1 in
        λ i. record { address = at i; length = long i }

-- candidates in order, with one for the prefix of each offer
pub candidates_in : (contents : Contents) (root : Root) (offers : List Offer)
    → ((o : Offer) → Offers contents root o → Contains offers o) → (routes : List Route)
    → AllByRecursion (λ (r : Route). IsCandidate contents root r) routes
    → list_all (λ (o : Offer). has_route routes o.prefix) offers ≡ true
    → ascend (λ (r : Route). r.prefix) routes ≡ true → AreCandidates contents root routes
candidates_in contents root offers complete routes sound covered up =
    all_candidates contents root routes
    (one_of (λ (r : Route). IsCandidate contents root r) routes sound)
    (λ o offered. route_for routes o.prefix
    (all_pass (λ (x : Offer). has_route routes x.prefix) offers covered o (complete o offered)))
    (in_order (λ (r : Route). r.prefix) routes up)
