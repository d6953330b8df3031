-- The worked external destinations: what each AS-external-LSA offers, if anything, and the
-- candidates.
use Rattle.std.proofs.Common.{◌≡◌, ◌≢◌, ℕ, ◌<◌, ◌≤◌, inl, inr, Bool, true, false, not, ◌&&◌, nat_eq}
use Rattle.std.proofs.Common.{eq-eqb, List, [], ◌∷◌, ◌++◌, None, Some, arith, refl, sym, ◌∙◌, ap}
use Rattle.std.proofs.Common.{slice_get}
use Rattle.std.specs.FinMap as finite
use Rattle.std.specs.List.{AllByRecursion, Contains}
use Rattle.words.specs.Prefixes.{IsUnder, Network, mask_of}
use Rattle.words.specs.declared.key.Key.{Key}
use Rattle.words.specs.declared.route.ExternalType.TheVariants.{Type1, Type2}
use Rattle.words.specs.declared.route.Route.{Route}
use Rattle.lsa.specs.declared.body.LsaBody.{LsaBody}
use Rattle.lsa.specs.declared.body.LsaBody.TheVariants as body
use Rattle.lsa.specs.declared.body.ExternalLsa.{ExternalLsa}
use Rattle.lsdb.proofs.Keys.{keys_total}
use Rattle.routes.specs.Candidates.{IsCandidate, Offers, OffersExternal, external_offer}
use Rattle.routes.specs.Candidates.Offers.{Between, External, Within}
use Rattle.routes.specs.Links.{Says}
use Rattle.routes.specs.Offers.{OffersWithin}
use Rattle.routes.specs.declared.offer.Offer.{Offer}
use Rattle.routes.specs.Routes.IsNoWorse.{ByCost, ByDistance, ByKind}
use Rattle.routes.specs.Paths.{Way}
use Rattle.route_laws.specs.Worked.{Entries, database, ipv4, key, near_router, network_24}
use Rattle.route_laws.specs.Worked.{next_network, own_network}
use Rattle.route_laws.specs.WorkedExternals.{WorkedExternals, announced_entries, by_next_network}
use Rattle.route_laws.specs.WorkedExternals.{by_own_network, destinations, external, of_first_type}
use Rattle.route_laws.specs.WorkedExternals.{passed_over}
use Rattle.route_laws.proofs.Alone.{IsAlone, alone, alone_among, route_of}
use Rattle.route_laws.proofs.Entries.{all_pass, is_said, sayings}
use Rattle.route_laws.proofs.Labels.{AreChecked, not_both}
use Rattle.route_laws.proofs.Parts.{not_under, one_below, one_of}
use Rattle.route_laws.proofs.TwoRouters.{distance, far, far_way, hops, near, nearby}
use Rattle.route_laws.proofs.TwoRouters.{next_is_offered, next_offer, other_offer, own_is_better}
use Rattle.route_laws.proofs.TwoRouters.{own_is_offered, own_offer, reaches_far, stubs}
use Rattle.routes.specs.Contents.{Contents, contents_at, contents_of}
use Rattle.routes.specs.Routes.{IsForwarded, IsNoWorse, IsRouteAmong}
use Rattle.route_laws.proofs.NoSummaries.{is_inside, is_within, nothing_between}
use Rattle.routes.specs.Summaries.{IsBoundaryWay, OffersInside}
use Rattle.route_laws.proofs.Listed.{beaten, candidates_in, each_route, elsewhere, itself, lone}
use Rattle.route_laws.proofs.Listed.{others_elsewhere}
use Rattle.route_laws.proofs.ExternalOffers.{CountsAsExternal, EachExternal, IsOfferOf, counts_24}
use Rattle.route_laws.proofs.ExternalOffers.{each_external, is_offer_of, offered_by_address}
use Rattle.route_laws.proofs.ExternalOffers.{offered_directly, only_by_address, only_directly}
use Rattle.route_laws.proofs.OneOffer.{each_stub}

abbrev others : Entries
others = announced_entries ++ passed_over

abbrev contents : Contents
contents = contents_at 0 (database destinations)

labels : AreChecked near_router (sayings destinations) distance hops
labels = record { start = refl; routers = refl; links = refl }

-- ---- within the area

abbrev near_net : Network
near_net = network_24 10 0 1

abbrev next_net : Network
next_net = network_24 10 0 2

within : (o : Offer) → OffersWithin contents near_router o → Contains nearby o
within = each_stub destinations near_router (λ o. Contains nearby o) refl (stubs others labels)

nearby_inside : (o : Offer) → OffersInside contents near_router o → Contains nearby o
nearby_inside o x = within o (is_within 0 destinations refl near_router o x)

own_there : OffersWithin contents near_router own_offer
own_there = own_is_offered others labels

next_there : OffersWithin contents near_router next_offer
next_there = next_is_offered others labels

-- ---- forwarding addresses

abbrev next_way : Way
next_way = record { distance = 15; hops = 2 }

abbrev own_way : Way
own_way = record { distance = 10; hops = 1 }

-- every offer within the area has such a prefix
lengths : (r : Route) → IsRouteAmong (OffersInside contents near_router) r → r.prefix.length ≤ 24
lengths = each_route (OffersInside contents near_router) nearby nearby_inside
    (λ (n : Network). n.length ≤ 24) (omega arith, (omega arith, (omega arith, tt)))

next_forwarded : IsForwarded (OffersInside contents near_router) (ipv4 10 0 2 9) next_way
next_forwarded = record {
  by = route_of next_offer;
  is_route = alone_among (OffersInside contents near_router) next_offer (inl next_there)
      (lone (OffersInside contents near_router) nearby nearby_inside 2 next_offer refl refl);
  under = refl;
  longest = λ r k u. lengths r k;
  is = refl;
}

own_forwarded : IsForwarded (OffersInside contents near_router) (ipv4 10 0 1 9) own_way
own_forwarded = record {
  by = route_of own_offer;
  is_route = alone_among (OffersInside contents near_router) own_offer (inl own_there)
      (beaten (OffersInside contents near_router) nearby nearby_inside own_offer
      (itself own_offer, (own_is_better, (elsewhere own_offer next_offer refl, tt))));
  under = refl;
  longest = λ r k u. lengths r k;
  is = refl;
}

no_forward : (way : Way) → IsForwarded (OffersInside contents near_router) (ipv4 172 16 0 1) way → ⊥
no_forward way f =
    each_route (OffersInside contents near_router) nearby nearby_inside
    (λ (n : Network). IsUnder (ipv4 172 16 0 1) n → ⊥) (
      not_under (ipv4 172 16 0 1) near_net refl,
      (
        not_under (ipv4 172 16 0 1) near_net refl,
        (not_under (ipv4 172 16 0 1) next_net refl, tt),
      ),
    ) f.by f.is_route f.under

-- ---- all offers

abbrev cheap_lsa : ExternalLsa
cheap_lsa = external Type2 1 0 3

abbrev first_lsa : ExternalLsa
first_lsa = external Type1 20 0 4

abbrev next_lsa : ExternalLsa
next_lsa = external Type1 20 (ipv4 10 0 2 9) 5

abbrev own_lsa : ExternalLsa
own_lsa = external Type2 20 (ipv4 10 0 1 9) 6

abbrev cheap_offer : Offer
cheap_offer = external_offer Type2 (network_24 203 0 113) cheap_lsa far far_way

abbrev first_offer : Offer
first_offer = external_offer Type1 (network_24 203 0 113) first_lsa far far_way

abbrev by_next_offer : Offer
by_next_offer = external_offer Type1 (network_24 198 51 100) next_lsa far next_way

abbrev by_own_offer : Offer
by_own_offer = external_offer Type2 (network_24 192 0 2) own_lsa far own_way

abbrev offers : List Offer
offers = own_offer ∷ other_offer ∷ next_offer ∷ cheap_offer ∷ first_offer ∷ by_next_offer
    ∷ by_own_offer ∷ []

abbrev IsKnown : Key → ExternalLsa → Type 0
IsKnown k lsa = Says contents k (body.External lsa) → (o : Offer)
    → IsOfferOf contents near_router k.link_state_id k.advertising_router lsa o → Contains offers o

-- ---- those that offer nothing

abbrev lost_lsa : ExternalLsa
lost_lsa = external Type1 20 (ipv4 172 16 0 1) 0

unforwarded : IsKnown (key 5 (ipv4 198 18 0 0) far) lost_lsa
unforwarded s o g = absurd (no_forward g.way
    (g.is_way.forwarded (λ e. let z : ipv4 172 16 0 1 ≡ 0 = e in omega (arith, z))))

unreachable : IsKnown (key 5 (ipv4 198 18 1 0) far) (external Type1 16777215 0 0)
unreachable s o g = absurd (let less : 16777215 < 16777215 = g.reachable in omega (arith, less))

by_itself : IsKnown (key 5 (ipv4 198 18 2 0) near) (external Type1 20 0 0)
by_itself s o g = absurd (g.of_another refl)

abbrev nobody_id : ℕ
nobody_id = ipv4 9 9 9 9

abbrev is_of_another : Key × LsaBody → Bool
is_of_another s = not (nat_eq s.0.ls_type 1 && nat_eq s.0.link_state_id nobody_id)

by_nobody : IsKnown (key 5 (ipv4 198 18 3 0) nobody_id) (external Type1 20 0 0)
by_nobody s o g =
    let reaches = is_inside 0 destinations refl near_router nobody_id g.is_way.boundary
    g.is_way.reaches in
    absurd (let e : false ≡ true = all_pass is_of_another (sayings destinations) refl
    (key 1 nobody_id nobody_id, body.Router reaches.lsa)
    (is_said 0 destinations _ (body.Router reaches.lsa) reaches.its) in cc)

abbrev old_lsa : ExternalLsa
old_lsa = external Type1 20 0 0

too_old : IsKnown (key 5 (ipv4 198 18 4 0) far) old_lsa
too_old s o g =
    let e : None ≡ Some (body.External old_lsa) =
    sym (ap (contents_of 0) (finite.get-from_entries keys_total destinations
    (key 5 (ipv4 198 18 4 0) far))) ∙ s in
    absurd (cc)

abbrev is_no_mask : ℕ → Bool
is_no_mask n = not (nat_eq (ipv4 255 0 255 0) (mask_of n))

unmasked : IsKnown (key 5 (ipv4 198 18 5 0) far)
    (record (external Type1 20 0 0) { mask = ipv4 255 0 255 0 })
unmasked s o g =
    let n : ℕ = g.prefix.length in
    let few : n ≤ 32 = g.is_prefix.0 in
    absurd (not_both (nat_eq (ipv4 255 0 255 0) (mask_of n))
    (one_below is_no_mask 33 refl n (omega (arith, few)))
    (eq-eqb (ipv4 255 0 255 0) (mask_of n) g.is_prefix.1))

-- ---- each of the others

reaches : IsBoundaryWay contents near_router far far_way
reaches = reaches_far others labels

cheap_counts : CountsAsExternal contents near_router (ipv4 203 0 113 0) far cheap_lsa 24
cheap_counts = counts_24 destinations near_router (ipv4 203 0 113 0) far cheap_lsa refl
    (omega arith) (λ e. omega (arith, e)) refl

first_counts : CountsAsExternal contents near_router (ipv4 203 0 113 1) far first_lsa 24
first_counts = counts_24 destinations near_router (ipv4 203 0 113 1) far first_lsa refl
    (omega arith) (λ e. omega (arith, e)) refl

next_counts : CountsAsExternal contents near_router (ipv4 198 51 100 0) far next_lsa 24
next_counts = counts_24 destinations near_router (ipv4 198 51 100 0) far next_lsa refl
    (omega arith) (λ e. omega (arith, e)) refl

own_counts : CountsAsExternal contents near_router (ipv4 192 0 2 0) far own_lsa 24
own_counts = counts_24 destinations near_router (ipv4 192 0 2 0) far own_lsa refl (omega arith)
    (λ e. omega (arith, e)) refl

by_next : next_lsa.forwarding ≢ 0
by_next e = let z : ipv4 10 0 2 9 ≡ 0 = e in omega (arith, z)

by_own : own_lsa.forwarding ≢ 0
by_own e = let z : ipv4 10 0 1 9 ≡ 0 = e in omega (arith, z)

cheap_known : IsKnown (key 5 (ipv4 203 0 113 0) far) cheap_lsa
cheap_known s o g = (
  3,
  omega arith,
  only_directly contents near_router (ipv4 203 0 113 0) far cheap_lsa 24 cheap_counts refl far_way
      reaches o g,
)

first_known : IsKnown (key 5 (ipv4 203 0 113 1) far) first_lsa
first_known s o g = (
  4,
  omega arith,
  only_directly contents near_router (ipv4 203 0 113 1) far first_lsa 24 first_counts refl far_way
      reaches o g,
)

next_known : IsKnown (key 5 (ipv4 198 51 100 0) far) next_lsa
next_known s o g = (
  5,
  omega arith,
  only_by_address contents near_router (ipv4 198 51 100 0) far next_lsa 24 next_counts by_next
      next_way next_forwarded o g,
)

own_known : IsKnown (key 5 (ipv4 192 0 2 0) far) own_lsa
own_known s o g = (
  6,
  omega arith,
  only_by_address contents near_router (ipv4 192 0 2 0) far own_lsa 24 own_counts by_own own_way
      own_forwarded o g,
)

all_known : EachExternal IsKnown destinations
all_known = (
  tt,
  (
    tt,
    (
      cheap_known,
      (
        first_known,
        (
          next_known,
          (
            own_known,
            (unforwarded, (unreachable, (by_itself, (by_nobody, (too_old, (unmasked, tt)))))),
          ),
        ),
      ),
    ),
  ),
)

complete : (o : Offer) → Offers contents near_router o → Contains offers o
complete o (Within x) = one_of (λ (y : Offer). Contains offers y) nearby
    ((0, omega arith, refl), ((1, omega arith, refl), ((2, omega arith, refl), tt))) o (within o x)
complete o (Between x) = absurd (nothing_between 0 destinations refl near_router o x)
complete o (External x) = each_external IsKnown destinations all_known (key 5 x.id x.originator)
    x.lsa x.its x.its o (is_offer_of contents near_router o x)

-- ---- candidates

no_kind_before : IsNoWorse cheap_offer first_offer → ⊥
no_kind_before (ByKind p) = omega (arith, p)
no_kind_before (ByCost p q) = omega (arith, p)
no_kind_before (ByDistance p q r) = omega (arith, p)

own_alone : IsAlone contents near_router own_offer
own_alone = beaten (Offers contents near_router) offers complete own_offer (
  itself own_offer,
  (
    own_is_better,
    (
      elsewhere own_offer next_offer refl,
      (
        elsewhere own_offer cheap_offer refl,
        (
          elsewhere own_offer first_offer refl,
          (
            elsewhere own_offer by_next_offer refl,
            (elsewhere own_offer by_own_offer refl, tt),
          ),
        ),
      ),
    ),
  ),
)

first_alone : IsAlone contents near_router first_offer
first_alone = beaten (Offers contents near_router) offers complete first_offer (
  elsewhere first_offer own_offer refl,
  (
    elsewhere first_offer other_offer refl,
    (
      elsewhere first_offer next_offer refl,
      (
        (λ e. inr (ByKind (omega arith), no_kind_before)),
        (
          itself first_offer,
          (
            elsewhere first_offer by_next_offer refl,
            (elsewhere first_offer by_own_offer refl, tt),
          ),
        ),
      ),
    ),
  ),
)

first_offered : OffersExternal contents near_router first_offer
first_offered = offered_directly contents near_router (ipv4 203 0 113 1) far first_lsa 24
    first_counts
    refl far_way reaches

by_next_offered : OffersExternal contents near_router by_next_offer
by_next_offered = offered_by_address contents near_router (ipv4 198 51 100 0) far next_lsa 24
    next_counts by_next next_way next_forwarded far_way reaches

by_own_offered : OffersExternal contents near_router by_own_offer
by_own_offered = offered_by_address contents near_router (ipv4 192 0 2 0) far own_lsa 24 own_counts
    by_own own_way own_forwarded far_way reaches

abbrev routes : List Route
routes = own_network ∷ next_network ∷ by_own_network ∷ by_next_network ∷ of_first_type ∷ []

alone_at : (n : ℕ) (c : Offer) → slice_get offers n ≡ Some c → others_elsewhere n c offers ≡ true
    → IsAlone contents near_router c
alone_at = lone (Offers contents near_router) offers complete

sound : AllByRecursion (λ (r : Route). IsCandidate contents near_router r) routes
sound = (
  alone contents near_router own_offer (Within own_there) own_alone,
  (
    alone contents near_router next_offer (Within next_there) (alone_at 2 next_offer refl refl),
    (
      alone contents near_router by_own_offer (External by_own_offered)
          (alone_at 6 by_own_offer refl refl),
      (
        alone contents near_router by_next_offer (External by_next_offered)
            (alone_at 5 by_next_offer refl refl),
        (alone contents near_router first_offer (External first_offered) first_alone, tt),
      ),
    ),
  ),
)

pub worked : WorkedExternals
worked = candidates_in contents near_router offers complete routes sound refl refl
