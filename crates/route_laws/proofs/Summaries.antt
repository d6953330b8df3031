-- The worked summaries: the ways, the offers and the candidates.
use Rattle.std.proofs.Common.{◌≡◌, ℕ, ◌+◌, ◌<◌, ◌≤◌, ◌⊎◌, inl, inr, Bool, true, false, cond, not}
use Rattle.std.proofs.Common.{◌&&◌, IsTrue, nat_eq, List, [], ◌∷◌, Some, bit_and, arith, refl, sym}
use Rattle.std.proofs.Common.{◌∙◌, ap, subst}
use Rattle.std.specs.List.{AllByRecursion, Contains}
use Rattle.words.specs.Interfaces.{has_interface}
use Rattle.words.specs.declared.key.Key.{Key}
use Rattle.words.specs.declared.route.ExternalType.TheVariants.{Type1, Type2}
use Rattle.lsa.specs.declared.body.LsaBody.{LsaBody}
use Rattle.lsa.specs.declared.body.LsaBody.TheVariants as body
use Rattle.lsa.specs.declared.body.ExternalLsa.{ExternalLsa}
use Rattle.lsa.specs.declared.body.RouterLink.{RouterLink}
use Rattle.lsa.specs.declared.body.RouterLsa.{RouterLsa}
use Rattle.lsa.specs.declared.body.SummaryLsa.{SummaryLsa}
use Rattle.routes.specs.Candidates.{AreCandidates, Offers, OffersExternal, external_offer}
use Rattle.routes.specs.Candidates.Offers.{Between, External, Within}
use Rattle.routes.specs.Links.{IsRouterLsa, Leads}
use Rattle.routes.specs.Offers.{OffersWithin, ReachesBoundaryRouter}
use Rattle.routes.specs.Paths.{Step, Way}
use Rattle.routes.specs.Contents.{Contents, contents_at}
use Rattle.routes.specs.Summaries.{CountsAsSummary, IsBoundaryWay, IsAdvertised, OffersBetween}
use Rattle.routes.specs.Summaries.{ReachesBorderRouter, inter, summary_key}
use Rattle.routes.specs.Summaries.IsBoundaryWay.{Inside, Outside}
use Rattle.routes.specs.declared.node.Node.{Node}
use Rattle.routes.specs.declared.node.Node.TheVariants.{ARouter}
use Rattle.routes.specs.declared.offer.Offer.{Offer}
use Rattle.routes.proofs.Determined.{one_way}
use Rattle.route_laws.specs.Worked.{Entries, database, ipv4, key, mask_24, network_24}
use Rattle.route_laws.specs.Worked.{point_to_point, router_lsa}
use Rattle.route_laws.specs.WorkedExternals.{external}
use Rattle.route_laws.specs.WorkedSummaries.{WorkedSummaries, border_links, distant_links}
use Rattle.route_laws.specs.WorkedSummaries.{distant_route, summaries_links, summaries_root}
use Rattle.route_laws.specs.WorkedSummaries.{summary, told_entries}
use Rattle.routes.proofs.Prefixes.{one_prefix}
use Rattle.route_laws.proofs.Entries.{all_pass, is_said, sayings}
use Rattle.route_laws.proofs.Labels.{AreChecked}
use Rattle.route_laws.proofs.Made.{from_root, only_one, only_two, says}
use Rattle.route_laws.proofs.Parts.{one_of}
use Rattle.route_laws.proofs.Ordered.{in_order}
use Rattle.route_laws.proofs.ExternalOffers.{CountsAsExternal, IsOfferOf, counts_24, each_external}
use Rattle.route_laws.proofs.ExternalOffers.{is_offer_of, net_of, offered_directly, only_directly}
use Rattle.route_laws.proofs.OneOffer.{IsWayFrom, Walk, candidates_of, each_stub, way, way_to}

abbrev near : ℕ
near = ipv4 1 1 1 1

abbrev border : ℕ
border = ipv4 2 2 2 2

abbrev distant : ℕ
distant = ipv4 3 3 3 3

abbrev beyond : ℕ
beyond = ipv4 9 9 9 9

abbrev distance : ℕ → ℕ
distance r = cond (nat_eq r border) 10 (cond (nat_eq r distant) 100 0)

abbrev hops : ℕ → ℕ
hops r = cond (nat_eq r border) 2 (cond (nat_eq r distant) 4 0)

abbrev flagged : ℕ → List RouterLink → RouterLsa
flagged flags links = record { flags = flags; links = links }

abbrev border_way : Way
border_way = way 10 2

abbrev distant_way : Way
distant_way = way 100 4

-- the way to 9.9.9.9, which only summaries advertise
abbrev beyond_way : Way
beyond_way = way 17 2

abbrev of_summary : Offer
of_summary = inter (network_24 198 51 100) 15 2

abbrev of_beyond_1 : Offer
of_beyond_1 = external_offer Type1 (network_24 203 0 113) (external Type1 20 0 0) beyond beyond_way

abbrev of_beyond_2 : Offer
of_beyond_2 = external_offer Type2 (network_24 203 0 114) (external Type2 20 0 0) beyond beyond_way

abbrev of_distant : Offer
of_distant = external_offer Type1 (network_24 203 0 115) (external Type1 20 0 0) distant distant_way

-- a router-LSA of another router than 9.9.9.9, or another LSA
abbrev is_of_another : Key × LsaBody → Bool
is_of_another s = not (nat_eq s.0.ls_type 1 && nat_eq s.0.link_state_id beyond)

-- ---- whatever flags the neighbors have

module _ (flags distant_flags : ℕ) (has_e : bit_and distant_flags 2 ≡ 2) where
  abbrev entries : Entries
  entries = told_entries flags distant_flags

  abbrev contents : Contents
  contents = contents_at 0 (database entries)

  labels : AreChecked summaries_root (sayings entries) distance hops
  labels = record { start = refl; routers = refl; links = refl }

  near_says : IsRouterLsa contents near (router_lsa summaries_links)
  near_says = says entries (key 1 near near)
      (body.Router (router_lsa summaries_links)) refl

  border_says : IsRouterLsa contents border (flagged flags border_links)
  border_says = says entries (key 1 border border)
      (body.Router (flagged flags border_links)) refl

  distant_says : IsRouterLsa contents distant (flagged distant_flags distant_links)
  distant_says = says entries (key 1 distant distant)
      (body.Router (flagged distant_flags distant_links)) refl

  abbrev to_border : Step Node
  to_border = record { target = ARouter border; cost = 10; exit = 1 }

  abbrev to_distant : Step Node
  to_distant = record { target = ARouter distant; cost = 100; exit = 2 }

  border_walk : Walk entries summaries_root (to_border ∷ []) border
  border_walk = (
    (
      from_root entries summaries_root summaries_links near_says border
          (ipv4 10 0 1 1) 10 0 (0, omega arith, refl) (omega arith) refl,
      (
        point_to_point near (ipv4 10 0 1 2) 10,
        record {
          lsa = flagged flags border_links;
          its = border_says;
          among = (0, omega arith, refl);
        },
        refl,
        refl,
      ),
    ),
    refl,
  )

  distant_walk : Walk entries summaries_root (to_distant ∷ []) distant
  distant_walk = (
    (
      from_root entries summaries_root summaries_links near_says distant
          (ipv4 10 0 2 1) 100 1 (1, omega arith, refl) (omega arith) refl,
      (
        point_to_point near (ipv4 10 0 2 2) 100,
        record {
          lsa = flagged distant_flags distant_links;
          its = distant_says;
          among = (0, omega arith, refl);
        },
        refl,
        refl,
      ),
    ),
    refl,
  )

  border_is : IsWayFrom entries summaries_root border border_way
  border_is = way_to entries summaries_root distance hops labels border (to_border ∷ [])
      border_walk refl (λ i t. (to_border, [], border_walk, refl, sym (only_one i t)))

  distant_is : IsWayFrom entries summaries_root distant distant_way
  distant_is = way_to entries summaries_root distance hops labels distant (to_distant ∷ [])
      distant_walk refl (λ i t. (to_distant, [], distant_walk, refl, sym (only_two i t)))

  -- there are no stub networks
  no_within : (o : Offer) → OffersWithin contents summaries_root o → ⊥
  no_within o x = each_stub entries summaries_root (λ _. ⊥) refl tt o x

  -- the only router whose summaries count is the neighbor
  border_alone : (way : Way) → IsWayFrom entries summaries_root border way → border_way ≡ way
  border_alone way is = one_way (Leads contents summaries_root) (ARouter near) (ARouter border)
      border_way way border_is is

  -- the boundary router 3.3.3.3 is reached within the area
  to_the_distant : IsBoundaryWay contents summaries_root distant distant_way
  to_the_distant = Inside (record {
    lsa = flagged distant_flags distant_links;
    its = distant_says;
    has_e = has_e;
    reached = distant_is;
  })

  far_alone : (way : Way) → IsWayFrom entries summaries_root distant way → distant_way ≡ way
  far_alone way is = one_way (Leads contents summaries_root) (ARouter near) (ARouter distant)
      distant_way way distant_is is

  -- 9.9.9.9 has no router-LSA
  none_beyond : (way : Way) → ReachesBoundaryRouter contents summaries_root beyond way → ⊥
  none_beyond way x =
      let e : false ≡ true = all_pass is_of_another (sayings entries)
      refl (key 1 beyond beyond, body.Router x.lsa)
      (is_said 0 entries (key 1 beyond beyond)
      (body.Router x.lsa) x.its) in
      cc

  -- ---- what is advertised

  abbrev IsTold : Key → LsaBody → Type 0
  IsTold k (body.Router r) = Unit {0}
  IsTold k (body.Network n) = Unit {0}
  IsTold k (body.NetworkSummary s) = (k.advertising_router ≡ border)
      × (s.metric < 16777215 → (k.link_state_id ≡ ipv4 198 51 100 0) × (s ≡ summary 5))
  IsTold k (body.RouterSummary s) = ((k.advertising_router ≡ border) × (s ≡ summary 7))
      ⊎ ((k.advertising_router ≡ distant) × (s ≡ summary 1))
  IsTold k (body.External lsa) = Unit {0}

  all_told : AllByRecursion (λ (s : Key × LsaBody). IsTold s.0 s.1)
      (sayings entries)
  all_told = (
    tt,
    (
      tt,
      (
        tt,
        (
          (refl, (λ _. (refl, refl))),
          (
            (refl, (λ low. absurd (omega (arith, low)))),
            (inl (refl, refl), (inl (refl, refl), (inr (refl, refl), (tt, (tt, (tt, tt)))))),
          ),
        ),
      ),
    ),
  )

  told_of : (k : Key) (says_so : LsaBody) → contents k ≡ Some says_so → IsTold k says_so
  told_of k says_so e = one_of (λ (s : Key × LsaBody). IsTold s.0 s.1)
      (sayings entries) all_told (k, says_so)
      (is_said 0 entries k says_so e)

  -- the router-LSA of a neighbor
  one_router_lsa : (router its_flags : ℕ) (links : List RouterLink)
      → IsRouterLsa contents router (flagged its_flags links) → (lsa : RouterLsa)
      → IsRouterLsa contents router lsa → flagged its_flags links ≡ lsa
  one_router_lsa router its_flags links says_it lsa e =
      let both : Some (body.Router (flagged its_flags links)) ≡ Some (body.Router lsa) =
      sym says_it ∙ e in
      cc

  -- an inter-area offer
  between_is : (o : Offer) → OffersBetween contents summaries_root o → (of_summary ≡ o)
      × (bit_and flags 1 ≡ 1)
  between_is o x =
      let t = told_of (summary_key 3 x.id x.originator) (body.NetworkSummary x.lsa) x.its in
      let rest = t.1 x.counts.reachable in
      let Reaches : ℕ → Type 0 = λ router. ReachesBorderRouter contents summaries_root router
      x.border
      in
      let reaches : ReachesBorderRouter contents summaries_root border x.border =
      subst Reaches t.0 x.counts.reaches in
      let w : border_way ≡ x.border = border_alone x.border reaches.reached in
      let metric : 5 ≡ x.lsa.metric = sym (ap (λ (s : SummaryLsa). s.metric) rest.1) in
      let mask : x.lsa.mask ≡ mask_24 = ap (λ (s : SummaryLsa). s.mask) rest.1 in
      let p : net_of 24 x.id ≡ x.prefix =
      one_prefix x.id x.lsa.mask 24 x.prefix (omega arith) mask x.is_prefix in
      let q : network_24 198 51 100 ≡ x.prefix = sym (ap (net_of 24) rest.0) ∙ p in (
        (λ i. inter (q i) ((w i).distance + metric i) (w i).hops) ∙ sym x.is,
        (ap (λ (l : RouterLsa). bit_and l.flags 1)
            (one_router_lsa border flags border_links border_says reaches.lsa reaches.its)
            ∙ reaches.has_b),
      )

  -- a summary of 9.9.9.9, by the nearer neighbor or by the farther one
  abbrev ByBorder : ℕ → Way → Type 0
  ByBorder cost way = (cost ≡ 17) × (border_way ≡ way) × (bit_and flags 1 ≡ 1)

  abbrev ByDistant : ℕ → Way → Type 0
  ByDistant cost way = (cost ≡ 101) × (distant_way ≡ way) × (bit_and distant_flags 1 ≡ 1)

  -- one that this neighbor advertises with this metric
  by_neighbor : (router its_flags : ℕ) (links : List RouterLink) (to_it : Way) (metric : ℕ)
      → IsRouterLsa contents router (flagged its_flags links)
      → IsWayFrom entries summaries_root router to_it → (cost : ℕ) (its_way : Way)
      (x : IsAdvertised contents summaries_root beyond cost its_way) → x.originator ≡ router
      → x.lsa ≡ summary metric
      → (cost ≡ to_it.distance + metric) × (to_it ≡ its_way) × (bit_and its_flags 1 ≡ 1)
  by_neighbor router its_flags links to_it metric says_it there cost its_way x from same =
      let Reaches : ℕ → Type 0 = λ r. ReachesBorderRouter contents summaries_root r its_way in
      let reaches : ReachesBorderRouter contents summaries_root router its_way =
      subst Reaches from x.counts.reaches in
      let w : to_it ≡ its_way = one_way (Leads contents summaries_root) (ARouter near)
      (ARouter router)
      to_it its_way there reaches.reached in
      let its_metric : x.lsa.metric ≡ metric = ap (λ (s : SummaryLsa). s.metric) same in
      let far : to_it.distance ≡ its_way.distance = ap (λ (y : Way). y.distance) w in (
        omega (arith, x.is, its_metric, far),
        w,
        (ap (λ (l : RouterLsa). bit_and l.flags 1)
            (one_router_lsa router its_flags links says_it reaches.lsa reaches.its)
            ∙ reaches.has_b),
      )

  told_is : (cost : ℕ) (way : Way) → IsAdvertised contents summaries_root beyond cost way
      → ByBorder cost way ⊎ ByDistant cost way
  told_is cost way x =
      elim (told_of (summary_key 4 beyond x.originator) (body.RouterSummary x.lsa) x.its) [
        | inl t ↦ inl (by_neighbor border flags border_links border_way 7 border_says border_is cost
            way x t.0 t.1)
        | inr t ↦ inr (by_neighbor distant distant_flags distant_links distant_way 1 distant_says
            distant_is cost way x t.0 t.1)
      ]

  -- without flag B no one advertises it
  not_beyond : (bit_and flags 1 ≡ 1 → ⊥) → (bit_and distant_flags 1 ≡ 1 → ⊥) → (way : Way)
      → IsBoundaryWay contents summaries_root beyond way → ⊥
  not_beyond no_b nor_b way (Inside x) = none_beyond way x
  not_beyond no_b nor_b way (Outside none x) =
      elim (told_is way.distance x.border x.advertised) [
        | inl by ↦ no_b by.2
        | inr by ↦ nor_b by.2
      ]

  -- ---- external destinations

  abbrev IsOfferedBy : (Offer → Type 0) → Key → ExternalLsa → Type 0
  IsOfferedBy P k lsa = (o : Offer)
      → IsOfferOf contents summaries_root k.link_state_id k.advertising_router lsa o → P o

  -- P holds of each external offer, if of those of each AS-external-LSA
  each_of_three : (P : Offer → Type 0)
      → IsOfferedBy P (key 5 (ipv4 203 0 113 0) beyond) (external Type1 20 0 0)
      → IsOfferedBy P (key 5 (ipv4 203 0 114 0) beyond) (external Type2 20 0 0)
      → IsOfferedBy P (key 5 (ipv4 203 0 115 0) distant) (external Type1 20 0 0) → (o : Offer)
      → OffersExternal contents summaries_root o → P o
  each_of_three P first second third o x =
      each_external (IsOfferedBy P) entries
      (tt, (tt, (tt, (tt, (tt, (tt, (tt, (tt, (first, (second, (third, tt)))))))))))
      (key 5 x.id x.originator) x.lsa x.its o (is_offer_of contents summaries_root o x)

  distant_counts : CountsAsExternal contents summaries_root (ipv4 203 0 115 0) distant
      (external Type1 20 0 0) 24
  distant_counts = counts_24 entries summaries_root (ipv4 203 0 115 0) distant
      (external Type1 20 0 0) refl (omega arith) (λ e. omega (arith, e)) refl

  only_distant_offer : IsOfferedBy (λ o. of_distant ≡ o) (key 5 (ipv4 203 0 115 0) distant)
      (external Type1 20 0 0)
  only_distant_offer = only_directly contents summaries_root (ipv4 203 0 115 0) distant
      (external Type1 20 0 0) 24 distant_counts refl distant_way to_the_distant

  distant_offered : Offers contents summaries_root of_distant
  distant_offered = External (offered_directly contents summaries_root (ipv4 203 0 115 0) distant
      (external Type1 20 0 0) 24 distant_counts refl distant_way to_the_distant)

-- ---- without flag B

abbrev plain : Contents
plain = contents_at 0 (database (told_entries 0 2))

no_flag : bit_and 0 1 ≡ 1 → ⊥
no_flag e = omega (arith, e)

nor_flag : bit_and 2 1 ≡ 1 → ⊥
nor_flag e = omega (arith, e)

only_distant : (o : Offer) → Offers plain summaries_root o → of_distant ≡ o
only_distant o (Within x) = absurd (no_within 0 2 refl o x)
only_distant o (Between x) = absurd (no_flag (between_is 0 2 refl o x).1)
only_distant o (External x) =
    each_of_three 0 2 refl (λ y. of_distant ≡ y)
    (λ y g. absurd (not_beyond 0 2 refl no_flag nor_flag g.is_way.boundary g.is_way.reaches))
    (λ y g. absurd (not_beyond 0 2 refl no_flag nor_flag g.is_way.boundary g.is_way.reaches))
    (only_distant_offer 0 2 refl) o x

without : AreCandidates plain summaries_root (distant_route ∷ [])
without =
    candidates_of plain summaries_root (of_distant ∷ [])
    (in_order (λ (o : Offer). o.prefix) (of_distant ∷ []) refl)
    (one_of (λ (o : Offer). Offers plain summaries_root o) (of_distant ∷ [])
    (distant_offered 0 2 refl, tt))
    (λ o offered. (0, omega arith, only_distant o offered))

-- ---- with flag B

abbrev said_b : Contents
said_b = contents_at 0 (database (told_entries 1 3))

reaches_border : ReachesBorderRouter said_b summaries_root border border_way
reaches_border = record {
  lsa = flagged 1 border_links;
  its = border_says 1 3 refl;
  has_b = refl;
  reached = border_is 1 3 refl;
}

counts_5 : CountsAsSummary said_b summaries_root border (summary 5) border_way
counts_5 = record {
  reachable = omega arith;
  of_another = λ e. omega (arith, e);
  reaches = reaches_border;
}

counts_7 : CountsAsSummary said_b summaries_root border (summary 7) border_way
counts_7 = record {
  reachable = omega arith;
  of_another = λ e. omega (arith, e);
  reaches = reaches_border;
}

told_beyond : IsAdvertised said_b summaries_root beyond 17 border_way
told_beyond = record {
  originator = border;
  lsa = summary 7;
  its = says (told_entries 1 3) (key 4 beyond border) (body.RouterSummary (summary 7)) refl;
  counts = counts_7;
  is = refl;
}

-- the other way costs 101
no_nearer : (cost : ℕ) (other : Way) → IsAdvertised said_b summaries_root beyond cost other
    → 17 ≤ cost
no_nearer cost other t =
    elim (told_is 1 3 refl cost other t) [
      | inl by ↦ let c : cost ≡ 17 = by.0 in omega (arith, c)
      | inr by ↦ let c : cost ≡ 101 = by.0 in omega (arith, c)
    ]

at_17 : (other : Way) → IsAdvertised said_b summaries_root beyond 17 other → border_way ≡ other
at_17 other t =
    elim (told_is 1 3 refl 17 other t) [
      | inl by ↦ by.1
      | inr by ↦ absurd (let c : 17 ≡ 101 = by.0 in omega (arith, c))
    ]

to_beyond : IsBoundaryWay said_b summaries_root beyond beyond_way
to_beyond =
    Outside (none_beyond 1 3 refl)
    (record {
      border = border_way;
      advertised = told_beyond;
      least = λ cost other t. no_nearer cost other t;
      hops = λ i. (
        (λ t. (border_way, told_beyond, t)),
        (λ h. subst (λ (w : Way). IsTrue (has_interface w.hops i)) (sym (at_17 h.0 h.1)) h.2),
      );
    })

beyond_1_counts : CountsAsExternal said_b summaries_root (ipv4 203 0 113 0) beyond
    (external Type1 20 0 0) 24
beyond_1_counts = counts_24 (told_entries 1 3) summaries_root (ipv4 203 0 113 0) beyond
    (external Type1 20 0 0) refl (omega arith) (λ e. omega (arith, e)) refl

beyond_2_counts : CountsAsExternal said_b summaries_root (ipv4 203 0 114 0) beyond
    (external Type2 20 0 0) 24
beyond_2_counts = counts_24 (told_entries 1 3) summaries_root (ipv4 203 0 114 0) beyond
    (external Type2 20 0 0) refl (omega arith) (λ e. omega (arith, e)) refl

abbrev offers : List Offer
offers = of_summary ∷ of_beyond_1 ∷ of_beyond_2 ∷ of_distant ∷ []

complete : (o : Offer) → Offers said_b summaries_root o → Contains offers o
complete o (Within x) = absurd (no_within 1 3 refl o x)
complete o (Between x) = (0, omega arith, (between_is 1 3 refl o x).0)
complete o (External x) =
    each_of_three 1 3 refl (λ y. Contains offers y)
    (λ y g. (
      1,
      omega arith,
      only_directly said_b summaries_root (ipv4 203 0 113 0) beyond (external Type1 20 0 0) 24
          beyond_1_counts refl beyond_way to_beyond y g,
    ))
    (λ y g. (
      2,
      omega arith,
      only_directly said_b summaries_root (ipv4 203 0 114 0) beyond (external Type2 20 0 0) 24
          beyond_2_counts refl beyond_way to_beyond y g,
    ))
    (λ y g. (3, omega arith, only_distant_offer 1 3 refl y g)) o x

summary_offered : Offers said_b summaries_root of_summary
summary_offered = Between (record {
  id = ipv4 198 51 100 0;
  originator = border;
  lsa = summary 5;
  its = says (told_entries 1 3) (key 3 (ipv4 198 51 100 0) border) (body.NetworkSummary (summary 5))
      refl;
  border = border_way;
  counts = counts_5;
  prefix = network_24 198 51 100;
  is_prefix = (omega arith, refl, refl);
  is = refl;
})

each_offered : AllByRecursion (λ (o : Offer). Offers said_b summaries_root o) offers
each_offered = (
  summary_offered,
  (
    External (offered_directly said_b summaries_root (ipv4 203 0 113 0) beyond
        (external Type1 20 0 0) 24 beyond_1_counts refl beyond_way to_beyond),
    (
      External (offered_directly said_b summaries_root (ipv4 203 0 114 0) beyond
          (external Type2 20 0 0) 24 beyond_2_counts refl beyond_way to_beyond),
      (distant_offered 1 3 refl, tt),
    ),
  ),
)

pub worked : WorkedSummaries
worked = record {
  with_b = candidates_of said_b summaries_root offers
      (in_order (λ (o : Offer). o.prefix) offers refl)
      (one_of (λ (o : Offer). Offers said_b summaries_root o) offers each_offered) complete;
  without_b = without;
}
