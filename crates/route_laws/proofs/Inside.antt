-- Intra-area routes among those that may lead to a forwarding address, and as candidates: if
-- nothing is offered between areas, they are the same.
use Rattle.std.proofs.Common.{◌≡◌, ℕ, ◌<◌, ◌≤◌, ◌⊎◌, inl, inr, List, [], ◌∷◌, arith, refl, sym, ◌∙◌}
use Rattle.std.proofs.Common.{ap, subst}
use Rattle.std.specs.List.{Contains}
use Rattle.std.proofs.lemmas.Bool.{cases_eq, cases_lt}
use Rattle.words.specs.Prefixes.{IsUnder, Network, network_address}
use Rattle.words.specs.declared.route.Route.{Route}
use Rattle.words.specs.declared.route.RouteKind.{RouteKind}
use Rattle.words.specs.declared.route.RouteKind.TheVariants.{External1, External2, Inter, Intra}
use Rattle.routes.proofs.Determined.{same_kind}
use Rattle.routes.proofs.Lists.{first_is, later_is, of_cons, of_empty}
use Rattle.routes.specs.Candidates.{IsBest, IsCandidate, Offers, OffersExternal}
use Rattle.routes.specs.Candidates.Offers.{Between, External, Within}
use Rattle.routes.specs.Routes.{IsBestAmong, IsNoWorse, IsRouteAmong, rank}
use Rattle.routes.specs.Routes.IsNoWorse.{ByKind}
use Rattle.routes.specs.Contents.{Contents}
use Rattle.routes.specs.Summaries.{OffersBetween, OffersInside}
use Rattle.routes.specs.declared.offer.Offer.{Offer}
use Rattle.routes.specs.declared.root.Root.{Root}
use Rattle.candidates.proofs.CheapestWalks.{external_rank, no_worse_kind}

pub within_or_not : (k : RouteKind) → (k ≡ Intra) ⊎ (k ≡ Intra → ⊥)
within_or_not Intra = inl refl
within_or_not Inter = inr (λ e. cc)
within_or_not External1 = inr (λ e. cc)
within_or_not External2 = inr (λ e. cc)

module _ (contents : Contents) (root : Root)
    (none : (o : Offer) → OffersBetween contents root o → ⊥) where
  abbrev Inside : Offer → Type 0
  Inside o = OffersInside contents root o

  lifted : (o : Offer) → Inside o → Offers contents root o
  lifted o (inl x) = Within x
  lifted o (inr x) = Between x

  inside_rank : (o : Offer) → Inside o → rank o.kind ≡ 0
  inside_rank o (inl x) = ap (λ (y : Offer). rank y.kind) x.is
  inside_rank o (inr x) = absurd (none o x)

  outside_rank : (o : Offer) → OffersExternal contents root o → 0 < rank o.kind
  outside_rank o x =
      let P : Offer → Type 0 = λ y. 1 ≤ rank y.kind in
      let some : 1 ≤ rank o.kind = subst P (sym x.is)
      (external_rank x.lsa.kind x.prefix x.lsa x.originator x.way) in
      omega (arith, some)

  lowered : (o : Offer) → Offers contents root o → rank o.kind ≡ 0 → Inside o
  lowered o (Within x) e = inl x
  lowered o (Between x) e = inr x
  lowered o (External x) e = absurd (let away = outside_rank o x in omega (arith, away, e))

  best_of_all : (prefix : Network) (o : Offer) → IsBestAmong Inside prefix o
      → IsBest contents root prefix o
  best_of_all prefix o k = record {
    offered = lifted o k.offered;
    is_for = k.is_for;
    best = λ other given e. against other given e;
  }
    where
      against : (other : Offer) → Offers contents root other → other.prefix ≡ prefix
          → IsNoWorse o other
      against other (Within x) e = k.best other (inl x) e
      against other (Between x) e = k.best other (inr x) e
      against other (External x) e = ByKind
          (let away = outside_rank other x in let here = inside_rank o k.offered in
          omega (arith, away, here))

  best_inside : (prefix : Network) (o : Offer) → IsBest contents root prefix o → rank o.kind ≡ 0
      → IsBestAmong Inside prefix o
  best_inside prefix o k e = record {
    offered = lowered o k.offered e;
    is_for = k.is_for;
    best = λ other given same. k.best other (lifted other given) same;
  }

  -- each best offer has the same kind
  also_inside : (prefix : Network) (first other : Offer) → IsBest contents root prefix first
      → rank first.kind ≡ 0 → IsBest contents root prefix other → IsBestAmong Inside prefix other
  also_inside prefix first other k e best =
      let low = no_worse_kind other first (best.best first k.offered k.is_for) in
      best_inside prefix other best (omega (arith, low, e))

  pub is_intra : (r : Route) → IsRouteAmong Inside r → r.kind ≡ Intra
  is_intra r k = same_kind r.kind Intra (ap rank k.kind ∙ inside_rank k.first k.is_best.offered)

  pub to_candidate : (r : Route) → IsRouteAmong Inside r → IsCandidate contents root r
  to_candidate r k =
      let e : rank k.first.kind ≡ 0 = inside_rank k.first k.is_best.offered in
      let best : IsBest contents root r.prefix k.first = best_of_all r.prefix k.first k.is_best in
      record {
        first = k.first;
        is_best = best;
        earliest = λ other its. k.earliest other (also_inside r.prefix k.first other best e its);
        kind = k.kind;
        cost = k.cost;
        distance = k.distance;
        tag = k.tag;
        hops = λ i. (
          (λ t. let h = (k.hops i).0 t in (h.0, best_of_all r.prefix h.0 h.1, h.2)),
          (λ h. (k.hops i).1 (h.0, also_inside r.prefix k.first h.0 best e h.1, h.2)),
        );
      }

  pub from_candidate : (r : Route) → IsCandidate contents root r → r.kind ≡ Intra
      → IsRouteAmong Inside r
  from_candidate r k intra =
      let e : rank k.first.kind ≡ 0 = ap rank (sym k.kind ∙ intra) in
      record {
        first = k.first;
        is_best = best_inside r.prefix k.first k.is_best e;
        earliest = λ other its. k.earliest other (best_of_all r.prefix other its);
        kind = k.kind;
        cost = k.cost;
        distance = k.distance;
        tag = k.tag;
        hops = λ i. (
          (λ t. let h = (k.hops i).0 t in
              (h.0, also_inside r.prefix k.first h.0 k.is_best e h.1, h.2)),
          (λ h. (k.hops i).1 (h.0, best_of_all r.prefix h.0 h.1, h.2)),
        );
      }

-- ---- the longest match of an address among intra-area routes

under_or_not : (address : ℕ) (n : Network) → IsUnder address n ⊎ (IsUnder address n → ⊥)
under_or_not address n = cases_eq (network_address n.length address) n.address

abbrev pub LeadsThere : ℕ → Route → Type 0
LeadsThere address r = (r.kind ≡ Intra) × IsUnder address r.prefix

leads_or_not : (address : ℕ) (r : Route) → LeadsThere address r ⊎ (LeadsThere address r → ⊥)
leads_or_not address r =
    elim (within_or_not r.kind) [
      | inr other ↦ inr (λ l. other l.0)
      | inl intra ↦
          elim (under_or_not address r.prefix) [
            | inl under ↦ inl (intra, under)
            | inr other ↦ inr (λ l. other l.1)
          ]
    ]

pub record LongestInside (routes : List Route) (address : ℕ) : Type 0 where
  pub route : Route
  pub among : Contains routes route
  pub leads : LeadsThere address route
  pub longest : (other : Route) → Contains routes other → LeadsThere address other
      → other.prefix.length ≤ route.prefix.length

search_for : (routes : List Route) (address : ℕ) → LongestInside routes address
    ⊎ ((r : Route) → Contains routes r → LeadsThere address r → ⊥)
search_for [] address = inr (λ r t l. of_empty r t)
search_for (r ∷ routes) address =
    elim (leads_or_not address r) [
      | inr never ↦
          elim (search_for routes address) [
            | inr none ↦ inr (λ other t l. elim (of_cons r routes other t) [
              | inl e ↦ (let P : Route → Type 0 = λ x. LeadsThere address x in
                  never (subst P (sym e) l))
              | inr later ↦ none other later l
            ])
            | inl found ↦ inl (record {
              route = found.route;
              among = later_is r routes found.route found.among;
              leads = found.leads;
              longest = λ other t l. elim (of_cons r routes other t) [
                | inl e ↦ absurd (let P : Route → Type 0 = λ x. LeadsThere address x in
                    never (subst P (sym e) l))
                | inr later ↦ found.longest other later l
              ];
            })
          ]
      | inl here ↦
          elim (search_for routes address) [
            | inr none ↦ inl (record {
              route = r;
              among = first_is r routes;
              leads = here;
              longest = λ other t l. elim (of_cons r routes other t) [
                | inl e ↦ omega (arith, ap (λ (x : Route). x.prefix.length) e)
                | inr later ↦ absurd (none other later l)
              ];
            })
            | inl found ↦ inl (longer here found)
          ]
    ]
  where
    longer : LeadsThere address r → LongestInside routes address
        → LongestInside (r ∷ routes) address
    longer here found =
        elim (cases_lt found.route.prefix.length r.prefix.length) [
          | inl less ↦ record {
            route = r;
            among = first_is r routes;
            leads = here;
            longest = λ other t l. elim (of_cons r routes other t) [
              | inl e ↦ omega (arith, ap (λ (x : Route). x.prefix.length) e)
              | inr later ↦ (let low : other.prefix.length ≤ found.route.prefix.length =
                  found.longest other later l in omega (arith, low, less))
            ];
          }
          | inr more ↦ record {
            route = found.route;
            among = later_is r routes found.route found.among;
            leads = found.leads;
            longest = λ other t l. elim (of_cons r routes other t) [
              | inl e ↦ omega (arith, ap (λ (x : Route). x.prefix.length) e, more)
              | inr later ↦ found.longest other later l
            ];
          }
        ]

pub longest_inside : (routes : List Route) (address : ℕ) (one : Route) → Contains routes one
    → LeadsThere address one → LongestInside routes address
longest_inside routes address one t l =
    elim (search_for routes address) [
      | inl found ↦ found
      | inr none ↦ absurd (none one t l)
    ]
