-- The route of what is offered to one destination is the candidate for it.
use Rattle.std.proofs.Common.{◌≡◌, ℕ, suc, inl, inr, true, List, [], ◌∷◌, Option, Some, None}
use Rattle.std.proofs.Common.{is_some, arith, refl, sym, ap, subst, ◌∙◌}
use Rattle.std.specs.FinMap as finite
use Rattle.std.specs.List.{Contains}
use Rattle.std.specs.Prelude.{IfSome, slice_get}
use Rattle.std.proofs.lemmas.Option.{same_Some}
use Rattle.lsa.specs.declared.body.LsaBody.{LsaBody}
use Rattle.lsdb.specs.Copies.{Database, DatabaseCopy, contents_of}
use Rattle.words.specs.Prefixes.{Network}
use Rattle.words.specs.declared.key.Key.{Key}
use Rattle.words.specs.declared.route.Route.{Route}
use Rattle.routes.specs.Candidates.{IsCandidate, Offers}
use Rattle.routes.specs.Candidates.Offers.{Between, External, Within}
use Rattle.routes.specs.Routes.{AreRoutesAmong, IsBefore}
use Rattle.routes.specs.Contents.{Contents, contents_at}
use Rattle.routes.specs.Summaries.{OffersInside}
use Rattle.routes.specs.declared.offer.Offer.{Offer}
use Rattle.routes.specs.declared.root.Root.{Root}
use Rattle.routes.proofs.Lists.{first_is, of_cons, of_empty}
use Rattle.routes.proofs.OneMore.{never_itself, same_offers}
use Rattle.candidates.specs.Bodies.{OfContents}
use Rattle.candidates.specs.Gathering.{Adds, IsOnly, OfEach}
use Rattle.candidates.specs.Sources.{OfExternal}
use Rattle.candidates.proofs.Outward.{external_back, external_forth}
use Rattle.candidates.specs.declared.inner.InnerRoutes.{InnerRoutes}
use Rattle.kept_routes.specs.Destinations.{HaveAllUnder, IsBestTo, IsTo, Knows, LiesUnder}
use Rattle.kept_routes.specs.Destinations.{OffersTo, SaysTo}
use Rattle.kept_routes.proofs.ExternalsStaying.{its_prefix}

has_copy : (moment : ℕ) (copy : Option DatabaseCopy) (says : LsaBody)
    → contents_of moment copy ≡ Some says → is_some copy ≡ true
has_copy moment None says e = absurd (cc)
has_copy moment (Some copy) says e = refl

-- the Link State ID of an LSA with an offer to the destination is in the destination
pub lies : (root : Root) (inner : InnerRoutes) (prefix : Network) (one : Key × LsaBody) (o : Offer)
    → SaysTo root inner prefix one o → LiesUnder prefix one.0
lies root inner prefix one o (q, e) =
    let key = one.0 in
    let here : q.prefix ≡ prefix = sym
    (its_prefix q.lsa.kind q.prefix q.lsa key.advertising_router (record {
      distance = q.way.distance;
      hops = q.way.hops;
    })) ∙ sym (ap (λ (x : Offer). x.prefix) q.is) ∙ e in
    let Under : Network → Type 0 = λ n. LiesUnder n key in
    subst Under here (q.is_type, sym q.is_prefix.2)

-- the first of the routes, if all of them are for one prefix
only_one : (routes : List Route) (prefix : Network)
    → ((r : Route) → Contains routes r → r.prefix ≡ prefix) → (r : Route) → Contains routes r
    → ((k : Route) (later : List Route) → routes ≡ k ∷ later → Contains later r
    → IsBefore k.prefix r.prefix) → slice_get routes 0 ≡ Some r
only_one [] prefix all r among before = absurd (of_empty r among)
only_one (first ∷ rest) prefix all r among before =
    elim (of_cons first rest r among) [
      | inl here ↦ ap (λ (x : Route). Some x) here
      | inr later ↦ absurd (never_itself first.prefix r.prefix
          (all first (first_is first rest) ∙ sym (all r among)) (before first rest refl later))
    ]

first_among : (routes : List Route) (r : Route) → slice_get routes 0 ≡ Some r → Contains routes r
first_among [] r is = absurd (cc)
first_among (first ∷ rest) r is = let here : first ≡ r = cc in
    subst (Contains (first ∷ rest)) here (first_is first rest)

module _ (moment : ℕ) (db : Database) (root : Root) (inner : InnerRoutes) (prefix : Network)
    (knows : Knows (contents_at moment db) root inner) (keys : List Key)
    (have : HaveAllUnder db prefix keys) where
  abbrev contents : Contents
  contents = contents_at moment db

  module _ (first second : List Offer)
      (inside : Adds [] first (OfEach (IsTo prefix) inner.offers.items))
      (more : Adds first second (OfEach (OffersTo contents root inner prefix) keys)) where
    of_inner : (o : Offer) → OffersInside contents root o → Offers contents root o
    of_inner o (inl w) = Within w
    of_inner o (inr b) = Between b

    put : (o : Offer) → o.prefix ≡ prefix → OffersInside contents root o → Contains second o
    put o e k = (more o).1 (inl ((inside o).1 (inr (o, (knows.are_inner.offers o).1 k, (refl, e)))))

    from_inner : (o : Offer) → OfEach (IsTo prefix) inner.offers.items o
        → Offers contents root o × (o.prefix ≡ prefix)
    from_inner o (one, among, t) = (
      of_inner o
          (subst (OffersInside contents root) (sym t.0) ((knows.are_inner.offers one).0 among)),
      t.1,
    )

    from_external : (o : Offer) → OfEach (OffersTo contents root inner prefix) keys o
        → Offers contents root o × (o.prefix ≡ prefix)
    from_external o (key, among, k) = (
      External (external_forth contents root knows.ways knows.are_ways inner.flagged.items
          knows.are_inner.flagged inner.boundary_routes.items knows.are_inner.advertised
          inner.networks.items
          knows.are_inner.networks o ((key, k.says), k.its, k.offers.0)),
      k.offers.1,
    )

    forth : (o : Offer) → Contains second o → Offers contents root o × (o.prefix ≡ prefix)
    forth o t =
        elim ((more o).0 t) [
          | inl old ↦
              elim ((inside o).0 old) [
                | inl none ↦ absurd (of_empty o none)
                | inr p ↦ from_inner o p
              ]
          | inr p ↦ from_external o p
        ]

    put_external : (o : Offer) → o.prefix ≡ prefix
        → OfContents (OfExternal root inner.flagged.items inner.boundary_routes.items
        inner.networks.items)
        contents o → Contains second o
    put_external o e ((key, says), its, q) =
        let there : finite.contains_key db key ≡ true =
        has_copy moment (finite.get db key) says its in
        (more o).1 (inr (
          key,
          have key there (lies root inner prefix (key, says) o (q, e)),
          record {
            says = says;
            its = its;
            offers = (q, e);
          },
        ))

    back : (o : Offer) → Offers contents root o → o.prefix ≡ prefix → Contains second o
    back o (Within w) e = put o e (inl w)
    back o (Between b) e = put o e (inr b)
    back o (External k) e =
        put_external o e (external_back contents root knows.ways knows.are_ways inner.flagged.items
        knows.are_inner.flagged inner.boundary_routes.items knows.are_inner.advertised
        inner.networks.items
        knows.are_inner.networks o k)

    module _ (routes : List Route) (all : AreRoutesAmong (λ o. Contains second o) routes) where
      is_for : (r : Route) → Contains routes r → r.prefix ≡ prefix
      is_for r t = let k = (all.each r).0 t in
          sym k.is_best.is_for ∙ (forth k.first k.is_best.offered).1

      candidate : (r : Route) → Contains routes r → IsCandidate contents root r
      candidate r t = same_offers (λ o. Contains second o) (Offers contents root) r
          (λ o e p. (forth o p).0) (λ o e q. back o q (e ∙ is_for r t)) ((all.each r).0 t)

      listed : (r : Route) → IsCandidate contents root r → r.prefix ≡ prefix → Contains routes r
      listed r k e = (all.each r).1 (same_offers (Offers contents root) (λ o. Contains second o) r
          (λ o is q. back o q (is ∙ e)) (λ o is p. (forth o p).0) k)

      before : (r k : Route) (later : List Route) → routes ≡ k ∷ later → Contains later r
          → IsBefore k.prefix r.prefix
      before r k later is (i, inside_, at) =
          let up = subst (λ rs. AreRoutesAmong (λ o. Contains second o) rs) is all in
          subst (λ (x : Route). IsBefore k.prefix x.prefix) at
          (up.ascending 0 (suc i) r (omega arith) (omega (arith, inside_)))

      pub is_best : IsBestTo contents root prefix (slice_get routes 0)
      is_best r = (
        (λ e. let t = first_among routes r e in (candidate r t, is_for r t)),
        (λ p. only_one routes prefix is_for r (listed r p.0 p.1) (before r)),
      )

-- ---- of one LSA

-- the only offer of which Q holds, if P holds of the same ones
pub just_such : (P Q : Offer → Type 0) (o : Option Offer) → ((x : Offer) → P x → Q x)
    → ((x : Offer) → Q x → P x) → IsOnly Q o → IsOnly P o
just_such P Q None forth back none = λ x p. none x (forth x p)
just_such P Q (Some it) forth back just =
    λ x. ((λ p. (just x).0 (forth x p)), (λ e. back x ((just x).1 e)))

-- the offer, if it is to the destination
pub just_to : (P : Offer → Type 0) (prefix : Network) (offer : Offer) (o : Option Offer)
    → IsOnly P (Some offer) → IsOnly (IsTo prefix offer) o
    → IsOnly (λ x. P x × (x.prefix ≡ prefix)) o
just_to P prefix offer o just to =
    just_such (λ x. P x × (x.prefix ≡ prefix)) (IsTo prefix offer) o (λ x p. ((just x).0 p.0, p.1))
    (λ x t. ((just x).1 t.0, t.1)) to

pub just_its : (moment : ℕ) (db : Database) (root : Root) (inner : InnerRoutes) (prefix : Network)
    (key : Key) (says : LsaBody) (o : Option Offer) → contents_at moment db key ≡ Some says
    → IsOnly (SaysTo root inner prefix (key, says)) o
    → IsOnly (OffersTo (contents_at moment db) root inner prefix key) o
just_its moment db root inner prefix key says o is just =
    just_such (OffersTo (contents_at moment db) root inner prefix key)
    (SaysTo root inner prefix (key, says)) o
    (λ x k. let same : k.says ≡ says = same_Some k.says says (sym k.its ∙ is) in
    subst (λ (b : LsaBody). SaysTo root inner prefix (key, b) x) same k.offers)
    (λ x k. record { says = says; its = is; offers = k })
    just

-- the candidate is for the destination
pub best_is_for : (its : Contents) (root : Root) (prefix : Network) (best : Option Route)
    → IsBestTo its root prefix best → IfSome best (λ r. r.prefix ≡ prefix)
best_is_for its root prefix None is = tt
best_is_for its root prefix (Some r) is = ((is r).0 refl).1
