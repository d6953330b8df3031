-- What AS-external-LSAs advertise about external destinations, apart from their keys.
use Rattle.std.proofs.Common.{◌≡◌, ◌≢◌, ℕ, ◌+◌, ◌<◌, ◌≤◌, ◌⊎◌, inl, inr, List, [], ◌∷◌, ◌++◌}
use Rattle.std.proofs.Common.{length, get_or, take, Option, Some, None, refl, sym, ◌∙◌, ap, subst}
use Rattle.std.specs.List.{Contains}
use Rattle.std.proofs.lemmas.List.{take_all, take_more}
use Rattle.std.proofs.lemmas.List.Elements.{Contains-append_left, Contains-push}
use Rattle.std.proofs.lemmas.List.Elements.{Contains-push_cases}
use Rattle.words.specs.Prefixes.{Network}
use Rattle.words.specs.declared.key.Key.{Key}
use Rattle.words.specs.declared.route.ExternalType.{ExternalType}
use Rattle.words.specs.declared.route.ExternalType.TheVariants.{Type1, Type2}
use Rattle.words.specs.declared.route.Route.{Route}
use Rattle.words.specs.declared.route.RouteKind.TheVariants.{External1, External2}
use Rattle.lsa.specs.declared.body.LsaBody.{LsaBody}
use Rattle.lsa.specs.declared.body.LsaBody.TheVariants as body
use Rattle.lsa.specs.declared.body.ExternalLsa.{ExternalLsa}
use Rattle.routes.specs.Candidates.{external_offer}
use Rattle.routes.specs.Offers.{IsPrefix}
use Rattle.routes.specs.Paths.{Way as WalkWay}
use Rattle.routes.specs.declared.graph.Way.{Way}
use Rattle.routes.specs.declared.offer.Offer.{Offer}
use Rattle.routes.specs.declared.root.Root.{Root}
use Rattle.candidates.specs.Borders.{IsOutwardBy}
use Rattle.candidates.specs.Externals.{AreAdvertisedBy, OfExternalAdvertisement, TellsExternal}
use Rattle.candidates.specs.Externals.{offer_by}
use Rattle.candidates.specs.Gathering.{IsOnly}
use Rattle.candidates.specs.Sources.{OfExternal}
use Rattle.candidates.specs.declared.externals.ExternalAdvertisement.{ExternalAdvertisement}
use Rattle.candidates.specs.declared.flagged.Flagged.{Flagged}

-- ---- what one LSA advertises

module _ (one : Key × LsaBody) (lsa : ExternalLsa) (its : one.1 ≡ body.External lsa) where
  pub no_network : IsOnly (IsPrefix one.0.link_state_id lsa.mask) None
      → IsOnly (TellsExternal one) None
  no_network none = λ e k.
      let bodies : body.External k.lsa ≡ body.External lsa = sym k.its ∙ its in
      let same : k.lsa ≡ lsa = cc in
      none e.prefix (subst (λ (l : ExternalLsa). IsPrefix one.0.link_state_id l.mask e.prefix) same
      k.is_prefix)

  pub tells : (made : ExternalAdvertisement) → one.0.ls_type ≡ 5
      → IsOnly (IsPrefix one.0.link_state_id lsa.mask) (Some made.prefix)
      → made.originator ≡ one.0.advertising_router → made.kind ≡ lsa.kind
      → made.metric ≡ lsa.metric → made.forwarding ≡ lsa.forwarding → made.tag ≡ lsa.tag
      → IsOnly (TellsExternal one) (Some made)
  tells made is_type under by kind metric forwarding tag = λ e. (
    λ k.
        let bodies : body.External k.lsa ≡ body.External lsa = sym k.its ∙ its in
        let same : k.lsa ≡ lsa = cc in
        let p : e.prefix ≡ made.prefix =
        (under e.prefix).0 (subst (λ (l : ExternalLsa). IsPrefix one.0.link_state_id l.mask
        e.prefix) same k.is_prefix) in
        let b : e.originator ≡ made.originator = k.originator ∙ sym by in
        let t : e.kind ≡ made.kind = k.kind ∙ ap (λ (l : ExternalLsa). l.kind) same ∙ sym kind in
        let m : e.metric ≡ made.metric =
        k.metric ∙ ap (λ (l : ExternalLsa). l.metric) same ∙ sym metric in
        let f : e.forwarding ≡ made.forwarding =
        k.forwarding ∙ ap (λ (l : ExternalLsa). l.forwarding) same ∙ sym forwarding in
        let g : e.tag ≡ made.tag = k.tag ∙ ap (λ (l : ExternalLsa). l.tag) same ∙ sym tag in
        λ i. record {
          prefix = p i;
          originator = b i;
          kind = t i;
          metric = m i;
          forwarding = f i;
          tag = g i;
        },
    λ e_is. subst (TellsExternal one) (sym e_is) (record {
      is_type = is_type;
      lsa = lsa;
      its = its;
      is_prefix = (under made.prefix).1 refl;
      originator = by;
      kind = kind;
      metric = metric;
      forwarding = forwarding;
      tag = tag;
    }),
  )

-- ---- its offer

alike : (t : ExternalType) (p : Network) (a b : ExternalLsa) (by : ℕ) (w : WalkWay)
    → a.metric ≡ b.metric → a.tag ≡ b.tag → external_offer t p a by w ≡ external_offer t p b by w
alike Type1 p a b by w m g = λ i. record {
  prefix = p;
  kind = External1;
  cost = w.distance + m i;
  distance = 0;
  hops = w.hops;
  tag = g i;
  originator = by;
}
alike Type2 p a b by w m g = λ i. record {
  prefix = p;
  kind = External2;
  cost = m i;
  distance = w.distance;
  hops = w.hops;
  tag = g i;
  originator = by;
}

abbrev lsa_by : ExternalAdvertisement → ExternalLsa
lsa_by e = record {
  mask = 0;
  kind = e.kind;
  metric = e.metric;
  forwarding = e.forwarding;
  tag = e.tag;
  tos = [];
}

abbrev walk_way : Way → WalkWay
walk_way w = record { distance = w.distance; hops = w.hops }

module _ (root : Root) (routers : List Flagged) (advertised inner : List Route) where
  module _ (e : ExternalAdvertisement) where
    pub no_way_out : IsOnly (IsOutwardBy routers advertised inner e.originator e.forwarding) None
        → IsOnly (OfExternalAdvertisement root routers advertised inner e) None
    no_way_out none = λ o k. none k.way k.is_way

    pub offered_by : (way : Way) (made : Offer) → e.metric < 16777215 → e.originator ≢ root.router
        → IsOnly (IsOutwardBy routers advertised inner e.originator e.forwarding) (Some way)
        → made ≡ offer_by e way → IsOnly
        (OfExternalAdvertisement root routers advertised inner e) (Some made)
    offered_by way made low other just is = λ o. (
      λ k. let w : k.way ≡ way = (just k.way).0 k.is_way in
          k.is ∙ ap (λ (x : Way). offer_by e x) w ∙ sym is,
      λ same. record {
        reachable = low;
        of_another = other;
        way = way;
        is_way = (just way).1 refl;
        is = same ∙ is;
      },
    )

  module _ (one : Key × LsaBody) where
    pub told_of : (o : Offer) → OfExternal root routers advertised inner one o
        → (e : ExternalAdvertisement) × TellsExternal one e
        × OfExternalAdvertisement root routers advertised inner e o
    told_of o k =
        let e : ExternalAdvertisement = record {
          prefix = k.prefix;
          originator = one.0.advertising_router;
          kind = k.lsa.kind;
          metric = k.lsa.metric;
          forwarding = k.lsa.forwarding;
          tag = k.lsa.tag;
        } in (
          e,
          record {
            is_type = k.is_type;
            lsa = k.lsa;
            its = k.its;
            is_prefix = k.is_prefix;
            originator = refl;
            kind = refl;
            metric = refl;
            forwarding = refl;
            tag = refl;
          },
          record {
            reachable = k.reachable;
            of_another = k.of_another;
            way = k.way;
            is_way = k.is_way;
            is = k.is ∙ alike k.lsa.kind k.prefix k.lsa (lsa_by e) one.0.advertising_router
                (walk_way k.way) refl refl;
          },
        )

    pub of_told_one : (e : ExternalAdvertisement) → TellsExternal one e → (o : Offer)
        → OfExternalAdvertisement root routers advertised inner e o
        → OfExternal root routers advertised inner one o
    of_told_one e t o k =
        let by = one.0.advertising_router in
        let named : offer_by e k.way ≡ external_offer t.lsa.kind e.prefix (lsa_by e) by
        (walk_way k.way) = λ i. external_offer (t.kind i) e.prefix (lsa_by e) (t.originator i)
        (walk_way k.way) in
        let IsOut : ℕ → ℕ → Type 0 = λ originator forwarding. IsOutwardBy routers advertised inner
        originator forwarding k.way in
        record {
          is_type = t.is_type;
          lsa = t.lsa;
          its = t.its;
          reachable = subst (λ m. m < 16777215) t.metric k.reachable;
          of_another = λ same. k.of_another (t.originator ∙ same);
          prefix = e.prefix;
          is_prefix = t.is_prefix;
          way = k.way;
          is_way = subst (λ f. IsOut by f) t.forwarding
              (subst (λ b. IsOut b e.forwarding) t.originator k.is_way);
          is = k.is ∙ named ∙ alike t.lsa.kind e.prefix (lsa_by e) t.lsa by (walk_way k.way)
              t.metric t.tag;
        }

    pub by_none_told : IsOnly (TellsExternal one) None
        → IsOnly (OfExternal root routers advertised inner one) None
    by_none_told none = λ o k. let t = told_of o k in none t.0 t.1

    pub by_told : (e : ExternalAdvertisement) → IsOnly (TellsExternal one) (Some e)
        → (given : Option Offer) → IsOnly (OfExternalAdvertisement root routers advertised inner e)
        given → IsOnly (OfExternal root routers advertised inner one) given
    by_told e just None none = λ o k.
        let t = told_of o k in
        none o (subst (λ (x : ExternalAdvertisement). OfExternalAdvertisement root routers
        advertised inner x
        o)
        ((just t.0).0 t.1) t.2)
    by_told e just (Some it) its = λ o. (
      λ k. let t = told_of o k in (its o).0
          (subst (λ (x : ExternalAdvertisement). OfExternalAdvertisement root routers advertised
          inner x o)
          ((just t.0).0 t.1) t.2),
      λ same. of_told_one e ((just e).1 refl) o ((its o).1 same),
    )

-- ---- what LSAs advertise one after another

abbrev IsTold : List (Key × LsaBody) → ExternalAdvertisement → Type 0
IsTold bodies e = (one : Key × LsaBody) × Contains bodies one × TellsExternal one e

pub all_told : (bodies : List (Key × LsaBody)) (i : ℕ) (advertised : List ExternalAdvertisement)
    → length bodies ≤ i → AreAdvertisedBy (take i bodies) advertised
    → AreAdvertisedBy bodies advertised
all_told bodies i advertised past are = let P : List (Key × LsaBody) → Type 0 =
    λ xs. AreAdvertisedBy xs advertised in
    subst P (take_all i bodies past) are

module _ (bodies : List (Key × LsaBody)) (i : ℕ) (one : Key × LsaBody)
    (is : one ≡ get_or bodies i one)
    (lt : i < length bodies) (advertised : List ExternalAdvertisement)
    (are : AreAdvertisedBy (take i bodies) advertised) where
  split : take (i + 1) bodies ≡ take i bodies ++ one ∷ []
  split = take_more bodies i one lt ∙ ap (λ (y : Key × LsaBody). take i bodies ++ y ∷ []) (sym is)

  still : (e : ExternalAdvertisement) → IsTold (take i bodies) e → IsTold (take (i + 1) bodies) e
  still e p = (
    p.0,
    subst (λ xs. Contains xs p.0) (sym split)
        (Contains-append_left (take i bodies) (one ∷ []) p.0 p.1),
    p.2,
  )

  here : (e : ExternalAdvertisement) → TellsExternal one e → IsTold (take (i + 1) bodies) e
  here e q = (one, subst (λ xs. Contains xs one) (sym split) (Contains-push (take i bodies) one), q)

  either : (e : ExternalAdvertisement) → IsTold (take (i + 1) bodies) e
      → IsTold (take i bodies) e ⊎ TellsExternal one e
  either e p =
      elim (Contains-push_cases (take i bodies) one p.0 (subst (λ xs. Contains xs p.0) split p.1)) [
        | inl old ↦ inl (p.0, old, p.2)
        | inr same ↦ inr (subst (λ (y : Key × LsaBody). TellsExternal y e) (sym same) p.2)
      ]

  pub told_same : IsOnly (TellsExternal one) None → AreAdvertisedBy (take (i + 1) bodies) advertised
  told_same none e = (
    (λ t. still e ((are e).0 t)),
    (λ p.
        elim (either e p) [
          | inl old ↦ (are e).1 old
          | inr q ↦ absurd (none e q)
        ]),
  )

  pub told_more : (new : ExternalAdvertisement) → IsOnly (TellsExternal one) (Some new)
      → AreAdvertisedBy (take (i + 1) bodies) (advertised ++ new ∷ [])
  told_more new just e = (
    (λ t.
        elim (Contains-push_cases advertised new e t) [
          | inl old ↦ still e ((are e).0 old)
          | inr same ↦ here e ((just e).1 (sym same))
        ]),
    (λ p.
        elim (either e p) [
          | inl old ↦ Contains-append_left advertised (new ∷ []) e ((are e).1 old)
          | inr q ↦ subst (Contains (advertised ++ new ∷ [])) (sym ((just e).0 q))
              (Contains-push advertised new)
        ]),
  )
