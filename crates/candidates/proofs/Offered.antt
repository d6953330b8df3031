-- Every prefix that is offered has a candidate: one of its offers comes first, and their hops are a
-- set.
use Rattle.std.proofs.Common.{◌≡◌, ℕ, zero, suc, ◌+◌, ◌<◌, ◌≤◌, ◌⊎◌, inl, inr, IsTrue, List, []}
use Rattle.std.proofs.Common.{◌∷◌, length, get_or, arith, refl, sym, ◌∙◌, ap, subst}
use Rattle.std.specs.Int.{bit_at}
use Rattle.std.specs.List.{Contains}
use Rattle.std.proofs.lemmas.Bool.{cases_eq, cases_lt}
use Rattle.std.proofs.lemmas.Nat.Bits.{bit_at_above}
use Rattle.words.specs.Interfaces.{has_interface}
use Rattle.words.specs.Prefixes.{Network}
use Rattle.words.specs.declared.route.ExternalType.{ExternalType}
use Rattle.words.specs.declared.route.ExternalType.TheVariants.{Type1, Type2}
use Rattle.words.specs.declared.route.Route.{Route}
use Rattle.lsa.specs.declared.body.ExternalLsa.{ExternalLsa}
use Rattle.routes.specs.Candidates.{IsBest, IsCandidate, Offers, OffersExternal, external_offer}
use Rattle.routes.specs.Routes.IsNoLater.{ByOriginator, ByTag}
use Rattle.routes.specs.Candidates.Offers.{Between, External, Within}
use Rattle.candidates.specs.Laws.{EveryOfferHasACandidate}
use Rattle.routes.specs.Links.{Leads}
use Rattle.routes.specs.declared.node.Node.{Node}
use Rattle.routes.specs.declared.node.Node.TheVariants.{ARouter}
use Rattle.routes.specs.Offers.{OffersWithin}
use Rattle.routes.specs.declared.offer.Offer.{Offer}
use Rattle.routes.specs.Routes.IsNoWorse.{ByCost, ByDistance, ByKind}
use Rattle.routes.specs.Paths.{IsWay, Way}
use Rattle.routes.specs.declared.root.Root.{Root}
use Rattle.routes.proofs.Determined.{bit_of_member}
use Rattle.candidates.proofs.LeastWalks.{Chosen, chosen}
use Rattle.candidates.proofs.CheapestWalks as reached
use Rattle.routes.specs.Contents.{Contents}
use Rattle.routes.specs.Routes.{IsForwarded, IsNoLater, IsNoWorse, rank}
use Rattle.routes.specs.Summaries.IsBoundaryWay.{Inside, Outside}
use Rattle.routes.specs.Summaries.{IsBoundaryWay, OffersBetween, OffersInside}

-- of elements with a number, one has the least
least_by : {X : Type 0} (P : X → Type 0) (f : X → ℕ) (n : ℕ) (x : X) → P x → f x ≤ n
    → (((y : X) × P y × ((z : X) → P z → f y ≤ f z)) → ⊥) → ⊥
least_by P f zero x p within none = none (x, p, λ z q. omega (arith, within))
least_by P f (suc n) x p within none =
    none (
      x,
      p,
      λ z q.
          elim (cases_lt (f z) (f x)) [
            | inl less ↦ absurd (least_by P f n z q (omega (arith, less, within)) none)
            | inr more ↦ more
          ],
    )

-- ---- the best offer

module _ (P : Offer → Type 0) where
  record Best1 (o : Offer) : Type 0 where
    has : P o
    kind : (z : Offer) → P z → rank o.kind ≤ rank z.kind

  record Best2 (o : Offer) : Type 0 where
    has : Best1 o
    cost : (z : Offer) → Best1 z → o.cost ≤ z.cost

  record Best3 (o : Offer) : Type 0 where
    has : Best2 o
    distance : (z : Offer) → Best2 z → o.distance ≤ z.distance

  as_kind : (o z : Offer) → Best1 o → P z → rank o.kind ≡ rank z.kind → Best1 z
  as_kind o z b p e = record { has = p; kind = λ y q. omega (arith, e, b.kind y q) }

  as_cost : (o z : Offer) → Best2 o → Best1 z → o.cost ≡ z.cost → Best2 z
  as_cost o z b p e = record { has = p; cost = λ y q. omega (arith, e, b.cost y q) }

  no_worse : (o : Offer) → Best3 o → (z : Offer) → P z → IsNoWorse o z
  no_worse o b z p =
      elim (cases_lt (rank o.kind) (rank z.kind)) [
        | inl less ↦ ByKind (omega (arith, less))
        | inr past ↦
            let kind : rank o.kind ≡ rank z.kind = omega (arith, past, b.has.has.kind z p) in
            let one : Best1 z = as_kind o z b.has.has p kind in
            elim (cases_lt o.cost z.cost) [
              | inl less ↦ ByCost kind (omega (arith, less))
              | inr over ↦
                  let cost : o.cost ≡ z.cost = omega (arith, over, b.has.cost z one) in
                  ByDistance kind cost (b.distance z (as_cost o z b.has one cost))
            ]
      ]

  best : (x : Offer) → P x → (((o : Offer) × Best3 o) → ⊥) → ⊥
  best x p none =
      least_by P (λ o. rank o.kind) (rank x.kind) x p (omega arith) (λ a.
      let one : Best1 a.0 = record { has = a.1; kind = a.2 } in
      least_by Best1 (λ o. o.cost) a.0.cost a.0 one (omega arith) (λ b.
      let two : Best2 b.0 = record { has = b.1; cost = b.2 } in
      least_by Best2 (λ o. o.distance) b.0.distance b.0 two (omega arith) (λ c. none (
        c.0,
        record {
          has = c.1;
          distance = c.2;
        },
      ))))

  record First1 (o : Offer) : Type 0 where
    has : P o
    originator : (z : Offer) → P z → o.originator ≤ z.originator

  record First2 (o : Offer) : Type 0 where
    has : First1 o
    tag : (z : Offer) → First1 z → o.tag ≤ z.tag

  no_later : (o : Offer) → First2 o → (z : Offer) → P z → IsNoLater o z
  no_later o f z p =
      elim (cases_lt o.originator z.originator) [
        | inl less ↦ ByOriginator (omega (arith, less))
        | inr past ↦
            let same : o.originator ≡ z.originator = omega (arith, past, f.has.originator z p) in
            ByTag same (f.tag z (record {
              has = p;
              originator = λ y q. omega (arith, same, f.has.originator y q);
            }))
      ]

  first : (x : Offer) → P x → (((o : Offer) × First2 o) → ⊥) → ⊥
  first x p none =
      least_by P (λ o. o.originator) x.originator x p (omega arith) (λ a.
      let one : First1 a.0 = record { has = a.1; originator = a.2 } in
      least_by First1 (λ o. o.tag) a.0.tag a.0 one (omega arith) (λ b. none (
        b.0,
        record {
          has = b.1;
          tag = b.2;
        },
      )))

-- ---- the hops are interfaces of the root

external_hops : (t : ExternalType) (prefix : Network) (lsa : ExternalLsa) (originator : ℕ)
    (way : Way) → (external_offer t prefix lsa originator way).hops ≡ way.hops
external_hops Type1 prefix lsa originator way = refl
external_hops Type2 prefix lsa originator way = refl

module _ (contents : Contents) (root : Root) where
  abbrev limit : ℕ
  limit = length root.addresses + 1

  of_way : (node : Node) (w : Way) → IsWay (Leads contents root) (ARouter root.router) node w
      → (i : ℕ)
      → IsTrue (has_interface w.hops i) → i < limit
  of_way node w is i t =
      let hop = (is.hops i).0 t in
      let low = (reached.counted contents root hop.0.target hop.0.cost hop.0.exit
      hop.2.is_walk.0).1 in
      omega (arith, low, hop.3)

  of_within : (o : Offer) → OffersWithin contents root o → (i : ℕ) → IsTrue (has_interface o.hops i)
      → i < limit
  of_within o x i t =
      let Has : ℕ → Type 0 = λ hops. IsTrue (has_interface hops i) in
      let has : Has x.hops = subst Has (ap (λ (y : Offer). y.hops) x.is) t in
      elim (reached.is_root contents root x.node) [
        | inl e ↦ omega (arith, reached.only_zero i (subst Has (x.by_root e) has))
        | inr other ↦ of_way x.node x.way x.reached i (subst Has (x.by_others other) has)
      ]

  of_between : (o : Offer) → OffersBetween contents root o → (i : ℕ) → IsTrue
      (has_interface o.hops i)
      → i < limit
  of_between o x i t =
      let Has : ℕ → Type 0 = λ hops. IsTrue (has_interface hops i) in
      of_way (ARouter x.originator) x.border x.counts.reaches.reached i
      (subst Has (ap (λ (y : Offer). y.hops) x.is) t)

  of_inside : (o : Offer) → OffersInside contents root o → (i : ℕ) → IsTrue (has_interface o.hops i)
      → i < limit
  of_inside o (inl x) i t = of_within o x i t
  of_inside o (inr x) i t = of_between o x i t

  of_boundary : (router : ℕ) (w : Way) → IsBoundaryWay contents root router w → (i : ℕ)
      → IsTrue (has_interface w.hops i) → i < limit
  of_boundary router w (Inside x) i t = of_way (ARouter router) w x.reached i t
  of_boundary router w (Outside none x) i t =
      let h = (x.hops i).0 t in
      of_way (ARouter h.1.originator) h.0 h.1.counts.reaches.reached i h.2

  of_forwarded : (address : ℕ) (w : Way) → IsForwarded (OffersInside contents root) address w
      → (i : ℕ)
      → IsTrue (has_interface w.hops i) → i < limit
  of_forwarded address w f i t =
      let Has : ℕ → Type 0 = λ hops. IsTrue (has_interface hops i) in
      let o = (f.is_route.hops i).0 (subst Has (ap (λ (x : Way). x.hops) f.is) t) in
      of_inside o.0 o.1.offered i o.2

  of_external : (o : Offer) → OffersExternal contents root o → (i : ℕ)
      → IsTrue (has_interface o.hops i)
      → i < limit
  of_external o x i t =
      let Has : ℕ → Type 0 = λ hops. IsTrue (has_interface hops i) in
      let has : Has x.way.hops = subst Has
      (ap (λ (y : Offer). y.hops) x.is
      ∙ external_hops x.lsa.kind x.prefix x.lsa x.originator x.way) t in
      elim (cases_eq x.lsa.forwarding 0) [
        | inl e ↦ of_boundary x.originator x.is_way.boundary x.is_way.reaches i
            (subst Has (ap (λ (y : Way). y.hops) (x.is_way.direct e)) has)
        | inr some ↦ of_forwarded x.lsa.forwarding x.way (x.is_way.forwarded some) i has
      ]

  of_offer : (o : Offer) → Offers contents root o → (i : ℕ) → IsTrue (has_interface o.hops i)
      → i < limit
  of_offer o (Within x) i t = of_within o x i t
  of_offer o (Between x) i t = of_between o x i t
  of_offer o (External x) i t = of_external o x i t

  -- ---- the candidate

  record IsFor (prefix : Network) (o : Offer) : Type 0 where
    offered : Offers contents root o
    is_for : o.prefix ≡ prefix

  is_best : (prefix : Network) (o : Offer) → Best3 (IsFor prefix) o → IsBest contents root prefix o
  is_best prefix o b = record {
    offered = b.has.has.has.offered;
    is_for = b.has.has.has.is_for;
    best = λ z x e. no_worse (IsFor prefix) o b z (record { offered = x; is_for = e });
  }

  abbrev HasHop : Network → ℕ → Type 0
  HasHop prefix i = (o : Offer) × IsBest contents root prefix o × IsTrue (has_interface o.hops i)

  made : (prefix : Network) (o : Offer) → First2 (IsBest contents root prefix) o
      → Chosen (HasHop prefix) limit → (r : Route) × IsCandidate contents root r
      × (r.prefix ≡ prefix)
  made prefix o f c = (
    record {
      prefix = prefix;
      kind = o.kind;
      cost = o.cost;
      distance = o.distance;
      hops = c.hops;
      tag = o.tag;
    },
    record {
      first = o;
      is_best = f.has.has;
      earliest = λ z b. no_later (IsBest contents root prefix) o f z b;
      kind = refl;
      cost = refl;
      distance = refl;
      tag = refl;
      hops = λ i.
          elim (cases_lt i limit) [
            | inl less ↦ c.members i less
            | inr past ↦ (
              λ t. absurd (let above : bit_at c.hops i ≡ 0 =
                  bit_at_above c.hops limit i c.below past in
                  omega (arith, above, bit_of_member c.hops i t)),
              λ q. absurd (let low : i < limit = of_offer q.0 q.1.offered i q.2 in
                  omega (arith, low, past)),
            )
          ];
    },
    refl,
  )

  candidate : (o : Offer) → Offers contents root o
      → (((r : Route) × IsCandidate contents root r × (r.prefix ≡ o.prefix)) → ⊥) → ⊥
  candidate o x none =
      best (IsFor o.prefix) o (record { offered = x; is_for = refl }) (λ b.
      first (IsBest contents root o.prefix) b.0 (is_best o.prefix b.0 b.1) (λ f.
      chosen (HasHop o.prefix) limit (λ c. none (made o.prefix f.0 f.1 c))))

-- ---- in a list

same_or_not : (a b : Network) → (a ≡ b) ⊎ ((a ≡ b) → ⊥)
same_or_not a b =
    elim (cases_eq a.address b.address) [
      | inr n ↦ inr (λ e. n (ap (λ (x : Network). x.address) e))
      | inl p ↦
          elim (cases_eq a.length b.length) [
            | inr n ↦ inr (λ e. n (ap (λ (x : Network). x.length) e))
            | inl q ↦ inl (λ i. record { address = p i; length = q i })
          ]
    ]

abbrev HasRoute : List Route → Network → Type 0
HasRoute routes prefix = (r : Route) × Contains routes r × (r.prefix ≡ prefix)

split_at : (x : Route) (xs : List Route) (y : Route) (k : ℕ) → k < length (x ∷ xs)
    → get_or (x ∷ xs) k y ≡ y → (y ≡ x) ⊎ Contains xs y
split_at x xs y zero lt e = inl (sym e)
split_at x xs y (suc k) lt e = inr (k, omega (arith, lt), e)

seek : (routes : List Route) (prefix : Network)
    → HasRoute routes prefix ⊎ (HasRoute routes prefix → ⊥)
seek [] prefix = inr (λ h. omega (arith, h.1.1))
seek (x ∷ xs) prefix =
    elim (same_or_not x.prefix prefix) [
      | inl e ↦ inl (x, (0, omega arith, refl), e)
      | inr n ↦
          elim (seek xs prefix) [
            | inl h ↦ inl (h.0, (suc h.1.0, omega (arith, h.1.1), h.1.2), h.2)
            | inr none ↦ inr (λ h.
                elim (split_at x xs h.0 h.1.0 h.1.1 h.1.2) [
                  | inl same ↦ n (sym (ap (λ (y : Route). y.prefix) same) ∙ h.2)
                  | inr left ↦ none (h.0, left, h.2)
                ])
          ]
    ]

pub every : EveryOfferHasACandidate
every contents root routes o are x =
    elim (seek routes o.prefix) [
      | inl h ↦ h
      | inr none ↦ absurd (candidate contents root o x (λ r. none (r.0, (are.each r.0).1 r.1, r.2)))
    ]
