-- One more offer, in order, for the routes of those before it.
use Rattle.std.proofs.Common.{◌≡◌, ℕ, ◌<◌, ◌≤◌, ◌⊎◌, inl, inr, true, false, cond, nat_lt, nat_eq}
use Rattle.std.proofs.Common.{ltb-false, eqb-true, IsTrue, arith, refl, sym, ◌∙◌, ap, subst}
use Rattle.std.specs.Prelude.{bit_or}
use Rattle.std.specs.Cmp.{IsTotalOrder, nat_cmp_total}
use Rattle.std.specs.Ordering.{is_lt, nat_cmp, ordering_then}
use Rattle.std.specs.declared.cmp.Ordering.{Ordering}
use Rattle.std.specs.declared.cmp.Ordering.TheVariants.{Less, Equal, Greater}
use Rattle.std.proofs.lemmas.Cmp.{on_total, then_total}
use Rattle.std.proofs.lemmas.Bool.{eqb-false}
use Rattle.words.specs.Interfaces.{has_interface}
use Rattle.words.specs.Prefixes.{Network}
use Rattle.words.specs.declared.route.Route.{Route}
use Rattle.routes.specs.Best.{AsGood, cost_cmp, distance_cmp, joined_route, kind_cmp, offer_cmp}
use Rattle.routes.specs.Best.{originator_cmp, route_of, tag_cmp}
use Rattle.routes.specs.Routes.{IsBefore, IsBestAmong, IsNoLater, IsNoWorse, IsRouteAmong, rank}
use Rattle.routes.specs.Routes.IsBefore.{ByAddress, ByLength}
use Rattle.routes.specs.Routes.IsNoLater.{ByOriginator, ByTag}
use Rattle.routes.specs.Routes.IsNoWorse.{ByCost, ByDistance, ByKind}
use Rattle.routes.specs.declared.offer.Offer.{Offer}
use Rattle.routes.proofs.Covers.{or_left, or_right, or_split}
use Rattle.routes.proofs.Determined.{AreAlike, alike, as_good, bit_of_member, is_member, never_both}
use Rattle.routes.proofs.Determined.{same_kind}

-- ---- the order of offers

pub offers_total : IsTotalOrder offer_cmp
offers_total =
    then_total
    (then_total (on_total (λ (o : Offer). o.prefix.address) nat_cmp_total)
    (on_total (λ (o : Offer). o.prefix.length) nat_cmp_total))
    (then_total (on_total (λ (o : Offer). rank o.kind) nat_cmp_total)
    (then_total (on_total (λ (o : Offer). o.cost) nat_cmp_total)
    (then_total (on_total (λ (o : Offer). o.distance) nat_cmp_total)
    (then_total (on_total (λ (o : Offer). o.originator) nat_cmp_total)
    (then_total (on_total (λ (o : Offer). o.tag) nat_cmp_total)
    (on_total (λ (o : Offer). o.hops) nat_cmp_total))))))

-- not less by a number, then by something else
not_less : (a b : ℕ) (r : Ordering) → is_lt (ordering_then (nat_cmp a b) r) ≡ false
    → (b < a) ⊎ ((b ≡ a) × (is_lt r ≡ false))
not_less a b r e =
    elim (nat_lt a b) as (λ c. nat_lt a b ≡ c
    → is_lt (ordering_then (cond c Less (cond (nat_eq a b) Equal Greater)) r) ≡ false
    → (b < a) ⊎ ((b ≡ a) × (is_lt r ≡ false))) [
      | true ↦ λ t f. absurd (let g : true ≡ false = f in cc)
      | false ↦ λ t f.
          elim (nat_eq a b) as (λ d. nat_eq a b ≡ d
          → is_lt (ordering_then (cond d Equal Greater) r) ≡ false
          → (b < a) ⊎ ((b ≡ a) × (is_lt r ≡ false))) [
            | true ↦ λ u g. inr (sym (eqb-true a b u), g)
            | false ↦ λ u g. inl (let low : b ≤ a = ltb-false a b t in let other : a ≡ b → ⊥ =
                eqb-false a b u in omega (arith, low, other))
          ] refl f
    ] refl e

regroup : (a b c : Ordering) → ordering_then (ordering_then a b) c
    ≡ ordering_then a (ordering_then b c)
regroup Less b c = refl
regroup Equal b c = refl
regroup Greater b c = refl

-- before another offer in the order: for an earlier prefix, or for the same one, no worse, and no
-- later if equally good
pub data UpTo (o n : Offer) : Type 0 where
  Before : IsBefore o.prefix n.prefix → UpTo o n
  Same : o.prefix ≡ n.prefix → IsNoWorse o n → (AreAlike o n → IsNoLater o n) → UpTo o n

of_alike : (o n : Offer) → o.prefix ≡ n.prefix → rank o.kind ≡ rank n.kind → o.cost ≡ n.cost
    → o.distance ≡ n.distance → is_lt (originator_cmp n o) ≡ false → UpTo o n
of_alike o n p k c d e =
    elim (not_less n.originator o.originator (tag_cmp n o) e) [
      | inl less ↦ Same p (ByDistance k c (omega (arith, d))) (λ _. ByOriginator less)
      | inr more ↦
          elim (not_less n.tag o.tag (nat_cmp n.hops o.hops) more.1) [
            | inl less ↦ Same p (ByDistance k c (omega (arith, d)))
                (λ _. ByTag more.0 (omega (arith, less)))
            | inr same ↦ Same p (ByDistance k c (omega (arith, d)))
                (λ _. ByTag more.0 (omega (arith, same.0)))
          ]
    ]

of_prefix : (o n : Offer) → o.prefix ≡ n.prefix → is_lt (kind_cmp n o) ≡ false → UpTo o n
of_prefix o n p e =
    elim (not_less (rank n.kind) (rank o.kind) (cost_cmp n o) e) [
      | inl less ↦ Same p (ByKind (omega (arith, less))) (λ a. absurd (omega (arith, less, a.kind)))
      | inr k ↦
          elim (not_less n.cost o.cost (distance_cmp n o) k.1) [
            | inl less ↦ Same p (ByCost k.0 (omega (arith, less)))
                (λ a. absurd (omega (arith, less, a.cost)))
            | inr c ↦
                elim (not_less n.distance o.distance (originator_cmp n o) c.1) [
                  | inl less ↦ Same p (ByDistance k.0 c.0 (omega (arith, less)))
                      (λ a. absurd (omega (arith, less, a.distance)))
                  | inr d ↦ of_alike o n p k.0 c.0 d.0 d.1
                ]
          ]
    ]

pub up_to : (o n : Offer) → is_lt (offer_cmp n o) ≡ false → UpTo o n
up_to o n e =
    let lengths : Ordering = nat_cmp n.prefix.length o.prefix.length in
    let P : Ordering → Type 0 = λ r. is_lt r ≡ false in
    let flat : is_lt (ordering_then (nat_cmp n.prefix.address o.prefix.address)
    (ordering_then (nat_cmp n.prefix.length o.prefix.length) (kind_cmp n o))) ≡ false =
    subst P (regroup (nat_cmp n.prefix.address o.prefix.address)
    (nat_cmp n.prefix.length o.prefix.length) (kind_cmp n o)) e in
    elim (not_less n.prefix.address o.prefix.address
    (ordering_then (nat_cmp n.prefix.length o.prefix.length) (kind_cmp n o)) flat) [
      | inl less ↦ Before (ByAddress less)
      | inr a ↦
          elim (not_less n.prefix.length o.prefix.length (kind_cmp n o) a.1) [
            | inl less ↦ Before (ByLength a.0 less)
            | inr l ↦ of_prefix o n (λ i. record { address = a.0 i; length = l.0 i }) l.1
          ]
    ]

-- ---- one more offer

pub no_worse_itself : (o : Offer) → IsNoWorse o o
no_worse_itself o = ByDistance refl refl (omega arith)

pub never_itself : (a b : Network) → a ≡ b → IsBefore a b → ⊥
never_itself a b e p = let P : Network → Type 0 = λ x. IsBefore x b in let self : IsBefore b b =
    subst P e p in never_both b b self self

-- a route depends on the offers for its prefix alone
pub same_offers : (P Q : Offer → Type 0) (r : Route)
    → ((o : Offer) → o.prefix ≡ r.prefix → P o → Q o)
    → ((o : Offer) → o.prefix ≡ r.prefix → Q o → P o) → IsRouteAmong P r → IsRouteAmong Q r
same_offers P Q r forth back k =
    let over : (o : Offer) → IsBestAmong P r.prefix o → IsBestAmong Q r.prefix o =
    λ o b. record {
      offered = forth o b.is_for b.offered;
      is_for = b.is_for;
      best = λ x q e. b.best x (back x e q) e;
    } in
    let under : (o : Offer) → IsBestAmong Q r.prefix o → IsBestAmong P r.prefix o =
    λ o b. record {
      offered = back o b.is_for b.offered;
      is_for = b.is_for;
      best = λ x p e. b.best x (forth x e p) e;
    } in
    record {
      first = k.first;
      is_best = over k.first k.is_best;
      earliest = λ o b. k.earliest o (under o b);
      kind = k.kind;
      cost = k.cost;
      distance = k.distance;
      tag = k.tag;
      hops = λ i. (
        (λ t. let h = (k.hops i).0 t in (h.0, over h.0 h.1, h.2)),
        (λ h. (k.hops i).1 (h.0, under h.0 h.1, h.2)),
      );
    }

module _ (P : Offer → Type 0) (n : Offer) (up : (o : Offer) → P o → UpTo o n) where
  -- those before it, and this one
  abbrev pub WithIt : Offer → Type 0
  WithIt o = P o ⊎ (n ≡ o)

  pub of_other : (r : Route) → (r.prefix ≡ n.prefix → ⊥) → IsRouteAmong P r → IsRouteAmong WithIt r
  of_other r other k =
      same_offers P WithIt r (λ o e p. inl p)
      (λ o e q.
      elim q [
        | inl p ↦ p
        | inr is ↦ absurd (other (sym e ∙ sym (ap (λ (x : Offer). x.prefix) is)))
      ])
      k

  -- no offer before it is for its prefix
  pub of_first : ((o : Offer) → P o → o.prefix ≡ n.prefix → ⊥) → IsRouteAmong WithIt (route_of n)
  of_first none =
      let Worse : Offer → Type 0 = λ x. IsNoWorse n x in
      let Later : Offer → Type 0 = λ x. IsNoLater n x in
      let is_it : (o : Offer) → WithIt o → o.prefix ≡ n.prefix → n ≡ o = λ o q e.
      elim q [
        | inl p ↦ absurd (none o p e)
        | inr is ↦ is
      ] in
      let best : IsBestAmong WithIt n.prefix n = record {
        offered = inr refl;
        is_for = refl;
        best = λ o q e. subst Worse (is_it o q e) (no_worse_itself n);
      } in
      record {
        first = n;
        is_best = best;
        earliest = λ o b. subst Later (is_it o b.offered b.is_for) (ByTag refl (omega arith));
        kind = refl;
        cost = refl;
        distance = refl;
        tag = refl;
        hops = λ i. (
          (λ t. (n, best, t)),
          (λ h. let Has : Offer → Type 0 = λ x. IsTrue (has_interface x.hops i) in
              subst Has (sym (is_it h.0 h.1.offered h.1.is_for)) h.2),
        );
      }

  of_same : (o : Offer) → P o → o.prefix ≡ n.prefix → IsNoWorse o n × (AreAlike o n → IsNoLater o n)
  of_same o p e = by (up o p)
    where
      by : UpTo o n → IsNoWorse o n × (AreAlike o n → IsNoLater o n)
      by (Before b) = absurd (never_itself o.prefix n.prefix e b)
      by (Same q w l) = (w, l)

  module _ (r : Route) (same : r.prefix ≡ n.prefix) (k : IsRouteAmong P r) where
    still : (o : Offer) → IsBestAmong P r.prefix o → IsBestAmong WithIt r.prefix o
    still o b = record {
      offered = inl b.offered;
      is_for = b.is_for;
      best = λ x q e.
          elim q [
            | inl p ↦ b.best x p e
            | inr is ↦ let Worse : Offer → Type 0 = λ y. IsNoWorse o y in
                subst Worse is (of_same o b.offered (b.is_for ∙ same)).0
          ];
    }

    was : (o : Offer) → P o → IsBestAmong WithIt r.prefix o → IsBestAmong P r.prefix o
    was o p b = record { offered = p; is_for = b.is_for; best = λ x q e. b.best x (inl q) e }

    first_is : k.first.prefix ≡ n.prefix
    first_is = k.is_best.is_for ∙ same

    -- it is worse
    pub of_worse : (AsGood r n → ⊥) → IsRouteAmong WithIt r
    of_worse not_as_good =
        let before : IsNoWorse k.first n = (of_same k.first k.is_best.offered first_is).0 in
        let never : IsNoWorse n k.first → ⊥ = λ after.
        let a : AreAlike k.first n = alike k.first n before after in
        not_as_good (record {
          kind = k.kind ∙ same_kind k.first.kind n.kind a.kind;
          cost = k.cost ∙ a.cost;
          distance = k.distance ∙ a.distance;
        }) in
        let older : (o : Offer) → IsBestAmong WithIt r.prefix o → P o = λ o b.
        elim b.offered [
          | inl p ↦ p
          | inr is ↦ let Worse : Offer → Type 0 = λ y. IsNoWorse y k.first in
              absurd (never (subst Worse (sym is)
              (b.best k.first (inl k.is_best.offered) k.is_best.is_for)))
        ] in
        record {
          first = k.first;
          is_best = still k.first k.is_best;
          earliest = λ o b. k.earliest o (was o (older o b) b);
          kind = k.kind;
          cost = k.cost;
          distance = k.distance;
          tag = k.tag;
          hops = λ i. (
            (λ t. let h = (k.hops i).0 t in (h.0, still h.0 h.1, h.2)),
            (λ h. (k.hops i).1 (h.0, was h.0 (older h.0 h.1) h.1, h.2)),
          );
        }

    -- it is equally good
    pub of_as_good : AsGood r n → IsRouteAmong WithIt (joined_route r n)
    of_as_good good =
        let a : AreAlike k.first n = record {
          kind = ap rank (sym k.kind ∙ good.kind);
          cost = sym k.cost ∙ good.cost;
          distance = sym k.distance ∙ good.distance;
        } in
        let its_best : IsBestAmong WithIt r.prefix n = record {
          offered = inr refl;
          is_for = sym same;
          best = λ x q e.
              elim q [
                | inl p ↦ as_good k.first n x a (k.is_best.best x p e)
                | inr is ↦ let Worse : Offer → Type 0 = λ y. IsNoWorse n y in
                    subst Worse is (no_worse_itself n)
              ];
        } in
        record {
          first = k.first;
          is_best = still k.first k.is_best;
          earliest = λ o b.
              elim b.offered [
                | inl p ↦ k.earliest o (was o p b)
                | inr is ↦ let Later : Offer → Type 0 = λ y. IsNoLater k.first y in
                    subst Later is ((of_same k.first k.is_best.offered first_is).1 a)
              ];
          kind = k.kind;
          cost = k.cost;
          distance = k.distance;
          tag = k.tag;
          hops = λ i. (
            (λ t.
                elim (or_split r.hops n.hops i (bit_of_member (bit_or r.hops n.hops) i t)) [
                  | inl old ↦ let h = (k.hops i).0 (is_member r.hops i old) in
                      (h.0, still h.0 h.1, h.2)
                  | inr new ↦ (n, its_best, is_member n.hops i new)
                ]),
            (λ h.
                elim h.1.offered [
                  | inl p ↦ is_member (bit_or r.hops n.hops) i
                      (or_left r.hops n.hops i (bit_of_member r.hops i
                      ((k.hops i).1 (h.0, was h.0 p h.1, h.2))))
                  | inr is ↦
                      let Has : Offer → Type 0 = λ x. IsTrue (has_interface x.hops i) in
                      is_member (bit_or r.hops n.hops) i
                      (or_right r.hops n.hops i
                      (bit_of_member n.hops i (subst Has (sym is) h.2)))
                ]),
          );
        }
