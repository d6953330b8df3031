-- If an offer leads toward a router, the next router on the way has the same offer at a lower cost,
-- unless it is that router.
use Rattle.std.proofs.Common.{◌≡◌, ℕ, zero, suc, ◌+◌, ◌<◌, ◌≤◌, ◌⊎◌, inl, inr, IsTrue, List, []}
use Rattle.std.proofs.Common.{◌∷◌, length, get_or, arith, refl, sym, ◌∙◌, ap, subst}
use Rattle.std.specs.List.{Contains}
use Rattle.std.specs.Int.{bit_at}
use Rattle.std.proofs.lemmas.Bool.{cases_eq, cases_lt}
use Rattle.std.proofs.lemmas.Nat.Bits.{bit_at_above}
use Rattle.words.specs.Interfaces.{has_interface}
use Rattle.words.specs.Prefixes.{Network}
use Rattle.words.specs.declared.route.ExternalType.{ExternalType}
use Rattle.words.specs.declared.route.ExternalType.TheVariants.{Type1, Type2}
use Rattle.words.specs.declared.route.Route.{Route}
use Rattle.lsa.specs.declared.body.ExternalLsa.{ExternalLsa}
use Rattle.lsa.specs.declared.body.RouterLsa.{RouterLsa}
use Rattle.candidates.specs.Laws.{CandidatesAreCheapestWalks, EveryOfferHasACandidate}
use Rattle.routes.proofs.Determined.{AreAlike, alike, bit_of_member, one_candidate, one_way}
use Rattle.routes.specs.Candidates.{AreCandidates, IsBest, IsCandidate, Offers, OffersExternal}
use Rattle.routes.specs.Candidates.{external_offer}
use Rattle.routes.specs.Candidates.Offers.{Between, External}
use Rattle.routes.specs.Links.{IsRouterLsa, Leads, LeadsTo}
use Rattle.routes.specs.Offers.{ReachesBoundaryRouter}
use Rattle.routes.specs.Paths.{IsWalk, IsWay, Step, Way, cost_of}
use Rattle.routes.specs.Routes.{IsNoWorse, rank}
use Rattle.routes.specs.Routes.IsNoWorse.{ByCost as NoDearer, ByDistance as NoFarther}
use Rattle.routes.specs.Routes.IsNoWorse.{ByKind as NoWorseKind}
use Rattle.routes.specs.Contents.{Contents}
use Rattle.routes.specs.Summaries.{IsBoundaryWay, IsAdvertised, IsWayBetween, OffersBetween, inter}
use Rattle.routes.specs.Summaries.IsBoundaryWay.{Inside, Outside}
use Rattle.routes.specs.declared.node.Node.{Node}
use Rattle.routes.specs.declared.node.Node.TheVariants.{ARouter}
use Rattle.routes.specs.declared.offer.Offer.{Offer}
use Rattle.routes.specs.declared.root.Root.{Root}
use Rattle.route_laws.specs.Forwarding.{ForwardsFor, IsOtherEnd, NamesItsInterfaces, Stop}
use Rattle.route_laws.specs.Outward.{EachHopLeadsToAnOriginator, HandsFurther, HandsToward}
use Rattle.route_laws.specs.Outward.{IsBetter, IsPassedFurther, IsToward}
use Rattle.route_laws.specs.Outward.{NoPacketReturnsOnItsWayOut}
use Rattle.route_laws.specs.Outward.HandsFurther.{TowardAnother, InTheArea}
use Rattle.route_laws.specs.Outward.IsBetter.{ByCost, ByDistance, ByKind}
use Rattle.route_laws.specs.Outward.IsToward.{Border, Boundary, Told}
use Rattle.route_laws.proofs.Found.{exit_within, has_route}
use Rattle.candidates.proofs.LeastWalks as least
use Rattle.route_laws.proofs.Nearer.{each_hop, price_of_own, walk_there}

-- ---- the way from the next router

-- a walk from the next router that costs less than the way
record IsShort (contents : Contents) (next : Root) (node : Node) (distance : ℕ) : Type 0 where
  walk : List (Step Node)
  is_walk : IsWalk (Leads contents next) (ARouter next.router) walk node
  is_less : cost_of walk < distance

module _ (contents : Contents) (root next : Root) (own : NamesItsInterfaces contents next) where
  shorter : (node : Node) (way : Way) → IsWay (Leads contents root) (ARouter root.router) node way
      → (i : ℕ) → IsTrue (has_interface way.hops i) → IsOtherEnd contents root i next.router
      → IsShort contents next node way.distance
  shorter node way is i t end =
      let hop = (is.hops i).0 t in
      let first : Step Node = hop.0 in
      let rest : List (Step Node) = hop.1 in
      let walk = hop.2.is_walk in
      let P : ℕ → Type 0 = λ k. LeadsTo contents root (ARouter root.router) first.target
      first.cost k
      in
      let here : first.target ≡ ARouter next.router =
      end first.target first.cost (subst P hop.3 walk.0) in
      let W : Node → Type 0 = λ n. IsWalk (Leads contents root) n rest node in
      let there = walk_there contents root next own (ARouter next.router) node rest
      (subst W here walk.1) in
      let some = price_of_own contents root first.target first.cost first.exit walk.0 in
      let low : cost_of (first ∷ rest) ≤ cost_of is.distance.0 =
      hop.2.least is.distance.0 is.distance.1.is_walk in
      record {
        walk = there.0;
        is_walk = there.1;
        is_less = omega (arith, is.distance.2, low, there.2, some.0);
      }

  -- it has a way
  way_on : (node : Node) (distance : ℕ) → IsShort contents next node distance
      → (((w : Way) × IsWay (Leads contents next) (ARouter next.router) node w
      × (w.distance < distance)) → ⊥) → ⊥
  way_on node distance s none =
      least.way (Leads contents next) (ARouter next.router) node (length next.addresses + 1)
      (λ x l. exit_within contents next x.target x.cost x.exit l) s.walk s.is_walk (λ w.
      none (
        w.0,
        w.1,
        omega (
          arith,
          w.1.distance.2,
          w.1.distance.1.least s.walk s.is_walk,
          s.is_less,
        ),
      ))

-- ---- the offer at the next router

-- better than an offer, strictly
pub data Beats (a b : Offer) : Type 0 where
  Cheaper : rank a.kind ≡ rank b.kind → a.cost < b.cost → Beats a b
  Nearer : rank a.kind ≡ rank b.kind → a.cost ≡ b.cost → a.distance < b.distance → Beats a b

-- a router offers the same as another one, at a lower cost
pub record Again (contents : Contents) (next : Root) (o : Offer) : Type 0 where
  pub offer : Offer
  pub offered : Offers contents next offer
  pub is_for : offer.prefix ≡ o.prefix
  pub beats : Beats offer o

pub external_prefix : (t : ExternalType) (prefix : Network) (lsa : ExternalLsa) (by : ℕ) (way : Way)
    → (external_offer t prefix lsa by way).prefix ≡ prefix
external_prefix Type1 prefix lsa by way = refl
external_prefix Type2 prefix lsa by way = refl

pub external_hops : (t : ExternalType) (prefix : Network) (lsa : ExternalLsa) (by : ℕ) (way : Way)
    → (external_offer t prefix lsa by way).hops ≡ way.hops
external_hops Type1 prefix lsa by way = refl
external_hops Type2 prefix lsa by way = refl

pub external_beats : (t : ExternalType) (prefix : Network) (lsa : ExternalLsa) (by : ℕ)
    (near far : Way) → near.distance < far.distance
    → Beats (external_offer t prefix lsa by near) (external_offer t prefix lsa by far)
external_beats Type1 prefix lsa by near far less = Cheaper refl (omega (arith, less))
external_beats Type2 prefix lsa by near far less = Nearer refl refl less

module _ (contents : Contents) (root next : Root) (own : NamesItsInterfaces contents next)
    (o : Offer) (i : ℕ)
    (end : IsOtherEnd contents root i next.router) where
  again_between : (x : OffersBetween contents root o) → IsTrue (has_interface o.hops i)
      → (next.router ≡ x.originator → ⊥) → (Again contents next o → ⊥) → ⊥
  again_between x t other none =
      let Has : ℕ → Type 0 = λ hops. IsTrue (has_interface hops i) in
      let s = shorter contents root next own (ARouter x.originator) x.border
      x.counts.reaches.reached i
      (subst Has (ap (λ (y : Offer). y.hops) x.is) t) end in
      way_on contents root next own (ARouter x.originator) x.border.distance s (λ w.
      let P : Offer → Type 0 = λ y. Again contents next y in
      none (subst P (sym x.is) (record {
        offer = inter x.prefix (w.0.distance + x.lsa.metric) w.0.hops;
        offered = Between (record {
          id = x.id;
          originator = x.originator;
          lsa = x.lsa;
          its = x.its;
          border = w.0;
          counts = record {
            reachable = x.counts.reachable;
            of_another = λ e. other (sym e);
            reaches = record {
              lsa = x.counts.reaches.lsa;
              its = x.counts.reaches.its;
              has_b = x.counts.reaches.has_b;
              reached = w.1;
            };
          };
          prefix = x.prefix;
          is_prefix = x.is_prefix;
          is = refl;
        });
        is_for = refl;
        beats = Cheaper refl (omega (arith, w.2));
      })))

  -- if the originator is reached within the area, the boundary way is the way to it
  boundary_is : (router : ℕ) (way boundary : Way) → ReachesBoundaryRouter contents root router way
      → IsBoundaryWay contents root router boundary → boundary ≡ way
  boundary_is router way boundary r (Inside x) =
      one_way (Leads contents root) (ARouter root.router) (ARouter router) boundary way x.reached
      r.reached
  boundary_is router way boundary r (Outside never x) = absurd (never way r)

  again_external : (x : OffersExternal contents root o) → IsTrue (has_interface o.hops i)
      → x.lsa.forwarding ≡ 0 → (way : Way) → ReachesBoundaryRouter contents root x.originator way
      → (next.router ≡ x.originator → ⊥) → (Again contents next o → ⊥) → ⊥
  again_external x t direct way r other none =
      let Has : ℕ → Type 0 = λ hops. IsTrue (has_interface hops i) in
      let same : x.way ≡ way = x.is_way.direct direct
      ∙ boundary_is x.originator way x.is_way.boundary r x.is_way.reaches in
      let is : o ≡ external_offer x.lsa.kind x.prefix x.lsa x.originator way = x.is
      ∙ ap (λ (w : Way). external_offer x.lsa.kind x.prefix x.lsa x.originator w) same in
      let has : Has way.hops = subst Has
      (ap (λ (y : Offer). y.hops) is ∙ external_hops x.lsa.kind x.prefix x.lsa x.originator way)
      t in
      let s = shorter contents root next own (ARouter x.originator) way r.reached i has end in
      way_on contents root next own (ARouter x.originator) way.distance s (λ w.
      let P : Offer → Type 0 = λ y. Again contents next y in
      none (subst P (sym is) (record {
        offer = external_offer x.lsa.kind x.prefix x.lsa x.originator w.0;
        offered = External (record {
          id = x.id;
          originator = x.originator;
          lsa = x.lsa;
          its = x.its;
          reachable = x.reachable;
          of_another = λ e. other (sym e);
          prefix = x.prefix;
          is_prefix = x.is_prefix;
          way = w.0;
          is_way = record {
            boundary = w.0;
            reaches = Inside (record {
              lsa = r.lsa;
              its = r.its;
              has_e = r.has_e;
              reached = w.1;
            });
            direct = λ _. refl;
            forwarded = λ some. absurd (some direct);
          };
          is = refl;
        });
        is_for = external_prefix x.lsa.kind x.prefix x.lsa x.originator w.0
            ∙ sym (external_prefix x.lsa.kind x.prefix x.lsa x.originator way);
        beats = external_beats x.lsa.kind x.prefix x.lsa x.originator w.0 way w.2;
      })))

  -- ---- toward a border router that advertises the originator

  -- the next router, to which a link leads, has a router-LSA
  next_says : (node : Node) (way : Way) → IsWay (Leads contents root) (ARouter root.router) node way
      → IsTrue (has_interface way.hops i) → (lsa : RouterLsa) × IsRouterLsa contents next.router lsa
  next_says node way is t =
      let hop = (is.hops i).0 t in
      let first : Step Node = hop.0 in
      let P : ℕ → Type 0 = λ k. LeadsTo contents root (ARouter root.router) first.target
      first.cost k
      in
      let l = subst P hop.3 hop.2.is_walk.0 in
      let here : first.target ≡ ARouter next.router = end first.target first.cost l in
      let Q : Node → Type 0 = λ n. LeadsTo contents root (ARouter root.router) n first.cost i in
      let there = subst Q here l in
      (there.1.1.lsa, there.1.1.its)

  module _ (router : ℕ) where
    abbrev Telling : ℕ → Way → Type 0
    Telling distance border = IsAdvertised contents next router distance border

    abbrev LeastTelling : Type 0
    LeastTelling = (distance : ℕ) × (border : Way) × Telling distance border
        × ((other : ℕ) (by : Way) → Telling other by → distance ≤ other)

    least_telling : (n distance : ℕ) (border : Way) → distance ≤ n → Telling distance border
        → (LeastTelling → ⊥) → ⊥
    least_telling zero distance border low advertised none =
        none (distance, border, advertised, λ other by its. omega (arith, low))
    least_telling (suc n) distance border low advertised none =
        none (
          distance,
          border,
          advertised,
          λ other by its.
              elim (cases_lt other distance) [
                | inl less ↦ absurd (least_telling n other by (omega (arith, less, low)) its none)
                | inr more ↦ more
              ],
        )

    abbrev HopOf : ℕ → ℕ → Type 0
    HopOf distance k = (other : Way) × Telling distance other × IsTrue (has_interface other.hops k)

    hop_below : (distance k : ℕ) → HopOf distance k → k < length next.addresses + 1
    hop_below distance k h =
        let hop = (h.1.counts.reaches.reached.hops k).0 h.2 in
        let first : Step Node = hop.0 in
        let low = exit_within contents next first.target first.cost first.exit hop.2.is_walk.0 in
        omega (arith, low, hop.3)

    -- the way that is advertised at the next router
    way_told : (distance : ℕ) (border : Way) → Telling distance border
        → (((way : Way) × IsWayBetween contents next router way
        × (way.distance ≤ distance)) → ⊥) → ⊥
    way_told distance border advertised none =
        let n : ℕ = length next.addresses + 1 in
        least_telling distance distance border (omega arith) advertised (λ l.
        least.chosen (HopOf l.0) n (λ c.
        none (
          record { distance = l.0; hops = c.hops },
          record {
            border = l.1;
            advertised = l.2;
            least = λ other by its. l.3 other by its;
            hops = λ k.
                elim (cases_lt k n) [
                  | inl less ↦ c.members k less
                  | inr past ↦ (
                    λ t. absurd (let above : bit_at c.hops k ≡ 0 =
                        bit_at_above c.hops n k c.below past in
                        omega (arith, above, bit_of_member c.hops k t)),
                    λ q. absurd (let low : k < n = hop_below l.0 k q in omega (arith, low, past)),
                  )
                ];
          },
          l.3 distance border advertised,
        )))

  again_told : (x : OffersExternal contents root o) → x.lsa.forwarding ≡ 0
      → ((lsa : RouterLsa) → IsRouterLsa contents x.originator lsa → ⊥)
      → (border : Way) (advertised : IsAdvertised contents root x.originator
      x.is_way.boundary.distance
      border) → IsTrue (has_interface border.hops i) → (next.router ≡ advertised.originator → ⊥)
      → (Again contents next o → ⊥) → ⊥
  again_told x direct foreign border advertised t other none =
      let s = shorter contents root next own (ARouter advertised.originator) border
      advertised.counts.reaches.reached i t end in
      way_on contents root next own (ARouter advertised.originator) border.distance s (λ w.
      let here : IsAdvertised contents next x.originator
      (w.0.distance + advertised.lsa.metric) w.0 =
      record {
        originator = advertised.originator;
        lsa = advertised.lsa;
        its = advertised.its;
        counts = record {
          reachable = advertised.counts.reachable;
          of_another = λ e. other (sym e);
          reaches = record {
            lsa = advertised.counts.reaches.lsa;
            its = advertised.counts.reaches.its;
            has_b = advertised.counts.reaches.has_b;
            reached = w.1;
          };
        };
        is = refl;
      } in
      way_told x.originator (w.0.distance + advertised.lsa.metric) w.0 here (λ b.
      let near : Way = b.0 in
      let far : Way = x.way in
      let less : near.distance < far.distance =
      omega (arith, b.2, w.2, advertised.is, ap (λ (y : Way). y.distance) (x.is_way.direct direct))
      in
      let P : Offer → Type 0 = λ y. Again contents next y in
      let itself = next_says (ARouter advertised.originator) border
      advertised.counts.reaches.reached t in
      none (subst P (sym x.is) (record {
        offer = external_offer x.lsa.kind x.prefix x.lsa x.originator near;
        offered = External (record {
          id = x.id;
          originator = x.originator;
          lsa = x.lsa;
          its = x.its;
          reachable = x.reachable;
          of_another = λ e. (let R : ℕ → Type 0 = λ r. IsRouterLsa contents r itself.0 in
              foreign itself.0 (subst R (sym e) itself.1));
          prefix = x.prefix;
          is_prefix = x.is_prefix;
          way = near;
          is_way = record {
            boundary = near;
            reaches = Outside (λ way r. foreign r.lsa r.its) b.1;
            direct = λ _. refl;
            forwarded = λ some. absurd (some direct);
          };
          is = refl;
        });
        is_for = external_prefix x.lsa.kind x.prefix x.lsa x.originator near
            ∙ sym (external_prefix x.lsa.kind x.prefix x.lsa x.originator far);
        beats = external_beats x.lsa.kind x.prefix x.lsa x.originator near far less;
      }))))

  again : (originator hops : ℕ) → IsToward contents root o originator hops
      → IsTrue (has_interface hops i) → (next.router ≡ originator → ⊥)
      → (Again contents next o → ⊥) → ⊥
  again originator hops (Border x e by) t other none = let Has : ℕ → Type 0 =
      λ h. IsTrue (has_interface h i) in again_between x (subst Has by t) (λ f. other (f ∙ e)) none
  again originator hops (Boundary x e direct way r by) t other none =
      let Has : ℕ → Type 0 = λ h. IsTrue (has_interface h i) in
      let P : ℕ → Type 0 = λ n. ReachesBoundaryRouter contents root n way in
      again_external x (subst Has by t) direct way (subst P (sym e) r) (λ f. other (f ∙ e)) none
  again originator hops (Told x direct foreign border advertised e by) t other none =
      let Has : ℕ → Type 0 = λ h. IsTrue (has_interface h i) in
      again_told x direct foreign border advertised (subst Has by t) (λ f. other (f ∙ e)) none

  short_toward : (originator hops : ℕ) → IsToward contents root o originator hops
      → IsTrue (has_interface hops i) → (here : Way)
      → IsWay (Leads contents root) (ARouter root.router) (ARouter originator) here
      → IsShort contents next (ARouter originator) here.distance
  short_toward originator hops (Border x e by) t here is =
      let Has : ℕ → Type 0 = λ h. IsTrue (has_interface h i) in
      let R : ℕ → Type 0 = λ n. IsWay (Leads contents root) (ARouter root.router)
      (ARouter n) x.border
      in
      let same : x.border ≡ here = one_way (Leads contents root) (ARouter root.router)
      (ARouter originator) x.border here (subst R e x.counts.reaches.reached) is in
      shorter contents root next own (ARouter originator) here is i
      (subst Has (by ∙ ap (λ (y : Offer). y.hops) x.is ∙ ap (λ (w : Way). w.hops) same) t) end
  short_toward originator hops (Boundary x e direct way r by) t here is =
      let Has : ℕ → Type 0 = λ h. IsTrue (has_interface h i) in
      let P : ℕ → Type 0 = λ n. ReachesBoundaryRouter contents root n way in
      let same : x.way ≡ here = x.is_way.direct direct
      ∙ boundary_is x.originator way x.is_way.boundary (subst P (sym e) r) x.is_way.reaches
      ∙ one_way (Leads contents root) (ARouter root.router) (ARouter originator) way here
      r.reached is in
      shorter contents root next own (ARouter originator) here is i
      (subst Has (by ∙ ap (λ (y : Offer). y.hops) x.is
      ∙ external_hops x.lsa.kind x.prefix x.lsa x.originator x.way
      ∙ ap (λ (w : Way). w.hops) same) t) end
  short_toward originator hops (Told x direct foreign border advertised e by) t here is =
      let Has : ℕ → Type 0 = λ h. IsTrue (has_interface h i) in
      let R : ℕ → Type 0 = λ n. IsWay (Leads contents root) (ARouter root.router)
      (ARouter n) border in
      let same : border ≡ here = one_way (Leads contents root) (ARouter root.router)
      (ARouter originator) border here (subst R e advertised.counts.reaches.reached) is in
      shorter contents root next own (ARouter originator) here is i
      (subst Has (by ∙ ap (λ (w : Way). w.hops) same) t) end

-- ---- better routes

better_or_not : (a b : Route) → IsBetter a b ⊎ (IsBetter a b → ⊥)
better_or_not a b =
    elim (cases_lt (rank a.kind) (rank b.kind)) [
      | inl less ↦ inl (ByKind less)
      | inr past ↦
          elim (cases_eq (rank a.kind) (rank b.kind)) [
            | inr other ↦ inr (never_kind past other)
            | inl kind ↦
                elim (cases_lt a.cost b.cost) [
                  | inl less ↦ inl (ByCost kind less)
                  | inr dear ↦
                      elim (cases_eq a.cost b.cost) [
                        | inr other ↦ inr (never_cost past dear other)
                        | inl cost ↦
                            elim (cases_lt a.distance b.distance) [
                              | inl less ↦ inl (ByDistance kind cost less)
                              | inr far ↦ inr (never_distance past dear far)
                            ]
                      ]
                ]
          ]
    ]
  where
    never_kind : rank b.kind ≤ rank a.kind → (rank a.kind ≡ rank b.kind → ⊥) → IsBetter a b → ⊥
    never_kind past other (ByKind p) = omega (arith, past, p)
    never_kind past other (ByCost p q) = other p
    never_kind past other (ByDistance p q r) = other p

    never_cost : rank b.kind ≤ rank a.kind → b.cost ≤ a.cost → (a.cost ≡ b.cost → ⊥) → IsBetter a b
        → ⊥
    never_cost past dear other (ByKind p) = omega (arith, past, p)
    never_cost past dear other (ByCost p q) = omega (arith, dear, q)
    never_cost past dear other (ByDistance p q r) = other q

    never_distance : rank b.kind ≤ rank a.kind → b.cost ≤ a.cost → b.distance ≤ a.distance
        → IsBetter a b → ⊥
    never_distance past dear far (ByKind p) = omega (arith, past, p)
    never_distance past dear far (ByCost p q) = omega (arith, dear, q)
    never_distance past dear far (ByDistance p q r) = omega (arith, far, r)

-- a route as good as an offer
pub record IsAsGood (r : Route) (o : Offer) : Type 0 where
  pub kind : rank r.kind ≡ rank o.kind
  pub cost : r.cost ≡ o.cost
  pub distance : r.distance ≡ o.distance

is_better : (a b : Route) (x y z : Offer) → IsAsGood a x → IsAsGood b z → IsNoWorse x y → Beats y z
    → IsBetter a b
is_better a b x y z g h (NoWorseKind p) (Cheaper q r) = ByKind (omega (arith, g.kind, h.kind, p, q))
is_better a b x y z g h (NoWorseKind p) (Nearer q r s) =
    ByKind (omega (arith, g.kind, h.kind, p, q))
is_better a b x y z g h (NoDearer p less) (Cheaper q r) =
    ByCost (g.kind ∙ p ∙ q ∙ sym h.kind) (omega (arith, g.cost, h.cost, less, r))
is_better a b x y z g h (NoDearer p less) (Nearer q r s) =
    ByCost (g.kind ∙ p ∙ q ∙ sym h.kind) (omega (arith, g.cost, h.cost, less, r))
is_better a b x y z g h (NoFarther p same far) (Cheaper q r) =
    ByCost (g.kind ∙ p ∙ q ∙ sym h.kind) (omega (arith, g.cost, h.cost, same, r))
is_better a b x y z g h (NoFarther p same far) (Nearer q r s) =
    ByDistance (g.kind ∙ p ∙ q ∙ sym h.kind) (omega (arith, g.cost, h.cost, same, r))
    (omega (arith, g.distance, h.distance, far, s))

pub candidate_is_as_good : (contents : Contents) (root : Root) (r : Route) (o : Offer)
    (k : IsCandidate contents root r) → IsBest contents root r.prefix o → IsAsGood r o
candidate_is_as_good contents root r o k best =
    let same : AreAlike k.first o = alike k.first o (k.is_best.best o best.offered best.is_for)
    (best.best k.first k.is_best.offered k.is_best.is_for) in
    record {
      kind = ap rank k.kind ∙ same.kind;
      cost = k.cost ∙ same.cost;
      distance = k.distance
          ∙ same.distance;
    }

pub again_is_better : (contents : Contents) (root next : Root) (route : Route) (o : Offer)
    → IsCandidate contents root route → IsBest contents root route.prefix o
    → ((Again contents next o → ⊥) → ⊥)
    → (following : Route) → IsCandidate contents next following → following.prefix ≡ route.prefix
    → IsBetter following route
again_is_better contents root next route o is best again following its same =
    elim (better_or_not following route) [
      | inl good ↦ good
      | inr never ↦ absurd (again (λ a.
          let for_prefix : a.offer.prefix ≡ following.prefix = a.is_for ∙ best.is_for ∙ sym same in
          let first : IsAsGood following its.first = record {
            kind = ap rank its.kind;
            cost = its.cost;
            distance = its.distance;
          } in
          never (is_better following route its.first a.offer o first
          (candidate_is_as_good contents root route o is best)
          (its.is_best.best a.offer a.offered for_prefix) a.beats)))
    ]

pub again_has_route : EveryOfferHasACandidate
    → (contents : Contents) (next : Root) (prefix : Network) (o : Offer) → o.prefix ≡ prefix
    → ((Again contents next o → ⊥) → ⊥) → (routes : List Route) → AreCandidates contents next routes
    → (following : Route) × Contains routes following × (following.prefix ≡ prefix)
again_has_route every contents next prefix o is_for again routes are =
    elim (has_route routes prefix) [
      | inl h ↦ h
      | inr none ↦ absurd (again (λ a.
          let r = every contents next routes a.offer are a.offered in
          none (r.0, r.1, r.2 ∙ a.is_for ∙ is_for)))
    ]

module _ (contents : Contents) (root next : Root) (route : Route) (originator : ℕ)
    (is : IsCandidate contents root route)
    (hands : HandsToward contents root route next.router originator)
    (own : NamesItsInterfaces contents next) where
  one_again : (next.router ≡ originator → ⊥) → (Again contents next hands.offer → ⊥) → ⊥
  one_again other = again contents root next own hands.offer hands.interface hands.other_end
      originator
      hands.hops hands.toward hands.is_hop other

  pub is_nearer : (here there : Way)
      → IsWay (Leads contents root) (ARouter root.router) (ARouter originator) here
      → IsWay (Leads contents next) (ARouter next.router) (ARouter originator) there
      → there.distance < here.distance
  is_nearer here there p q =
      let s = short_toward contents root next own hands.offer hands.interface hands.other_end
      originator
      hands.hops hands.toward hands.is_hop here p in
      omega (arith, q.distance.2, q.distance.1.least s.walk s.is_walk, s.is_less)

  pub following_is_better : (next.router ≡ originator → ⊥) → (following : Route)
      → IsCandidate contents next following → following.prefix ≡ route.prefix
      → IsBetter following route
  following_is_better other following its same =
      again_is_better contents root next route hands.offer is hands.is_best (one_again other)
      following
      its same

  pub has_following : EveryOfferHasACandidate → (next.router ≡ originator → ⊥)
      → (routes : List Route) → AreCandidates contents next routes → (following : Route)
      × Contains routes following × (following.prefix ≡ route.prefix)
  has_following every other routes are =
      again_has_route every contents next route.prefix hands.offer hands.is_best.is_for
      (one_again other) routes are

pub to_an_originator : EveryOfferHasACandidate → EachHopLeadsToAnOriginator
to_an_originator every = record {
  nearer = λ contents root next route originator is hands own. is_nearer contents root next route
      originator
      is hands own;
  better = λ contents root next route originator is hands own. following_is_better contents root
      next route
      originator is hands own;
  has_one = λ contents root next route originator is hands own other routes are. has_following
      contents root
      next route originator is hands own every other routes are;
}

-- ---- many hops

pub better_still : (a b c : Route) → IsBetter a b → IsBetter b c → IsBetter a c
better_still a b c (ByKind p) (ByKind q) = ByKind (omega (arith, p, q))
better_still a b c (ByKind p) (ByCost q r) = ByKind (omega (arith, p, q))
better_still a b c (ByKind p) (ByDistance q r s) = ByKind (omega (arith, p, q))
better_still a b c (ByCost p x) (ByKind q) = ByKind (omega (arith, p, q))
better_still a b c (ByCost p x) (ByCost q r) = ByCost (p ∙ q) (omega (arith, x, r))
better_still a b c (ByCost p x) (ByDistance q r s) = ByCost (p ∙ q) (omega (arith, x, r))
better_still a b c (ByDistance p x y) (ByKind q) = ByKind (omega (arith, p, q))
better_still a b c (ByDistance p x y) (ByCost q r) = ByCost (p ∙ q) (omega (arith, x, r))
better_still a b c (ByDistance p x y) (ByDistance q r s) =
    ByDistance (p ∙ q) (x ∙ r) (omega (arith, y, s))

pub not_itself : (a b : Route) → a ≡ b → IsBetter a b → ⊥
not_itself a b e (ByKind p) = omega (arith, p, ap (λ (r : Route). rank r.kind) e)
not_itself a b e (ByCost p q) = omega (arith, q, ap (λ (r : Route). r.cost) e)
not_itself a b e (ByDistance p q r) = omega (arith, r, ap (λ (x : Route). x.distance) e)

module _ (laws : CandidatesAreCheapestWalks) (contents : Contents) (prefix : Network) where
  first_further : (first : Stop) (others : List Stop) → IsPassedFurther contents prefix
      (first ∷ others)
      → ForwardsFor contents prefix first
  first_further first [] p = p
  first_further first (next ∷ others) p = p.0

  hop_on : (first next : Stop) → ForwardsFor contents prefix first
      → ForwardsFor contents prefix next
      → HandsFurther contents first.root first.route next.root.router
      → IsBetter next.route first.route
  hop_on first next f g (InTheArea within hands) =
      let h = each_hop laws contents first.root next.root first.route f.candidate within hands g.own
      next.route g.candidate (g.is_for ∙ sym f.is_for) in
      ByCost (ap rank (h.0 ∙ sym within)) h.1
  hop_on first next f g (TowardAnother originator hands other) =
      following_is_better contents first.root next.root first.route originator f.candidate
      hands g.own
      other next.route g.candidate (g.is_for ∙ sym f.is_for)

  record IsLater (first stop : Stop) : Type 0 where
    forwards : ForwardsFor contents prefix stop
    is_better : IsBetter stop.route first.route

  each_later : (first : Stop) (others : List Stop) → IsPassedFurther contents prefix
      (first ∷ others)
      → (k : ℕ) (d : Stop) → k < length others → IsLater first (get_or others k d)
  each_later first [] p k d low = absurd (omega (arith, low))
  each_later first (next ∷ others) p zero d low =
      let g = first_further next others p.2 in
      record { forwards = g; is_better = hop_on first next p.0 g p.1 }
  each_later first (next ∷ others) p (suc k) d low =
      let g = first_further next others p.2 in
      let e : IsLater next (get_or others k d) =
      each_later next others p.2 k d (omega (arith, low)) in
      record {
        forwards = e.forwards;
        is_better =
            better_still (get_or others k d).route next.route first.route e.is_better
            (hop_on first next p.0 g p.1);
      }

  record ArePair (a b : Stop) : Type 0 where
    first : ForwardsFor contents prefix a
    second : ForwardsFor contents prefix b
    is_better : IsBetter b.route a.route

  pairs : (stops : List Stop) → IsPassedFurther contents prefix stops → (i j : ℕ) (d : Stop) → i < j
      → j < length stops → ArePair (get_or stops i d) (get_or stops j d)
  pairs [] p i j d before low = absurd (omega (arith, before, low))
  pairs (first ∷ others) p zero zero d before low = absurd (omega (arith, before))
  pairs (first ∷ others) p zero (suc j) d before low =
      let e : IsLater first (get_or others j d) =
      each_later first others p j d (omega (arith, low)) in
      record { first = first_further first others p; second = e.forwards; is_better = e.is_better }
  pairs (first ∷ others) p (suc i) zero d before low = absurd (omega (arith, before))
  pairs (first ∷ []) p (suc i) (suc j) d before low = absurd (omega (arith, low))
  pairs (first ∷ next ∷ others) p (suc i) (suc j) d before low =
      pairs (next ∷ others) p.2 i j d (omega (arith, before)) (omega (arith, low))

  pub all_better : (stops : List Stop) → IsPassedFurther contents prefix stops
      → (i j : ℕ) (d : Stop)
      → i < j → j < length stops → IsBetter (get_or stops j d).route (get_or stops i d).route
  all_better stops p i j d before low = (pairs stops p i j d before low).is_better

  pub none_twice : (stops : List Stop) → IsPassedFurther contents prefix stops
      → (i j : ℕ) (d : Stop)
      → i < j → j < length stops → (get_or stops i d).root ≡ (get_or stops j d).root → ⊥
  none_twice stops p i j d before low same =
      let a : Stop = get_or stops i d in
      let b : Stop = get_or stops j d in
      let pair : ArePair a b = pairs stops p i j d before low in
      let P : Root → Type 0 = λ root. IsCandidate contents root b.route in
      let e : b.route ≡ a.route = one_candidate contents a.root b.route a.route
      (subst P (sym same) pair.second.candidate) pair.first.candidate
      (pair.second.is_for ∙ sym pair.first.is_for) in
      not_itself b.route a.route e pair.is_better

pub no_packet_out : CandidatesAreCheapestWalks → NoPacketReturnsOnItsWayOut
no_packet_out laws = record {
  better = λ contents prefix stops p. all_better laws contents prefix stops p;
  no_twice = λ contents prefix stops p. none_twice laws contents prefix stops p;
}
