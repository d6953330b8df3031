-- There is one way to a vertex, one candidate for a prefix, and one list of candidates.
use Rattle.std.proofs.Common.{◌≡◌, ℕ, zero, suc, inl, inr, IsTrue, List, arith, refl, sym, ◌∙◌, ap}
use Rattle.std.proofs.Common.{subst, eqb-true, eq-eqb}
use Rattle.std.specs.Int.{bit_at}
use Rattle.std.specs.List.{AllPairs, Contains}
use Rattle.std.proofs.lemmas.Bool.{cases_eq}
use Rattle.std.proofs.lemmas.Nat.Bits.{bit_at-lt, same_from_bits}
use Rattle.words.specs.Interfaces.{has_interface}
use Rattle.words.specs.Prefixes.{Network}
use Rattle.words.specs.declared.route.Route.{Route}
use Rattle.words.specs.declared.route.RouteKind.{RouteKind}
use Rattle.words.specs.declared.route.RouteKind.TheVariants.{External1, External2, Inter, Intra}
use Rattle.routes.specs.Candidates.{Offers}
use Rattle.routes.specs.Routes.IsBefore.{ByAddress, ByLength}
use Rattle.routes.specs.Routes.IsNoLater.{ByOriginator, ByTag}
use Rattle.routes.specs.Laws.{CandidatesAreDetermined, OneCandidateForEachPrefix, WaysAreDetermined}
use Rattle.routes.specs.Links.{Leads}
use Rattle.routes.specs.declared.offer.Offer.{Offer}
use Rattle.routes.specs.Routes.IsNoWorse.{ByCost, ByDistance, ByKind}
use Rattle.routes.specs.Paths.{IsWay, Step, Way}
use Rattle.routes.proofs.Lists.{same_lists}
use Rattle.routes.specs.Routes.{IsBefore, IsBestAmong, IsNoLater, IsNoWorse, IsRouteAmong, rank}

-- ---- sets of interfaces

pub is_member : (hops i : ℕ) → bit_at hops i ≡ 1 → IsTrue (has_interface hops i)
is_member hops i e = eq-eqb (bit_at hops i) 1 e

pub bit_of_member : (hops i : ℕ) → IsTrue (has_interface hops i) → bit_at hops i ≡ 1
bit_of_member hops i t = eqb-true (bit_at hops i) 1 t

same_bit : (m n i : ℕ) → (IsTrue (has_interface m i) → IsTrue (has_interface n i))
    → (IsTrue (has_interface n i) → IsTrue (has_interface m i)) → bit_at m i ≡ bit_at n i
same_bit m n i p q =
    elim (cases_eq (bit_at m i) 1) [
      | inl e ↦ e ∙ sym (bit_of_member n i (p (is_member m i e)))
      | inr off ↦
          elim (cases_eq (bit_at n i) 1) [
            | inl e ↦ absurd (off (bit_of_member m i (q (is_member n i e))))
            | inr also ↦ omega (arith, bit_at-lt m i, bit_at-lt n i)
          ]
    ]

-- two sets with the same members
pub same_hops : (m n : ℕ) → ((i : ℕ) → IsTrue (has_interface m i) → IsTrue (has_interface n i))
    → ((i : ℕ) → IsTrue (has_interface n i) → IsTrue (has_interface m i)) → m ≡ n
same_hops m n p q = same_from_bits m n (λ i. same_bit m n i (p i) (q i))

-- ---- ways

pub one_way : {V : Type 0} (leads : V → Step V → Type 0) (from to : V) (a b : Way)
    → IsWay leads from to a → IsWay leads from to b → a ≡ b
one_way leads from to a b p q =
    let distance : a.distance ≡ b.distance =
    omega (
      arith,
      p.distance.2,
      q.distance.2,
      p.distance.1.least q.distance.0 q.distance.1.is_walk,
      q.distance.1.least p.distance.0 p.distance.1.is_walk,
    ) in
    let hops : a.hops ≡ b.hops = same_hops a.hops b.hops (λ i t. (q.hops i).1 ((p.hops i).0 t))
    (λ i t. (p.hops i).1 ((q.hops i).0 t)) in
    λ i. record { distance = distance i; hops = hops i }

pub ways : WaysAreDetermined
ways contents root from to a b p q = one_way (Leads contents root) from to a b p q

-- ---- equally good offers

kind_at : ℕ → RouteKind
kind_at zero = Intra
kind_at (suc zero) = Inter
kind_at (suc (suc zero)) = External1
kind_at (suc (suc (suc n))) = External2

ranked : (k : RouteKind) → k ≡ kind_at (rank k)
unfolding kind_at
ranked Intra = refl
ranked Inter = refl
ranked External1 = refl
ranked External2 = refl

pub same_kind : (a b : RouteKind) → rank a ≡ rank b → a ≡ b
same_kind a b e = ranked a ∙ ap kind_at e ∙ sym (ranked b)

pub record AreAlike (a b : Offer) : Type 0 where
  pub kind : rank a.kind ≡ rank b.kind
  pub cost : a.cost ≡ b.cost
  pub distance : a.distance ≡ b.distance

pub alike : (a b : Offer) → IsNoWorse a b → IsNoWorse b a → AreAlike a b
alike a b (ByKind p) (ByKind q) = absurd (omega (arith, p, q))
alike a b (ByKind p) (ByCost q r) = absurd (omega (arith, p, q))
alike a b (ByKind p) (ByDistance q r s) = absurd (omega (arith, p, q))
alike a b (ByCost p e) (ByKind q) = absurd (omega (arith, p, q))
alike a b (ByCost p e) (ByCost q r) = absurd (omega (arith, e, r))
alike a b (ByCost p e) (ByDistance q r s) = absurd (omega (arith, e, r))
alike a b (ByDistance p e f) (ByKind q) = absurd (omega (arith, p, q))
alike a b (ByDistance p e f) (ByCost q r) = absurd (omega (arith, e, r))
alike a b (ByDistance p e f) (ByDistance q r s) = record {
  kind = p;
  cost = e;
  distance = omega (arith, f, s);
}

pub as_good : (a b c : Offer) → AreAlike a b → IsNoWorse a c → IsNoWorse b c
as_good a b c same (ByKind p) = ByKind (omega (arith, p, same.kind))
as_good a b c same (ByCost p q) = ByCost (omega (arith, p, same.kind)) (omega (arith, q, same.cost))
as_good a b c same (ByDistance p q r) =
    ByDistance (omega (arith, p, same.kind)) (omega (arith, q, same.cost))
    (omega (arith, r, same.distance))

same_tag : (a b : Offer) → IsNoLater a b → IsNoLater b a → a.tag ≡ b.tag
same_tag a b (ByOriginator p) (ByOriginator q) = absurd (omega (arith, p, q))
same_tag a b (ByOriginator p) (ByTag q r) = absurd (omega (arith, p, q))
same_tag a b (ByTag p e) (ByOriginator q) = absurd (omega (arith, p, q))
same_tag a b (ByTag p e) (ByTag q r) = omega (arith, e, r)

-- ---- candidates

-- whatever the offers, a prefix has one route
pub one_route : (IsOffered : Offer → Type 0) (r s : Route) → IsRouteAmong IsOffered r
    → IsRouteAmong IsOffered s → r.prefix ≡ s.prefix → r ≡ s
one_route IsOffered r s p q e =
    let Best : Offer → Network → Type 0 = λ o n. IsBestAmong IsOffered n o in
    let here : IsBestAmong IsOffered s.prefix p.first = subst (Best p.first) e p.is_best in
    let there : IsBestAmong IsOffered r.prefix q.first = subst (Best q.first) (sym e) q.is_best in
    let equals : AreAlike p.first q.first =
    alike p.first q.first (p.is_best.best q.first q.is_best.offered there.is_for)
    (q.is_best.best p.first p.is_best.offered here.is_for) in
    let kind : r.kind ≡ s.kind = p.kind ∙ same_kind p.first.kind q.first.kind equals.kind
    ∙ sym q.kind in
    let cost : r.cost ≡ s.cost = p.cost ∙ equals.cost ∙ sym q.cost in
    let distance : r.distance ≡ s.distance = p.distance ∙ equals.distance ∙ sym q.distance in
    let tag : r.tag ≡ s.tag = p.tag ∙ same_tag p.first q.first (p.earliest q.first there)
    (q.earliest p.first here) ∙ sym q.tag in
    let hops : r.hops ≡ s.hops = same_hops r.hops s.hops
    (λ i t. let o = (p.hops i).0 t in (q.hops i).1 (o.0, subst (Best o.0) e o.1, o.2))
    (λ i t. let o = (q.hops i).0 t in (p.hops i).1 (o.0, subst (Best o.0) (sym e) o.1, o.2)) in
    λ i. record {
      prefix = e i;
      kind = kind i;
      cost = cost i;
      distance = distance i;
      hops = hops i;
      tag = tag i;
    }

pub one_candidate : OneCandidateForEachPrefix
one_candidate contents root r s p q e = one_route (Offers contents root) r s p q e

pub never_both : (a b : Network) → IsBefore a b → IsBefore b a → ⊥
never_both a b (ByAddress p) (ByAddress q) = omega (arith, p, q)
never_both a b (ByAddress p) (ByLength q r) = omega (arith, p, q)
never_both a b (ByLength p e) (ByAddress q) = omega (arith, p, q)
never_both a b (ByLength p e) (ByLength q r) = omega (arith, e, r)

-- lists of routes in the order of their prefixes, with the same routes
pub same_routes : (left right : List Route)
    → AllPairs (λ (a : Route) (b : Route). IsBefore a.prefix b.prefix) left
    → AllPairs (λ (a : Route) (b : Route). IsBefore a.prefix b.prefix) right
    → ((r : Route) → Contains left r → Contains right r)
    → ((r : Route) → Contains right r → Contains left r) → left ≡ right
same_routes left right = same_lists (λ (a : Route) (b : Route). IsBefore a.prefix b.prefix)
    (λ (a : Route) (b : Route). never_both a.prefix b.prefix) left right

pub candidates : CandidatesAreDetermined
candidates contents root left right p q =
    same_routes left right p.ascending q.ascending (λ r t. (q.each r).1 ((p.each r).0 t))
    (λ r t. (p.each r).1 ((q.each r).0 t))
