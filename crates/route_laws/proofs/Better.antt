-- Along the routers that forward a packet the routes become better, so that it visits none twice.
use Rattle.std.proofs.Common.{◌≡◌, ℕ, zero, suc, ◌<◌, ◌≤◌, inl, inr, List, [], ◌∷◌, Some, length}
use Rattle.std.proofs.Common.{get_or, arith, refl, sym, ◌∙◌, subst}
use Rattle.std.specs.List.{Contains}
use Rattle.std.proofs.lemmas.Bool.{cases_lt}
use Rattle.std.proofs.lemmas.Option.{slice_get_within}
use Rattle.words.specs.declared.route.Route.{Route}
use Rattle.candidates.specs.Borders.{IsLongest}
use Rattle.routes.proofs.Determined.{one_candidate}
use Rattle.routes.proofs.Lists.{first_is, later_is}
use Rattle.route_laws.specs.Outward.{IsBetter}
use Rattle.route_laws.proofs.Fewer.{no_longer}
use Rattle.route_laws.proofs.Longest.{same_prefix}
use Rattle.route_laws.proofs.Outward.{better_still, not_itself}
use Rattle.route_laws.specs.Networks.{EachHopLeadsOn, LeadsOn, RoutersForwardWithoutLoops}
use Rattle.route_laws.specs.Networks.LeadsOn.{AtHome, Further, ToAnnouncer}
use Rattle.route_laws.specs.Topologies.{Forwarder, HandsTo, HasConverged, IsAnnouncedAt}
use Rattle.route_laws.specs.Topologies.{IsHandedAlong, StandsAt, Topology, root_of, says_of}
use Rattle.route_laws.proofs.Members.{one_forwarder}

-- the numbers below n
upto : ℕ → List ℕ
upto zero = []
upto (suc n) = n ∷ upto n

module _ (topology : Topology) (converged : HasConverged topology) (hop : EachHopLeadsOn)
    (address : ℕ) where
  -- the router with this index forwards packets to the address by this route
  pub record ForwardsBy (place : ℕ) (route : Route) : Type 0 where
    pub forwarder : Forwarder
    pub stands : StandsAt topology place forwarder
    pub longest : IsLongest forwarder.table address route

  longest_is : (place : ℕ) (a : Forwarder) → StandsAt topology place a → (r s : Route)
      → IsLongest a.table address r → IsLongest a.table address s → r ≡ s
  longest_is place a p r s x y =
      let table = (converged.up_to_date place a p).is_current.is_table in
      let long : r.prefix.length ≡ s.prefix.length =
      omega (arith, x.longest s y.among y.under, y.longest r x.among x.under) in
      one_candidate (says_of a.router) (root_of a.router) r s ((table.each r).0 x.among).0
      ((table.each s).0 y.among).0 (same_prefix address r.prefix s.prefix x.under y.under long)

  one_route : (place : ℕ) (r s : Route) → ForwardsBy place r → ForwardsBy place s → r ≡ s
  one_route place r s f g =
      let e : g.forwarder ≡ f.forwarder =
      one_forwarder topology place g.forwarder f.forwarder g.stands f.stands in
      let P : Forwarder → Type 0 = λ x. IsLongest x.table address s in
      longest_is place f.forwarder f.stands r s f.longest (subst P e g.longest)

  -- a property of a router that a packet visits later
  pub data IsLater (route : Route) (place : ℕ) : Type 0 where
    ByBetter : (its : Route) → ForwardsBy place its → IsBetter its route → IsLater route place
    Announcing : IsAnnouncedAt topology address place → IsLater route place

  next_is : (place to : ℕ) → HandsTo topology address place to
      → (IsAnnouncedAt topology address place → ⊥) → (route : Route) → ForwardsBy place route
      → IsLater route to
  next_is place to h silent route f =
      let e : h.route ≡ route = one_route place h.route route (record {
        forwarder = h.forwarder;
        stands = h.stands;
        longest = h.longest;
      }) f in
      let P : Route → Type 0 = λ r. IsLater r to in
      subst P e (by_hop (hop topology converged address place h.forwarder h.stands silent h.route
      h.longest h.interface h.is_hop))
    where
      by_hop : LeadsOn topology address place h.forwarder h.route h.interface → IsLater h.route to
      by_hop (AtHome itself at) = absurd (omega (arith, h.away, itself))
      by_hop (Further other next following across stands longest same good) =
          let e : Some other ≡ Some to = sym across ∙ h.is_across in
          let is : other ≡ to = cc in
          let P : ℕ → Type 0 = λ k. IsLater h.route k in
          subst P is (ByBetter following (record {
            forwarder = next;
            stands = stands;
            longest = longest;
          }) good)
      by_hop (ToAnnouncer other across x) =
          let e : Some other ≡ Some to = sym across ∙ h.is_across in
          let is : other ≡ to = cc in
          let P : ℕ → Type 0 = λ k. IsLater h.route k in
          subst P is (Announcing x)

  later_still : (route its : Route) (place : ℕ) → IsBetter its route → IsLater its place
      → IsLater route place
  later_still route its place good (ByBetter s f better) =
      ByBetter s f (better_still s its route better good)
  later_still route its place good (Announcing x) = Announcing x

  pub each_later : (first : ℕ) (others : List ℕ) → IsHandedAlong topology address (first ∷ others)
      → (route : Route) → ForwardsBy first route → (k d : ℕ) → k < length others
      → IsLater route (get_or others k d)
  each_later first [] handed route f k d low = absurd (omega (arith, low))
  each_later first (next ∷ others) handed route f zero d low =
      next_is first next handed.0 handed.1 route f
  each_later first (next ∷ []) handed route f (suc k) d low = absurd (omega (arith, low))
  each_later first (next ∷ third ∷ others) handed route f (suc k) d low =
      on (λ its g. each_later next (third ∷ others) handed.2 its g k d (omega (arith, low)))
      (next_is first next handed.0 handed.1 route f)
    where
      on : ((its : Route) → ForwardsBy next its → IsLater its (get_or (third ∷ others) k d))
          → IsLater route next → IsLater route (get_or (third ∷ others) k d)
      on further (Announcing x) = absurd (handed.2.1 x)
      on further (ByBetter its g good) =
          later_still route its (get_or (third ∷ others) k d) good (further its g)

  rest_handed : (first : ℕ) (others : List ℕ) → IsHandedAlong topology address (first ∷ others)
      → IsHandedAlong topology address others
  rest_handed first [] handed = tt
  rest_handed first (next ∷ others) handed = handed.2

  pub none_twice : (places : List ℕ) → IsHandedAlong topology address places → (i j d : ℕ) → i < j
      → j < length places → get_or places i d ≡ get_or places j d → ⊥
  none_twice [] handed i j d before low same = omega (arith, before, low)
  none_twice (first ∷ others) handed i zero d before low same = omega (arith, before)
  none_twice (first ∷ others) handed (suc i) (suc j) d before low same =
      none_twice others (rest_handed first others handed) i j d (omega (arith, before))
      (omega (arith, low)) same
  none_twice (first ∷ []) handed zero (suc j) d before low same = omega (arith, low)
  none_twice (first ∷ next ∷ others) handed zero (suc j) d before low same =
      let h = handed.0 in
      let f : ForwardsBy first h.route = record {
        forwarder = h.forwarder;
        stands = h.stands;
        longest = h.longest;
      } in
      let P : ℕ → Type 0 = λ k. IsLater h.route k in
      never f (subst P (sym same) (each_later first (next ∷ others) handed h.route f j d
      (omega (arith, low))))
    where
      never : ForwardsBy first handed.0.route → IsLater handed.0.route first → ⊥
      never f (Announcing x) = handed.1 x
      never f (ByBetter its g good) = not_itself its handed.0.route
          (one_route first its handed.0.route g f) good

  -- ---- the number of routers

  stands_there : (first : ℕ) (others : List ℕ) → IsHandedAlong topology address (first ∷ others)
      → (route : Route) → ForwardsBy first route → (k d : ℕ) → k < length others
      → get_or others k d < length topology.routers
  stands_there first others handed route f k d low =
      by_case (each_later first others handed route f k d low)
    where
      by_case : IsLater route (get_or others k d) → get_or others k d < length topology.routers
      by_case (ByBetter its g good) = slice_get_within topology.routers (get_or others k d)
          g.forwarder g.stands
      by_case (Announcing x) = slice_get_within topology.routers (get_or others k d) x.forwarder
          x.stands

in_upto : (n k : ℕ) → k < n → Contains (upto n) k
unfolding upto
in_upto zero k low = absurd (omega (arith, low))
in_upto (suc n) k low =
    elim (cases_lt k n) [
      | inl less ↦ later_is n (upto n) k (in_upto n k less)
      | inr past ↦ let e : n ≡ k = omega (arith, low, past) in let P : ℕ → Type 0 =
          λ m. Contains (n ∷ upto n) m in subst P e (first_is n (upto n))
    ]

length_upto : (n : ℕ) → length (upto n) ≡ n
unfolding upto
length_upto zero = refl
length_upto (suc n) = omega (arith, length_upto n)

module _ (topology : Topology) (converged : HasConverged topology) (hop : EachHopLeadsOn)
    (address : ℕ) where
  each_below : (first : ℕ) (others : List ℕ) (f : Forwarder) → StandsAt topology first f
      → IsHandedAlong topology address (first ∷ others) → (x : ℕ) → Contains (first ∷ others) x
      → x < length topology.routers
  each_below first others f p handed x (zero, low, is) =
      let here : first < length topology.routers = slice_get_within topology.routers first f p in
      omega (arith, here, is)
  each_below first [] f p handed x (suc k, low, is) = absurd (omega (arith, low))
  each_below first (next ∷ others) f p handed x (suc k, low, is) =
      let h = handed.0 in
      let by : ForwardsBy topology converged hop address first h.route = record {
        forwarder = h.forwarder;
        stands = h.stands;
        longest = h.longest;
      } in
      let there = stands_there topology converged hop address first (next ∷ others) handed h.route
      by k x (omega (arith, low)) in
      omega (arith, there, is)

  pub few : (first : ℕ) (others : List ℕ) (f : Forwarder) → StandsAt topology first f
      → IsHandedAlong topology address (first ∷ others) → length (first ∷ others)
      ≤ length topology.routers
  few first others f p handed =
      let n : ℕ = length topology.routers in
      let low = no_longer (λ (k : ℕ). k) (first ∷ others) (upto n)
      (λ x t. in_upto n x (each_below first others f p handed x t))
      (none_twice topology converged hop address (first ∷ others) handed) in
      omega (arith, low, length_upto n)

pub without_loops : EachHopLeadsOn → RoutersForwardWithoutLoops
without_loops hop = record {
  no_twice = λ topology converged address places handed. none_twice topology converged hop address
      places handed;
  short = λ topology converged address first others f p handed. few topology converged hop address
      first others f p handed;
}
