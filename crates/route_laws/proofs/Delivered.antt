-- A router with a route for the address that doesn't forward its packets is attached to the
-- network.
use Rattle.std.proofs.Common.{◌≡◌, ℕ, zero, suc, inl, inr, IsTrue, List, [], ◌∷◌, length, get_or}
use Rattle.std.proofs.Common.{arith, refl, sym, subst}
use Rattle.std.proofs.lemmas.Bool.{cases_lt}
use Rattle.words.specs.Interfaces.{has_interface}
use Rattle.words.specs.declared.route.Route.{Route}
use Rattle.candidates.specs.Laws.{CandidatesAreCheapestWalks, EveryOfferHasACandidate}
use Rattle.route_laws.specs.Forwarding.{EachHopIsNearer, RoutesEndAtTheNetwork}
use Rattle.route_laws.specs.Outward.{EachHopLeadsToAnOriginator}
use Rattle.route_laws.specs.Premises.{OwnRouterLsasMeetThePremises}
use Rattle.route_laws.specs.Networks.{EachHopLeadsOn, IsThere, PacketsArrive, last_of}
use Rattle.route_laws.specs.Networks.IsThere.{Announced, Attached}
use Rattle.route_laws.specs.Topologies.{Forwarder, HandsTo, HasConverged, IsHandedAlong}
use Rattle.route_laws.specs.Topologies.{Topology}
use Rattle.route_laws.proofs.Hop.{at_home, next_by, some_hop}
use Rattle.route_laws.proofs.Better.{ForwardsBy, IsLater, each_later}
use Rattle.route_laws.proofs.Better.IsLater.{Announcing, ByBetter}

last_at : (first : ℕ) (others : List ℕ) (k : ℕ) → length others ≡ suc k → last_of first others
    ≡ get_or others k first
last_at first [] k e = absurd (omega (arith, e))
last_at first (next ∷ []) zero e = refl
last_at first (next ∷ []) (suc k) e = absurd (omega (arith, e))
last_at first (next ∷ third ∷ others) zero e = absurd (omega (arith, e))
last_at first (next ∷ third ∷ others) (suc k) e =
    last_again next first third others k (omega (arith, e))
  where
    last_again : (next first third : ℕ) (others : List ℕ) (k : ℕ) → length (third ∷ others) ≡ suc k
        → last_of next (third ∷ others) ≡ get_or (third ∷ others) k first
    last_again next first third [] zero e = refl
    last_again next first third [] (suc k) e = absurd (omega (arith, e))
    last_again next first third (fourth ∷ others) zero e = absurd (omega (arith, e))
    last_again next first third (fourth ∷ others) (suc k) e =
        last_again third first fourth others k (omega (arith, e))

module _ (topology : Topology) (converged : HasConverged topology)
    (premises : OwnRouterLsasMeetThePremises) (every : EveryOfferHasACandidate)
    (cheapest : CandidatesAreCheapestWalks) (hops : EachHopIsNearer)
    (toward : EachHopLeadsToAnOriginator) (ends : RoutesEndAtTheNetwork)
    (hop : EachHopLeadsOn) (address : ℕ) where
  at_last : (place : ℕ) (route : Route) → ForwardsBy topology converged hop address place route
      → ((to : ℕ) → HandsTo topology address place to → ⊥) → IsThere topology address place
  at_last place route f nobody =
      let a : Forwarder = f.forwarder in
      let h = some_hop topology converged premises every cheapest hops toward ends place a f.stands
      route f.longest.among in
      elim (cases_lt 0 h.0) [
        | inl away ↦
            let n = next_by topology converged premises every cheapest place a f.stands route
            f.longest.among h.0 away h.1 in
            absurd (nobody n.other (record {
              forwarder = a;
              stands = f.stands;
              route = route;
              longest = f.longest;
              interface = h.0;
              away = away;
              is_hop = h.1;
              is_across = n.is_across;
            }))
        | inr none ↦
            let itself : h.0 ≡ 0 = omega (arith, none) in
            let P : ℕ → Type 0 = λ i. IsTrue (has_interface route.hops i) in
            Attached a f.stands route f.longest
            (at_home topology converged premises every cheapest hops toward ends place a
            f.stands route f.longest.among (subst P itself h.1))
      ]

  later_last : (place : ℕ) (route : Route) → IsLater topology converged hop address route place
      → ((to : ℕ) → HandsTo topology address place to → ⊥) → IsThere topology address place
  later_last place route (ByBetter its g good) nobody = at_last place its g nobody
  later_last place route (Announcing x) nobody = Announced x

  pub is_there : (first : ℕ) (others : List ℕ) (route : Route)
      → ForwardsBy topology converged hop address first route
      → IsHandedAlong topology address (first ∷ others)
      → ((to : ℕ) → HandsTo topology address (last_of first others) to → ⊥)
      → IsThere topology address (last_of first others)
  is_there first [] route f handed nobody = at_last first route f nobody
  is_there first (next ∷ others) route f handed nobody =
      let P : ℕ → Type 0 = λ k. ((to : ℕ) → HandsTo topology address k to → ⊥)
      → IsThere topology address k in
      let k : ℕ = length others in
      let e = last_at first (next ∷ others) k (omega arith) in
      subst P (sym e) (later_last (get_or (next ∷ others) k first) route
      (each_later topology converged hop address first (next ∷ others) handed route f k first
      (omega arith))) nobody

pub arrive : OwnRouterLsasMeetThePremises → EveryOfferHasACandidate → CandidatesAreCheapestWalks
    → EachHopIsNearer → EachHopLeadsToAnOriginator → RoutesEndAtTheNetwork → EachHopLeadsOn
    → PacketsArrive
arrive premises every cheapest hops toward ends hop topology converged address first others a p
    route longest handed nobody =
    is_there topology converged premises every cheapest hops toward ends hop address first others
    route (record { forwarder = a; stands = p; longest = longest }) handed nobody
