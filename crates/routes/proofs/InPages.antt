-- Routes that were all answered with 0.
use Rattle.std.proofs.Common.{◌≡◌, ℕ, ◌+◌, ◌-◌, ◌<◌, ◌≤◌, refl, inl, inr, List, Option, None, Some}
use Rattle.std.proofs.Common.{length, get_or, map, arith, sym, ◌∙◌, ap}
use Rattle.std.specs.Prelude.{option_map, slice_get}
use Rattle.std.proofs.lemmas.Bool.{cases_lt}
use Rattle.std.proofs.lemmas.Option.{get_or_from_slice_get, same_Some, slice_get-map}
use Rattle.std.proofs.lemmas.Option.{slice_get_cases, slice_get_read, slice_get_within}
use Rattle.keyed_map.specs.Answers.{all_in}
use Rattle.keyed_map.specs.Places.{IsPartFrom}
use Rattle.words.specs.declared.route.Route.{Route}
use Rattle.routes.specs.Parts.{StandsAt}
use Rattle.routes.proofs.InTurn.{AreMet}

-- the first routes of both lists are the same
abbrev pub AreSame : List Route → List Route → ℕ → Type 0
AreSame one other met =
    (k : ℕ) (r : Route) → k < met → slice_get one k ≡ Some r → slice_get other k ≡ Some r

-- the route isn't at an index from the one up to the other
abbrev pub IsPassed : List Route → (from : ℕ) → (at : ℕ) → Route → Type 0
IsPassed routes from at route =
    (k : ℕ) → from ≤ k → k < at → slice_get routes k ≡ Some route → ⊥

module _ (answered : List Route) where
  pub stands : (k : ℕ) (r : Route) → slice_get answered k ≡ Some r → StandsAt (all_in answered) k r
  stands k r is = (
    0,
    slice_get-map (λ (x : Route). (x, 0)) answered k
        ∙ ap (λ o. option_map (λ (x : Route). (x, 0)) o) is,
  )

  pub are_met : (candidates : List Route) (met : ℕ) → AreSame candidates answered met
      → AreMet (all_in answered) candidates met
  are_met candidates met each k r low is = stands k r (each k r low is)

  pub stood : (k : ℕ) (r : Route) → StandsAt (all_in answered) k r → slice_get answered k ≡ Some r
  stood k r (word, is) =
      let f : Route → Route × ℕ = λ x. (x, 0) in
      let there : slice_get (map f answered) k ≡ Some (r, word) = is in
      let mapped : slice_get (map f answered) k ≡ option_map f (slice_get answered k) =
      slice_get-map f answered k in
      elim (slice_get_cases answered k).1 [
        | inl (x, inside, its, read) ↦
            let here : slice_get (map f answered) k ≡ Some (f x) =
            mapped ∙ ap (λ (o : Option Route). option_map f o) its in
            let both : f x ≡ (r, word) = same_Some (f x) (r, word) (sym here ∙ there) in
            its ∙ ap (λ (y : Route × ℕ). Some y.0) both
        | inr (past, none) ↦
            let here : slice_get (map f answered) k ≡ None =
            mapped ∙ ap (λ (o : Option Route). option_map f o) none in
            let no : None ≡ Some (r, word) = sym here ∙ there in
            absurd (let w : None ≡ Some (r, word) = no in cc)
      ]

  pub none_behind : (met : ℕ) (route : Route)
      → ((k : ℕ) → met ≤ k → slice_get answered k ≡ Some route → ⊥) → (k : ℕ) → met ≤ k
      → StandsAt (all_in answered) k route → ⊥
  none_behind met route behind k low stands = behind k low (stood k route stands)

-- the first one of a part
pub first_of_part : (routes : List Route) (met : ℕ) (part : List Route) (route : Route)
    → IsPartFrom routes met part → met < length routes → route ≡ get_or part 0 route
    → route ≡ get_or routes met route
first_of_part routes met part route is within read =
    let some = is.some within in
    let there = slice_get_read part (length part) 0 route refl some read in
    let zero : met + 0 ≡ met = omega arith in
    let at = sym (ap (λ n. slice_get routes n) zero) ∙ sym (is.each 0 some) ∙ there in
    sym (get_or_from_slice_get routes met route route at)

-- `same` more
pub more_same : (one other : List Route) (met same : ℕ) (part beside : List Route)
    → IsPartFrom one met part → IsPartFrom other met beside → same ≤ length part
    → same ≤ length beside → AreSame part beside same → AreSame one other met
    → AreSame one other (met + same)
more_same one other met same part beside is its fits suits each before k r low there =
    elim (cases_lt k met) [
      | inl under ↦ before k r under there
      | inr above ↦
          let within : k - met < same = omega (arith, low, above) in
          let back : met + (k - met) ≡ k = omega (arith, above) in
          let first = is.each (k - met) (omega (arith, within, fits))
          ∙ ap (λ n. slice_get one n) back ∙ there in
          let second = each (k - met) r within first in
          sym (its.each (k - met) (omega (arith, within, suits)) ∙ ap (λ n. slice_get other n) back)
          ∙ second
    ]

-- a part more
pub more_passed : (routes : List Route) (from at : ℕ) (part : List Route) (route : Route)
    → IsPartFrom routes at part → ((k : ℕ) → slice_get part k ≡ Some route → ⊥)
    → IsPassed routes from at route → IsPassed routes from (at + length part) route
more_passed routes from at part route is none before k low high there =
    elim (cases_lt k at) [
      | inl under ↦ before k low under there
      | inr above ↦
          let within : k - at < length part = omega (arith, high, above) in
          let back : at + (k - at) ≡ k = omega (arith, above) in
          none (k - at) (is.each (k - at) within ∙ ap (λ n. slice_get routes n) back ∙ there)
    ]

pub all_passed : (routes : List Route) (from at : ℕ) (route : Route) → length routes ≤ at
    → IsPassed routes from at route → (k : ℕ) → from ≤ k → slice_get routes k ≡ Some route → ⊥
all_passed routes from at route all passed k low there =
    let within = slice_get_within routes k route there in
    passed k low (omega (arith, within, all)) there
