-- The first routes have their answers at their own indices.
use Rattle.std.proofs.Common.{◌≡◌, ℕ, ◌<◌, ◌≤◌, inl, inr, List, Some, length, get_or, arith, sym}
use Rattle.std.proofs.Common.{◌∙◌, ◌+◌, ◌-◌, ap, drop, length-drop, subst}
use Rattle.std.proofs.lemmas.List.{get_or-drop}
use Rattle.std.specs.Prelude.{slice_get}
use Rattle.std.proofs.lemmas.Bool.{cases_lt}
use Rattle.std.proofs.lemmas.Option.{get_or_from_slice_get, same_Some, slice_get-get_or}
use Rattle.std.proofs.lemmas.Option.{slice_get_within}
use Rattle.words.specs.declared.route.Route.{Route}
use Rattle.routes.specs.Routes.{IsBefore}
use Rattle.routes.specs.Tables.{RouteWords, HasAnswer}
use Rattle.routes.proofs.OneMore.{never_itself}
use Rattle.keyed_map.specs.Places.{IsPartFrom}
use Rattle.routes.specs.Parts.{AreAnswersAmong, Ascend, LacksAnswers, StandsAt}

-- the first `met` routes have
abbrev pub AreMet : RouteWords → List Route → ℕ → Type 0
AreMet answers routes met =
    (k : ℕ) (r : Route) → k < met → slice_get routes k ≡ Some r → StandsAt answers k r

-- if all have, none lacks an answer
pub none_lacks : (answers : RouteWords) (routes : List Route) (met : ℕ) → length routes ≤ met
    → AreMet answers routes met → LacksAnswers answers routes → ⊥
none_lacks answers routes met all each (r, (k, within, is), none) =
    let there : slice_get routes k ≡ Some r =
    slice_get-get_or routes k r within ∙ ap (λ (x : Route). Some x) is in
    let stands = each k r (omega (arith, within, all)) there in
    let answer : Route × ℕ = (r, stands.0) in
    none (
      stands.0,
      (
        k,
        slice_get_within answers k answer stands.1,
        get_or_from_slice_get answers k answer answer stands.1,
      ),
    )

-- and otherwise the next one does, unless its answer is after those
module _ (answers : RouteWords) (routes : List Route) (met : ℕ) (route : Route)
    (within : met < length routes) (here : route ≡ get_or routes met route) (up : Ascend routes)
    (each : AreMet answers routes met)
    (behind : (k : ℕ) → met ≤ k → StandsAt answers k route → ⊥) where
  unanswered : HasAnswer answers route → ⊥
  unanswered (word, (k, inside, is)) =
      let answer : Route × ℕ = (route, word) in
      let stands : slice_get answers k ≡ Some answer =
      slice_get-get_or answers k answer inside ∙ ap (λ (x : Route × ℕ). Some x) is in
      elim (cases_lt k met) [
        | inl before ↦
            let r : Route = get_or routes k route in
            let its = each k r before (slice_get-get_or routes k route
            (omega (arith, before, within))) in
            let one : Route × ℕ = (r, its.0) in
            let same : one ≡ answer = same_Some one answer (sym its.1 ∙ stands) in
            let order : IsBefore r.prefix (get_or routes met route).prefix =
            up k met route before within in
            never_itself r.prefix route.prefix (ap (λ (x : Route × ℕ). x.0.prefix) same)
            (subst (λ (x : Route). IsBefore r.prefix x.prefix) (sym here) order)
        | inr after ↦ behind k after (word, stands)
      ]

  pub one_lacks : LacksAnswers answers routes
  one_lacks = (route, (met, within, sym here), unanswered)

-- if there are no more answers than candidates that all have theirs, each is one of a candidate
pub all_answered : (answers : RouteWords) (routes : List Route) (met : ℕ)
    → length answers ≤ length routes → length routes ≤ met → AreMet answers routes met
    → AreAnswersAmong answers routes
all_answered answers routes met few whole each r (word, (k, within, is)) =
    let answer : Route × ℕ = (r, word) in
    let there : slice_get answers k ≡ Some answer =
    slice_get-get_or answers k answer within ∙ ap (λ (x : Route × ℕ). Some x) is in
    let low : k < length routes = omega (arith, within, few) in
    let one : Route = get_or routes k r in
    let its = each k one (omega (arith, low, whole)) (slice_get-get_or routes k r low) in
    let read : Route × ℕ = (one, its.0) in
    let same : read ≡ answer = same_Some read answer (sym its.1 ∙ there) in
    (k, low, ap (λ (x : Route × ℕ). x.0) same)

-- an answer behind the first ones
stands_behind : (answers : RouteWords) (met k : ℕ) (r : Route) → StandsAt (drop met answers) k r
    → StandsAt answers (met + k) r
stands_behind answers met k r (word, is) =
    let answer : Route × ℕ = (r, word) in
    let inside = slice_get_within (drop met answers) k answer is in
    let low : met + k < length answers = omega (arith, length-drop met answers, inside) in
    let read : get_or answers (met + k) answer ≡ answer =
    sym (get_or-drop met answers k answer)
    ∙ get_or_from_slice_get (drop met answers) k answer answer is in (
      word,
      slice_get-get_or answers (met + k) answer low ∙ ap (λ (x : Route × ℕ). Some x) read,
    )

-- `same` more, of a part
pub more_met : (answers : RouteWords) (routes : List Route) (met same : ℕ) (part : List Route)
    → IsPartFrom routes met part → same ≤ length part → AreMet (drop met answers) part same
    → AreMet answers routes met → AreMet answers routes (met + same)
more_met answers routes met same part is fits each before k r low there =
    elim (cases_lt k met) [
      | inl under ↦ before k r under there
      | inr above ↦
          let within : k - met < same = omega (arith, low, above) in
          let back : met + (k - met) ≡ k = omega (arith, above) in
          let first = is.each (k - met) (omega (arith, within, fits))
          ∙ ap (λ n. slice_get routes n) back ∙ there in
          subst (λ n. StandsAt answers n r) back
          (stands_behind answers met (k - met) r (each (k - met) r within first))
    ]
