-- Which routes are let in or answered: one more after those before it, all of them, and candidates.
use Rattle.std.proofs.Common.{◌≡◌, ℕ, Bool, IsTrue, ◌<◌, ◌+◌, ◌⊎◌, inl, inr, List, [], ◌∷◌, ◌++◌}
use Rattle.std.proofs.Common.{length, get_or, arith, sym, ◌∙◌, ap, subst}
use Rattle.std.specs.Prelude.{◌↔◌}
use Rattle.std.specs.List.{Contains}
use Rattle.std.proofs.lemmas.Bool.{cases_eq}
use Rattle.std.proofs.lemmas.List.Elements.{Contains-append_left, Contains-push}
use Rattle.std.proofs.lemmas.List.Elements.{Contains-push_cases}
use Rattle.std.proofs.lemmas.List.Quantifiers.{all_pairs_push}
use Rattle.words.specs.declared.route.Route.{Route}
use Rattle.routes.specs.Candidates.{AreCandidates}
use Rattle.routes.specs.Routes.{IsBefore}
use Rattle.routes.specs.Contents.{Contents}
use Rattle.routes.specs.Tables.{RouteWords, HasAnswer, IsLetIn, IsStale, IsTable}
use Rattle.routes.specs.declared.root.Root.{Root}
use Rattle.routes.proofs.Listed.{other_default}
use Rattle.routes.specs.Parts.{AreLetIn, Ascend, LacksAnswers}

-- one of the first n routes
abbrev pub IsAmong : List Route → ℕ → Route → Type 0
IsAmong routes n r = (k : ℕ) × (k < n) × (get_or routes k r ≡ r)

pub record AreLetInOf (answers : RouteWords) (routes : List Route) (n : ℕ) (part : List Route) :
    Type 0
  where
    pub each : (r : Route) → Contains part r ↔ (IsAmong routes n r × IsLetIn answers r)
    pub ascending : Ascend routes → Ascend part

pub none_yet : (answers : RouteWords) (routes : List Route) → AreLetInOf answers routes 0 []
none_yet answers routes = record {
  each = λ r. ((λ t. absurd (omega (arith, t.1))), (λ h. absurd (omega (arith, h.0.1))));
  ascending = λ up i j d before within. absurd (omega (arith, within));
}

module _ (answers : RouteWords) (routes : List Route) (n : ℕ) (route : Route)
    (within : n < length routes) (here : route ≡ get_or routes n route) where
  pub split : (r : Route) → IsAmong routes (n + 1) r → IsAmong routes n r ⊎ (route ≡ r)
  split r (k, low, is) =
      elim (cases_eq k n) [
        | inl e ↦ inr (here ∙ other_default routes n route r within
            ∙ ap (λ i. get_or routes i r) (sym e) ∙ is)
        | inr other ↦ inl (k, omega (arith, low, other), is)
      ]

  widened : (r : Route) → IsAmong routes n r → IsAmong routes (n + 1) r
  widened r (k, low, is) = (k, omega (arith, low), is)

  last : (r : Route) → route ≡ r → IsAmong routes (n + 1) r
  last r e = subst (IsAmong routes (n + 1)) e (n, omega arith, sym here)

  pub let_in_more : (part : List Route) → IsLetIn answers route → AreLetInOf answers routes n part
      → AreLetInOf answers routes (n + 1) (part ++ route ∷ [])
  let_in_more part ok of = record {
    each = λ r. (
      (λ t. elim (Contains-push_cases part route r t) [
        | inl old ↦ let h = (of.each r).0 old in (widened r h.0, h.1)
        | inr e ↦ (last r e, subst (IsLetIn answers) e ok)
      ]),
      (λ h. elim (split r h.0) [
        | inl old ↦ grown r ((of.each r).1 (old, h.1))
        | inr e ↦ subst (Contains (part ++ route ∷ [])) e (Contains-push part route)
      ]),
    );
    ascending = λ up. all_pairs_push (λ (a : Route) (b : Route). IsBefore a.prefix b.prefix) part
        route (of.ascending up) (λ k d low. before up k d low);
  }
    where
      grown : (r : Route) → Contains part r → Contains (part ++ route ∷ []) r
      grown r t = Contains-append_left part (route ∷ []) r t

      before : Ascend routes → (k : ℕ) (d : Route) → k < length part
          → IsBefore (get_or part k d).prefix route.prefix
      before up k d low =
          let r = get_or part k d in
          let h = (of.each r).0 (k, low, other_default part k r d low) in
          let R : Route → Route → Type 0 = λ a b. IsBefore a.prefix b.prefix in
          subst (λ a. R a route) h.0.2 (subst (λ b. R (get_or routes h.0.0 r) b)
          (other_default routes n r route within ∙ sym here) (up h.0.0 n r h.0.1 within))

  pub left_out : (part : List Route) → (IsLetIn answers route → ⊥)
      → AreLetInOf answers routes n part → AreLetInOf answers routes (n + 1) part
  left_out part not of = record {
    each = λ r. (
      (λ t. let h = (of.each r).0 t in (widened r h.0, h.1)),
      (λ h. elim (split r h.0) [
        | inl old ↦ (of.each r).1 (old, h.1)
        | inr e ↦ absurd (not (subst (IsLetIn answers) (sym e) h.1))
      ]),
    );
    ascending = of.ascending;
  }

  pub answered_more : HasAnswer answers route
      → ((r : Route) → IsAmong routes n r → HasAnswer answers r) → (r : Route)
      → IsAmong routes (n + 1) r → HasAnswer answers r
  answered_more ok all r h =
      elim (split r h) [
        | inl old ↦ all r old
        | inr e ↦ subst (HasAnswer answers) e ok
      ]

-- ---- of all routes, and of candidates

pub whole : (answers : RouteWords) (routes : List Route) (n : ℕ) (part : List Route)
    → n ≡ length routes → AreLetInOf answers routes n part → AreLetIn answers routes part
whole answers routes n part is of =
    let all : AreLetInOf answers routes (length routes) part =
    subst (λ k. AreLetInOf answers routes k part) is of in
    record { each = all.each; ascending = all.ascending }

-- the same answers in another order
abbrev pub AreTheSame : RouteWords → RouteWords → Type 0
AreTheSame made answers = (r : Route) (word : ℕ)
    → Contains made (r, word) ↔ Contains answers (r, word)

pub let_in_by : (made answers : RouteWords) (routes part : List Route) → AreTheSame made answers
    → AreLetIn made routes part → AreLetIn answers routes part
let_in_by made answers routes part same of = record {
  each = λ r. (
    (λ t. let h = (of.each r).0 t in (h.0, (same r 0).0 h.1)),
    (λ h. (of.each r).1 (h.0, (same r 0).1 h.1)),
  );
  ascending = of.ascending;
}

pub lack_by : (made answers : RouteWords) (routes : List Route) (b : Bool) → AreTheSame made answers
    → (IsTrue b ↔ LacksAnswers made routes) → (IsTrue b ↔ LacksAnswers answers routes)
lack_by made answers routes b same lacks = (
  λ t. let h = lacks.0 t in (
    h.0,
    h.1,
    λ answered. h.2 (answered.0, (same h.0 answered.0).1 answered.1),
  ),
  λ h. lacks.1 (h.0, h.1, λ answered. h.2 (answered.0, (same h.0 answered.0).0 answered.1)),
)

pub are_table : (answers : RouteWords) (candidates table : List Route)
    → AreLetIn answers candidates table → (contents : Contents) (root : Root)
    → AreCandidates contents root candidates → IsTable contents root answers table
are_table answers candidates table of contents root are = record {
  each = λ r. (
    (λ t. let h = (of.each r).0 t in ((are.each r).0 h.0, h.1)),
    (λ h. (of.each r).1 ((are.each r).1 h.0, h.1)),
  );
  ascending = of.ascending are.ascending;
}

pub tells_stale : (answers : RouteWords) (candidates : List Route) (b : Bool)
    → (IsTrue b ↔ LacksAnswers answers candidates) → (contents : Contents) (root : Root)
    → AreCandidates contents root candidates → (IsTrue b ↔ IsStale contents root answers)
tells_stale answers candidates b lacks contents root are = (
  λ t. let h = lacks.0 t in (h.0, (are.each h.0).0 h.1, h.2),
  λ stale. lacks.1 (stale.0, (are.each stale.0).1 stale.1, stale.2),
)
