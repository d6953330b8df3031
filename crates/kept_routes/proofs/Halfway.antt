-- The candidates after those for the first destinations are recalculated.
use Rattle.std.proofs.Common.{◌≡◌, inl, inr, List, [], ◌∷◌, ◌++◌, sym, subst}
use Rattle.std.specs.List.{Contains}
use Rattle.std.specs.Prelude.{Some}
use Rattle.std.proofs.lemmas.List.Elements.{Contains-append_left, Contains-push}
use Rattle.std.proofs.lemmas.List.Elements.{Contains-push_cases}
use Rattle.words.specs.Prefixes.{Network}
use Rattle.words.specs.declared.key.Key.{Key}
use Rattle.words.specs.declared.route.Route.{Route}
use Rattle.routes.specs.Candidates.{AreCandidates, IsCandidate}
use Rattle.routes.specs.Contents.{Contents}
use Rattle.routes.specs.declared.root.Root.{Root}
use Rattle.routes.proofs.Lists.{of_empty}
use Rattle.kept_routes.specs.Sameness.{HaveSameContents}
use Rattle.kept_routes.specs.Changes.{AreAllAdvertised, IsUntouched, OthersHaveSameContents}
use Rattle.kept_routes.specs.Placing.{AreHalfway, HasAnother, HasAnotherTo, IsEither}
use Rattle.kept_routes.specs.Placing.{IsRenewed}
use Rattle.kept_routes.proofs.Networks.{among_or_not, same_or_not}
use Rattle.kept_routes.proofs.ExternalsStaying.{untouched_kept}

-- a candidate for one of these destinations isn't among the old routes
abbrev pub HasAnotherOf : Contents → Root → (done : List Network) → (before : List Route) → Type 0
HasAnotherOf contents root done before =
    (r : Route) × IsCandidate contents root r × Contains done r.prefix × (Contains before r → ⊥)

module _ (old new : Contents) (root : Root) where
  pub none_yet : (routes : List Route) → AreCandidates old root routes
      → AreHalfway old new root [] routes
  none_yet routes are = record {
    each = λ r. (
      (λ t. inr (of_empty r.prefix, (are.each r).0 t)),
      (λ k.
          elim k [
            | inl p ↦ absurd (of_empty r.prefix p.0)
            | inr p ↦ (are.each r).1 p.1
          ]),
    );
    ascending = are.ascending;
  }

  module _ (done : List Network) (prefix : Network) where
    abbrev more : List Network
    more = done ++ prefix ∷ []

    here : (p : Network) → p ≡ prefix → Contains more p
    here p e = subst (Contains more) (sym e) (Contains-push done prefix)

    -- one that isn't for this destination
    kept : (r : Route) → (r.prefix ≡ prefix → ⊥) → IsEither old new root done r
        → IsEither old new root more r
    kept r other (inl p) = inl (Contains-append_left done (prefix ∷ []) r.prefix p.0, p.1)
    kept r other (inr p) =
        inr (
          λ t.
              elim (Contains-push_cases done prefix r.prefix t) [
                | inl before ↦ p.0 before
                | inr it ↦ other (sym it)
              ],
          p.1,
        )

    unkept : (r : Route) → (r.prefix ≡ prefix → ⊥) → IsEither old new root more r
        → IsEither old new root done r
    unkept r other (inl p) =
        elim (Contains-push_cases done prefix r.prefix p.0) [
          | inl before ↦ inl (before, p.1)
          | inr it ↦ absurd (other (sym it))
        ]
    unkept r other (inr p) = inr (
      λ t. p.0 (Contains-append_left done (prefix ∷ []) r.prefix t),
      p.1,
    )

    now_ : (r : Route) → r.prefix ≡ prefix → IsEither old new root more r → IsCandidate new root r
    now_ r e (inl p) = p.1
    now_ r e (inr p) = absurd (p.0 (here r.prefix e))

    pub one_more : (routes next : List Route) → AreHalfway old new root done routes
        → IsRenewed new root prefix routes next → AreHalfway old new root more next
    one_more routes next half renewed = record {
      each = λ r. (
        (λ t.
            elim ((renewed.each r).0 t) [
              | inl p ↦ kept r p.1 ((half.each r).0 p.0)
              | inr p ↦ inl (here r.prefix p.1, p.0)
            ]),
        (λ k.
            elim (same_or_not r.prefix prefix) [
              | inl e ↦ (renewed.each r).1 (inr (now_ r e k, e))
              | inr other ↦ (renewed.each r).1 (inl ((half.each r).1 (unkept r other k), other))
            ]),
      );
      ascending = renewed.ascending;
    }

    -- one that was new before is still new
    pub still_another : (before : List Route) → HasAnotherOf new root done before
        → HasAnotherOf new root more before
    still_another before (r, k, among, none) =
        (r, k, Contains-append_left done (prefix ∷ []) r.prefix among, none)

    -- a new one for this destination is new for all, since those for the destinations before it are
    -- current
    pub first_another : (before routes : List Route) → AreCandidates old root before
        → AreHalfway old new root done routes → HasAnotherTo new root prefix routes
        → HasAnotherOf new root more before
    first_another before routes were half (r, k, its, none) = (
      r,
      k,
      here r.prefix its,
      λ t.
          elim (among_or_not done r.prefix) [
            | inl among ↦ none ((half.each r).1 (inl (among, k)))
            | inr not ↦ none ((half.each r).1 (inr (not, (were.each r).0 t)))
          ],
    )

  pub all_another : (done : List Network) (before routes : List Route)
      → AreHalfway old new root done routes → HasAnotherOf new root done before
      → HasAnother before routes
  all_another done before routes half (r, k, among, none) =
      (r, (half.each r).1 (inl (among, k)), none)

  module _ (same : HaveSameContents (Some 4) old new) (keys : List Key) (prefixes : List Network)
      (others : OthersHaveSameContents keys old new)
      (advertised : AreAllAdvertised old new keys prefixes)
    where
      stays : (prefix : Network) → (Contains prefixes prefix → ⊥) → IsUntouched old new prefix
      stays prefix none key t = others key (λ among. none (advertised key prefix among t))

      pub all_done : (routes : List Route) → AreHalfway old new root prefixes routes
          → AreCandidates new root routes
      all_done routes half = record {
        each = λ r. (
          (λ t.
              elim ((half.each r).0 t) [
                | inl p ↦ p.1
                | inr p ↦ (untouched_kept old new root r same (stays r.prefix p.0)).0 p.1
              ]),
          (λ k.
              elim (among_or_not prefixes r.prefix) [
                | inl t ↦ (half.each r).1 (inl (t, k))
                | inr none ↦ (half.each r).1 (inr
                    (none, (untouched_kept old new root r same (stays r.prefix none)).1 k))
              ]),
        );
        ascending = half.ascending;
      }
