-- What follows an event that counts once.
use Rattle.std.proofs.Common.{◌≡◌, ◌⊎◌, inl, inr, ◌∙◌, ℕ, ◌+◌, Bool, true, Option, None, Some}
use Rattle.std.proofs.Common.{List, arith, subst}
use Rattle.std.specs.Prelude.{◌≢◌, IfNone, IfSome, MatchOption}
use Rattle.words.specs.Numbers.{Moment}
use Rattle.event_rules.specs.declared.model.Out.{Out}
use Rattle.turns.specs.Askers.{AskerState, IsLater}
use Rattle.turns.specs.Turns.{HasNoRefresh, IsChangedSince, IsUnchanged, IsUnrefreshed, Offers}
use Rattle.turns.specs.Turns.{Refuses, RefusesFor, TakesFor, Took}
use Rattle.turns.specs.declared.turned.TurnError.{TurnError}
use Rattle.turns.specs.declared.work.Work.TheVariants as work

module _ {X : Type 0} (items : X → List Out) (offers : Offers) (took : Took) (refuses : Refuses)
    (old new : AskerState) (moment : Moment) (before between after changes : ℕ)
    (stale : Option Bool) where
  -- why there is no refresh, by the number of events that count then
  abbrev IsWhy : ℕ → Type 0
  IsWhy events =
      IsChangedSince took events changes
      ⊎ ((error : TurnError) × RefusesFor offers refuses old new events moment work.Refresh error)

  unrefreshed_since : between ≡ before + 1 → took.changes_read before changes → IsWhy between
      → IsUnrefreshed offers took refuses old new moment before
  unrefreshed_since one counted (inl changed) =
      inl (changes, counted, subst (λ n. IsChangedSince took n changes) one changed)
  unrefreshed_since one counted (inr (error, why)) =
      inr (
        error,
        subst (λ n. RefusesFor offers refuses old new n moment work.Refresh error) one why,
      )

  pub follows : (o : Option X) → between ≡ before + 1 → took.changes_read before changes
      → IsLater old new → IfNone o (stale ≢ Some true → new ≡ old)
      → IfNone o ((after ≡ between) × (stale ≡ Some true → IsWhy between))
      → IfSome o (λ x. (stale ≡ Some true)
      × ((left : Option Bool)
      × TakesFor offers took refuses old new between moment work.Refresh (items x) left)
      × (after ≡ between + 1))
      → IfSome o (λ _. took.changes_read between changes)
      → MatchOption o ((after ≡ before + 1)
      × HasNoRefresh offers took refuses old new moment before stale)
      (λ x. (stale ≡ Some true) × IsUnchanged took before × ((left : Option Bool)
      × TakesFor offers took refuses old new (before + 1) moment work.Refresh (items x) left)
      × (after ≡ before + 2))
  follows None one counted later unasked none some unchanged = (
    none.0 ∙ one,
    record {
      later = later;
      why = λ is. unrefreshed_since one counted (none.1 is);
      unasked = unasked;
    },
  )
  follows (Some x) one counted later unasked none some unchanged = (
    some.0,
    (changes, counted, subst (λ n. took.changes_read n changes) one unchanged),
    (
      some.1.0,
      subst (λ n. TakesFor offers took refuses old new n moment work.Refresh (items x) some.1.0)
          one some.1.1,
    ),
    omega (arith, some.2, one),
  )
