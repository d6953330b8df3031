-- A turn that is tried again.
use Rattle.std.proofs.Common.{◌≡◌, ℕ, Result, Ok, Err, IfErr, IfOk, subst}
use Rattle.std.specs.Prelude.{MatchResult}
use Rattle.words.specs.Numbers.{Moment}
use Rattle.turns.specs.Askers.{AskerState, IsLater}
use Rattle.turns.specs.Turns.{IsTurned, Offers, Refuses, RefusesFor, Took}
use Rattle.turns.specs.declared.turned.TurnOutcome.{TurnOutcome}
use Rattle.turns.specs.declared.turned.TurnError.{TurnError}
use Rattle.turns.specs.declared.work.Work.{Work}
use Rattle.turns.proofs.Askers as askers

module _ (offers : Offers) (took : Took) (refuses : Refuses) (old new : AskerState)
    (moment : Moment) (w : Work) (before now after : ℕ) where
  -- what comes of it, by the number of events that counts before all tries
  pub tried_from : (outcome : Result TurnOutcome TurnError) → now ≡ before
      → IfOk outcome (λ turned. IsTurned offers took refuses old new moment w now after turned)
      → IfErr outcome (λ error. RefusesFor offers refuses old new now moment w error)
      → MatchResult outcome
      (λ turned. IsTurned offers took refuses old new moment w before after turned)
      (λ error. RefusesFor offers refuses old new before moment w error)
  tried_from (Ok turned) same is why =
      subst (λ n. IsTurned offers took refuses old new moment w n after turned) same is
  tried_from (Err error) same is why =
      subst (λ n. RefusesFor offers refuses old new n moment w error) same why

-- so a turn that is tried again was refused at the moment before
pub refused_so : (offers : Offers) (refuses : Refuses) (old new : AskerState)
    (before now : ℕ) (moment : Moment) (w : Work) (outcome : Result TurnOutcome TurnError)
    (error : TurnError) → now ≡ before → outcome ≡ Err error
    → IfErr outcome (λ error. RefusesFor offers refuses old new now moment w error)
    → RefusesFor offers refuses old new before moment w error
refused_so offers refuses old new before now moment w outcome error same is h =
    subst (λ n. RefusesFor offers refuses old new n moment w error) same
    (subst (λ o. IfErr o (λ e. RefusesFor offers refuses old new now moment w e)) is h)

pub later_self : (asker : AskerState) → IsLater asker asker
later_self asker = askers.later_self asker
