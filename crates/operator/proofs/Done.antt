-- A turn at port 0, put together.
use Rattle.std.proofs.Common.{◌≡◌, ℕ, ◌<◌, Bool, List, Result, Ok, Err, sym, subst, arith}
use Rattle.std.specs.Prelude.{IfErr, MatchResult, OnErr, OnOk, is_err}
use mathlib.Core.List.{IsPrefix}
use Rattle.words.specs.Numbers.{Moment}
use Rattle.words.specs.declared.route.External.{External}
use Rattle.hooks.specs.declared.operation.LoaderOperation.{LoaderOperation}
use Rattle.turns.specs.Askers.{AskerState, IsLater}
use Rattle.worker.specs.Lives.{IsSent, IsTried, Senses, Shows, Standing}
use Rattle.worker.specs.Sending.{Gives}
use Rattle.turns.specs.declared.turned.TurnOutcome.{TurnOutcome}
use Rattle.turns.specs.declared.turned.TurnError.{TurnError}
use Rattle.turns.specs.Turns.{IsTurned, Offers, Refuses, RefusesFor, Took}
use Rattle.turns.specs.declared.work.Work.{Work}
use Rattle.turns.specs.declared.work.Work.TheVariants as work
use Rattle.operator.specs.Answers.{IsDone, IsFollowed, IsRefreshed, IsRefusedOnce, IsServed}
use Rattle.operator.specs.Answers.{Wanted, learnt}

-- ---- a refresh

pub refreshed : {X : Type 0} (offers : Offers) (took : Took) (refuses : Refuses)
    (old new : AskerState) (due : Bool) (counted counts : ℕ)
    (outcome : Result X TurnError) → due ≡ is_err outcome
    → OnOk outcome (IsDone offers took refuses old new work.Refresh counted counts)
    → IfErr outcome (λ error. IsRefusedOnce offers refuses old new counted
    work.Refresh error) → OnErr outcome (counts ≡ counted)
    → IsRefreshed offers took refuses old new due counted counts
refreshed offers took refuses old new due counted counts (Ok x) is done why same =
    subst (λ (b : Bool). IsRefreshed offers took refuses old new b counted counts) (sym is) done
refreshed offers took refuses old new due counted counts (Err error) is done why same =
    subst (λ (b : Bool). IsRefreshed offers took refuses old new b counted counts) (sym is)
    (error, why, same)

-- after a change that was counted, by a port that learnt of it and whose share is as it was before
pub followed : (offers : Offers) (took : Took) (refuses : Refuses) (now told : List LoaderOperation)
    (found : AskerState) (then left : AskerState) (due : Bool) (counted between counts : ℕ)
    → told ≡ now → took.change_counted told → IsPrefix found.known then.known
    → IsPrefix told then.known → then ≡ learnt found then.known → IsLater then left
    → between ≡ counted
    → IsRefreshed offers took refuses then left due between counts
    → IsFollowed offers took refuses now found left due counted counts
followed offers took refuses now told found then left due counted between counts is tells saw learns
    there later same refreshes = record {
      changed = subst (λ (l : List LoaderOperation). took.change_counted l) is tells;
      knew = then.known;
      saw = saw;
      learns = subst (λ (l : List LoaderOperation). IsPrefix l then.known) is learns;
      later = subst (λ (s : AskerState). IsLater s left) there later;
      refreshed = subst (λ (s : AskerState). IsRefreshed offers took refuses s left due counted
          counts) there
          (subst (λ (n : ℕ). IsRefreshed offers took refuses then left due n counts) same
          refreshes);
    }

-- ---- an announcement

-- whether a destination is announced was asked after the turn, by a port that gave no event since
-- and learnt nothing
pub announced : (offers : Offers) (took : Took) (refuses : Refuses) (wanted : Wanted)
    (old then new : AskerState) (external : External) (counted between counts : ℕ)
    (is : Bool) → new ≡ then → counts ≡ between
    → IsDone offers took refuses old then (work.Add external) counted between
    → wanted between external.prefix is
    → IsDone offers took refuses old new (work.Add external) counted counts
    × wanted counts external.prefix is
announced offers took refuses wanted old then new external counted between counts is kept same
    done answer = (
      subst (λ (s : AskerState). IsDone offers took refuses old s (work.Add external) counted
          counts) (sym kept)
          (subst (λ (n : ℕ). IsDone offers took refuses old then (work.Add external) counted n)
          (sym same) done),
      subst (λ (n : ℕ). wanted n external.prefix is) (sym same) answer,
    )

-- ---- a turn

-- what was sent by a transport that didn't fail
pub sent : {Transport X E : Type 0} (gives : Gives Transport) (faults : Transport → ℕ)
    (before after : Transport) (turned : TurnOutcome) (outcome : Result X E)
    → OnOk outcome (IsSent gives before turned after)
    → OnErr outcome (faults before < faults after) → faults after ≡ faults before
    → IsSent gives before turned after
sent gives faults before after turned (Ok x) is failed fine = is
sent gives faults before after turned (Err error) is failed fine =
    absurd (omega (arith, failed, fine))

-- what came of a turn that was tried
module _ {Clock : Type 0} (shows : Shows Clock) (offers : Offers) (took : Took) (refuses : Refuses)
    (w : Work) (shown : Clock) (old : AskerState) (moment : Moment) (clock : Clock)
    (new : AskerState) (ended : Moment) (counted counts : ℕ)
    (outcome : Result TurnOutcome TurnError)
    (tried : IsTried shows
    (λ old new m turned. IsTurned offers took refuses old new m w counted counts turned)
    (λ old new m error. RefusesFor offers refuses old new counted m w error)
    shown old moment clock new ended outcome) where
  pub done : (turned : TurnOutcome) → outcome ≡ Ok turned
      → IsDone offers took refuses old new w counted counts
  done turned is = (
    ended,
    turned,
    tried.begun,
    tried.later,
    subst (λ o. MatchResult o
        (λ t. IsTurned offers took refuses tried.begun new ended w counted counts t)
        (λ e. RefusesFor offers refuses tried.begun new counted ended w e)) is tried.tried,
  )

  pub refused : (error : TurnError) → outcome ≡ Err error
      → IsRefusedOnce offers refuses old new counted w error
  refused error is = (
    ended,
    tried.begun,
    tried.later,
    subst (λ o. MatchResult o
        (λ t. IsTurned offers took refuses tried.begun new ended w counted counts t)
        (λ e. RefusesFor offers refuses tried.begun new counted ended w e)) is tried.tried,
  )

module _ {Transport Clock : Type 0} (senses : Senses Transport Clock) (w : Work)
    (before after : Standing Transport Clock) (moment : Moment) (shown : Clock) (ended : Moment)
    (outcome : Result TurnOutcome TurnError) (is_shown : senses.shows before.clock moment shown)
    (later : IsLater before.asker after.asker)
    (tried : IsTried senses.shows
    (λ old new m turned. senses.turns old new m w before.events after.events turned)
    (λ old new m error. senses.refusals old new before.events m w error)
    shown before.asker moment after.clock after.asker ended outcome)
    (asked : senses.asks ended w) where
  served_so : MatchResult outcome
      (λ turned. IsSent senses.gives before.transport turned after.transport)
      (λ _. (after.transport ≡ before.transport) × (after.events ≡ before.events))
      → IsServed senses w before after
  served_so given = (
    moment,
    shown,
    ended,
    is_shown,
    record { outcome = outcome; later = later; tried = tried; asked = asked; given = given },
  )

  pub served : (turned : TurnOutcome) → outcome ≡ Ok turned
      → IsSent senses.gives before.transport turned after.transport
      → IsServed senses w before after
  served turned is sent = served_so
      (subst (λ o. MatchResult o
      (λ turned. IsSent senses.gives before.transport turned after.transport)
      (λ _. (after.transport ≡ before.transport) × (after.events ≡ before.events))) (sym is) sent)

  pub unserved : (error : TurnError) → outcome ≡ Err error → after.transport ≡ before.transport
      → after.events ≡ before.events → IsServed senses w before after
  unserved error is transport events = served_so
      (subst (λ o. MatchResult o
      (λ turned. IsSent senses.gives before.transport turned after.transport)
      (λ _. (after.transport ≡ before.transport) × (after.events ≡ before.events))) (sym is)
      (transport, events))
