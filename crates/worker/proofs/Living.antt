-- The steps of a worker's life, put together.
use Rattle.std.proofs.Common.{◌≡◌, ◌≢◌, inl, inr, ℕ, suc, ◌+◌, ◌≤◌, List, [], ◌∷◌}
use Rattle.std.proofs.Common.{true, false}
use Rattle.std.proofs.Common.{length, Option, Some, Result, Ok, Err, OnOk, refl, subst}
use Rattle.std.proofs.Common.{◌∙◌, arith}
use Rattle.std.specs.Prelude.{MatchResult, OnErr}
use Rattle.turns.specs.Askers.{AskerState, IsLater}
use Rattle.turns.specs.Turns.{Offers, Refuses, Took}
use Rattle.turns.specs.declared.turned.TurnOutcome.{TurnOutcome}
use Rattle.turns.specs.declared.turned.TurnError.{TurnError}
use Rattle.turns.specs.declared.work.Work.{Work}
use Rattle.turns.specs.declared.work.Work.TheVariants.{Datagram, Tick}
use Rattle.worker.specs.Refusals.{clock_back}
use Rattle.worker.specs.Sending.{Gives}
use Rattle.worker.specs.Lives.{AreAhead, HasLived, HasLivedOn, Hears, IsHandled, IsSent, IsTried}
use Rattle.worker.specs.Lives.{IsTurnedTo, Listens, Lives, Reads, Round, Senses, Serves, Shows}
use Rattle.worker.specs.Lives.{ShowsEach, Standing, Ticks, latest, senses_of}

-- a turn was tried so often again, until now
pub record IsTriedSo {Clock : Type 0} (shows : Shows Clock)
    (refused : (old new : AskerState) → (moment : ℕ) → TurnError → Type 0) (before : Clock)
    (start : AskerState) (first : ℕ) (now : Clock) (end : AskerState) (last tries : ℕ)
    : Type 0 where
  pub again : List ℕ
  pub many : length again ≡ tries
  pub shown : ShowsEach shows before again now
  pub ahead : AreAhead refused start first again end
  pub at_last : last ≡ latest first again

module _ {Clock : Type 0} (shows : Shows Clock)
    (refused : (old new : AskerState) → (moment : ℕ) → TurnError → Type 0) where
  pub not_again : (clock : Clock) (asker : AskerState) (moment : ℕ)
      → IsTriedSo shows refused clock asker moment clock asker moment 0
  not_again clock asker moment = record {
    again = [];
    many = refl;
    shown = refl;
    ahead = refl;
    at_last = refl;
  }

  pub once_more : (before : Clock) (start : AskerState) (first : ℕ) (now : Clock)
      (between : AskerState) (last tries : ℕ) (next : Clock) (end : AskerState) (moment : ℕ)
      → IsTriedSo shows refused before start first now between last tries
      → refused between end last clock_back → shows now moment next
      → IsTriedSo shows refused before start first next end moment (tries + 1)
  once_more before start first now between last tries next end moment so back shown = record {
    again = moment ∷ so.again;
    many = omega (arith, so.many);
    shown = (now, so.shown, shown);
    ahead =
        (between, so.ahead, subst (λ m. refused between end m clock_back) so.at_last back);
    at_last = refl;
  }

  pub at_last : (turned : (old new : AskerState) → (moment : ℕ) → TurnOutcome → Type 0)
      (before : Clock) (start : AskerState) (first : ℕ) (after : Clock) (begun end : AskerState)
      (last tries : ℕ) (outcome : Result TurnOutcome TurnError)
      → IsTriedSo shows refused before start first after begun last tries → tries ≤ 3
      → (outcome ≡ Err clock_back → tries ≡ 3) → IsLater start begun
      → MatchResult outcome (turned begun end last) (refused begun end last)
      → IsTried shows turned refused before start first after end last outcome
  at_last turned before start first after begun end last tries outcome so few thrice later tried =
      record {
        again = so.again;
        few = omega (arith, so.many, few);
        shown = so.shown;
        begun = begun;
        ahead = so.ahead;
        later = later;
        at_last = so.at_last;
        thrice = λ back. so.many ∙ thrice back;
        tried = tried;
      }

-- ---- a turn

pub on_ok : {T E P Q : Type 0} (r : Result T E) → (P → Q) → OnOk r P → OnOk r Q
on_ok (Ok x) f h = f h
on_ok (Err e) f h = h

given : {Transport : Type 0} (gives : Gives Transport) (before after : Transport)
    (had counts : ℕ) (outcome : Result TurnOutcome TurnError)
    → OnErr outcome (counts ≡ had)
    → MatchResult outcome (λ turned. IsSent gives before turned after) (λ _. after ≡ before)
    → MatchResult outcome (λ turned. IsSent gives before turned after)
    (λ _. (after ≡ before) × (counts ≡ had))
given gives before after had counts (Ok turned) events sent = sent
given gives before after had counts (Err error) events sent = (sent, events)

-- a turn that was tried, and whose outs were sent, if it was taken
pub serves : {Transport Clock : Type 0} (senses : Senses Transport Clock) (moment : ℕ) (work : Work)
    (before : Standing Transport Clock) (ended : ℕ) (after : Standing Transport Clock)
    (outcome : Result TurnOutcome TurnError) → IsLater before.asker after.asker
    → IsTried senses.shows
    (λ old new m turned. senses.turns old new m work before.events after.events turned)
    (λ old new m error. senses.refusals old new before.events m work error)
    before.clock before.asker moment after.clock after.asker ended outcome
    → senses.asks ended work
    → OnErr outcome (after.events ≡ before.events)
    → MatchResult outcome (λ turned. IsSent senses.gives before.transport turned after.transport)
    (λ _. after.transport ≡ before.transport)
    → Serves senses moment work before ended after
serves senses moment work before ended after outcome later tried asked events sent = record {
  outcome = outcome;
  later = later;
  tried = tried;
  asked = asked;
  given = given senses.gives before.transport after.transport before.events after.events outcome
      events sent;
}

-- ---- a round

pub ticked_then : {Transport Clock : Type 0} (senses : Senses Transport Clock) (ticked : Option ℕ)
    (before : Standing Transport Clock) (moment : ℕ) (shown : Clock)
    → senses.shows before.clock moment shown → ticked ≡ Some moment
    → Ticks senses ticked before ticked (record before { clock = shown })
ticked_then senses ticked before moment shown is_shown same =
    record { moment = moment; shown = shown; is_shown = is_shown; turn = inl (same, refl, refl) }

pub ticks_now : {Transport Clock : Type 0} (senses : Senses Transport Clock) (ticked : Option ℕ)
    (before : Standing Transport Clock) (moment : ℕ) (shown : Clock) (ended : ℕ)
    (after : Standing Transport Clock) → senses.shows before.clock moment shown
    → ticked ≢ Some moment → Serves senses moment Tick (record before { clock = shown }) ended after
    → Ticks senses ticked before (Some ended) after
ticks_now senses ticked before moment shown ended after is_shown other serves =
    record {
      moment = moment;
      shown = shown;
      is_shown = is_shown;
      turn = inr (other, (ended, refl, serves));
    }

pub turned_to : {Transport Clock : Type 0} (senses : Senses Transport Clock) (bytes : List ℕ)
    (before : Standing Transport Clock) (moment : ℕ) (shown : Clock) (ended : ℕ)
    (after : Standing Transport Clock) → senses.shows before.clock moment shown
    → Serves senses moment (Datagram senses.number bytes) (record before {
      clock = shown;
    }) ended after
    → IsTurnedTo senses bytes before after
turned_to senses bytes before moment shown ended after is_shown serves =
    (moment, shown, ended, is_shown, serves)

pub listened : {Transport Clock : Type 0} (senses : Senses Transport Clock)
    (before after : Standing Transport Clock) (heard : Option (List ℕ))
    (between : Transport) → senses.hears before.transport heard between
    → IsHandled senses heard (record before { transport = between }) after
    → Listens senses before after
listened senses before after heard between is_heard turn =
    record { heard = heard; between = between; is_heard = is_heard; turn = turn }

-- the time and then the transport, at a port that has its number still
pub in_turn : {Transport Clock A E : Type 0} (gives : Gives Transport) (hears : Hears Transport)
    (shows : Shows Clock) (offers : Offers) (took : Took) (refuses : Refuses)
    (number now : ℕ) (ticked : Option ℕ) (before : Standing Transport Clock) (next : Option ℕ)
    (between after : Standing Transport Clock) (result : Result A E) → now ≡ number
    → Ticks (senses_of gives hears shows offers took refuses number) ticked before next between
    → OnOk result (Listens (senses_of gives hears shows offers took refuses now) between after)
    → OnOk result (Round (senses_of gives hears shows offers took refuses number) ticked before
    next after)
in_turn gives hears shows offers took refuses number now ticked before next between after (Ok done)
    same ticks listens = (
      between,
      ticks,
      subst (λ n. Listens (senses_of gives hears shows offers took refuses n) between after) same
          listens,
    )
in_turn gives hears shows offers took refuses number now ticked before next between after
    (Err error) same ticks listens = tt

-- ---- the rounds

-- the flag was found set in the end
pub found_set : {Flag : Type 0} (reads : Reads Flag) (flag told : Flag) → reads flag true told
    → (earlier : Flag) × reads earlier true told
found_set reads flag told read = (flag, read)

module _ {Transport Clock Flag : Type 0} (senses : Senses Transport Clock) (reads : Reads Flag)
    (begun : Flag)
    (start : Standing Transport Clock) where
  pub lives_on : (earlier : Option ℕ) (unset : Flag) (then : Standing Transport Clock)
      (ticked : Option ℕ) (flag : Flag) (now : Standing Transport Clock)
      → ((rounds : ℕ) × Lives senses reads begun start rounds earlier unset then)
      → reads unset false flag → Round senses earlier then ticked now
      → (rounds : ℕ) × Lives senses reads begun start rounds ticked flag now
  lives_on earlier unset then ticked flag now (rounds, lived) read round =
      (suc rounds, (earlier, unset, then, lived, read, round))

  pub has_lived : (ticked : Option ℕ) (flag told : Flag) (now : Standing Transport Clock)
      → ((rounds : ℕ) × Lives senses reads begun start rounds ticked flag now)
      → reads flag true told → HasLived senses reads begun start told now
  has_lived ticked flag told now (rounds, lived) read = (rounds, ticked, flag, lived, read)

  pub has_lived_on : (ticked : Option ℕ) (flag untold : Flag) (then : Standing Transport Clock)
      → ((rounds : ℕ) × Lives senses reads begun start rounds ticked flag then)
      → reads flag false untold → HasLivedOn senses reads begun start untold
  has_lived_on ticked flag untold then (rounds, lived) read =
      (rounds, ticked, flag, then, lived, read)
