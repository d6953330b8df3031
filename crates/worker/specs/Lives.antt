-- The life of a worker: what its clock showed, what its transport heard, and the turns that came of
-- both.
use Rattle.std.specs.Prelude.{◌≡◌, ◌≢◌, ◌⊎◌, ℕ, zero, suc, ◌≤◌, List, [], ◌∷◌, ◌++◌, length}
use Rattle.std.specs.Prelude.{Bool, true, false, Option, Some, None, MatchOption}
use Rattle.std.specs.Prelude.{Result, Err, MatchResult}
use Rattle.turns.specs.Askers.{AskerState, IsLater}
use Rattle.turns.specs.Turns.{AsksFor, IsTurned, Offers, Refuses, RefusesFor, Took}
use Rattle.turns.specs.declared.turned.TurnOutcome.{TurnOutcome}
use Rattle.turns.specs.declared.turned.TurnError.{TurnError}
use Rattle.turns.specs.declared.work.Work.{Work}
use Rattle.turns.specs.declared.work.Work.TheVariants.{Datagram, Tick}
use Rattle.worker.specs.Sending.{Gives, IsGivenEach}
use Rattle.worker.specs.Refusals.{clock_back}

-- ---- what is said of a worker's flag, of its clock, of its transport and of its turns

-- a flag before it was found set or unset, and after that
abbrev pub Reads : (Flag : Type 0) → Type 1
Reads Flag = (before : Flag) → (is_set : Bool) → (after : Flag) → Type 0

-- a clock before it showed a moment, and after that
abbrev pub Shows : (Clock : Type 0) → Type 1
Shows Clock = (before : Clock) → (moment : ℕ) → (after : Clock) → Type 0

-- a transport before it heard a datagram or none, and after that
abbrev pub Hears : (Transport : Type 0) → Type 1
Hears Transport = (before : Transport) → (heard : Option (List ℕ)) → (after : Transport) → Type 0

-- a turn at a moment, for a work, its port's asker and seat before it and after it, and how many
-- events the port had given before and after
abbrev pub Turns : Type 1
Turns = (old new : AskerState) → (moment : ℕ) → Work → (before after : ℕ) → TurnOutcome → Type 0

-- a turn at a moment, for a work, that was refused, its port's asker and seat before it and after
-- it, how many events the port had given before it, and why
abbrev pub Refusals : Type 1
Refusals = (old new : AskerState) → (events : ℕ) → (moment : ℕ) → Work → TurnError → Type 0

-- a turn at a moment, for a work, whose datagram the programs at `count` were asked about, if it is
-- one
abbrev pub Asks : Type 1
Asks = (moment : ℕ) → Work → Type 0

-- all that is said of a worker: of its transport, its clock and its turns; and the number of its
-- port
pub record Senses (Transport Clock : Type 0) : Type 1 where
  pub gives : Gives Transport
  pub hears : Hears Transport
  pub shows : Shows Clock
  pub turns : Turns
  pub refusals : Refusals
  pub asks : Asks
  pub number : ℕ

-- its transport, its clock, its port's asker and seat, and how many events the port has given to
-- the router
pub record Standing (Transport Clock : Type 0) : Type 0 where
  pub transport : Transport
  pub clock : Clock
  pub asker : AskerState
  pub events : ℕ

abbrev pub standing : {Transport Clock : Type 0} → Transport → Clock → AskerState → (events : ℕ)
    → Standing Transport Clock
standing transport clock asker events = record {
  transport = transport;
  clock = clock;
  asker = asker;
  events = events;
}

-- ---- a turn

-- what is said of a worker at the port of this number, with such a transport and such a clock
abbrev pub senses_of : {Transport Clock : Type 0} → Gives Transport → Hears Transport → Shows Clock
    → Offers → Took → Refuses → (number : ℕ) → Senses Transport Clock
senses_of gives hears shows offers took refuses number = record {
  gives = gives;
  hears = hears;
  shows = shows;
  turns = IsTurned offers took refuses;
  refusals = RefusesFor offers refuses;
  asks = AsksFor took;
  number = number;
}

-- the transport was given what it sends, and then what its refresh sends
abbrev pub IsSent : {Transport : Type 0} → Gives Transport → (before : Transport) → TurnOutcome
    → (after : Transport) → Type 0
IsSent gives before turned after =
    MatchOption turned.refreshed (IsGivenEach gives before turned.outs.items after)
    (λ outs. IsGivenEach gives before (turned.outs.items ++ outs.items) after)

-- the clock showed each of these moments and nothing else, the latest first
abbrev pub ShowsEach : {Clock : Type 0} → Shows Clock → (before : Clock) → List ℕ → (after : Clock)
    → Type 0
ShowsEach shows before [] after = after ≡ before
ShowsEach {Clock = Clock} shows before (moment ∷ moments) after =
    (between : Clock) × ShowsEach shows before moments between × shows between moment after

-- the latest of the moments, or this one if there is none
abbrev pub latest : (first : ℕ) → List ℕ → ℕ
latest first [] = first
latest first (moment ∷ moments) = moment

-- the turn was refused with `ClockBack` at each moment but the last, one try after the other: the
-- router's clock was ahead of it, or the moment out of range
abbrev pub AreAhead : (refused : (old new : AskerState) → (moment : ℕ) → TurnError → Type 0)
    → (start : AskerState) → (first : ℕ) → List ℕ → (end : AskerState) → Type 0
AreAhead refused start first [] end = end ≡ start
AreAhead refused start first (moment ∷ moments) end =
    (between : AskerState) × AreAhead refused start first moments between
    × refused between end (latest first moments) clock_back

-- A turn was tried at the first moment, and then at most three times again, each time at a moment
-- that the clock showed then, since the one before was refused by a router whose clock is ahead; if
-- it is refused so at last, it was tried three times again. The asker went from the first state to
-- the last one by these tries.
pub record IsTried {Clock : Type 0} (shows : Shows Clock)
    (turned : (old new : AskerState) → (moment : ℕ) → TurnOutcome → Type 0)
    (refused : (old new : AskerState) → (moment : ℕ) → TurnError → Type 0)
    (before : Clock) (start : AskerState) (first : ℕ)
    (after : Clock) (end : AskerState) (last : ℕ) (outcome : Result TurnOutcome TurnError)
    : Type 0 where
  pub again : List ℕ
  pub few : length again ≤ 3
  pub shown : ShowsEach shows before again after
  -- as the last try found the asker
  pub begun : AskerState
  pub ahead : AreAhead refused start first again begun
  pub later : IsLater start begun
  pub at_last : last ≡ latest first again
  pub thrice : outcome ≡ Err clock_back → length again ≡ 3
  pub tried : MatchResult outcome (turned begun end last) (refused begun end last)

-- A turn that asked what it has to ask, and the transport was given what it sends; if it is
-- refused, nothing is sent, and the router has no event more.
pub record Serves {Transport Clock : Type 0} (senses : Senses Transport Clock) (moment : ℕ)
    (work : Work)
    (before : Standing Transport Clock) (ended : ℕ) (after : Standing Transport Clock) : Type 0
  where
    pub outcome : Result TurnOutcome TurnError
    pub later : IsLater before.asker after.asker
    pub tried : IsTried senses.shows
        (λ old new m turned. senses.turns old new m work before.events after.events turned)
        (λ old new m error. senses.refusals old new before.events m work error)
        before.clock before.asker moment after.clock after.asker ended outcome
    pub asked : senses.asks ended work
    pub given : MatchResult outcome
        (λ turned. IsSent senses.gives before.transport turned after.transport)
        (λ _. (after.transport ≡ before.transport) × (after.events ≡ before.events))

-- ---- a round

-- the clock showed a moment: that of the last Tick, or another one, and then there is a Tick's turn
pub record Ticks {Transport Clock : Type 0} (senses : Senses Transport Clock) (ticked : Option ℕ)
    (before : Standing Transport Clock)
    (next : Option ℕ) (after : Standing Transport Clock) : Type 0 where
  pub moment : ℕ
  pub shown : Clock
  pub is_shown : senses.shows before.clock moment shown
  pub turn : ((ticked ≡ Some moment) × (next ≡ ticked) × (after ≡ record before { clock = shown }))
      ⊎ ((ticked ≢ Some moment) × ((ended : ℕ) × (next ≡ Some ended)
      × Serves senses moment Tick (record before { clock = shown }) ended after))

-- a datagram came: there is a turn with it at the interface of the worker's port, at a moment that
-- the clock showed then
abbrev pub IsTurnedTo : {Transport Clock : Type 0} → Senses Transport Clock → (bytes : List ℕ)
    → (before after : Standing Transport Clock) → Type 0
IsTurnedTo {Clock = Clock} senses bytes before after =
    (moment : ℕ) × (shown : Clock) × (ended : ℕ) × senses.shows before.clock moment shown
    × Serves senses moment (Datagram senses.number bytes) (record before { clock = shown }) ended
    after

-- what is done about what was heard
abbrev pub IsHandled : {Transport Clock : Type 0} → Senses Transport Clock → Option (List ℕ)
    → (before after : Standing Transport Clock) → Type 0
IsHandled senses None before after = after ≡ before
IsHandled senses (Some bytes) before after = IsTurnedTo senses bytes before after

-- the transport heard a datagram or none
pub record Listens {Transport Clock : Type 0} (senses : Senses Transport Clock)
    (before after : Standing Transport
    Clock) : Type 0 where
  pub heard : Option (List ℕ)
  pub between : Transport
  pub is_heard : senses.hears before.transport heard between
  pub turn : IsHandled senses heard (record before { transport = between }) after

-- a round: first the time, and then the transport
abbrev pub Round : {Transport Clock : Type 0} → Senses Transport Clock → (ticked : Option ℕ)
    → (before : Standing Transport Clock)
    → (next : Option ℕ) → (after : Standing Transport Clock) → Type 0
Round {Transport = Transport} {Clock = Clock} senses ticked before next after =
    (between : Standing Transport Clock) × Ticks senses ticked before next between
    × Listens senses between after

-- This many rounds, after which this is the moment of the last Tick. Before each the flag was
-- looked at once, and found unset.
abbrev pub Lives : {Transport Clock Flag : Type 0} → Senses Transport Clock → Reads Flag
    → (begun : Flag) → (start : Standing Transport Clock) → (rounds : ℕ) → (ticked : Option ℕ)
    → (flag : Flag) → (now : Standing Transport Clock) → Type 0
Lives senses reads begun start zero ticked flag now =
    (ticked ≡ None) × (flag ≡ begun) × (now ≡ start)
Lives {Transport = Transport} {Clock = Clock} {Flag = Flag} senses reads begun start (suc rounds)
    ticked flag
    now =
    (earlier : Option ℕ) × (unset : Flag) × (then : Standing Transport Clock)
    × Lives senses reads begun start rounds earlier unset then
    × reads unset false flag × Round senses earlier then ticked now

-- some rounds, and then the flag was found set
abbrev pub HasLived : {Transport Clock Flag : Type 0} → Senses Transport Clock → Reads Flag
    → (begun : Flag) → (start : Standing Transport Clock) → (told : Flag)
    → (now : Standing Transport Clock) → Type 0
HasLived {Flag = Flag} senses reads begun start told now =
    (rounds : ℕ) × (ticked : Option ℕ) × (flag : Flag)
    × Lives senses reads begun start rounds ticked flag now × reads flag true told

-- some rounds, and then the flag was found unset, so that one more round began, of which nothing is
-- said
abbrev pub HasLivedOn : {Transport Clock Flag : Type 0} → Senses Transport Clock → Reads Flag
    → (begun : Flag) → (start : Standing Transport Clock) → (untold : Flag) → Type 0
HasLivedOn {Transport = Transport} {Clock = Clock} {Flag = Flag} senses reads begun start untold =
    (rounds : ℕ) × (ticked : Option ℕ) × (flag : Flag) × (then : Standing Transport Clock)
    × Lives senses reads begun start rounds ticked flag then × reads flag false untold
