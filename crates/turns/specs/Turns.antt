-- What a turn gives to the book, and what comes of it.
use Rattle.std.specs.Prelude.{◌≡◌, ◌≢◌, ◌⊎◌, ◌↔◌, ℕ, ◌+◌, ◌<◌, ◌≤◌, Bool, true, List, Option}
use Rattle.std.specs.Prelude.{IfSome, IsTrue, MatchOption, None, Some}
use Rattle.std.specs.Prelude.{Err, length, max, slice_get}
use Rattle.std.specs.FinMap as finite
use Rattle.words.specs.Constants.{clock_end}
use Rattle.words.specs.Numbers.{InterfaceNumber, Moment, RouterNumber}
use Rattle.words.specs.Prefixes.{Network}
use Rattle.words.specs.declared.route.External.{External}
use Rattle.words.specs.declared.route.Route.{Route}
use Rattle.words.specs.declared.route.TableRow.{TableRow}
use Rattle.machine.specs.Given.{Given}
use Rattle.event_rules.specs.declared.model.CoreError.TheVariants as core_error
use Rattle.event_rules.specs.declared.model.Out.{Out}
use Rattle.event_rules.specs.Commands.{is_for}
use Rattle.event_rules.specs.Events.{Happens}
use Rattle.event_rules.specs.Originations.{external_key}
use Rattle.event_rules.specs.Refusals.{IsAllowed}
use Rattle.event_rules.specs.Routers.{Router}
use Rattle.hooks.specs.declared.operation.LoaderOperation.{LoaderOperation}
use Rattle.hooks.specs.Questions.{ExternalAnswer, RouteAnswer}
use Rattle.hooks.specs.Questions.{count_input, price_input, tag_input, veto_input}
use Rattle.flood.specs.declared.book.error.BookError.{BookError}
use Rattle.flood.specs.declared.book.error.BookError.TheVariants as book_error
use Rattle.flood.specs.declared.event.Event.{Event}
use Rattle.flood.specs.declared.event.Event.TheVariants as event
use Rattle.flood.specs.Occurrences.{occurrence_of}
use Rattle.flood.specs.Offers.{IsOffered, IsStaleNow}
use Rattle.flood.specs.Refusals.{BookRefusesWithMarksByRules}
use Rattle.flood.specs.Replay.{BookView, IsAfterEvents}
use Rattle.adjacency.specs.declared.state.NeighborState.{NeighborState}
use Rattle.turns.specs.Askers.{AreVetoes, AskerState, IsAnsweredAt, IsLater}
use Rattle.turns.specs.declared.turned.TurnOutcome.{TurnOutcome}
use Rattle.turns.specs.declared.turned.TurnError.{TurnError}
use Rattle.turns.specs.declared.turned.TurnError.TheVariants as turn_error
use Rattle.turns.specs.declared.work.Work.{Work}
use Rattle.turns.specs.declared.work.Work.TheVariants as work

-- ---- what the book is asked

-- Four predicates that a `Taker` leaves open: an event was taken at a moment, for a port with this
-- number of events until then, sent these outs and left the router stale or not (None if that isn't
-- known, for want of memory); a change of the programs was counted, which are now those that these
-- operations leave; the programs at `count` were asked about this input; and this number of changes
-- of the programs was read, by such a port.
pub record Took : Type 1 where
  pub taken : (events : ℕ) → Moment → Event → List Out → (stale : Option Bool) → Type 0
  pub change_counted : List LoaderOperation → Type 0
  pub asked : Given → Type 0
  pub changes_read : (events : ℕ) → (changes : ℕ) → Type 0

-- what a question is refused for: no reading of the programs for its input, or no memory
pub data Lack : Type 0 where
  Reading : (input : Given) → Lack
  Memory : Lack

-- Two more: an event was refused at a moment, to a port with this number of events until then, and
-- why; and a question got no reading, or memory was lacking.
pub record Refuses : Type 1 where
  pub refused : (events : ℕ) → Moment → Event → BookError → Type 0
  pub lacks : Lack → Type 0

-- the fields by names of their own, for contracts
abbrev pub IsTaken : Took → (events : ℕ) → Moment → Event → List Out → (stale : Option Bool)
    → Type 0
IsTaken took = took.taken

abbrev pub IsChangeCounted : Took → List LoaderOperation → Type 0
IsChangeCounted took = took.change_counted

abbrev pub IsAsked : Took → Given → Type 0
IsAsked took = took.asked

abbrev pub IsRefused : Refuses → (events : ℕ) → Moment → Event → BookError → Type 0
IsRefused refuses = refuses.refused

abbrev pub IsLacking : Refuses → Lack → Type 0
IsLacking refuses = refuses.lacks

abbrev pub IsNumberOfChanges : Took → (events : ℕ) → (changes : ℕ) → Type 0
IsNumberOfChanges took = took.changes_read

-- what is said of candidates, and of the rows of the table beside them
abbrev pub Offers : Type 1
Offers = List Route → List TableRow → Type 0

-- When a book takes an event that it is given at a moment: an `Install` at the moment of the
-- router's last event, if this is later; everything else at the moment itself.
abbrev pub taken_at : Event → Moment → (last : Moment) → Moment
taken_at (event.Packet interface bytes) moment last = moment
taken_at event.Tick moment last = moment
taken_at (event.Redistribute tag price) moment last = moment
taken_at (event.Withdraw prefix) moment last = moment
taken_at (event.Install answers) moment last = max moment last
taken_at (event.LinkDown interface) moment last = moment

-- The clock has come to its end: the later of this moment and that of the last event of a book, of
-- which `began` is so, is past all moments. An `Install`, which is taken at the later of the two,
-- is refused for its moment only then.
abbrev pub IsAtTheEndOfTheClock : {B : Type 0} → (began : B → Type 0) → (moment_of : B → Moment)
    → Moment → Type 0
IsAtTheEndOfTheClock {B = B} began moment_of moment =
    (book : B) × began book × (clock_end ≤ max moment (moment_of book))

-- A book that began with this router says to a port with this number of events until then: the
-- event that is given at this moment sends these, from a router to which events lead from there, at
-- least as many as the port's, and no rule refuses it there; it leaves one that is stale or isn't,
-- if that is known.
abbrev pub IsTakenBySome : (origin : Router) → (events : ℕ) → Moment → Event → List Out
    → (stale : Option Bool) → Type 0
IsTakenBySome origin events moment e outs stale =
    (taken : ℕ) × (old : Router) × (new : Router) × (events ≤ taken)
    × IsAfterEvents origin taken old
    × IsAllowed old (taken_at e moment old.moment) (occurrence_of e)
    × Happens old (taken_at e moment old.moment) (occurrence_of e) outs new
    × IfSome stale (λ is. IsTrue is ↔ IsStaleNow new)

-- a book says: given at this moment, the event is refused so, by the state that the book has then
abbrev pub RefusesAt : BookView → Moment → Event → BookError → Type 0
RefusesAt b moment e error =
    BookRefusesWithMarksByRules {X = Unit {0}} b (taken_at e moment b.current.moment) e (Err error)

-- a book that began with this router says to a port with this number of events until then: it is
-- refused so, at a router to which events lead from there, at least as many as the port's
abbrev pub IsRefusedBySome : (origin : Router) → (events : ℕ) → Moment → Event → BookError → Type 0
IsRefusedBySome origin events moment e error =
    (b : BookView) × (events ≤ b.taken) × IsAfterEvents origin b.taken b.current
    × RefusesAt b moment e error

-- All that is said of a book which began with this router. Nothing is known of a question that was
-- asked, or got no reading or no memory, nor of a change that was counted or a number of them.
abbrev pub took_from : (origin : Router) → Took
took_from origin = record {
  taken = IsTakenBySome origin;
  change_counted = λ operations. Unit {0};
  asked = λ input. Unit {0};
  changes_read = λ events changes. Unit {0};
}

abbrev pub refuses_from : (origin : Router) → Refuses
refuses_from origin = record {
  refused = IsRefusedBySome origin;
  lacks = λ lack. Unit {0};
}

-- a book that began with this router says: they are those of a router to which events lead from
-- there
abbrev pub IsOfferedBySome : (origin : Router) → List Route → List TableRow → Type 0
IsOfferedBySome origin candidates rows =
    (taken : ℕ) × (r : Router) × IsAfterEvents origin taken r × IsOffered r candidates rows

-- whether a router announces the destination of this prefix
abbrev pub announces : Router → Network → Bool
announces r prefix = is_for prefix (finite.get r.announced (external_key r.id prefix))

-- a book that began with this router says: a router to which events lead from there does, or
-- doesn't, which took at least as many as those of the port that asks
abbrev pub IsWantedBySome : (origin : Router) → (events : ℕ) → Network → Bool → Type 0
IsWantedBySome origin events prefix wanted =
    (taken : ℕ) × (r : Router) × (events ≤ taken) × IsAfterEvents origin taken r
    × (wanted ≡ announces r prefix)

-- a book is one that began with this router
abbrev pub BeganWith : (origin : Router) → BookView → Type 0
BeganWith origin b = IsAfterEvents origin b.taken b.current

-- the neighbors at the interfaces from 1 to this number, each as it is found at its own
pub record AreNeighbors (at : InterfaceNumber → Option (RouterNumber × NeighborState))
    (interfaces : ℕ) (neighbors : List (Option (RouterNumber × NeighborState))) : Type 0 where
  pub all : length neighbors ≡ interfaces
  pub each : (k : ℕ) → k < interfaces → slice_get neighbors k ≡ Some (at (k + 1))

-- they are the neighbors of one book, of which `began` is so if there is an interface
abbrev pub IsListed : {B : Type 0} → (began : B → Type 0)
    → (at : B → InterfaceNumber → Option (RouterNumber × NeighborState)) → (interfaces : ℕ)
    → List (Option (RouterNumber × NeighborState)) → Type 0
IsListed {B = B} began at interfaces neighbors =
    (book : B) × (0 < interfaces → began book) × AreNeighbors (at book) interfaces neighbors

-- ---- answers to questions

-- the answer is on this destination, at this moment, beside these rows
pub record IsTagOn (old new : AskerState) (external : External) (moment : Moment)
    (rows : List TableRow) (a : ExternalAnswer) : Type 0 where
  pub destination : a.external ≡ external
  pub asked : a.moment ≡ moment
  pub answered : IsAnsweredAt old new (tag_input external moment rows) a.word

pub record IsPriceOn (old new : AskerState) (external : External) (moment : Moment)
    (rows : List TableRow) (a : ExternalAnswer) : Type 0 where
  pub destination : a.external ≡ external
  pub asked : a.moment ≡ moment
  pub answered : IsAnsweredAt old new (price_input external moment rows) a.word

-- The datagram was counted as one of the interface, by a word that the programs answer of it. Or it
-- wasn't, since it got no reading: the asker knows what it knew, and the seat is as it was.
abbrev pub IsCountedIfRead : Refuses → (old new : AskerState) → InterfaceNumber → Moment
    → (packet : List ℕ) → Type 0
IsCountedIfRead refuses old new interface moment packet =
    ((new ≡ old) × refuses.lacks (Lack.Reading (count_input interface moment packet)))
    ⊎ ((word : ℕ) × IsAnsweredAt old new (count_input interface moment packet) word)

-- if the work is a datagram, that is counted if it got a reading
abbrev pub CountsIfReadFor : Refuses → (old new : AskerState) → Work → Moment → Type 0
CountsIfReadFor refuses old new (work.Datagram interface bytes) moment =
    IsCountedIfRead refuses old new interface moment bytes
CountsIfReadFor refuses old new work.Tick moment = Unit {0}
CountsIfReadFor refuses old new (work.Add external) moment = Unit {0}
CountsIfReadFor refuses old new (work.Withdraw prefix) moment = Unit {0}
CountsIfReadFor refuses old new (work.Down interface) moment = Unit {0}
CountsIfReadFor refuses old new work.Refresh moment = Unit {0}

-- If the work is a datagram, that is counted first if it got a reading, and then the asker comes to
-- the last state by some runs. Of a book this says no more than `IsLater old new`.
abbrev pub HasCountedFor : Refuses → (old new : AskerState) → Work → Moment → Type 0
HasCountedFor refuses old new w moment =
    (counted : AskerState) × CountsIfReadFor refuses old counted w moment × IsLater counted new

-- if the work is a datagram, the programs at `count` were asked about it
abbrev pub AsksFor : Took → Moment → Work → Type 0
AsksFor took moment (work.Datagram interface bytes) =
    took.asked (count_input interface moment bytes)
AsksFor took moment work.Tick = Unit {0}
AsksFor took moment (work.Add external) = Unit {0}
AsksFor took moment (work.Withdraw prefix) = Unit {0}
AsksFor took moment (work.Down interface) = Unit {0}
AsksFor took moment work.Refresh = Unit {0}

-- ---- the event of a work

-- it installs an answer on each candidate that was offered at once
abbrev pub IsInstall : Offers → (old new : AskerState) → Moment → Event → Type 0
IsInstall offers old new moment e =
    (candidates : List Route) × (rows : List TableRow) × (answers : List RouteAnswer)
    × offers candidates rows × AreVetoes old new moment rows candidates answers
    × (e ≡ event.Install answers)

-- both answers are on this destination, at this moment, beside these rows: first the tag was asked
abbrev pub AreBeside : (old new : AskerState) → External → Moment → List TableRow
    → (tag : ExternalAnswer) → (price : ExternalAnswer) → Type 0
AreBeside old new external moment rows tag price =
    (between : AskerState) × IsTagOn old between external moment rows tag
    × IsPriceOn between new external moment rows price

-- They are beside the rows of a table that was offered; or the same beside whatever rows, as they
-- are if no program stands at `tag` and none at `price`.
abbrev pub AreAnswersAsked : Offers → (old new : AskerState) → External → Moment
    → (tag : ExternalAnswer) → (price : ExternalAnswer) → Type 0
AreAnswersAsked offers old new external moment tag price =
    ((candidates : List Route) × (rows : List TableRow)
    × offers candidates rows × AreBeside old new external moment rows tag price)
    ⊎ ((rows : List TableRow) → AreBeside old new external moment rows tag price)

-- it announces the destination, with the answers of the programs
abbrev pub IsRedistribute : Offers → (old new : AskerState) → External → Moment → Event → Type 0
IsRedistribute offers old new external moment e =
    (tag : ExternalAnswer) × (price : ExternalAnswer)
    × AreAnswersAsked offers old new external moment tag price
    × (e ≡ event.Redistribute tag price)

-- The event is that of the work, with answers to its questions, by an asker that came from the
-- first state to the other by just these questions. A datagram's is the one of `count`, which the
-- event doesn't tell of.
abbrev pub IsEventOfWork : Offers → Refuses → (old new : AskerState) → Work → Moment → Event
    → Type 0
IsEventOfWork offers refuses old new (work.Datagram interface bytes) moment e =
    (e ≡ event.Packet interface bytes)
    × IsCountedIfRead refuses old new interface moment bytes
IsEventOfWork offers refuses old new work.Tick moment e = (e ≡ event.Tick) × (new ≡ old)
IsEventOfWork offers refuses old new (work.Add external) moment e =
    IsRedistribute offers old new external moment e
IsEventOfWork offers refuses old new (work.Withdraw prefix) moment e =
    (e ≡ event.Withdraw prefix) × (new ≡ old)
IsEventOfWork offers refuses old new (work.Down interface) moment e =
    (e ≡ event.LinkDown interface) × (new ≡ old)
IsEventOfWork offers refuses old new work.Refresh moment e = IsInstall offers old new moment e

-- the work's event was given at this moment, by a port with this number of events until then, sent
-- these, and left the router so
abbrev pub TakesFor : Offers → Took → Refuses → (old new : AskerState) → (events : ℕ) → Moment
    → Work → List Out → (stale : Option Bool) → Type 0
TakesFor offers took refuses old new events moment w outs stale =
    (e : Event) × IsEventOfWork offers refuses old new w moment e
    × took.taken events moment e outs stale

-- ---- refusals

-- an `Install`
abbrev pub IsInstalling : Event → Type 0
IsInstalling e = (answers : List RouteAnswer) × (e ≡ event.Install answers)

-- memory was refused, and that is why
abbrev pub LacksMemory : Refuses → TurnError → Type 0
LacksMemory refuses error =
    (error ≡ turn_error.Book (book_error.Core core_error.Memory)) × refuses.lacks Lack.Memory

-- a question of this got no reading, and that is why
abbrev pub LacksReading : Refuses → (asks : Given → Type 0) → TurnError → Type 0
LacksReading refuses asks error =
    (error ≡ turn_error.Away) × ((input : Given) × refuses.lacks (Lack.Reading input) × asks input)

-- the questions of an announcement, and of a refresh
abbrev pub AsksOf : External → Moment → Given → Type 0
AsksOf external moment input = (rows : List TableRow)
    × ((input ≡ tag_input external moment rows) ⊎ (input ≡ price_input external moment rows))

abbrev pub AsksOfRoutes : Moment → Given → Type 0
AsksOfRoutes moment input =
    (route : Route) × (rows : List TableRow) × (input ≡ veto_input route moment rows)

-- What a work is refused for before its event is given. A datagram is copied, and so refused for
-- memory alone: without a reading at `count` it isn't counted, and is taken all the same. A Tick, a
-- withdrawal and a link's end need neither a reading nor memory.
abbrev pub RefusesQuestions : Refuses → Work → Moment → TurnError → Type 0
RefusesQuestions refuses (work.Datagram interface bytes) moment error = LacksMemory refuses error
RefusesQuestions refuses work.Tick moment error = ⊥
RefusesQuestions refuses (work.Add external) moment error =
    LacksReading refuses (AsksOf external moment) error ⊎ LacksMemory refuses error
RefusesQuestions refuses (work.Withdraw prefix) moment error = ⊥
RefusesQuestions refuses (work.Down interface) moment error = ⊥
RefusesQuestions refuses work.Refresh moment error =
    LacksReading refuses (AsksOfRoutes moment) error ⊎ LacksMemory refuses error

-- the work's event was given at this moment, by a port with this number of events until then, and
-- refused, for this
abbrev pub RefusesEvent : Offers → Refuses → (old new : AskerState) → (events : ℕ) → Moment → Work
    → TurnError → Type 0
RefusesEvent offers refuses old new events moment w error =
    (e : Event) × (why : BookError) × IsEventOfWork offers refuses old new w moment e
    × refuses.refused events moment e why × (error ≡ turn_error.Book why)

-- That is why; or one of its questions was refused before. Then it isn't said which questions were
-- answered before that one, only that some runs followed one another at the asker's seat.
abbrev pub RefusesFor : Offers → Refuses → (old new : AskerState) → (events : ℕ) → Moment → Work
    → TurnError → Type 0
RefusesFor offers refuses old new events moment w error =
    (RefusesQuestions refuses w moment error × IsLater old new)
    ⊎ RefusesEvent offers refuses old new events moment w error

-- after `events` events, a number of changes of the programs was read that isn't `before`
abbrev pub IsChangedSince : Took → (events : ℕ) → ℕ → Type 0
IsChangedSince took events before = (now : ℕ) × took.changes_read events now × (now ≢ before)

-- The refresh that was due isn't taken: the programs were changed meanwhile, as the number of
-- changes tells that was read before the event, beside the one after it, as in `IsUnchanged`; or it
-- was refused, as any refresh is.
abbrev pub IsUnrefreshed : Offers → Took → Refuses → (old new : AskerState) → Moment
    → (events : ℕ) → Type 0
IsUnrefreshed offers took refuses old new moment events =
    ((before : ℕ) × took.changes_read events before × IsChangedSince took (events + 1) before)
    ⊎ ((error : TurnError)
    × RefusesFor offers refuses old new (events + 1) moment work.Refresh error)

-- the number of changes that was read before the event was read after it too; of a book's own
-- relations any number may have been read, so that this binds code that is generic over `Taker`
abbrev pub IsUnchanged : Took → (events : ℕ) → Type 0
IsUnchanged took events =
    (changes : ℕ) × took.changes_read events changes × took.changes_read (events + 1) changes

-- ---- a turn

-- No refresh was taken after an event. If the router was left stale, why; which questions of the
-- refresh were answered is said only if its event was refused. If not, none was asked.
pub record HasNoRefresh (offers : Offers) (took : Took) (refuses : Refuses) (old new : AskerState)
    (moment : Moment) (events : ℕ) (stale : Option Bool) : Type 0 where
  pub later : IsLater old new
  pub why : stale ≡ Some true → IsUnrefreshed offers took refuses old new moment events
  pub unasked : stale ≢ Some true → new ≡ old

-- What comes of a turn at a port whose asker and seat are in the first state before it and in the
-- other after it: the outs of the work's event, and, if a refresh followed, those of its `Install`.
-- A refresh followed only if the event left the router stale, and the programs weren't changed
-- meanwhile. If none followed a router that was left stale, it was refused, or the programs were
-- changed; of a book that says nothing. The events count in the port's share, which grew from one
-- number to the other: the work's event is among those that count when the refresh is given.
pub record IsTurned (offers : Offers) (took : Took) (refuses : Refuses) (old new : AskerState)
    (moment : Moment) (w : Work) (before after : ℕ) (turned : TurnOutcome) : Type 0 where
  pub stale : Option Bool
  -- as the questions of the work's event left asker and seat
  pub between : AskerState
  pub outs : TakesFor offers took refuses old between before moment w turned.outs.items stale
  -- whether it is stale isn't known only for want of memory
  pub unknown : stale ≡ None → refuses.lacks Lack.Memory
  pub refreshed : MatchOption turned.refreshed
      ((after ≡ before + 1)
      × HasNoRefresh offers took refuses between new moment before stale)
      (λ outs. (stale ≡ Some true) × IsUnchanged took before × ((left : Option Bool)
      × TakesFor offers took refuses between new (before + 1) moment work.Refresh outs.items left)
      × (after ≡ before + 2))
