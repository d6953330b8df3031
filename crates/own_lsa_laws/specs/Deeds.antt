-- What a worker does, one thing after the other, and in which order: said without its rounds.
use Rattle.std.specs.Prelude.{◌≡◌, ◌≢◌, ◌⊎◌, ℕ, List, [], ◌∷◌, ◌++◌, map, Option, Some, None}
use Rattle.turns.specs.declared.work.Work.{Work}
use Rattle.turns.specs.declared.work.Work.TheVariants.{Add, Datagram, Down, Refresh, Tick, Withdraw}
use Rattle.worker.specs.Lives.{Lives, Reads, Senses, Serves, Standing}

-- ---- one after the other

pub data Deed : Type 0 where
  -- its clock showed this moment
  Looks : (moment : ℕ) → Deed
  -- its transport gave a datagram or none
  Listens : (heard : Option (List ℕ)) → Deed
  -- it gave a work to a turn at the moment, whose last try was at the other one
  Gives : (moment : ℕ) → (work : Work) → (ended : ℕ) → Deed

-- what it is to do so
abbrev pub Does : {Transport Clock : Type 0} → Senses Transport Clock
    → (before : Standing Transport Clock) → Deed → (after : Standing Transport Clock) → Type 0
Does {Clock = Clock} senses before (Deed.Looks moment) after =
    (shown : Clock) × senses.shows before.clock moment shown
    × (after ≡ record before { clock = shown })
Does {Transport = Transport} senses before (Deed.Listens heard) after =
    (between : Transport) × senses.hears before.transport heard between
    × (after ≡ record before { transport = between })
Does senses before (Deed.Gives moment work ended) after =
    Serves senses moment work before ended after

abbrev pub DoesEach : {Transport Clock : Type 0} → Senses Transport Clock
    → (before : Standing Transport Clock) → List Deed → (after : Standing Transport Clock) → Type 0
DoesEach senses before [] after = after ≡ before
DoesEach {Transport = Transport} {Clock = Clock} senses before (deed ∷ deeds) after =
    (between : Standing Transport Clock) × Does senses before deed between
    × DoesEach senses between deeds after

-- ---- what was heard, and what was given

abbrev pub heard_by : Deed → List (List ℕ)
heard_by (Deed.Listens (Some bytes)) = bytes ∷ []
heard_by (Deed.Listens None) = []
heard_by (Deed.Looks moment) = []
heard_by (Deed.Gives moment work ended) = []

-- the datagrams that were heard, in order
abbrev pub heard : List Deed → List (List ℕ)
heard [] = []
heard (deed ∷ deeds) = heard_by deed ++ heard deeds

abbrev pub but_ticks : Work → List Work
but_ticks Tick = []
but_ticks (Datagram interface bytes) = Datagram interface bytes ∷ []
but_ticks (Add external) = Add external ∷ []
but_ticks (Withdraw prefix) = Withdraw prefix ∷ []
but_ticks (Down interface) = Down interface ∷ []
but_ticks Refresh = Refresh ∷ []

abbrev pub given_by : Deed → List Work
given_by (Deed.Gives moment work ended) = but_ticks work
given_by (Deed.Looks moment) = []
given_by (Deed.Listens heard) = []

-- the works that were given, in order, without the Ticks
abbrev pub given : List Deed → List Work
given [] = []
given (deed ∷ deeds) = given_by deed ++ given deeds

-- ---- Ticks

abbrev pub tick_of : (before : Option ℕ) → (work : Work) → (ended : ℕ) → Option ℕ
tick_of before Tick ended = Some ended
tick_of before (Datagram interface bytes) ended = before
tick_of before (Add external) ended = before
tick_of before (Withdraw prefix) ended = before
tick_of before (Down interface) ended = before
tick_of before Refresh ended = before

abbrev pub tick_after : (before : Option ℕ) → Deed → Option ℕ
tick_after before (Deed.Gives moment work ended) = tick_of before work ended
tick_after before (Deed.Looks moment) = before
tick_after before (Deed.Listens heard) = before

-- the moment at which the last Tick was tried last; this one if there was none
abbrev pub last_tick : (before : Option ℕ) → List Deed → Option ℕ
last_tick before [] = before
last_tick before (deed ∷ deeds) = last_tick (tick_after before deed) deeds

-- ---- the order

-- these end with those
abbrev pub EndsWith : (deeds last : List Deed) → Type 0
EndsWith deeds last = (front : List Deed) × (deeds ≡ front ++ last)

-- A Tick comes at the moment that the clock has just shown, which isn't that of the last Tick. Any
-- other work is the datagram that was just heard, at a moment that the clock showed after that.
abbrev pub IsWorkAfter : (earlier : List Deed) → (moment : ℕ) → Work → Type 0
IsWorkAfter earlier moment Tick =
    EndsWith earlier (Deed.Looks moment ∷ []) × (last_tick None earlier ≢ Some moment)
IsWorkAfter earlier moment (Datagram interface bytes) =
    EndsWith earlier (Deed.Listens (Some bytes) ∷ Deed.Looks moment ∷ [])
IsWorkAfter earlier moment (Add external) = ⊥
IsWorkAfter earlier moment (Withdraw prefix) = ⊥
IsWorkAfter earlier moment (Down interface) = ⊥
IsWorkAfter earlier moment Refresh = ⊥

-- It looks at its clock first, and then after it listened, or after a turn with a datagram.
abbrev pub IsLookingAfter : (earlier : List Deed) → Type 0
IsLookingAfter earlier =
    (earlier ≡ [])
    ⊎ ((heard : Option (List ℕ)) × EndsWith earlier (Deed.Listens heard ∷ []))
    ⊎ ((moment : ℕ) × (interface : ℕ) × (bytes : List ℕ) × (ended : ℕ)
    × EndsWith earlier (Deed.Gives moment (Datagram interface bytes) ended ∷ []))

-- It listens after a Tick, or after its clock showed the moment of the last Tick: each second that
-- it sees has had its Tick by then, except one at which it looks for a datagram's turn.
abbrev pub IsListeningAfter : (earlier : List Deed) → Type 0
IsListeningAfter earlier =
    ((moment : ℕ) × (ended : ℕ) × EndsWith earlier (Deed.Gives moment Tick ended ∷ []))
    ⊎ ((moment : ℕ) × EndsWith earlier (Deed.Looks moment ∷ [])
    × (last_tick None earlier ≡ Some moment))

-- a deed may come after those earlier ones
abbrev pub MayFollow : (earlier : List Deed) → Deed → Type 0
MayFollow earlier (Deed.Looks moment) = IsLookingAfter earlier
MayFollow earlier (Deed.Listens heard) = IsListeningAfter earlier
MayFollow earlier (Deed.Gives moment work ended) = IsWorkAfter earlier moment work

-- so may each of these, after those before it
abbrev pub EachMayFollow : (earlier : List Deed) → List Deed → Type 0
EachMayFollow earlier [] = Unit {0}
EachMayFollow earlier (deed ∷ deeds) =
    MayFollow earlier deed × EachMayFollow (earlier ++ deed ∷ []) deeds

-- ---- the law

-- What was done between two standings: these deeds and no others, each in its place, after which it
-- looks at its clock again; and of the works but Ticks that were given none lacks, none came twice,
-- and none came before an earlier one.
pub record HasDone {Transport Clock : Type 0} (senses : Senses Transport Clock)
    (start now : Standing Transport Clock) : Type 0 where
  pub deeds : List Deed
  pub does : DoesEach senses start deeds now
  pub follows : EachMayFollow [] deeds
  pub looks_next : IsLookingAfter deeds
  pub works : given deeds ≡ map (λ bytes. Datagram senses.number bytes) (heard deeds)

abbrev pub LivesAreDeedsInOrder : {Transport Clock Flag : Type 0} → Senses Transport Clock
    → Reads Flag → Type 0
LivesAreDeedsInOrder {Transport = Transport} {Clock = Clock} {Flag = Flag} senses reads =
    (begun flag : Flag) (start now : Standing Transport Clock) (rounds : ℕ) (ticked : Option ℕ)
    → Lives senses reads begun start rounds ticked flag now → HasDone senses start now
