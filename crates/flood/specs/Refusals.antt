-- When a book takes no event.
use Rattle.std.specs.Prelude.{◌≡◌, ◌⊎◌, length, None, Result, Ok, Err}
use Rattle.words.specs.Numbers.{Moment}
use Rattle.event_rules.specs.Refusals as router
use Rattle.flood.specs.declared.event.Event.{Event}
use Rattle.flood.specs.Early.{early_refusal}
use Rattle.flood.specs.Occurrences.{occurrence_of}
use Rattle.flood.specs.declared.book.error.BookError.{BookError}
use Rattle.flood.specs.declared.book.error.BookError.TheVariants as refusing
use Rattle.flood.specs.declared.book.error.Refused.{Refused}
use Rattle.flood.specs.Replay.{BookView}

-- no more events may be taken
abbrev pub IsSpent : BookView → Type 0
IsSpent b = b.taken ≡ 9223372036854775808

-- the journal has no place left, or no more events may be taken
abbrev pub IsFull : BookView → Type 0
IsFull b = (length b.journal ≡ 65536) ⊎ IsSpent b

-- what needs no memory refuses the event: no more may be taken, or its moment, or its interface
abbrev pub IsRefusedEarly : BookView → Moment → Event → Type 0
IsRefusedEarly b moment e =
    IsSpent b ⊎ (early_refusal b.current moment (occurrence_of e) ≡ None → ⊥)

-- A book that is refused for itself says so, and no other book does; else the router's answer
-- stands.
abbrev pub RefusesWhere : {X : Type 0} → (IsRefused : BookView → Type 0)
    → BookView → Moment → Event → Result X BookError → Type 0
RefusesWhere IsRefused b moment e (Ok x) =
    (IsRefused b → ⊥) × router.RefusesByRules b.current moment (occurrence_of e) (Ok x)
RefusesWhere IsRefused b moment e (Err refusing.Journal) = IsRefused b
RefusesWhere IsRefused b moment e (Err (refusing.Core x)) =
    (IsRefused b → ⊥) × router.RefusesByRules {X = Unit {0}} b.current moment (occurrence_of e)
    (Err x)

-- a full book says so
abbrev pub BookRefusesByRules : {X : Type 0} → BookView → Moment → Event → Result X BookError
    → Type 0
BookRefusesByRules b moment e r = RefusesWhere IsFull b moment e r

-- a book that starts anew if its journal is full
abbrev pub BookRefusesWithMarksByRules : {X : Type 0} → BookView → Moment → Event
    → Result X BookError
    → Type 0
BookRefusesWithMarksByRules b moment e r = RefusesWhere IsSpent b moment e r

-- the answer, of which a refusal gives the event back, without the event
abbrev pub without_event : {X : Type 0} → Result X Refused → Result X BookError
without_event (Ok x) = Ok x
without_event (Err refused) = Err refused.error
