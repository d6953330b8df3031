-- A journal, and what it says of a router.
use Rattle.std.specs.Prelude.{◌≡◌, ◌⊎◌, ℕ, zero, suc, ◌<◌, ◌≤◌, true, List, [], ◌∷◌, ◌++◌, length}
use Rattle.std.specs.Prelude.{map, Option, None, Some, slice_index_or}
use Rattle.std.specs.FinMap as finite
use Rattle.words.specs.Numbers.{Moment}
use Rattle.event_rules.specs.Events.{Run, Step}
use Rattle.event_rules.specs.Routers.{Occurrence, Router}
use Rattle.event_rules.specs.Clocks.{RunOfTaken}
use Rattle.flood.specs.declared.event.Event.{Event}
use Rattle.flood.specs.declared.event.Event.TheVariants as event
use Rattle.flood.specs.Occurrences.{is_install, occurrence_of}
use Rattle.flood.specs.declared.book.entry.JournalEntry.{JournalEntry}
use Rattle.flood.specs.Bytes.{allowed_for, bytes_of}

abbrev pub entry : Moment → Event → JournalEntry
entry moment event = record { moment = moment; event = event }

-- what came, and when: of an entry, and of a step of a run
abbrev pub entry_occurrence : JournalEntry → Moment × Occurrence
entry_occurrence e = (e.moment, occurrence_of e.event)

abbrev pub step_occurrence : Step → Moment × Occurrence
step_occurrence s = (s.moment, s.event)

-- a run over just the journal's events, whatever they sent, leads from one router to the other
abbrev pub Replays : (start : Router) → List JournalEntry → (now : Router) → Type 0
Replays start journal now =
    (steps : List Step) × (map step_occurrence steps ≡ map entry_occurrence journal)
    × Run start steps now

-- this many events, none of which the rules refuse, lead from one router to the other, one after
-- the other, whatever they sent
abbrev pub IsAfterEvents : (origin : Router) → (taken : ℕ) → (now : Router) → Type 0
IsAfterEvents origin taken now =
    (steps : List Step) × RunOfTaken origin steps now × (length steps ≡ taken)

-- what contracts see of a book
pub record BookView : Type 0 where
  pub start : Router
  -- the events since the start, the oldest first
  pub journal : List JournalEntry
  -- the router as it is now
  pub current : Router
  -- how many events were taken in all
  pub taken : ℕ

-- a book that has taken nothing
abbrev pub started_book : Router → BookView
started_book core = record { start = core; journal = []; current = core; taken = 0 }

-- the book starts from the router as it is now, with an empty journal
abbrev pub marked_book : BookView → BookView
marked_book b = record b { start = b.current; journal = [] }

-- the router at the start; if there is none, the router as it is now
abbrev pub start_of : Option Router → (now : Router) → Router
start_of None now = now
start_of (Some start) now = start

-- ---- Installs

-- the event, of which an Install has lost its answers
abbrev pub without_answers : Event → Event
without_answers (event.Packet interface bytes) = event.Packet interface bytes
without_answers event.Tick = event.Tick
without_answers (event.Redistribute tag price) = event.Redistribute tag price
without_answers (event.Withdraw prefix) = event.Withdraw prefix
without_answers (event.Install answers) = event.Install []
without_answers (event.LinkDown interface) = event.LinkDown interface

-- the journal ends with an Install, which stands at this place
abbrev pub IsInstalledLast : List JournalEntry → (last : ℕ) → Type 0
IsInstalledLast journal last =
    (length journal ≡ suc last)
    × ((e : JournalEntry) × (e ≡ slice_index_or journal last e)
    × (is_install (occurrence_of e.event) ≡ true))

-- the journal, in which an Install at this place has lost its answers
abbrev pub forgotten_at : List JournalEntry → (place : ℕ) → List JournalEntry
forgotten_at [] place = []
forgotten_at (e ∷ rest) zero = record e { event = without_answers e.event } ∷ rest
forgotten_at (e ∷ rest) (suc place) = e ∷ forgotten_at rest place

-- the journal, which ends with this entry; if that is an Install, one before it may have lost its
-- answers
abbrev pub EndsWith : List JournalEntry → JournalEntry → List JournalEntry → Type 0
EndsWith before e journal =
    (journal ≡ before ++ e ∷ [])
    ⊎ ((place : ℕ) × (is_install (occurrence_of e.event) ≡ true)
    × (journal ≡ forgotten_at before place ++ e ∷ []))

-- the same journal, or one that ends with an Install, to which another one has lost its answers
abbrev pub IsLightened : (old new : List JournalEntry) → Type 0
IsLightened old new =
    (new ≡ old)
    ⊎ ((before : List JournalEntry) × (e : JournalEntry) × (place : ℕ) × (old ≡ before ++ e ∷ [])
    × (is_install (occurrence_of e.event) ≡ true)
    × (new ≡ forgotten_at before place ++ e ∷ []))

-- ---- marks

-- the journal is full, or takes more than it may beside the LSAs that the router holds
abbrev pub IsDue : BookView → Type 0
IsDue b =
    (length b.journal ≡ 65536)
    ⊎ (allowed_for (finite.len b.current.area.database) < bytes_of b.journal)

-- it is the same book, whose journal isn't too much; or the one that was marked
abbrev pub MayBeMarked : (old new : BookView) → Type 0
MayBeMarked old new = ((IsDue old → ⊥) × (new ≡ old)) ⊎ (new ≡ marked_book old)

-- it is the book that was marked if its journal was too much, and only then; else the same one
abbrev pub IsMarkedIfDue : (old new : BookView) → Type 0
IsMarkedIfDue old new =
    ((IsDue old → ⊥) × (new ≡ old)) ⊎ (IsDue old × (new ≡ marked_book old))

-- the entry stands last in the journal
abbrev pub IsNotedIn : (before : BookView) → JournalEntry → (new : BookView) → Type 0
IsNotedIn before e new = (new.start ≡ before.start) × EndsWith before.journal e new.journal

-- the entry stands last in the journal, which goes on; or alone in one that was emptied by a mark
-- before, since it was too much, or for want of memory
abbrev pub IsNotedAtLast : (old : BookView) → JournalEntry → (new : BookView) → Type 0
IsNotedAtLast old e new = (before : BookView) × MayBeMarked old before × IsNotedIn before e new

-- the last event isn't noted: the book starts from the router behind it, with an empty journal
abbrev pub IsUnnoted : BookView → Type 0
IsUnnoted b = (b.start ≡ b.current) × (b.journal ≡ [])

-- what holds of the fields of every book that began with this router; `total` is its ledger's
pub record IsBook (origin : Router) (start : Router) (journal : List JournalEntry) (now : Router)
    (bytes taken total : ℕ) : Type 0 where
  pub replays : Replays start journal now
  pub leads : IsAfterEvents origin taken now
  pub weighed : bytes ≡ bytes_of journal
  pub room : length journal ≤ 65536
  pub few : taken ≤ 9223372036854775808
  pub counted : taken ≡ total
