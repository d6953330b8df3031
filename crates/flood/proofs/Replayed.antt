-- A journal with one more event.
use Rattle.std.proofs.Common.{◌≡◌, ℕ, ◌+◌, List, [], ◌∷◌, ◌++◌, map, sym, subst}
use Rattle.std.proofs.Common.{refl, ap, ◌∙◌}
use Rattle.std.proofs.lemmas.List.{length-append, map-append}
use Rattle.std.proofs.lemmas.List.Sums.{fold-append}
use Rattle.event_rules.specs.declared.model.Out.{Out}
use Rattle.event_rules.specs.Events.{Happens, Run, Step}
use Rattle.event_rules.specs.Refusals.{IsAllowed}
use Rattle.event_rules.specs.Routers.{Occurrence, Router}
use Rattle.event_rules.proofs.Clocks.{one_more}
use Rattle.flood.specs.Occurrences.{occurrence_of}
use Rattle.flood.specs.declared.book.entry.JournalEntry.{JournalEntry}
use Rattle.flood.specs.Bytes.{bytes_of, with_event}
use Rattle.flood.specs.Replay.{IsAfterEvents, Replays, entry_occurrence, step_occurrence}

abbrev step : JournalEntry → List Out → Step
step e outs = record { moment = e.moment; event = occurrence_of e.event; outs = outs }

run_on : (steps : List Step) (old middle new : Router) (s : Step) → Run old steps middle
    → Happens middle s.moment s.event s.outs new → Run old (steps ++ s ∷ []) new
run_on [] old middle new s same now =
    (new, subst (λ (r : Router). Happens r s.moment s.event s.outs new) same now, refl)
run_on (x ∷ steps) old middle new s earlier now =
    (earlier.0, earlier.1, run_on steps earlier.0 middle new s earlier.2 now)

same_on : (steps : List Step) (journal : List JournalEntry) (s : Step) (e : JournalEntry)
    → map step_occurrence steps ≡ map entry_occurrence journal
    → step_occurrence s ≡ entry_occurrence e
    → map step_occurrence (steps ++ s ∷ []) ≡ map entry_occurrence (journal ++ e ∷ [])
same_on steps journal s e same one =
    map-append step_occurrence steps (s ∷ []) ∙ ap (λ l. l ++ step_occurrence s ∷ []) same
    ∙ ap (λ x. map entry_occurrence journal ++ x ∷ []) one
    ∙ sym (map-append entry_occurrence journal (e ∷ []))

pub replays_on : (start : Router) (journal : List JournalEntry) (before after : Router)
    (e : JournalEntry) (outs : List Out) → Replays start journal before
    → Happens before e.moment (occurrence_of e.event) outs after
    → Replays start (journal ++ e ∷ []) after
replays_on start journal before after e outs (steps, same, run) now = (
  steps ++ step e outs ∷ [],
  same_on steps journal (step e outs) e same refl,
  run_on steps start before after (step e outs) run now,
)

-- one event more, which no rule refuses, leads on
pub leads_on : (origin : Router) (taken : ℕ) (before after : Router) (e : JournalEntry)
    (outs : List Out) → IsAfterEvents origin taken before
    → IsAllowed before e.moment (occurrence_of e.event)
    → Happens before e.moment (occurrence_of e.event) outs after
    → IsAfterEvents origin (taken + 1) after
leads_on origin taken before after e outs (steps, run, many) on now = (
  steps ++ step e outs ∷ [],
  one_more steps origin before after (step e outs) run on now,
  length-append steps (step e outs ∷ []) ∙ ap (λ n. n + 1) many,
)

-- the bytes of a journal with one more event
pub bytes_with : (journal : List JournalEntry) (e : JournalEntry)
    → bytes_of (journal ++ e ∷ []) ≡ with_event (bytes_of journal) e.event
bytes_with journal e = fold-append (λ bytes (x : JournalEntry). with_event bytes x.event) 0 journal
    (e ∷ [])
