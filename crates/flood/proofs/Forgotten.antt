-- Journals in which an Install has lost its answers to a later one.
use Rattle.std.proofs.Common.{◌≡◌, ℕ, zero, suc, ◌<◌, ◌≤◌, Bool, true, false, List, [], ◌∷◌}
use Rattle.std.proofs.Common.{◌++◌, length, map, refl, sym, subst, ap, ◌∙◌, inl, inr, arith}
use Rattle.std.proofs.Common.{get_or, set, take, drop}
use Rattle.std.proofs.Math.Seq.{take-append_seam}
use Rattle.std.specs.List.{fold}
use Rattle.words.specs.Numbers.{Moment}
use Rattle.words.specs.declared.route.Route.{Route}
use Rattle.event_rules.specs.declared.model.Out.{Out}
use Rattle.event_rules.specs.Events.{Happens, Run, Step}
use Rattle.event_rules.specs.Routers.{Occurrence, Router}
use Rattle.flood.specs.declared.event.Event.{Event}
use Rattle.flood.specs.declared.event.Event.TheVariants as event
use Rattle.flood.specs.Occurrences.{is_install, occurrence_of, words_of}
use Rattle.flood.specs.declared.book.entry.JournalEntry.{JournalEntry}
use Rattle.flood.specs.Bytes.{bytes_of, with_event}
use Rattle.flood.specs.Replay.{IsInstalledLast, IsLightened, Replays, entry_occurrence}
use Rattle.flood.specs.Replay.{forgotten_at}
use Rattle.flood.specs.Replay.{step_occurrence}
use Rattle.flood.specs.Replay.{without_answers}
use Rattle.event_rules.proofs.Unheeded.{told}
use Rattle.flood.proofs.Unheeded.{installed, overlooked, replaced}

-- ---- the first event of a journal

-- what the first event leaves, from where the others lead on
record Begins (start : Router) (moment : Moment) (event : Occurrence) (rest : List JournalEntry)
    (now : Router) : Type 0 where
  outs : List Out
  middle : Router
  happens : Happens start moment event outs middle
  others : Replays middle rest now

begun : (start : Router) (e : JournalEntry) (rest : List JournalEntry) (now : Router)
    → Replays start (e ∷ rest) now → Begins start e.moment (occurrence_of e.event) rest now
begun start e rest now (steps, same, run) = from steps same run
  where
    from : (steps : List Step) → map step_occurrence steps ≡ map entry_occurrence (e ∷ rest)
        → Run start steps now → Begins start e.moment (occurrence_of e.event) rest now
    from [] same run = absurd cc
    from (s ∷ steps) same (middle, happens, more) =
        let first : step_occurrence s ≡ entry_occurrence e = cc in
        let P : Moment × Occurrence → Type 0 = λ o. Happens start o.0 o.1 s.outs middle in
        record {
          outs = s.outs;
          middle = middle;
          happens = subst P first happens;
          others = (steps, cc, more);
        }

goes_on : (start : Router) (e : JournalEntry) (rest : List JournalEntry) (now : Router)
    → Begins start e.moment (occurrence_of e.event) rest now → Replays start (e ∷ rest) now
goes_on start e rest now it = (
  record { moment = e.moment; event = occurrence_of e.event; outs = it.outs } ∷ it.others.0,
  ap (λ (l : List (Moment × Occurrence)). entry_occurrence e ∷ l) it.others.1,
  (it.middle, it.happens, it.others.2),
)

-- ---- a router with other answers

-- before a journal that ends with an Install the answers make no difference
with_answers : (answers : List (Route × ℕ)) (journal : List JournalEntry) (e : JournalEntry)
    (start now : Router) → is_install (occurrence_of e.event) ≡ true
    → Replays start (journal ++ e ∷ []) now
    → Replays (told answers start) (journal ++ e ∷ []) now
with_answers answers [] e start now is run =
    let it = begun start e [] now run in
    goes_on (told answers start) e [] now (record {
      outs = it.outs;
      middle = it.middle;
      happens = replaced answers start e.moment (occurrence_of e.event) it.outs it.middle is
          it.happens;
      others = it.others;
    })
with_answers answers (d ∷ journal) e start now is run =
    by (is_install (occurrence_of d.event)) refl (begun start d (journal ++ e ∷ []) now run)
    (λ middle more. with_answers answers journal e middle now is more)
  where
    by : (b : Bool) → is_install (occurrence_of d.event) ≡ b
        → Begins start d.moment (occurrence_of d.event) (journal ++ e ∷ []) now
        → ((middle : Router) → Replays middle (journal ++ e ∷ []) now
        → Replays (told answers middle) (journal ++ e ∷ []) now)
        → Replays (told answers start) (d ∷ journal ++ e ∷ []) now
    by true brings it later = goes_on (told answers start) d (journal ++ e ∷ []) now (record {
      outs = it.outs;
      middle = it.middle;
      happens = replaced answers start d.moment (occurrence_of d.event) it.outs it.middle brings
          it.happens;
      others = it.others;
    })
    by false brings it later = goes_on (told answers start) d (journal ++ e ∷ []) now (record {
      outs = it.outs;
      middle = told answers it.middle;
      happens = overlooked answers start d.moment (occurrence_of d.event) it.outs it.middle brings
          it.happens;
      others = later it.middle it.others;
    })

-- ---- an Install without its answers

first_forgotten : (moment : Moment) (first : Event) (journal : List JournalEntry) (e : JournalEntry)
    (start now : Router)
    → is_install (occurrence_of e.event) ≡ true
    → Begins start moment (occurrence_of first) (journal ++ e ∷ []) now
    → Begins start moment (occurrence_of (without_answers first)) (journal ++ e ∷ []) now
first_forgotten moment (event.Packet number bytes) journal e start now is it = it
first_forgotten moment event.Tick journal e start now is it = it
first_forgotten moment (event.Redistribute tag price) journal e start now is it = it
first_forgotten moment (event.Withdraw prefix) journal e start now is it = it
first_forgotten moment (event.Install answers) journal e start now is it = record {
  outs = it.outs;
  middle = told [] it.middle;
  happens = installed [] start moment (words_of answers) it.outs it.middle it.happens;
  others = with_answers [] journal e it.middle now is it.others;
}
first_forgotten moment (event.LinkDown number) journal e start now is it = it

-- the journal, which ends with an Install, replays to the same
forgotten_replays : (journal : List JournalEntry) (place : ℕ) (e : JournalEntry)
    (start now : Router) → is_install (occurrence_of e.event) ≡ true
    → Replays start (journal ++ e ∷ []) now
    → Replays start (forgotten_at journal place ++ e ∷ []) now
forgotten_replays [] place e start now is run = run
forgotten_replays (d ∷ journal) zero e start now is run =
    goes_on start (record d { event = without_answers d.event }) (journal ++ e ∷ []) now
    (first_forgotten d.moment d.event journal e start now is
    (begun start d (journal ++ e ∷ []) now run))
forgotten_replays (d ∷ journal) (suc place) e start now is run =
    let it = begun start d (journal ++ e ∷ []) now run in
    goes_on start d (forgotten_at journal place ++ e ∷ []) now (record {
      outs = it.outs;
      middle = it.middle;
      happens = it.happens;
      others = forgotten_replays journal place e it.middle now is it.others;
    })

-- ---- what stays

weighs_the_same : (bytes : ℕ) (e : Event)
    → with_event bytes (without_answers e) ≡ with_event bytes e
weighs_the_same bytes (event.Packet number b) = refl
weighs_the_same bytes event.Tick = refl
weighs_the_same bytes (event.Redistribute tag price) = refl
weighs_the_same bytes (event.Withdraw prefix) = refl
weighs_the_same bytes (event.Install answers) = refl
weighs_the_same bytes (event.LinkDown number) = refl

abbrev added : ℕ → JournalEntry → ℕ
added bytes e = with_event bytes e.event

forgotten_weighs : (bytes : ℕ) (journal : List JournalEntry) (place : ℕ)
    → fold added bytes (forgotten_at journal place) ≡ fold added bytes journal
forgotten_weighs bytes [] place = refl
forgotten_weighs bytes (e ∷ journal) zero =
    ap (λ n. fold added n journal) (weighs_the_same bytes e.event)
forgotten_weighs bytes (e ∷ journal) (suc place) = forgotten_weighs (added bytes e) journal place

pub forgotten_bytes : (journal : List JournalEntry) (place : ℕ)
    → bytes_of (forgotten_at journal place) ≡ bytes_of journal
forgotten_bytes journal place = forgotten_weighs 0 journal place

pub forgotten_length : (journal : List JournalEntry) (place : ℕ)
    → length (forgotten_at journal place) ≡ length journal
forgotten_length [] place = refl
forgotten_length (e ∷ journal) zero = refl
forgotten_length (e ∷ journal) (suc place) = ap (λ n. suc n) (forgotten_length journal place)

-- ---- the last entry

-- a journal and its last entry
record Ends (journal : List JournalEntry) (last : ℕ) (e : JournalEntry) : Type 0 where
  before : List JournalEntry
  whole : journal ≡ before ++ e ∷ []
  long : length before ≡ last

ends : (journal : List JournalEntry) (last : ℕ) (e : JournalEntry) → length journal ≡ suc last
    → e ≡ get_or journal last e → Ends journal last e
ends [] last e long is = absurd cc
ends (d ∷ []) zero e long is = record {
  before = [];
  whole = ap (λ x. x ∷ []) (sym is);
  long = refl;
}
ends (d ∷ []) (suc last) e long is = absurd cc
ends (d ∷ c ∷ journal) zero e long is = absurd cc
ends (d ∷ c ∷ journal) (suc last) e long is =
    let fewer : length (c ∷ journal) ≡ suc last = cc in
    let it = ends (c ∷ journal) last e fewer is in record {
      before = d ∷ it.before;
      whole = ap (λ (l : List JournalEntry). d ∷ l) it.whole;
      long = ap (λ (n : ℕ). suc n) it.long;
    }

-- a place before the last one
before_the_last : (before : List JournalEntry) (e : JournalEntry) (place : ℕ)
    → place < length before → forgotten_at (before ++ e ∷ []) place ≡ forgotten_at before place ++ e
    ∷ []
before_the_last [] e place within = absurd (omega (arith, within))
before_the_last (d ∷ before) e zero within = refl
before_the_last (d ∷ before) e (suc place) within =
    ap (λ l. d ∷ l) (before_the_last before e place (omega (arith, within)))

-- what a journal that ends with an Install becomes
pub lightened : (journal : List JournalEntry) (last place : ℕ) → IsInstalledLast journal last
    → place < last → IsLightened journal (forgotten_at journal place)
lightened journal last place (long, (e, is, brings)) within =
    let it = ends journal last e long is in
    inr (
      it.before,
      e,
      place,
      it.whole,
      brings,
      ap (λ (l : List JournalEntry). forgotten_at l place) it.whole
          ∙ before_the_last it.before e place (omega (arith, it.long, within)),
    )

pub lightened_replays : (old new : List JournalEntry) (start now : Router) → IsLightened old new
    → Replays start old now → Replays start new now
lightened_replays old new start now (inl same) run =
    subst (λ (l : List JournalEntry). Replays start l now) (sym same) run
lightened_replays old new start now (inr (before, e, place, whole, brings, is)) run =
    let from : Replays start (before ++ e ∷ []) now =
    subst (λ (l : List JournalEntry). Replays start l now) whole run in
    subst (λ (l : List JournalEntry). Replays start l now) (sym is)
    (forgotten_replays before place e start now brings from)

-- a list that is written back over one of the same length
filled : (new old : List JournalEntry) (count : ℕ) → length new ≡ count
    → take count (new ++ drop (length new) old) ≡ new
filled new old count long =
    ap (λ n. take n (new ++ drop (length new) old)) (sym long)
    ∙ take-append_seam new (drop (length new) old)

-- what the journal is after an Install at a place was told to forget
pub written_back : (items lent made : List JournalEntry) (count place : ℕ)
    → lent ≡ items → length lent ≡ count → made ≡ forgotten_at lent place
    → take count (made ++ drop (length made) items) ≡ forgotten_at items place
written_back items lent made count place same long is =
    filled made items count (ap length is ∙ forgotten_length lent place ∙ long)
    ∙ is ∙ ap (λ (l : List JournalEntry). forgotten_at l place) same

-- the event at a place, with another in its stead
pub set_forgotten : (journal : List JournalEntry) (place : ℕ) (e otherwise : JournalEntry)
    (gone : Event) → place < length journal → e ≡ get_or journal place otherwise
    → gone ≡ without_answers e.event
    → set journal place (record e { event = gone }) ≡ forgotten_at journal place
set_forgotten [] place e otherwise gone within is same = absurd (omega (arith, within))
set_forgotten (d ∷ journal) zero e otherwise gone within is same =
    ap (λ (x : JournalEntry). x ∷ journal)
    (ap (λ (v : Event). record e {
      event = v;
    }) same ∙ ap (λ (x : JournalEntry). record x { event = without_answers x.event }) is)
set_forgotten (d ∷ journal) (suc place) e otherwise gone within is same =
    ap (λ (l : List JournalEntry). d ∷ l) (set_forgotten journal place e otherwise gone
    (omega (arith, within)) is same)

pub beyond : (journal : List JournalEntry) (place : ℕ) → length journal ≤ place
    → journal ≡ forgotten_at journal place
beyond [] place far = refl
beyond (e ∷ journal) zero far = absurd (omega (arith, far))
beyond (e ∷ journal) (suc place) far =
    ap (λ (l : List JournalEntry). e ∷ l) (beyond journal place (omega (arith, far)))
