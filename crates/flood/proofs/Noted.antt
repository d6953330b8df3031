-- What is noted in a book, and what it refuses, after it was marked or not.
use Rattle.std.proofs.Common.{◌≡◌, ◌<◌, ◌^◌, true, List, [], ◌∷◌, ◌++◌, length, sym, subst, refl}
use Rattle.std.proofs.Common.{◌+◌, ℕ, Bool, Option, None, Some, Result, Ok, Err, ap, ◌∙◌, inl, inr}
use Rattle.std.proofs.Common.{arith}
use Rattle.std.specs.Prelude.{false, if◌then◌else◌, is_err, OnOk}
use Rattle.words.specs.Numbers.{Moment}
use Rattle.event_rules.specs.declared.model.CoreError.{CoreError}
use Rattle.event_rules.specs.declared.model.CoreError.TheVariants as error
use Rattle.event_rules.specs.declared.model.Out.{Out}
use Rattle.event_rules.specs.Events.{Happens}
use Rattle.event_rules.specs.Refusals as router
use Rattle.event_rules.specs.Refusals.{is_clock_back, is_interface}
use Rattle.event_rules.specs.Routers.{Occurrence, Router}
use Rattle.flood.specs.Early.{early_refusal}
use Rattle.flood.specs.declared.event.Event.{Event}
use Rattle.flood.specs.Occurrences.{is_install, occurrence_of}
use Rattle.flood.specs.declared.book.entry.JournalEntry.{JournalEntry}
use Rattle.flood.specs.declared.book.error.BookError.{BookError}
use Rattle.flood.specs.declared.book.error.BookError.TheVariants as refusing
use Rattle.flood.specs.Refusals.{BookRefusesByRules, BookRefusesWithMarksByRules, IsFull}
use Rattle.flood.specs.Refusals.{IsRefusedEarly}
use Rattle.flood.specs.Refusals.{IsSpent}
use Rattle.flood.specs.Replay.{BookView, EndsWith, IsLightened, IsNotedIn, MayBeMarked}
use Rattle.flood.specs.Replay.{IsMarkedIfDue, forgotten_at, marked_book}

-- two lists with one entry behind them
same_ends : (xs ys : List JournalEntry) (x y : JournalEntry) → xs ++ x ∷ [] ≡ ys ++ y ∷ []
    → (xs ≡ ys) × (x ≡ y)
same_ends [] [] x y same = (refl, cc)
same_ends [] (b ∷ []) x y same = absurd cc
same_ends [] (b ∷ c ∷ ys) x y same = absurd cc
same_ends (a ∷ []) [] x y same = absurd cc
same_ends (a ∷ c ∷ xs) [] x y same = absurd cc
same_ends (a ∷ xs) (b ∷ ys) x y same =
    let first : a ≡ b = cc in
    let others = same_ends xs ys x y cc in
    (ap (λ e. e ∷ xs) first ∙ ap (λ l. b ∷ l) others.0, others.1)

-- a journal with one more entry, then lightened
pub noted_in : (before grown new : BookView) (e : JournalEntry)
    → grown ≡ record before {
      journal = before.journal ++ e ∷ [];
      current = grown.current;
      taken = before.taken + 1;
    }
    → new ≡ record grown { journal = new.journal } → IsLightened grown.journal new.journal
    → IsNotedIn before e new
noted_in before grown new e is same light =
    (ap (λ (v : BookView). v.start) same ∙ ap (λ (v : BookView). v.start) is, by light)
  where
    long : grown.journal ≡ before.journal ++ e ∷ []
    long = ap (λ (v : BookView). v.journal) is

    by : IsLightened grown.journal new.journal → EndsWith before.journal e new.journal
    by (inl stays) = inl (stays ∙ long)
    by (inr (front, last, place, whole, brings, gone)) =
        let ends = same_ends front before.journal last e (sym whole ∙ long) in
        inr (
          place,
          subst (λ (x : JournalEntry). is_install (occurrence_of x.event) ≡ true) ends.1 brings,
          gone ∙ ap (λ (l : List JournalEntry). forgotten_at l place ++ last ∷ []) ends.0
              ∙ ap (λ (x : JournalEntry). forgotten_at before.journal place ++ x ∷ []) ends.1,
        )

pub same_or_anew : (old new : BookView) → IsMarkedIfDue old new → MayBeMarked old new
same_or_anew old new (inl same) = inl same
same_or_anew old new (inr marked) = inr marked.1

-- a book that is marked for want of memory, whatever room was made in it before
pub marked_again : (old between last new : BookView) → IsMarkedIfDue old between → last ≡ between
    → new ≡ marked_book last → new ≡ marked_book old
marked_again old between last new first same is = is ∙ ap marked_book same ∙ was first
  where
    was : IsMarkedIfDue old between → marked_book between ≡ marked_book old
    was (inl stays) = ap marked_book stays.1
    was (inr before) = ap marked_book before.1

-- the same event at the same router
pub happens_at : (a b : Router) (moment : Moment) (e back : Event) (outs : List Out) (new : Router)
    → back ≡ e → b ≡ a → Happens b moment (occurrence_of back) outs new
    → Happens a moment (occurrence_of e) outs new
happens_at a b moment e back outs new same router happens =
    subst (λ (r : Router). Happens r moment (occurrence_of e) outs new) router
    (subst (λ (x : Event). Happens b moment (occurrence_of x) outs new) same happens)

-- a refusal looks at the router as it is now, and at how many events were taken
pub answered_at : {X : Type 0} (a b : BookView) (moment : Moment) (e : Event)
    (r : Result X BookError) → b.current ≡ a.current → b.taken ≡ a.taken
    → BookRefusesWithMarksByRules b moment e r → BookRefusesWithMarksByRules a moment e r
answered_at {X = X} a b moment e (Ok x) current taken (fresh, answers) = (
  (λ spent. fresh (taken ∙ spent)),
  subst (λ (r : Router). router.RefusesByRules {X = X} r moment (occurrence_of e) (Ok x)) current
      answers,
)
answered_at a b moment e (Err refusing.Journal) current taken spent = sym taken ∙ spent
answered_at a b moment e (Err (refusing.Core x)) current taken (fresh, answers) = (
  (λ spent. fresh (taken ∙ spent)),
  subst (λ (r : Router). router.RefusesByRules {X = Unit {0}} r moment (occurrence_of e) (Err x))
      current
      answers,
)

-- if the journal has room, only a book that may take no more is full
pub answered_anew : {X : Type 0} (b : BookView) (moment : Moment) (e : Event)
    (r : Result X BookError) → length b.journal < 65536 → BookRefusesByRules b moment e r
    → BookRefusesWithMarksByRules b moment e r
answered_anew b moment e (Ok x) room (free, answers) = ((λ spent. free (inr spent)), answers)
answered_anew b moment e (Err refusing.Journal) room (inl long) = absurd (omega (arith, room, long))
answered_anew b moment e (Err refusing.Journal) room (inr spent) = spent
answered_anew b moment e (Err (refusing.Core x)) room (free, answers) =
    ((λ spent. free (inr spent)), answers)

pub answered_back : {X : Type 0} (a b : BookView) (moment : Moment) (e back : Event)
    (r : Result X BookError) → back ≡ e → b.current ≡ a.current → b.taken ≡ a.taken
    → BookRefusesWithMarksByRules b moment back r → BookRefusesWithMarksByRules a moment e r
answered_back {X = X} a b moment e back r same current taken answers =
    answered_at {X = X} a b moment e r current taken
    (subst (λ (x : Event). BookRefusesWithMarksByRules {X = X} b moment x r) same answers)

-- the answer is no refusal
pub where_ok : {X E : Type 0} (r : Result X E) (P : Type 0) → is_err r ≡ false → OnOk r P → P
where_ok (Ok x) P is holds = holds
where_ok (Err x) P is holds = absurd cc

-- a book with room, that may take more
pub not_full : (b : BookView) → length b.journal < 65536 → b.taken < 2 ^ 63 → IsFull b → ⊥
not_full b room few (inl long) = omega (arith, room, long)
not_full b room few (inr spent) = omega (arith, few, spent)

-- ---- refusals before any mark

clock_short : (b : Bool) (early : Option CoreError) → (early ≡ Some error.Memory → ⊥)
    → (if b then Some error.ClockBack else early) ≡ Some error.Memory → ⊥
clock_short true early never e = absurd cc
clock_short false early never e = never e

there_short : (b : Bool) → (if b then None else Some error.NoInterface) ≡ Some error.Memory → ⊥
there_short true e = absurd cc
there_short false e = absurd cc

-- what is refused early isn't refused for want of memory
pub never_short : (old : Router) (moment : ℕ) (o : Occurrence)
    → early_refusal old moment o ≡ Some error.Memory → ⊥
never_short old moment (Occurrence.Packet number bytes) =
    clock_short (is_clock_back moment old) _ (there_short (is_interface number old))
never_short old moment Occurrence.Tick =
    clock_short (is_clock_back moment old) None (λ e. absurd cc)
never_short old moment (Occurrence.Redistribute tagged tag priced price) =
    clock_short (is_clock_back moment old) None (λ e. absurd cc)
never_short old moment (Occurrence.Withdraw prefix) =
    clock_short (is_clock_back moment old) None (λ e. absurd cc)
never_short old moment (Occurrence.Install answers) =
    clock_short (is_clock_back moment old) None (λ e. absurd cc)
never_short old moment (Occurrence.LinkDown number) =
    clock_short (is_clock_back moment old) _ (there_short (is_interface number old))

-- a book that may take more, and whose router refuses nothing early
pub not_early : (b : BookView) (moment : Moment) (e : Event) → (IsSpent b → ⊥)
    → early_refusal b.current moment (occurrence_of e) ≡ None → IsRefusedEarly b moment e → ⊥
not_early b moment e more none (inl spent) = more spent
not_early b moment e more none (inr early) = early none
