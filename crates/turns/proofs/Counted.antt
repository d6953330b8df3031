-- A datagram that was counted, and refusals of questions.
use Rattle.std.proofs.Common.{◌≡◌, inl, inr, ℕ, List, Option, None, Some, ap, sym, ◌∙◌, subst}
use Rattle.std.specs.Prelude.{IfNone, IfSome}
use Rattle.words.specs.Numbers.{InterfaceNumber, Moment}
use Rattle.event_rules.specs.declared.model.CoreError.TheVariants as core_error
use Rattle.hooks.specs.Questions.{count_input}
use Rattle.flood.specs.declared.book.error.BookError.TheVariants as book_error
use Rattle.flood.specs.declared.event.Event.{Event}
use Rattle.flood.specs.declared.event.Event.TheVariants as event
use Rattle.turns.specs.Askers.{AskerState, IsAnsweredAt}
use Rattle.turns.proofs.Askers.{same_state}
use Rattle.turns.specs.Turns.{AsksFor, CountsIfReadFor, IsCountedIfRead, IsEventOfWork}
use Rattle.turns.specs.Turns.{IsInstalling, Lack, Offers, Refuses, RefusesQuestions, Took}
use Rattle.turns.specs.declared.turned.TurnError.{TurnError}
use Rattle.turns.specs.declared.turned.TurnError.TheVariants as turn_error
use Rattle.turns.specs.declared.work.Work.{Work}
use Rattle.turns.specs.declared.work.Work.TheVariants as work

module _ {A : Type 0} (word : A → ℕ) (refuses : Refuses) (old new : AskerState)
    (number : InterfaceNumber) (moment : Moment) (packet : List ℕ) where
  counted : (r : Option A) → IfNone r ((new.known ≡ old.known) × (new.seat ≡ old.seat))
      → IfNone r (refuses.lacks (Lack.Reading (count_input number moment packet)))
      → IfSome r (λ a. IsAnsweredAt old new (count_input number moment packet) (word a))
      → IsCountedIfRead refuses old new number moment packet
  counted None unread lacking answered = inl (same_state old new unread.0 unread.1, lacking)
  counted (Some a) unread lacking answered = inr (word a, answered)

  pub counts : (r : Option A) (bytes : List ℕ) (w : Work) → packet ≡ bytes
      → w ≡ work.Datagram number bytes
      → IfNone r ((new.known ≡ old.known) × (new.seat ≡ old.seat))
      → IfNone r (refuses.lacks (Lack.Reading (count_input number moment packet)))
      → IfSome r (λ a. IsAnsweredAt old new (count_input number moment packet) (word a))
      → CountsIfReadFor refuses old new w moment
  counts r bytes w same is unread lacking answered =
      let P : List ℕ → Type 0 = λ p. IsCountedIfRead refuses old new number moment p in
      let Q : Work → Type 0 = λ x. CountsIfReadFor refuses old new x moment in
      subst Q (sym is) (subst P same (counted r unread lacking answered))

  -- the event is the packet, and the datagram was counted before it, or wasn't
  pub gives : (r : Option A) (offers : Offers) (bytes copy : List ℕ) (w : Work) → packet ≡ bytes
      → copy ≡ bytes → w ≡ work.Datagram number bytes
      → IfNone r ((new.known ≡ old.known) × (new.seat ≡ old.seat))
      → IfNone r (refuses.lacks (Lack.Reading (count_input number moment packet)))
      → IfSome r (λ a. IsAnsweredAt old new (count_input number moment packet) (word a))
      → IsEventOfWork offers refuses old new w moment (event.Packet number copy)
  gives r offers bytes copy w same copied is unread lacking answered =
      let P : List ℕ → Type 0 = λ p. IsCountedIfRead refuses old new number moment p in
      let Q : Work → Type 0 = λ x. IsEventOfWork offers refuses old new x moment
      (event.Packet number copy) in
      subst Q (sym is) (
        ap (λ c. event.Packet number c) copied,
        subst P same (counted r unread lacking answered),
      )

-- so the programs were asked about it
pub asks : (took : Took) (number : InterfaceNumber) (moment : Moment) (packet bytes : List ℕ)
    (w : Work) → packet ≡ bytes → w ≡ work.Datagram number bytes
    → took.asked (count_input number moment packet) → AsksFor took moment w
asks took number moment packet bytes w same is asked =
    subst (λ (x : Work). AsksFor took moment x) (sym is)
    (subst (λ (p : List ℕ). took.asked (count_input number moment p)) same asked)

pub installs : (offers : Offers) (refuses : Refuses) (old new : AskerState) (w : Work)
    (moment : Moment) (e : Event) → IsEventOfWork offers refuses old new w moment e
    → w ≡ work.Refresh → IsInstalling e
installs offers refuses old new w moment e is refresh =
    let i = subst (λ (x : Work). IsEventOfWork offers refuses old new x moment e) refresh is in
    (i.2, i.5)

away_not_back : turn_error.Away ≡ turn_error.Book (book_error.Core core_error.ClockBack) → ⊥
away_not_back same = cc

memory_not_back : turn_error.Book (book_error.Core core_error.Memory)
    ≡ turn_error.Book (book_error.Core core_error.ClockBack) → ⊥
memory_not_back same = cc

pub unasked : (refuses : Refuses) (w : Work) (moment : Moment) (e : TurnError)
    → RefusesQuestions refuses w moment e
    → e ≡ turn_error.Book (book_error.Core core_error.ClockBack) → ⊥
unasked refuses (work.Datagram number bytes) moment e short clock =
    memory_not_back (sym short.0 ∙ clock)
unasked refuses work.Tick moment e never clock = never
unasked refuses (work.Add external) moment e (inl away) clock = away_not_back (sym away.0 ∙ clock)
unasked refuses (work.Add external) moment e (inr short) clock =
    memory_not_back (sym short.0 ∙ clock)
unasked refuses (work.Withdraw prefix) moment e never clock = never
unasked refuses (work.Down number) moment e never clock = never
unasked refuses work.Refresh moment e (inl away) clock = away_not_back (sym away.0 ∙ clock)
unasked refuses work.Refresh moment e (inr short) clock = memory_not_back (sym short.0 ∙ clock)
