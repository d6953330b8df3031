-- The refusal of an event after its own part is read.
use Rattle.std.proofs.Common.{◌≡◌, ℕ, None, ◌∙◌}
use Rattle.std.specs.Prelude.{Result, Ok, Err}
use Rattle.event_rules.specs.declared.model.CoreError.{CoreError}
use Rattle.event_rules.specs.declared.model.CoreError.TheVariants as error
use Rattle.event_rules.specs.Refusals.{RefusesByRules}
use Rattle.event_rules.specs.Routers.{Occurrence, Router}
use Rattle.flood.specs.declared.part.Part.{Part}
use Rattle.flood.specs.Early.{early_refusal}
use Rattle.flood.specs.Parts.{IsPartOf, RefusesAs, RefusesAtLimit, late_refusal, made_state}
use Rattle.flood.proofs.Early.{first_is_late, may_lack_memory, never_full}
use Rattle.flood.proofs.Happening.{made_exceeds, made_stays_within}

module _ (X Y : Type 0) (old : Router) (moment : ℕ) (event : Occurrence)
    (none : early_refusal old moment event ≡ None) where
  -- the own part can't be read
  pub unread_answers : (x : CoreError) → RefusesAs {X = X} (late_refusal old event) (Err x)
      → RefusesByRules {X = Y} old moment event (Err x)
  unread_answers error.Memory tells = may_lack_memory old moment event none
  unread_answers (error.BadPacket f) tells = first_is_late old moment event none ∙ tells
  unread_answers error.NoInterface tells = first_is_late old moment event none ∙ tells
  unread_answers error.Clash tells = first_is_late old moment event none ∙ tells
  unread_answers error.ClockBack tells = first_is_late old moment event none ∙ tells
  unread_answers error.Full tells = absurd (never_full old event tells)

  module _ (p : Part) (is : IsPartOf event p) (read : late_refusal old event ≡ None) where
    -- a limit would be exceeded, or an allocation is refused
    pub limit_answers : (x : CoreError)
        → RefusesAtLimit {X = X} (made_state old moment p).router (Err x)
        → RefusesByRules {X = Y} old moment event (Err x)
    limit_answers error.Memory tells = may_lack_memory old moment event none
    limit_answers (error.BadPacket f) tells = absurd tells
    limit_answers error.NoInterface tells = absurd tells
    limit_answers error.Clash tells = absurd tells
    limit_answers error.ClockBack tells = absurd tells
    limit_answers error.Full tells = made_exceeds old moment event p is
        (first_is_late old moment event none ∙ read) tells

    -- the event is accepted
    pub taken_answers : (x : X) (y : Y) → RefusesAtLimit (made_state old moment p).router (Ok x)
        → RefusesByRules old moment event (Ok y)
    taken_answers x y tells = (
      first_is_late old moment event none ∙ read,
      made_stays_within old moment event p is tells,
    )

pub event_answers : (X : Type 0) (old : Router) (moment : ℕ) (event : Occurrence)
    → early_refusal old moment event ≡ None → (p : Part) → IsPartOf event p
    → late_refusal old event ≡ None → (r : Result X CoreError)
    → RefusesAtLimit (made_state old moment p).router r → RefusesByRules old moment event r
event_answers X old moment event none p is read (Ok x) tells =
    taken_answers X X old moment event none p is read x x tells
event_answers X old moment event none p is read (Err e) tells =
    limit_answers X X old moment event none p is read e tells
