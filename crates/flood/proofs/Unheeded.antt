-- No event looks at the answers of the last Install, and an Install replaces them. So the one that
-- another follows in a journal may lose its answers.
use Rattle.std.proofs.Common.{◌≡◌, ℕ, true, false, List, refl, subst}
use Rattle.words.specs.Numbers.{Moment}
use Rattle.words.specs.declared.route.Route.{Route}
use Rattle.event_rules.specs.Events.{Happens}
use Rattle.event_rules.specs.Routers.{Occurrence, Router}
use Rattle.event_rules.specs.declared.model.Out.{Out}
use Rattle.flood.specs.Occurrences.{is_install}
use Rattle.event_rules.proofs.Unheeded.{answered_alike, bringing, told}

module _ (answers : List (Route × ℕ)) where
  brings_none : (event : Occurrence) → is_install event ≡ false → bringing answers event ≡ event
  brings_none (Occurrence.Packet number bytes) is = refl
  brings_none Occurrence.Tick is = refl
  brings_none (Occurrence.Redistribute tagged tag priced price) is = refl
  brings_none (Occurrence.Withdraw prefix) is = refl
  brings_none (Occurrence.Install brought) is = absurd cc
  brings_none (Occurrence.LinkDown number) is = refl

  -- any other event leads from a router with other answers to one with these
  pub overlooked : (old : Router) (moment : Moment) (event : Occurrence) (outs : List Out)
      (new : Router)
      → is_install event ≡ false → Happens old moment event outs new
      → Happens (told answers old) moment event outs (told answers new)
  overlooked old moment event outs new is it =
      let P : Occurrence → Type 0 = λ o. Happens (told answers old) moment o outs
      (told answers new) in
      subst P (brings_none event is) (answered_alike answers old moment event outs new it)

  -- an Install leads from a router with other answers to the same one
  pub replaced : (old : Router) (moment : Moment) (event : Occurrence) (outs : List Out)
      (new : Router)
      → is_install event ≡ true → Happens old moment event outs new
      → Happens (told answers old) moment event outs new
  replaced old moment (Occurrence.Packet number bytes) outs new is it = absurd cc
  replaced old moment Occurrence.Tick outs new is it = absurd cc
  replaced old moment (Occurrence.Redistribute tagged tag priced price) outs new is it = absurd cc
  replaced old moment (Occurrence.Withdraw prefix) outs new is it = absurd cc
  replaced old moment (Occurrence.Install brought) outs new is it =
      record { after = it.after; own = it.own; router = it.router; sent = it.sent }
  replaced old moment (Occurrence.LinkDown number) outs new is it = absurd cc

  -- an Install with other answers leads to a router with these
  pub installed : (old : Router) (moment : Moment) (brought : List (Route × ℕ)) (outs : List Out)
      (new : Router)
      → Happens old moment (Occurrence.Install brought) outs new
      → Happens old moment (Occurrence.Install answers) outs (told answers new)
  installed old moment brought outs new it =
      let alike : Happens (told answers old) moment (Occurrence.Install answers) outs
      (told answers new) =
      answered_alike answers old moment (Occurrence.Install brought) outs new it in
      record { after = alike.after; own = alike.own; router = alike.router; sent = alike.sent }
