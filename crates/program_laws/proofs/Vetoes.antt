-- No part of an event depends on the answers of the last `Install`.
use Rattle.std.proofs.Common.{◌≡◌, ℕ, List, [], sym, ◌∙◌, ap}
use Rattle.words.specs.Numbers.{Moment}
use Rattle.words.specs.declared.route.Route.{Route}
use Rattle.event_rules.specs.Endings.{end_event, start_event}
use Rattle.event_rules.specs.Events.{Happens}
use Rattle.event_rules.specs.EventState.{EventState}
use Rattle.event_rules.specs.Packing.{outs_of}
use Rattle.event_rules.specs.Routers.{Occurrence, Router}
use Rattle.event_rules.specs.declared.model.Out.{Out}
use Rattle.event_rules.proofs.Unheeded.{answering, ended}
use Rattle.program_laws.specs.Vetoes.{VetoesAreNotHeard, without_answers}

abbrev without : EventState → EventState
without p = answering [] p

end_of : (old : Router) (moment : Moment) (answers : List (Route × ℕ)) (outs : List Out)
    (new : Router) (event : Happens old moment (Occurrence.Install answers) outs new)
    → without (end_event old moment event.after)
    ≡ end_event old moment (without (start_event moment old))
end_of old moment answers outs new event = ended [] old moment event.after
    ∙ ap (λ (p : EventState). end_event old moment (without p)) event.own

pub vetoes_are_not_heard : VetoesAreNotHeard
vetoes_are_not_heard old moment answers others outs these new next first second =
    let same = end_of old moment answers outs new first
    ∙ sym (end_of old moment others these next second) in (
      first.sent ∙ ap (λ (p : EventState). outs_of old.id old.area.links p.sends) same
          ∙ sym second.sent,
      ap without_answers first.router ∙ ap (λ (p : EventState). p.router) same
          ∙ sym (ap without_answers second.router),
    )
