-- Answers that don't change the database.
use Rattle.std.proofs.Common.{◌≡◌, ℕ, cond, not, ◌||◌, List, [], None, Some, refl, ap, ◌∙◌}
use Rattle.std.specs.FinMap as finite
use Rattle.words.specs.declared.route.Route.{Route}
use Rattle.received.specs.Links.{any_has_retransmission}
use Rattle.received.specs.AreaStates.{AreaState, Send}
use Rattle.event_rules.specs.Commands.{after_install}
use Rattle.event_rules.specs.Endings.{end_event, stays_as}
use Rattle.event_rules.specs.Packing.{outs_of}
use Rattle.event_rules.specs.EventState.{EventState}
use Rattle.event_rules.specs.Routers.{Router}
use Rattle.agreement_laws.specs.ConversationsWorkedAnswers.{AnswersChangeNoDatabase, KeepsTheYoung}
use Rattle.event_rules.proofs.Sends.{no_outs_from}
use Rattle.agreement_laws.proofs.WorkedEnds.{begins, ended, ends, got}
use Rattle.agreement_laws.proofs.WorkedUpdates.{start}

-- ---- what stays the same

kept : (r : Router) (moment : ℕ) (sends : List Send) (answers : List (Route × ℕ))
    → KeepsTheYoung r moment (ended moment (record {
      router = record r { answers = answers };
      sends = sends;
    })).router
kept r moment sends answers =
    let o : AreaState = record { area = r.area; sends = sends } in
    record {
      young = λ key c there young.
          got moment o key
          ∙ ap (λ x. cond (stays_as moment (any_has_retransmission key r.area.links) x) x None)
          there
          ∙ ap (λ b. cond (not b || any_has_retransmission key r.area.links) (Some c) None) young;
      none = λ key none.
          got moment o key
          ∙ ap (λ x. cond (stays_as moment (any_has_retransmission key r.area.links) x) x None)
          none;
    }

-- ---- answers

pub answers_change_no_database : AnswersChangeNoDatabase
answers_change_no_database old new moment answers outs rest event =
    let said : EventState = after_install answers (start old) in
    let own : event.after ≡ said = event.own
    ∙ ap (after_install answers) (begins moment old rest.nothing_ages) in
    let end : end_event old moment event.after ≡ ended moment said = ap (end_event old moment) own
    ∙ ends old moment said refl rest.nobody in
    let router : new ≡ (ended moment said).router = event.router
    ∙ ap (λ (q : EventState). q.router) end in
    let keeps : KeepsTheYoung old moment (ended moment said).router =
    kept old moment [] answers in (
      event.sent ∙ ap (λ (q : EventState). outs_of old.id old.area.links q.sends) end
          ∙ no_outs_from old.id 1 old.area.links,
      ap (λ (r : Router). r.answers) router,
      ap (λ (r : Router). r.area.links) router,
      record {
        young = λ key c there young. ap (λ (r : Router). finite.get r.area.database key) router
            ∙ keeps.young key c there young;
        none = λ key none. ap (λ (r : Router). finite.get r.area.database key) router
            ∙ keeps.none key none;
      },
    )
