-- Worked parts of events.
use Rattle.std.proofs.Common.{◌≡◌, cond, ◌&&◌, None, Some, refl, ap, ◌∙◌}
use Rattle.std.specs.Prelude.{pos}
use Rattle.std.specs.Ordering.{int_cmp, is_eq}
use Rattle.event_rules.specs.declared.model.CoreError.TheVariants as error
use Rattle.event_rules.specs.Commands.{after_withdraw, end_want, is_for}
use Rattle.event_rules.specs.Endings.{end_event}
use Rattle.event_rules.specs.Packing.{outs_of}
use Rattle.event_rules.proofs.Sends.{no_outs_from}
use Rattle.agreement_laws.proofs.WorkedEnds.{begins, ends}
use Rattle.agreement_laws.proofs.WorkedUpdates.{start}
use Rattle.event_rules.specs.Originations.{external_key, flush, has_max_sequence, may_originate}
use Rattle.event_rules.specs.Originations.{originate, postpone}
use Rattle.event_rules.specs.Refusals.{is_taken, of_event}
use Rattle.event_rules.specs.Routers.{Occurrence}
use Rattle.agreement_laws.specs.Worked.{WorkedEvents, destination, ten}
use Rattle.event_rules.specs.EventState.{on_router}

pub worked : WorkedEvents
worked = record {
  clashes = λ old moment tag price clock there.
      ap (λ b. cond b (Some error.ClockBack)
      (of_event old (Occurrence.Redistribute (destination (ten 16)) tag (destination (ten 16))
      price))) clock
      ∙ ap (λ o. cond (is_taken (ten 16) o) (Some error.Clash) None) there;
  unknown = λ moment prefix p none. ap
      (λ o. cond (is_for prefix o) (end_want moment (external_key p.router.id prefix) p) p) none;
  unknown_event = λ old new moment prefix outs rest none event.
      let own : event.after ≡ start old =
      event.own
      ∙ ap (after_withdraw moment prefix) (begins moment old rest.nothing_ages)
      ∙ ap (λ o. cond (is_for prefix o) (end_want moment (external_key old.id prefix) (start old))
      (start old)) none in
      event.sent
      ∙ ap (λ q. outs_of old.id old.area.links q.sends)
      (ap (end_event old moment) own ∙ ends old moment (start old) refl rest.nobody)
      ∙ no_outs_from old.id 1 old.area.links;
  vetoed = λ answers p. refl;
  withheld = λ moment tag e p. refl;
  announced = λ moment tag e p. refl;
  too_early = refl;
  in_time = refl;
  young = λ lsa. refl;
  renewed = λ lsa. refl;
  wraps = λ may_now moment key says c p there max.
      ap (λ o. cond (has_max_sequence o) (flush moment key p)
      (cond (may_now && may_originate moment key p.router) (originate moment key says p)
      (on_router (postpone key) p))) there
      ∙ ap (λ s. cond (is_eq (int_cmp s (pos 2147483647))) (flush moment key p)
      (cond (may_now && may_originate moment key p.router) (originate moment key says p)
      (on_router (postpone key) p))) max;
  grows = λ lsa. refl;
  grows_no_more = λ lsa. refl;
}
