use Rattle.std.proofs.Common.{◌≡◌, false, sym, ap, ◌∙◌}
use Rattle.std.specs.FinMap as finite
use Rattle.words.specs.declared.key.Key.{Key}
use Rattle.event_rules.specs.Commands.{announce, is_announced_as}
use Rattle.event_rules.specs.EventState.{EventState, on_router}
use Rattle.event_rules.specs.Originations.{originate_anyway}
use Rattle.event_rules.specs.Routers.{Router}
use Rattle.router.proofs.Making.{does_if_false, makes_same, then_does}
use Rattle.router.proofs.announcements.announce_as.Goals as goal

pub returns : goal.returns
returns c =
    let key = c.args.key.now in
    let e = c.args.external in
    let differs : is_announced_as e (finite.get c.args.router.now.present.announced key) ≡ false =
    ap (is_announced_as e) (sym (c.get.ensures
    ∙ ap (λ m. finite.get m.present key) c.announced.ensures.parts))
    ∙ sym c.is_announced_as-announced.ensures ∙ c.if-announced.false in
    does_if_false (λ (p : EventState). p)
    (λ (p : EventState). originate_anyway c.args.moment key (on_router (announce key e) p))
    c.originate_if_wanted.result (λ (r : Router). is_announced_as e (finite.get r.announced key))
    differs
    (then_does {f = on_router (announce key e)} {g = originate_anyway c.args.moment key}
    c.originate_if_wanted.result
    (makes_same (λ p _. ap (λ (k : Key). on_router (announce k e) p) (sym c.requires.key))
    c.in_ok-announce.ensures.makes)
    c.originate_if_wanted.ensures)
