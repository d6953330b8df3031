use Rattle.std.proofs.Common.{map, refl, ◌∙◌}
use Rattle.area.specs.Kept.{RouterArea}
use Rattle.received.specs.AreaStates.{on_links}
use Rattle.event_rules.specs.Ticks.{expire_timers}
use Rattle.router.proofs.Answered.{makes_alone}
use Rattle.router.proofs.Leaves.{appends_expiry, keeps_expiry}
use Rattle.router.proofs.ExpiredTimers.{expire_timers_is}
use Rattle.router.proofs.state.Router.expire_timers.Goals as goal

pub returns : goal.returns
returns c =
    let m = c.args.moment in
    let a : RouterArea = c.self.inside.area in
    makes_alone (on_links (map (expire_timers m))) (keeps_expiry m) (appends_expiry m) _
    c.args.self.now a
    c.change_links.new.self c.self.view_is refl
    (c.change_links.ensures ∙ (λ i. record a {
      present = record a.present { links = map (λ l. expire_timers_is m l i) a.present.links };
    })) refl
