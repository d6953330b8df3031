use Rattle.event_rules.specs.EventState.{on_area, on_router}
use Rattle.event_rules.specs.Originations.{forget_originations}
use Rattle.event_rules.specs.Ticks.{expire_timers}
use Rattle.received.specs.AreaStates.{on_links}
use Rattle.std.proofs.Common.{map}
use Rattle.router.proofs.Making.{then_does}
use Rattle.router.proofs.ticks.expire_timers.Goals as goal

pub returns : goal.returns
returns c =
    let m = c.args.moment in
    then_does {f = on_area (on_links (map (expire_timers m)))}
    {g = on_router (forget_originations m)}
    c.forget_originations.result c.expire_timers.ensures c.forget_originations.ensures
