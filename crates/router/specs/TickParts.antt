-- The first two parts of a Tick: with `send_what_is_due` of `router_state` they make up
-- `after_tick`.
use Rattle.std.specs.Prelude.{map}
use Rattle.words.specs.Numbers.{Moment}
use Rattle.received.specs.AreaStates.{on_links}
use Rattle.event_rules.specs.EventState.{EventState, on_area, on_router}
use Rattle.event_rules.specs.Originations.{due_keys, forget_originations, originate_due}
use Rattle.event_rules.specs.Ticks.{expire_timers}

abbrev pub expire_timers_and_forget : Moment → EventState → EventState
expire_timers_and_forget moment p =
    on_router (forget_originations moment) (on_area (on_links (map (expire_timers moment))) p)

abbrev pub originate_what_is_due : Moment → EventState → EventState
originate_what_is_due moment p = originate_due moment (due_keys moment p.router) p
