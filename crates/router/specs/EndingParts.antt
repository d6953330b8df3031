-- The first parts of an event's end: with `request_and_remove_aged` of `router_state` they make
-- up `end_event`.
use Rattle.std.specs.Prelude.{List}
use Rattle.words.specs.Numbers.{Moment}
use Rattle.received.specs.Links.{Link}
use Rattle.event_rules.specs.Endings.{loading_done, originate_router_lsa, postpone_router_lsa}
use Rattle.event_rules.specs.EventState.{EventState}

-- from Loading to Full, and the router-LSA is originated if the links have changed since `before`
abbrev pub loading_done_then_originate : List Link → Moment → EventState → EventState
loading_done_then_originate before moment p = originate_router_lsa before moment (loading_done p)

-- from Loading to Full once more, and what that changes waits for a Tick
abbrev pub loading_done_then_postpone : EventState → EventState
loading_done_then_postpone p = postpone_router_lsa p.router.area.links (loading_done p)
