-- An event in progress: the present state of the router, and what was sent so far, in order.
use Rattle.std.specs.Prelude.{List, None}
use Rattle.words.specs.Numbers.{Moment}
use Rattle.lsdb.specs.Headers.{Lsa}
use Rattle.received.specs.Flooding.{flood}
use Rattle.received.specs.AreaStates.{AreaState, Send}
use Rattle.event_rules.specs.Routers.{Router}

pub record EventState : Type 0 where
  pub router : Router
  pub sends : List Send

abbrev pub on_router : (Router → Router) → EventState → EventState
on_router f p = record p { router = f p.router }

-- a change of the links and the database, with what it sends
abbrev pub on_area : (AreaState → AreaState) → EventState → EventState
on_area f p =
    let o : AreaState = f (record { area = p.router.area; sends = p.sends }) in
    record { router = record p.router { area = o.area }; sends = o.sends }

-- flooding to every neighbor of an LSA that wasn't received from one
abbrev pub flood_from_nobody : Moment → Lsa → AreaState → AreaState
flood_from_nobody moment lsa o = flood moment None lsa o
