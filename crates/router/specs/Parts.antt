-- Parts of an event that are done in a row.
use Rattle.words.specs.Numbers.{Moment}
use Rattle.words.specs.declared.key.Key.{Key}
use Rattle.lsdb.specs.Headers.{Lsa}
use Rattle.event_rules.specs.Endings.{remove_aged, request_all}
use Rattle.event_rules.specs.EventState.{EventState, on_area, on_router}
use Rattle.event_rules.specs.Originations.{as_originated, install_and_flood}
use Rattle.event_rules.specs.Routers.{Router}
use Rattle.event_rules.specs.Ticks.{send_acknowledgments, send_all_again, send_hellos}

-- a self-originated LSA is installed and flooded; it no longer waits, and MinLSInterval starts
abbrev pub install_and_flood_own : Moment → Key → Lsa → EventState → EventState
install_and_flood_own moment key lsa p =
    on_router (as_originated moment key) (on_area (install_and_flood moment lsa) p)

-- what a Tick retransmits, delayed acknowledgments, and Hellos
abbrev pub send_what_is_due : Moment → EventState → EventState
send_what_is_due moment p =
    on_area (λ o. send_hellos moment (send_acknowledgments moment (send_all_again moment o))) p

abbrev pub at_moment : Moment → Router → Router
at_moment moment r = record r { moment = moment }

-- what is requested, and removed, at the end of each event, whose moment is noted
abbrev pub request_and_remove_aged : Moment → EventState → EventState
request_and_remove_aged moment p =
    on_router (at_moment moment) (on_area (λ o. remove_aged moment (request_all moment o)) p)
