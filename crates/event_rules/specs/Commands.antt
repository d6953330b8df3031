-- What commands of the operator and answers of programs do to the router.
use Rattle.std.specs.Prelude.{ℕ, ◌%◌, ◌^◌, ◌==◌, Bool, true, false, ◌&&◌, nat_le, if◌then◌else◌}
use Rattle.std.specs.Prelude.{List, Option, None, Some}
use Rattle.std.specs.FinMap as finite
use Rattle.std.specs.FinSet as set
pub use Rattle.words.specs.Constants.{ls_infinity}
use Rattle.words.specs.Numbers.{InterfaceNumber, Moment}
use Rattle.words.specs.Prefixes.{Network}
use Rattle.words.specs.declared.key.Key.{Key}
use Rattle.words.specs.declared.route.External.{External}
use Rattle.words.specs.declared.route.ExternalType.{ExternalType}
use Rattle.words.specs.declared.route.ExternalType.TheVariants.{Type1, Type2}
use Rattle.words.specs.declared.route.Route.{Route}
use Rattle.received.specs.Links.{change_link}
pub use Rattle.received.specs.Links.{taken_down}
use Rattle.received.specs.AreaStates.{on_links}
use Rattle.event_rules.specs.Originations.{external_key, flush, originate_anyway}
use Rattle.event_rules.specs.EventState.{EventState, on_area, on_router}
use Rattle.event_rules.specs.Routers.{Router}

-- ---- destinations

abbrev pub same_network : Network → Network → Bool
same_network a b = a.address == b.address && a.length == b.length

abbrev pub same_kind : ExternalType → ExternalType → Bool
same_kind Type1 Type1 = true
same_kind Type1 Type2 = false
same_kind Type2 Type1 = false
same_kind Type2 Type2 = true

abbrev pub same_external : External → External → Bool
same_external a b =
    same_network a.prefix b.prefix && a.metric == b.metric && same_kind a.kind b.kind
    && a.tag == b.tag

-- the destination with the metric from the answer, and the low 32 bits of the tag
abbrev pub answered_external : External → ℕ → ℕ → External
answered_external e tag price = record e { metric = price; tag = tag % 2 ^ 32 }

abbrev pub is_announced_as : External → Option External → Bool
is_announced_as e None = false
is_announced_as e (Some other) = same_external e other

abbrev pub is_for : Network → Option External → Bool
is_for prefix None = false
is_for prefix (Some e) = same_network prefix e.prefix

-- ---- the announced destinations

abbrev pub announce : Key → External → Router → Router
announce key e r = record r { announced = finite.insert r.announced key e }

abbrev pub unannounce : Key → Router → Router
unannounce key r = record r {
  announced = finite.remove r.announced key;
  waiting = set.remove r.waiting key;
}

-- the destination is no longer announced, and its LSA is flushed
abbrev pub end_want : Moment → Key → EventState → EventState
end_want moment key p = flush moment key (on_router (unannounce key) p)

-- nothing, if exactly this is announced already; else the LSA is originated, or waits for its
-- interval, even if there is no room for it
abbrev pub announce_as : Moment → Key → External → EventState → EventState
announce_as moment key e p =
    if is_announced_as e (finite.get p.router.announced key) then p
    else originate_anyway moment key (on_router (announce key e) p)

-- ---- the commands

-- with the answers of `tag` and `price`; a metric of LSInfinity or more withholds the destination,
-- and flushes an LSA that announces it
abbrev pub after_redistribute : Moment → External → ℕ → ℕ → EventState → EventState
after_redistribute moment e tag price p =
    if nat_le ls_infinity price then end_want moment (external_key p.router.id e.prefix) p
    else announce_as moment (external_key p.router.id e.prefix) (answered_external e tag price) p

abbrev pub after_withdraw : Moment → Network → EventState → EventState
after_withdraw moment prefix p =
    if is_for prefix (finite.get p.router.announced (external_key p.router.id prefix))
    then end_want moment (external_key p.router.id prefix) p
    else p

abbrev pub after_install : List (Route × ℕ) → EventState → EventState
after_install answers p = on_router (λ (r : Router). record r { answers = answers }) p

abbrev pub after_link_down : InterfaceNumber → EventState → EventState
after_link_down interface p = on_area (on_links (change_link interface taken_down)) p
