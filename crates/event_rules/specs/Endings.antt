-- The beginning and the end of each event (RFC 2328, sections 10.3, 10.9, 12.4.1 and 14).
use Rattle.std.specs.Prelude.{◌==◌, Bool, false, not, ◌&&◌, ◌||◌, if◌then◌else◌, List, [], map}
use Rattle.std.specs.Prelude.{Option, None, Some}
use Rattle.std.specs.List.{fold}
use Rattle.std.specs.Cmp.Lexicographic.{slice_cmp}
use Rattle.std.specs.FinMap as finite
use Rattle.std.specs.Ordering.{is_eq, nat_cmp}
use Rattle.words.specs.Numbers.{Moment}
use Rattle.words.specs.declared.key.Key.{Key}
use Rattle.lsa.specs.Text.{body_text}
use Rattle.lsa.specs.declared.body.LsaBody.{LsaBody}
use Rattle.lsdb.specs.Copies.{DatabaseCopy, has_just_aged_out, is_aged_out, lsa_now}
use Rattle.adjacency.specs.Adjacencies as adjacencies
use Rattle.adjacency.specs.Neighbors.{Neighbor}
use Rattle.adjacency.specs.Requests.{request_next}
use Rattle.received.specs.Links.{Area, Link, any_has_retransmission, any_exchange_or_loading}
use Rattle.received.specs.AreaStates.{AreaState, each_neighbor, on_database, on_links}
use Rattle.event_rules.specs.Originations.{originate_or_postpone, postpone, router_body, router_key}
use Rattle.event_rules.specs.EventState.{EventState, flood_from_nobody, on_area, on_router}
use Rattle.event_rules.specs.Routers.{Router}

-- ---- ages (section 14)

-- a copy that has reached MaxAge since the moment `before` is flooded
abbrev pub flood_if_aged : (before : Moment) → (moment : Moment) → AreaState → (Key × DatabaseCopy)
    → AreaState
flood_if_aged before moment o e =
    if has_just_aged_out before moment e.1 then flood_from_nobody moment (lsa_now moment e.1) o
    else o

abbrev pub flood_aged : (before : Moment) → (moment : Moment) → AreaState → AreaState
flood_aged before moment o = fold (flood_if_aged before moment) o (finite.entries o.area.database)

-- the copies that have reached MaxAge since the last event are flooded first; nothing was sent
-- before
abbrev pub start_event : Moment → Router → EventState
start_event moment old = on_area (flood_aged old.moment moment) (record {
  router = old;
  sends = [];
})

-- ---- Loading to Full (section 10.3)

abbrev pub loading_done_on : Option Neighbor → Option Neighbor
loading_done_on None = None
loading_done_on (Some n) = Some (adjacencies.loading_done n)

abbrev pub link_loading_done : Link → Link
link_loading_done link = record link { neighbor = loading_done_on link.neighbor }

abbrev pub loading_done : EventState → EventState
loading_done p = on_area (on_links (map link_loading_done)) p

-- ---- the router-LSA (section 12.4.1)

abbrev pub same_body : LsaBody → LsaBody → Bool
same_body a b = is_eq (slice_cmp nat_cmp (body_text a) (body_text b))

-- whether the bodies of the router-LSA differ
abbrev pub links_differ : List Link → List Link → Bool
links_differ a b = not (same_body (router_body a) (router_body b))

abbrev pub is_at : Moment → Option Moment → Bool
is_at moment None = false
is_at moment (Some at) = at == moment

abbrev pub copy_has_body : LsaBody → Option DatabaseCopy → Bool
copy_has_body contents None = false
copy_has_body contents (Some c) = same_body c.lsa.body contents

-- the copy of the router-LSA was originated at this moment and describes the present links
abbrev pub is_current : Moment → Router → Bool
is_current moment r =
    is_at moment (finite.get r.originated (router_key r.id))
    && copy_has_body (router_body r.area.links) (finite.get r.area.database (router_key r.id))

-- the router-LSA is originated at once, or waits for a Tick, if the event has changed its body
abbrev pub originate_router_lsa : List Link → Moment → EventState → EventState
originate_router_lsa before moment p =
    if links_differ before p.router.area.links && not (is_current moment p.router)
    then originate_or_postpone moment (router_key p.router.id) p else p

-- flooding the router-LSA may meet a neighbor's last request, which makes that neighbor Full: the
-- link to it waits for a Tick
abbrev pub postpone_router_lsa : List Link → EventState → EventState
postpone_router_lsa before p =
    if links_differ before p.router.area.links then on_router (postpone (router_key p.router.id)) p
    else p

-- ---- Link State Requests (section 10.9)

abbrev pub request_all : Moment → AreaState → AreaState
request_all moment o = each_neighbor moment (λ interface link n. request_next moment n) o

-- ---- removal (section 14)

abbrev pub stays_as : Moment → Bool → Option DatabaseCopy → Bool
stays_as moment is_on_some_list None = false
stays_as moment is_on_some_list (Some c) = not (is_aged_out moment c) || is_on_some_list

abbrev pub stays : Moment → Area → Key → Bool
stays moment a key =
    stays_as moment (any_has_retransmission key a.links) (finite.get a.database key)

-- copies at MaxAge that are on no retransmission list are removed, unless some neighbor is in
-- Exchange or Loading
abbrev pub remove_aged : Moment → AreaState → AreaState
remove_aged moment o =
    if any_exchange_or_loading o.area.links then o
    else on_database (λ db. finite.retain_keys db (stays moment o.area)) o

-- ---- the complete end

-- `old` is the router before the event
abbrev pub end_event : Router → Moment → EventState → EventState
end_event old moment p =
    let originated : EventState = originate_router_lsa old.area.links moment (loading_done p) in
    let postponed : EventState =
    postpone_router_lsa originated.router.area.links (loading_done originated) in
    on_router (λ (r : Router). record r { moment = moment })
    (on_area (λ o. remove_aged moment (request_all moment o)) postponed)
