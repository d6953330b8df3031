-- Self-originated LSAs: which are wanted, new instances, what waits for a Tick, and flushing (RFC
-- 2328, sections 12.1.6, 12.4, 13.4, 14 and 14.1).
use Rattle.std.specs.Prelude.{ℤ, pos, ◌+ℤ◌, ◌==◌, Bool, true, false, not, ◌&&◌, ◌||◌, nat_le}
use Rattle.std.specs.Prelude.{if◌then◌else◌, List, [], ◌∷◌, ◌++◌, Option, None, Some}
use Rattle.std.specs.List.{filter, flat_map, fold}
use Rattle.std.specs.FinMap as finite
use Rattle.std.specs.FinSet as set
use Rattle.std.specs.Ordering.{int_cmp, is_eq}
pub use Rattle.words.specs.Constants.{max_sequence_number}
pub use Rattle.words.specs.Keys.{external_key, router_key}
pub use Rattle.words.specs.Constants.{initial_sequence_number}
use Rattle.words.specs.Constants.{e_bit, ls_refresh_time, max_age, min_ls_interval}
use Rattle.words.specs.Numbers.{Moment}
use Rattle.words.specs.Prefixes.{mask_of, network_address}
use Rattle.words.specs.declared.key.Key.{Key}
use Rattle.words.specs.declared.route.External.{External}
use Rattle.lsa.specs.declared.body.LsaBody.{LsaBody}
use Rattle.lsa.specs.declared.body.LsaBody.TheVariants as body
use Rattle.lsa.specs.declared.body.RouterLink.{RouterLink}
use Rattle.lsa.specs.declared.body.LinkKind.TheVariants.{PointToPoint, Stub}
use Rattle.lsa.specs.Origination.{sealed_lsa}
use Rattle.lsdb.specs.Copies.{DatabaseCopy, age_now, age_prematurely, install_originated}
use Rattle.lsdb.specs.Copies.{is_aged_out}
use Rattle.lsdb.specs.Headers.{Lsa, lsa_with_age, lsa_key}
use Rattle.lsdb.specs.Keys.{same_key}
pub use Rattle.lsdb.specs.Limits.{is_own_external, own_externals}
use Rattle.lsdb.specs.Limits.{has_room as has_room_for}
use Rattle.adjacency.specs.Adjacencies.{has_passed}
use Rattle.adjacency.specs.Neighbors.{Neighbor, is_full}
use Rattle.adjacency.specs.declared.interface.Interface.{Interface}
use Rattle.received.specs.Links.{Link}
use Rattle.received.specs.AreaStates.{AreaState, on_database}
use Rattle.event_rules.specs.EventState.{EventState, flood_from_nobody, on_area, on_router}
use Rattle.event_rules.specs.Routers.{Router}

-- ---- which LSAs are wanted

abbrev pub point_to_point : Interface → Option Neighbor → List RouterLink
point_to_point i None = []
point_to_point i (Some n) =
    if is_full n.state then record {
      link_id = n.router;
      link_data = i.address;
      kind = PointToPoint;
      metric = i.cost;
      tos = [];
    } ∷ [] else []

abbrev pub stub : Interface → RouterLink
stub i = record {
  link_id = network_address i.length i.address;
  link_data = mask_of i.length;
  kind = Stub;
  metric = i.cost;
  tos = [];
}

-- a point-to-point link to the neighbor, if it is Full, and then a stub link to the subnet
abbrev pub links_of : Link → List RouterLink
links_of link = point_to_point link.interface link.neighbor ++ stub link.interface ∷ []

-- the body of the router-LSA: only bit E is set, and it has the links of each interface in order
-- (section 12.4.1)
abbrev pub router_body : List Link → LsaBody
router_body links = body.Router (record { flags = 2; links = flat_map links_of links })

-- the AS-external-LSA of an announced destination (section 12.4.4)
abbrev pub external_body : External → LsaBody
external_body e =
    body.External (record {
      mask = mask_of e.prefix.length;
      kind = e.kind;
      metric = e.metric;
      forwarding = 0;
      tag = e.tag;
      tos = [];
    })

abbrev pub announced_body : Option External → Option LsaBody
announced_body None = None
announced_body (Some e) = Some (external_body e)

-- the body that the self-originated LSA of this key should have, if it is wanted
abbrev pub wanted_body : Router → Key → Option LsaBody
wanted_body r key =
    if same_key key (router_key r.id) then Some (router_body r.area.links)
    else announced_body (finite.get r.announced key)

-- the keys of all wanted LSAs, in order
abbrev pub wanted_keys : Router → List Key
wanted_keys r = router_key r.id ∷ finite.keys r.announced

-- ---- a new instance

-- the sequence number after that of the copy
abbrev pub next_sequence : Option DatabaseCopy → ℤ
next_sequence None = initial_sequence_number
next_sequence (Some c) = c.lsa.header.sequence +ℤ pos 1

abbrev pub has_max_sequence : Option DatabaseCopy → Bool
has_max_sequence None = false
has_max_sequence (Some c) = is_eq (int_cmp c.lsa.header.sequence max_sequence_number)

-- with age 0; its LS type, length and checksum are computed from the body
abbrev pub new_instance : Key → Option DatabaseCopy → LsaBody → Lsa
new_instance key copy contents = sealed_lsa (record {
  header = record {
    age = 0;
    options = e_bit;
    ls_type = key.ls_type;
    link_state_id = key.link_state_id;
    advertising_router = key.advertising_router;
    sequence = next_sequence copy;
    checksum = 0;
    length = 0;
  };
  body = contents;
})

abbrev pub install_and_flood : Moment → Lsa → AreaState → AreaState
install_and_flood moment lsa o =
    flood_from_nobody moment lsa (on_database (install_originated moment lsa) o)

-- it no longer waits for a Tick, and MinLSInterval starts
abbrev pub as_originated : Moment → Key → Router → Router
as_originated moment key r = record r {
  waiting = set.remove r.waiting key;
  originated = finite.insert r.originated key moment;
}

abbrev pub originate : Moment → Key → LsaBody → EventState → EventState
originate moment key contents p =
    on_router (as_originated moment key)
    (on_area (install_and_flood moment
    (new_instance key (finite.get p.router.area.database key) contents)) p)

-- ---- flushing (section 14.1)

-- a copy that is younger than MaxAge is set to MaxAge and flooded
abbrev pub flush_copy : Moment → Key → Option DatabaseCopy → AreaState → AreaState
flush_copy moment key None o = o
flush_copy moment key (Some c) o =
    if is_aged_out moment c then o
    else flood_from_nobody moment (lsa_with_age max_age c.lsa)
    (on_database (age_prematurely moment key) o)

abbrev pub flush : Moment → Key → EventState → EventState
flush moment key p = on_area (flush_copy moment key (finite.get p.router.area.database key)) p

-- ---- when a new instance may be originated

-- MinLSInterval, 5 seconds, has passed since the last origination for this key
abbrev pub interval_is_over : Moment → Option Moment → Bool
interval_is_over moment None = true
interval_is_over moment (Some last) = has_passed last min_ls_interval moment

abbrev pub may_originate : Moment → Key → Router → Bool
may_originate moment key r = interval_is_over moment (finite.get r.originated key)

-- an LSA of this key stays within the limits of the database
abbrev pub has_room : Key → Router → Bool
has_room key r = has_room_for r.id key r.area.database

abbrev pub postpone : Key → Router → Router
postpone key r = record r { waiting = set.insert r.waiting key }

-- at once, if `may_now` and MinLSInterval allow it, else at a Tick; after MaxSequenceNumber the
-- copy is flushed first, and the LSA is originated when the copy has been removed from the database
abbrev pub originate_body : Bool → Moment → Key → Option LsaBody → EventState → EventState
originate_body may_now moment key None p = p
originate_body may_now moment key (Some contents) p =
    if has_max_sequence (finite.get p.router.area.database key) then flush moment key p
    else if may_now && may_originate moment key p.router then originate moment key contents p
    else on_router (postpone key) p

-- now only if there is room for it
abbrev pub originate_or_postpone : Moment → Key → EventState → EventState
originate_or_postpone moment key p =
    originate_body (has_room key p.router) moment key (wanted_body p.router key) p

-- even if there is no room: then the event is refused as `Full`, as each is whose result exceeds a
-- limit (Refusals)
abbrev pub originate_anyway : Moment → Key → EventState → EventState
originate_anyway moment key p = originate_body true moment key (wanted_body p.router key) p

-- ---- at a Tick

-- the LSA was removed from the database, or its age is LSRefreshTime, 1800 seconds, or more
abbrev pub refresh_time_is_over : Moment → Option DatabaseCopy → Bool
refresh_time_is_over moment None = true
refresh_time_is_over moment (Some c) = nat_le ls_refresh_time (age_now moment c)

abbrev pub is_due : Moment → Router → Key → Bool
is_due moment r key = set.contains r.waiting key || refresh_time_is_over moment
    (finite.get r.area.database key)

abbrev pub due_keys : Moment → Router → List Key
due_keys moment r = filter (is_due moment r) (wanted_keys r)

abbrev pub originate_due : Moment → List Key → EventState → EventState
originate_due moment keys p =
    fold (λ (q : EventState) (key : Key). originate_or_postpone moment key q) p keys

-- originations are forgotten after MinLSInterval
abbrev pub is_recent : Moment → Option Moment → Bool
is_recent moment at = not (interval_is_over moment at)

abbrev pub forget_originations : Moment → Router → Router
forget_originations moment r =
    record r {
      originated =
          finite.retain_keys r.originated
          (λ key. is_recent moment (finite.get r.originated key));
    }

-- ---- received self-originated LSAs (section 13.4)

abbrev pub should_originate : Option LsaBody → Bool
should_originate None = false
should_originate (Some contents) = true

abbrev pub originate_or_flush : Bool → Moment → Key → EventState → EventState
originate_or_flush true moment key p = originate_or_postpone moment key p
originate_or_flush false moment key p = flush moment key p

-- a self-originated LSA that was received and installed: a wanted one is originated again with the
-- next sequence number, at once or at a Tick, or after its copy was flushed
-- (`originate_or_postpone`); any other is flushed
abbrev pub receive_self_originated : Moment → Lsa → EventState → EventState
receive_self_originated moment lsa p =
    if lsa.header.advertising_router == p.router.id
    then originate_or_flush (should_originate (wanted_body p.router (lsa_key lsa))) moment
    (lsa_key lsa) p
    else p
