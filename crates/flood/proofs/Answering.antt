-- The programs' answers about routes change only at an `Install`, and the router's moment becomes
-- that of the event.
use Rattle.std.proofs.Common.{◌≡◌, ℕ, ◌≤◌, Bool, true, false, cond, List, [], ◌∷◌, map, Option}
use Rattle.std.proofs.Common.{None, Some, refl, ap, ◌∙◌, ltb-false}
use Rattle.std.specs.Prelude.{◌&&◌, ◌||◌, ◌==◌, not, nat_le, nat_lt, if◌then◌else◌}
use Rattle.std.specs.FinMap as finite
use Rattle.words.specs.Prefixes.{Network}
use Rattle.words.specs.declared.key.Key.{Key}
use Rattle.words.specs.declared.route.External.{External}
use Rattle.words.specs.declared.route.Route.{Route}
use Rattle.lsa.specs.Reading.{lsa_in}
use Rattle.lsa.specs.declared.body.LsaBody.{LsaBody}
use Rattle.lsdb.specs.Headers.{Lsa, lsa_key}
use Rattle.packet.specs.declared.model.PacketBody.{PacketBody}
use Rattle.packet.specs.declared.model.PacketBody.TheVariants as body
use Rattle.packet.specs.declared.model.Packet.{Packet}
use Rattle.adjacency.specs.Neighbors.{Neighbor}
use Rattle.received.specs.Cases.{Case}
use Rattle.received.specs.Links.{Link, neighbor_at}
use Rattle.received.specs.AreaStates.{on_links}
use Rattle.received.specs.Updates.{case_at, goes_on}
use Rattle.event_rules.specs.declared.model.CoreError.{CoreError}
use Rattle.event_rules.specs.declared.model.CoreError.TheVariants as error
use Rattle.event_rules.specs.declared.model.Out.{Out}
use Rattle.event_rules.specs.Commands.{after_redistribute, after_withdraw, announce, announce_as}
use Rattle.event_rules.specs.Commands.{answered_external, end_want, is_announced_as, is_for}
use Rattle.event_rules.specs.Commands.{ls_infinity}
use Rattle.event_rules.specs.Endings.{end_event, is_current, originate_router_lsa}
use Rattle.event_rules.specs.Endings.{postpone_router_lsa}
use Rattle.event_rules.specs.Endings.{links_differ, loading_done, start_event}
use Rattle.event_rules.specs.EventState.{EventState, on_area, on_router}
use Rattle.event_rules.specs.Events.{Happens, OwnPart}
use Rattle.event_rules.specs.Originations.{due_keys, external_key, flush, forget_originations}
use Rattle.event_rules.specs.Originations.{has_max_sequence, has_room, should_originate}
use Rattle.event_rules.specs.Originations.{may_originate}
use Rattle.event_rules.specs.Originations.{originate, originate_anyway, originate_body}
use Rattle.event_rules.specs.Originations.{originate_due}
use Rattle.event_rules.specs.Originations.{originate_or_flush, originate_or_postpone}
use Rattle.event_rules.specs.Originations.{postpone, receive_self_originated, router_key}
use Rattle.event_rules.specs.Originations.{wanted_body}
use Rattle.event_rules.specs.Packets.{after_lsas, after_packet, after_self_originated}
use Rattle.event_rules.specs.Packets.{receive_acknowledgment}
use Rattle.event_rules.specs.Packets.{after_parsed, neighbor_is_exchange_or_later, case_in}
use Rattle.event_rules.specs.Packets.{after_heard}
use Rattle.event_rules.specs.Packets.{is_heard}
use Rattle.event_rules.specs.Packets.{receive_request}
use Rattle.event_rules.specs.Refusals.{refusal_before_limits, of_event}
use Rattle.event_rules.specs.Routers.{Occurrence, Router}
use Rattle.event_rules.specs.Ticks.{after_tick, expire_timers}
use Rattle.flood.specs.Occurrences.{is_install}

-- the answers after some part of an event
abbrev of : EventState → List (Route × ℕ)
of p = p.router.answers

either : (b : Bool) (p q before : EventState) → of p ≡ of before → of q ≡ of before
    → of (cond b p q) ≡ of before
either true p q before is other = is
either false p q before other is = is

-- ---- self-originated LSAs

body_stays : (may_now : Bool) (moment : ℕ) (key : Key) (says : Option LsaBody) (p : EventState)
    → of (originate_body may_now moment key says p) ≡ of p
body_stays may_now moment key None p = refl
body_stays may_now moment key (Some says) p =
    either (has_max_sequence (finite.get p.router.area.database key)) (flush moment key p)
    (cond (may_now && may_originate moment key p.router) (originate moment key says p)
    (on_router (postpone key) p)) p refl
    (either (may_now && may_originate moment key p.router) (originate moment key says p)
    (on_router (postpone key) p) p refl refl)

waits : (moment : ℕ) (key : Key) (p : EventState) → of (originate_or_postpone moment key p) ≡ of p
waits moment key p = body_stays (has_room key p.router) moment key (wanted_body p.router key) p

all_due : (moment : ℕ) (keys : List Key) (p : EventState) → of (originate_due moment keys p) ≡ of p
all_due moment [] p = refl
all_due moment (key ∷ keys) p = all_due moment keys (originate_or_postpone moment key p)
    ∙ waits moment key p

wanted_or_not : (b : Bool) (moment : ℕ) (key : Key) (p : EventState)
    → of (originate_or_flush b moment key p) ≡ of p
wanted_or_not true moment key p = waits moment key p
wanted_or_not false moment key p = refl

self_originated : (moment : ℕ) (lsa : Lsa) (p : EventState)
    → of (receive_self_originated moment lsa p) ≡ of p
self_originated moment lsa p =
    let wanted : Bool = should_originate (wanted_body p.router (lsa_key lsa)) in
    either (lsa.header.advertising_router == p.router.id)
    (originate_or_flush wanted moment (lsa_key lsa) p) p p
    (wanted_or_not wanted moment (lsa_key lsa) p) refl

-- ---- packets

after_one : (case : Case) (moment : ℕ) (lsa : Lsa) (p : EventState)
    → of (after_self_originated case moment lsa p) ≡ of p
after_one Case.Unreadable moment lsa p = refl
after_one Case.NothingToFlush moment lsa p = refl
after_one Case.TooSoon moment lsa p = refl
after_one Case.Newer moment lsa p = self_originated moment lsa p
after_one Case.BadRequest moment lsa p = refl
after_one Case.ImpliedAcknowledgment moment lsa p = refl
after_one Case.Duplicate moment lsa p = refl
after_one Case.SequenceWraps moment lsa p = refl
after_one Case.SentJustNow moment lsa p = refl
after_one Case.Older moment lsa p = refl

unread : (moment number : ℕ) (o : Option Lsa) (p : EventState)
    → of (after_parsed moment number o p) ≡ of p
unread moment number None p = refl
unread moment number (Some lsa) p = after_one (case_at moment number lsa p.router.area) moment lsa _

all_lsas : (moment number : ℕ) (lsas : List (List ℕ)) (p : EventState)
    → of (after_lsas moment number lsas p) ≡ of p
all_lsas moment number [] p = refl
all_lsas moment number (bytes ∷ rest) p =
    let q : EventState = after_parsed moment number (lsa_in bytes) p in
    let stays : of q ≡ of p = unread moment number (lsa_in bytes) p in
    either (goes_on (case_in moment number (lsa_in bytes) p)) (after_lsas moment number rest q) q p
    (all_lsas moment number rest q ∙ stays) stays

from_one : (moment number from : ℕ) (in_exchange : Bool) (b : PacketBody) (p : EventState)
    → of (after_heard moment number from in_exchange b p) ≡ of p
from_one moment number from in_exchange (body.Hello hello) p = refl
from_one moment number from in_exchange (body.Description d) p = refl
from_one moment number from in_exchange (body.Request keys) p =
    either in_exchange (on_area (receive_request moment number keys) p) p p refl refl
from_one moment number from in_exchange (body.Update lsas) p =
    either in_exchange (after_lsas moment number lsas p) p p (all_lsas moment number lsas p) refl
from_one moment number from in_exchange (body.Acknowledgment headers) p =
    either in_exchange (on_area (receive_acknowledgment moment number headers) p) p p refl refl

packet_stays : (moment number : ℕ) (packet : Packet) (p : EventState)
    → of (after_packet moment number packet p) ≡ of p
packet_stays moment number packet p =
    let n : Option Neighbor = neighbor_at number p.router.area.links in
    either (is_heard p.router.id packet n)
    (after_heard moment number packet.router (neighbor_is_exchange_or_later n) packet.body p) p p
    (from_one moment number packet.router (neighbor_is_exchange_or_later n) packet.body p) refl

-- ---- the other parts

tick_stays : (moment : ℕ) (p : EventState) → of (after_tick moment p) ≡ of p
tick_stays moment p =
    let no_sends : EventState = on_router (forget_originations moment)
    (on_area (on_links (map (expire_timers moment))) p) in
    all_due moment (due_keys moment no_sends.router) no_sends

announced_stays : (moment : ℕ) (key : Key) (e : External) (p : EventState)
    → of (announce_as moment key e p) ≡ of p
announced_stays moment key e p =
    let q : EventState = on_router (announce key e) p in
    either (is_announced_as e (finite.get p.router.announced key)) p (originate_anyway moment key q)
    p refl
    (body_stays true moment key (wanted_body q.router key) q)

redistributed_stays : (moment : ℕ) (e : External) (tag price : ℕ) (p : EventState)
    → of (after_redistribute moment e tag price p) ≡ of p
redistributed_stays moment e tag price p =
    let key : Key = external_key p.router.id e.prefix in
    either (nat_le ls_infinity price) (end_want moment key p)
    (announce_as moment key (answered_external e tag price) p) p refl
    (announced_stays moment key (answered_external e tag price) p)

withdrawn_stays : (moment : ℕ) (prefix : Network) (p : EventState)
    → of (after_withdraw moment prefix p) ≡ of p
withdrawn_stays moment prefix p =
    let key : Key = external_key p.router.id prefix in
    either (is_for prefix (finite.get p.router.announced key)) (end_want moment key p) p p refl refl

own_stays : (moment : ℕ) (event : Occurrence) (before after : EventState)
    → is_install event ≡ false → OwnPart moment event before after → of after ≡ of before
own_stays moment (Occurrence.Packet number bytes) before after none is =
    ap of is.2 ∙ packet_stays moment number is.0 before
own_stays moment Occurrence.Tick before after none is = ap of is ∙ tick_stays moment before
own_stays moment (Occurrence.Redistribute tagged tag priced price) before after none is =
    ap of is ∙ redistributed_stays moment priced tag price before
own_stays moment (Occurrence.Withdraw prefix) before after none is =
    ap of is ∙ withdrawn_stays moment prefix before
own_stays moment (Occurrence.Install answers) before after none is = absurd cc
own_stays moment (Occurrence.LinkDown number) before after none is = ap of is

-- ---- the end, and the complete event

described_stays : (before : List Link) (moment : ℕ) (p : EventState)
    → of (originate_router_lsa before moment p) ≡ of p
described_stays before moment p =
    either (links_differ before p.router.area.links && not (is_current moment p.router))
    (originate_or_postpone moment (router_key p.router.id) p) p p
    (waits moment (router_key p.router.id) p) refl

later_stays : (before : List Link) (p : EventState) → of (postpone_router_lsa before p) ≡ of p
later_stays before p = either (links_differ before p.router.area.links)
    (on_router (postpone (router_key p.router.id)) p) p p refl refl

ended_stays : (old : Router) (moment : ℕ) (p : EventState) → of (end_event old moment p) ≡ of p
ended_stays old moment p =
    let said : EventState = originate_router_lsa old.area.links moment (loading_done p) in
    later_stays said.router.area.links (loading_done said)
    ∙ described_stays old.area.links moment (loading_done p)

pub answers_stay : (old : Router) (moment : ℕ) (event : Occurrence) (outs : List Out) (new : Router)
    → Happens old moment event outs new → is_install event ≡ false → new.answers ≡ old.answers
answers_stay old moment event outs new happens none =
    ap (λ (r : Router). r.answers) happens.router ∙ ended_stays old moment happens.after
    ∙ own_stays moment event (start_event moment old) happens.after none happens.own

pub moment_is : (old : Router) (moment : ℕ) (event : Occurrence) (outs : List Out) (new : Router)
    → Happens old moment event outs new → new.moment ≡ moment
moment_is old moment event outs new happens = ap (λ (r : Router). r.moment) happens.router

-- ---- the clock

clock_goes_on : (a b : Bool) (late : Option CoreError)
    → (if a || b then Some error.ClockBack else late) ≡ None → a ≡ false
clock_goes_on true b late is = absurd cc
clock_goes_on false b late is = refl

pub clock_is_on : (old : Router) (moment : ℕ) (event : Occurrence)
    → refusal_before_limits old moment event ≡ None → old.moment ≤ moment
clock_is_on old moment event is =
    ltb-false moment old.moment (clock_goes_on (nat_lt moment old.moment) _ (of_event old event) is)
