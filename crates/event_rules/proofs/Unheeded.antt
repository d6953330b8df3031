-- No event looks at the answers of the last Install, and an Install replaces them: so a router with
-- other answers does the same.
use Rattle.std.proofs.Common.{◌≡◌, ℕ, Bool, true, false, cond, not, ◌&&◌, List, [], ◌∷◌, map}
use Rattle.std.proofs.Common.{Option, None, Some, refl, ◌∙◌, ap}
use Rattle.std.specs.Prelude.{◌==◌, nat_le}
use Rattle.std.specs.FinMap as finite
use Rattle.words.specs.Constants.{ls_infinity}
use Rattle.words.specs.Keys.{external_key, router_key}
use Rattle.words.specs.Numbers.{InterfaceNumber, Moment}
use Rattle.words.specs.Prefixes.{Network as Prefix}
use Rattle.words.specs.declared.key.Key.{Key}
use Rattle.words.specs.declared.route.External.{External}
use Rattle.words.specs.declared.route.Route.{Route}
use Rattle.lsa.specs.Reading.{lsa_in}
use Rattle.lsa.specs.declared.body.LsaBody.{LsaBody}
use Rattle.lsdb.specs.Headers.{Lsa, lsa_key}
use Rattle.packet.specs.declared.model.PacketBody.{PacketBody}
use Rattle.packet.specs.declared.model.PacketBody.TheVariants as body
use Rattle.packet.specs.declared.model.Packet.{Packet}
use Rattle.received.specs.Cases.{Case}
use Rattle.received.specs.Links.{Link, neighbor_at}
use Rattle.received.specs.Updates.{after_case, case_at, goes_on}
use Rattle.received.specs.AreaStates.{AreaState, on_links}
use Rattle.event_rules.specs.Commands.{after_redistribute, after_withdraw, announce, announce_as}
use Rattle.event_rules.specs.Commands.{answered_external, end_want, is_announced_as, is_for}
use Rattle.event_rules.specs.Endings.{end_event, is_current, originate_router_lsa}
use Rattle.event_rules.specs.Endings.{postpone_router_lsa, links_differ, loading_done, remove_aged}
use Rattle.event_rules.specs.Endings.{request_all, start_event}
use Rattle.event_rules.specs.Events.{Happens, OwnPart}
use Rattle.event_rules.specs.EventState.{EventState, on_area, on_router}
use Rattle.event_rules.specs.Originations.{due_keys, flush, forget_originations, has_room}
use Rattle.event_rules.specs.Originations.{has_max_sequence, may_originate, should_originate}
use Rattle.event_rules.specs.Originations.{originate}
use Rattle.event_rules.specs.Originations.{originate_anyway, originate_body, originate_due}
use Rattle.event_rules.specs.Originations.{originate_or_flush, originate_or_postpone, postpone}
use Rattle.event_rules.specs.Originations.{receive_self_originated, wanted_body}
use Rattle.event_rules.specs.Packets.{after_lsa, after_lsas, after_packet, after_self_originated}
use Rattle.event_rules.specs.Packets.{after_parsed, neighbor_is_exchange_or_later, case_in}
use Rattle.event_rules.specs.Packets.{after_heard}
use Rattle.event_rules.specs.Packets.{is_heard}
use Rattle.event_rules.specs.Packing.{outs_of}
use Rattle.event_rules.specs.Routers.{Occurrence, Router}
use Rattle.event_rules.specs.Ticks.{after_tick, expire_timers, send_acknowledgments, send_all_again}
use Rattle.event_rules.specs.Ticks.{send_hellos}
use Rattle.event_rules.specs.declared.model.Out.{Out}

-- a router with other answers
abbrev pub told : List (Route × ℕ) → Router → Router
told answers r = record r { answers = answers }

module _ (answers : List (Route × ℕ)) where
  -- ---- a part that doesn't look at the answers does the same with others

  abbrev pub answering : EventState → EventState
  answering p = on_router (told answers) p

  abbrev pub Overlooks : (EventState → EventState) → Type 0
  Overlooks f = (p : EventState) → answering (f p) ≡ f (answering p)

  one_of : (b : Bool) (x y : EventState)
      → answering (cond b x y) ≡ cond b (answering x) (answering y)
  one_of true x y = refl
  one_of false x y = refl

  one_of_three : (b c : Bool) (x y z : EventState)
      → answering (cond b x (cond c y z))
      ≡ cond b (answering x) (cond c (answering y) (answering z))
  one_of_three true c x y z = refl
  one_of_three false c x y z = one_of c y z

  by_body : (may_now : Bool) (moment : Moment) (key : Key) (says : Option LsaBody)
      → Overlooks (originate_body may_now moment key says)
  by_body may_now moment key None p = refl
  by_body may_now moment key (Some says) p =
      one_of_three (has_max_sequence (finite.get p.router.area.database key))
      (may_now && may_originate moment key p.router)
      (flush moment key p) (originate moment key says p) (on_router (postpone key) p)

  described : (before : List Link) (moment : Moment)
      → Overlooks (originate_router_lsa before moment)
  described before moment p =
      let b : Bool = links_differ before p.router.area.links && not (is_current moment p.router) in
      let key : Key = router_key p.router.id in
      one_of b (originate_or_postpone moment key p) p
      ∙ ap (λ (q : EventState). cond b q (answering p))
      (by_body (has_room key p.router) moment key (wanted_body p.router key) p)

  -- the end from where the router-LSA was told
  abbrev rest : Moment → EventState → EventState
  rest moment p =
      let refilled : EventState = postpone_router_lsa p.router.area.links (loading_done p) in
      on_router (λ (r : Router). record r { moment = moment })
      (on_area (λ o. remove_aged moment (request_all moment o)) refilled)

  rested : (moment : Moment) → Overlooks (rest moment)
  rested moment p =
      let loaded : EventState = loading_done p in
      let b : Bool = links_differ p.router.area.links loaded.router.area.links in
      let last : EventState → EventState = λ q. on_router (λ (r : Router). record r {
        moment = moment;
      }) (on_area (λ o. remove_aged moment (request_all moment o)) q) in
      ap last (one_of b (on_router (postpone (router_key loaded.router.id)) loaded) loaded)

  pub ended : (old : Router) (moment : Moment) → Overlooks (end_event old moment)
  ended old moment p =
      rested moment (originate_router_lsa old.area.links moment (loading_done p))
      ∙ ap (rest moment) (described old.area.links moment (loading_done p))

  -- ---- each part of an event

  or_waits : (moment : Moment) (key : Key) → Overlooks (originate_or_postpone moment key)
  or_waits moment key p = by_body (has_room key p.router) moment key (wanted_body p.router key) p

  anyway : (moment : Moment) (key : Key) → Overlooks (originate_anyway moment key)
  anyway moment key p = by_body true moment key (wanted_body p.router key) p

  or_flushes : (wanted : Bool) (moment : Moment) (key : Key) → Overlooks
      (originate_or_flush wanted moment key)
  or_flushes true moment key p = or_waits moment key p
  or_flushes false moment key p = refl

  own_received : (moment : Moment) (lsa : Lsa) → Overlooks (receive_self_originated moment lsa)
  own_received moment lsa p =
      let wanted : Bool = should_originate (wanted_body p.router (lsa_key lsa)) in
      let own : Bool = lsa.header.advertising_router == p.router.id in
      one_of own (originate_or_flush wanted moment (lsa_key lsa) p) p
      ∙ ap (λ (q : EventState). cond own q (answering p)) (or_flushes wanted moment (lsa_key lsa) p)

  settled : (case : Case) (moment : Moment) (lsa : Lsa) → Overlooks
      (after_self_originated case moment lsa)
  settled Case.Unreadable moment lsa p = refl
  settled Case.NothingToFlush moment lsa p = refl
  settled Case.TooSoon moment lsa p = refl
  settled Case.Newer moment lsa p = own_received moment lsa p
  settled Case.BadRequest moment lsa p = refl
  settled Case.ImpliedAcknowledgment moment lsa p = refl
  settled Case.Duplicate moment lsa p = refl
  settled Case.SequenceWraps moment lsa p = refl
  settled Case.SentJustNow moment lsa p = refl
  settled Case.Older moment lsa p = refl

  one_lsa : (case : Case) (moment : Moment) (number : InterfaceNumber) (lsa : Lsa) → Overlooks
      (after_lsa case moment number lsa)
  one_lsa case moment number lsa p = settled case moment lsa
      (on_area (after_case case moment number lsa) p)

  unread : (moment : Moment) (number : InterfaceNumber) (lsa : Option Lsa) → Overlooks
      (after_parsed moment number lsa)
  unread moment number None p = refl
  unread moment number (Some lsa) p = one_lsa
      (case_at moment number lsa p.router.area) moment number lsa p

  same_case : (moment : Moment) (number : InterfaceNumber) (lsa : Option Lsa) (p : EventState)
      → case_in moment number lsa p ≡ case_in moment number lsa (answering p)
  same_case moment number None p = refl
  same_case moment number (Some lsa) p = refl

  all_lsas : (moment : Moment) (number : InterfaceNumber) (texts : List (List ℕ)) → Overlooks
      (after_lsas moment number texts)
  all_lsas moment number [] p = refl
  all_lsas moment number (bytes ∷ rest) p =
      let q : EventState = after_parsed moment number (lsa_in bytes) p in
      let on : Bool = goes_on (case_in moment number (lsa_in bytes) p) in
      let same : answering q ≡ after_parsed moment number (lsa_in bytes) (answering p) =
      unread moment number (lsa_in bytes) p in
      one_of on (after_lsas moment number rest q) q
      ∙ ap (λ (r : EventState). cond on r (answering q)) (all_lsas moment number rest q)
      ∙ ap (λ (r : EventState). cond on (after_lsas moment number rest r) r) same
      ∙ ap (λ (c : Case). cond (goes_on c)
      (after_lsas moment number rest (after_parsed moment number (lsa_in bytes) (answering p)))
      (after_parsed moment number (lsa_in bytes) (answering p)))
      (same_case moment number (lsa_in bytes) p)

  from_its_neighbor : (moment : Moment) (number : InterfaceNumber) (from : ℕ) (in_exchange : Bool)
      (says : PacketBody) → Overlooks (after_heard moment number from in_exchange says)
  from_its_neighbor moment number from in_exchange (body.Hello h) p = refl
  from_its_neighbor moment number from in_exchange (body.Description d) p = refl
  from_its_neighbor moment number from true (body.Request keys) p = refl
  from_its_neighbor moment number from false (body.Request keys) p = refl
  from_its_neighbor moment number from true (body.Update lsas) p = all_lsas moment number lsas p
  from_its_neighbor moment number from false (body.Update lsas) p = refl
  from_its_neighbor moment number from true (body.Acknowledgment headers) p = refl
  from_its_neighbor moment number from false (body.Acknowledgment headers) p = refl

  a_packet : (moment : Moment) (number : InterfaceNumber) (packet : Packet) → Overlooks
      (after_packet moment number packet)
  a_packet moment number packet p =
      let heard : Bool = is_heard p.router.id packet (neighbor_at number p.router.area.links) in
      let exchanges : Bool = neighbor_is_exchange_or_later
      (neighbor_at number p.router.area.links) in
      one_of heard (after_heard moment number packet.router exchanges packet.body p) p
      ∙ ap (λ (q : EventState). cond heard q (answering p))
      (from_its_neighbor moment number packet.router exchanges packet.body p)

  all_due : (moment : Moment) (keys : List Key) → Overlooks (originate_due moment keys)
  all_due moment [] p = refl
  all_due moment (key ∷ keys) p =
      all_due moment keys (originate_or_postpone moment key p)
      ∙ ap (originate_due moment keys) (or_waits moment key p)

  a_tick : (moment : Moment) → Overlooks (after_tick moment)
  a_tick moment p =
      let quiet : EventState = on_router (forget_originations moment)
      (on_area (on_links (map (expire_timers moment))) p) in
      ap (on_area
      (λ (o : AreaState). send_hellos moment
      (send_acknowledgments moment (send_all_again moment o))))
      (all_due moment (due_keys moment quiet.router) quiet)

  announced : (moment : Moment) (key : Key) (e : External) → Overlooks (announce_as moment key e)
  announced moment key e p =
      let same : Bool = is_announced_as e (finite.get p.router.announced key) in
      one_of same p (originate_anyway moment key (on_router (announce key e) p))
      ∙ ap (λ (q : EventState). cond same (answering p) q)
      (anyway moment key (on_router (announce key e) p))

  redistributed : (moment : Moment) (e : External) (tag price : ℕ) → Overlooks
      (after_redistribute moment e tag price)
  redistributed moment e tag price p =
      let key : Key = external_key p.router.id e.prefix in
      let ends : Bool = nat_le ls_infinity price in
      one_of ends (end_want moment key p) (announce_as moment key (answered_external e tag price) p)
      ∙ ap (λ (q : EventState). cond ends (end_want moment key (answering p)) q)
      (announced moment key (answered_external e tag price) p)

  withdrawn : (moment : Moment) (prefix : Prefix) → Overlooks (after_withdraw moment prefix)
  withdrawn moment prefix p =
      let key : Key = external_key p.router.id prefix in
      one_of (is_for prefix (finite.get p.router.announced key)) (end_want moment key p) p

  -- an Install with these answers in place of its own, or any other event
  abbrev pub bringing : Occurrence → Occurrence
  bringing (Occurrence.Packet number bytes) = Occurrence.Packet number bytes
  bringing Occurrence.Tick = Occurrence.Tick
  bringing (Occurrence.Redistribute tagged tag priced price) =
      Occurrence.Redistribute tagged tag priced price
  bringing (Occurrence.Withdraw prefix) = Occurrence.Withdraw prefix
  bringing (Occurrence.Install brought) = Occurrence.Install answers
  bringing (Occurrence.LinkDown number) = Occurrence.LinkDown number

  own_part : (moment : Moment) (event : Occurrence) (before after : EventState)
      → OwnPart moment event before after
      → OwnPart moment (bringing event) (answering before) (answering after)
  own_part moment (Occurrence.Packet number bytes) before after part =
      (part.0, part.1, ap answering part.2 ∙ a_packet moment number part.0 before)
  own_part moment Occurrence.Tick before after part = ap answering part ∙ a_tick moment before
  own_part moment (Occurrence.Redistribute tagged tag priced price) before after part =
      ap answering part ∙ redistributed moment priced tag price before
  own_part moment (Occurrence.Withdraw prefix) before after part =
      ap answering part ∙ withdrawn moment prefix before
  own_part moment (Occurrence.Install brought) before after part = ap answering part
  own_part moment (Occurrence.LinkDown number) before after part = ap answering part

  -- ---- events

  -- an event leads from a router with other answers to one with these
  pub answered_alike : (old : Router) (moment : Moment) (event : Occurrence) (outs : List Out)
      (new : Router) → Happens old moment event outs new
      → Happens (told answers old) moment (bringing event) outs (told answers new)
  answered_alike old moment event outs new it =
      let same : answering (end_event old moment it.after) ≡ end_event (told answers old) moment
      (answering it.after) = ended old moment it.after in
      record {
        after = answering it.after;
        own = own_part moment event (start_event moment old) it.after it.own;
        router = ap (told answers) it.router ∙ ap (λ (p : EventState). p.router) same;
        sent = it.sent ∙ ap (λ (p : EventState). outs_of old.id old.area.links p.sends) same;
      }
