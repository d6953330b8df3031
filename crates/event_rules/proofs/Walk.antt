-- An induction over all parts of an event: an invariant that each part keeps holds at each point of
-- an event, after it, and so at each point of a run.
use Rattle.std.proofs.Common.{◌≡◌, ℕ, ◌==◌, Bool, true, false, cond, not, ◌&&◌, List, [], ◌∷◌, map}
use Rattle.std.proofs.Common.{Option, None, Some, refl, sym, subst}
use Rattle.std.specs.Prelude.{nat_le}
use Rattle.std.specs.List.{AllByRecursion, list_all}
use Rattle.std.specs.FinMap as finite
use Rattle.std.proofs.lemmas.Bool.{eqb-true}
use Rattle.words.specs.Numbers.{RouterNumber}
use Rattle.words.specs.Prefixes.{Network}
use Rattle.words.specs.declared.key.Key.{Key}
use Rattle.words.specs.declared.route.External.{External}
use Rattle.lsa.specs.Reading.{lsa_in}
use Rattle.lsa.specs.declared.body.LsaBody.{LsaBody}
use Rattle.lsdb.specs.Copies.{DatabaseCopy, age_prematurely, is_aged_out}
use Rattle.lsdb.specs.Headers.{Header, Lsa, lsa_with_age, lsa_key}
use Rattle.lsdb.specs.Keys.{ByKey}
use Rattle.packet.specs.declared.model.PacketBody.{PacketBody}
use Rattle.packet.specs.declared.model.PacketBody.TheVariants as body
use Rattle.packet.specs.declared.model.Description.{Description}
use Rattle.packet.specs.declared.model.Hello.{Hello}
use Rattle.packet.specs.declared.model.Packet.{Packet}
use Rattle.packet.specs.Text.{PacketText}
use Rattle.adjacency.specs.Adjacencies as adjacencies
use Rattle.adjacency.specs.Contents.{Content}
use Rattle.adjacency.specs.Neighbors.{Neighbor}
use Rattle.adjacency.proofs.Kept.{chosen}
use Rattle.received.specs.Cases.{Case}
use Rattle.received.specs.Links.{Area, Link, any_exchange_or_loading, change_link, link_at}
use Rattle.received.specs.Links.{neighbor_on}
use Rattle.received.specs.AreaStates.{AreaState, Send, sends_at, on_database, on_links}
use Rattle.received.specs.AreaStates.{one_neighbor}
use Rattle.received.specs.AreaStates.{sending}
use Rattle.received.specs.Updates.{after_case, case_at, goes_on}
use Rattle.event_rules.specs.Commands.{after_redistribute, after_withdraw, announce, announce_as}
use Rattle.event_rules.specs.Commands.{answered_external, end_want, ls_infinity, is_announced_as}
use Rattle.event_rules.specs.Commands.{is_for}
use Rattle.event_rules.specs.Commands.{taken_down, unannounce}
use Rattle.event_rules.specs.Endings.{originate_router_lsa, postpone_router_lsa, start_event}
use Rattle.event_rules.specs.Endings.{link_loading_done, loading_done, end_event, is_current}
use Rattle.event_rules.specs.Endings.{flood_aged, links_differ, remove_aged, request_all, stays}
use Rattle.event_rules.specs.Events.{OwnPart}
use Rattle.event_rules.specs.Originations.{due_keys, external_key, flush, flush_copy}
use Rattle.event_rules.specs.Originations.{forget_originations, has_max_sequence, has_room}
use Rattle.event_rules.specs.Originations.{install_and_flood, may_originate, should_originate}
use Rattle.event_rules.specs.Originations.{new_instance}
use Rattle.event_rules.specs.Originations.{originate, originate_anyway, originate_body}
use Rattle.event_rules.specs.Originations.{originate_due}
use Rattle.event_rules.specs.Originations.{originate_or_postpone, router_key}
use Rattle.event_rules.specs.Originations.{receive_self_originated}
use Rattle.event_rules.specs.Originations.{originate_or_flush, postpone, wanted_body}
use Rattle.event_rules.specs.Packets.{after_lsa, after_lsas, after_packet, receive_acknowledgment}
use Rattle.event_rules.specs.Packets.{receive_hello}
use Rattle.event_rules.specs.Packets.{after_parsed, case_in, after_heard, is_heard}
use Rattle.event_rules.specs.Packets.{receive_description}
use Rattle.event_rules.specs.Packets.{neighbor_is_exchange_or_later, is_there, receive_request}
use Rattle.event_rules.specs.Packets.{requested_lsas}
use Rattle.event_rules.specs.Packets.{after_self_originated}
use Rattle.event_rules.specs.EventState.{EventState, flood_from_nobody, on_area, on_router}
use Rattle.event_rules.specs.Routers.{Occurrence, Router}
use Rattle.event_rules.specs.Ticks.{after_tick, expire_timers, send_acknowledgments, send_hellos}
use Rattle.event_rules.specs.Ticks.{send_all_again}

-- ---- the invariant

pub record Invariant : Type 1 where
  -- about the links, the database and what was sent
  pub of_area : Area → List Send → Type 0
  -- about the Router ID and what is announced
  pub of_announced : RouterNumber → ByKey External → Type 0
  -- about a received LSA
  pub of_lsa : Lsa → Type 0
  -- about the key of a self-originated LSA
  pub of_key : Key → Type 0
  -- about originations without checking for room
  pub without_room : Type 0

pub record OfEvent (i : Invariant) (p : EventState) : Type 0 where
  pub area : i.of_area p.router.area p.sends
  pub announced : i.of_announced p.router.id p.router.announced

abbrev pub OfOutcome : Invariant → AreaState → Type 0
OfOutcome i o = i.of_area o.area o.sends

-- a change keeps the invariant
abbrev pub Keeps : Invariant → (AreaState → AreaState) → Type 0
Keeps i f = (o : AreaState) → OfOutcome i o → OfOutcome i (f o)

abbrev pub outcome : EventState → AreaState
outcome p = record { area = p.router.area; sends = p.sends }

-- about the LSAs of a packet that can be parsed
abbrev pub IfRead : (Lsa → Type 0) → Option Lsa → Type 0
IfRead P None = Unit {0}
IfRead P (Some lsa) = P lsa

abbrev pub OfBytes : (Lsa → Type 0) → List ℕ → Type 0
OfBytes P bytes = IfRead P (lsa_in bytes)

abbrev pub OfBrought : (Lsa → Type 0) → PacketBody → Type 0
OfBrought P (body.Hello h) = Unit {0}
OfBrought P (body.Description d) = Unit {0}
OfBrought P (body.Request keys) = Unit {0}
OfBrought P (body.Update lsas) = AllByRecursion (OfBytes P) lsas
OfBrought P (body.Acknowledgment headers) = Unit {0}

-- there is room for an LSA of this key, or room isn't required
pub data MayGrow (i : Invariant) (key : Key) (r : Router) : Type 0 where
  HasRoom : has_room key r ≡ true → MayGrow i key r
  Anyway : i.without_room → MayGrow i key r

-- ---- what keeps the invariant

pub record IsKeptByParts (i : Invariant) : Type 0 where
  -- aging, and self-originated LSAs
  pub ages : (before moment : ℕ) → Keeps i (flood_aged before moment)
  pub flushes : (moment : ℕ) (key : Key) (c : DatabaseCopy) (o : AreaState)
      → finite.get o.area.database key ≡ Some c → is_aged_out moment c ≡ false → OfOutcome i o
      → OfOutcome i (flood_from_nobody moment (lsa_with_age 3600 c.lsa)
      (on_database (age_prematurely moment key) o))
  pub originates : (moment : ℕ) (key : Key) (says : LsaBody) (p : EventState) → i.of_key key
      → has_max_sequence (finite.get p.router.area.database key) ≡ false
      → wanted_body p.router key ≡ Some says → MayGrow i key p.router → OfEvent i p
      → OfOutcome i (install_and_flood moment
      (new_instance key (finite.get p.router.area.database key) says) (outcome p))
  pub own_router : (r : Router) → i.of_announced r.id r.announced → i.of_key (router_key r.id)
  -- packets
  pub case : (case : Case) (moment number : ℕ) (lsa : Lsa) → i.of_lsa lsa
      → Keeps i (after_case case moment number lsa)
  pub own_received : (r : Router) (lsa : Lsa) → i.of_lsa lsa → lsa.header.advertising_router ≡ r.id
      → i.of_announced r.id r.announced → i.of_key (lsa_key lsa)
  pub hello : (own moment number from : ℕ) (h : Hello)
      → Keeps i (receive_hello own moment number from h)
  pub description : (own moment number : ℕ) (d : Description)
      → Keeps i (receive_description own moment number d)
  pub requested : (moment number : ℕ) (keys : List Key) (o : AreaState) → OfOutcome i o
      → OfOutcome i (sending moment (sends_at number
      (map Content.Updates (requested_lsas moment o.area.database keys))) o)
  pub mismatch : (moment number : ℕ)
      → Keeps i (one_neighbor moment number (adjacencies.mismatch_step moment))
  pub acknowledgment : (moment number : ℕ) (headers : List Header)
      → Keeps i (receive_acknowledgment moment number headers)
  -- a Tick
  pub due : (moment : ℕ) (r : Router) → i.of_announced r.id r.announced
      → AllByRecursion i.of_key (due_keys moment r)
  pub inactive : (moment : ℕ) → Keeps i (on_links (map (expire_timers moment)))
  pub again : (moment : ℕ) → Keeps i (send_all_again moment)
  pub acknowledges : (moment : ℕ) → Keeps i (send_acknowledgments moment)
  pub hellos : (moment : ℕ) → Keeps i (send_hellos moment)
  -- the commands
  pub announces : (r : Router) (e : External) → i.of_key (external_key r.id e.prefix)
      → i.of_announced r.id r.announced
      → i.of_announced r.id (finite.insert r.announced (external_key r.id e.prefix) e)
  pub unannounces : (r : Router) (key : Key) → i.of_announced r.id r.announced
      → i.of_announced r.id (finite.remove r.announced key)
  pub link_down : (number : ℕ) → Keeps i (on_links (change_link number taken_down))
  -- the end
  pub loaded : Keeps i (on_links (map link_loading_done))
  pub requests : (moment : ℕ) → Keeps i (request_all moment)
  pub removes : (moment : ℕ) (o : AreaState) → OfOutcome i o
      → OfOutcome i (on_database (λ db. finite.retain_keys db (stays moment o.area)) o)

-- what an event contains: the LSAs of its Link State Update, and the key of what it announces
pub record Brings (i : Invariant) (r : Router) (event : Occurrence) : Type 0 where
  pub packet : (number : ℕ) (bytes : List ℕ) (packet : Packet)
      → event ≡ Occurrence.Packet number bytes → PacketText bytes packet
      → OfBrought i.of_lsa packet.body
  pub key : (tagged : External) (tag : ℕ) (priced : External) (price : ℕ)
      → event ≡ Occurrence.Redistribute tagged tag priced price
      → i.of_key (external_key r.id priced.prefix) × i.without_room

-- ---- the induction

module _ (i : Invariant) (kept : IsKeptByParts i) where
  abbrev InProgress : EventState → Type 0
  InProgress p = OfEvent i p

  on_area_kept : (f : AreaState → AreaState) (p : EventState)
      → (i.of_area p.router.area p.sends → OfOutcome i (f (outcome p))) → InProgress p
      → InProgress (on_area f p)
  on_area_kept f p keeps h = record { area = keeps h.area; announced = h.announced }

  -- ---- self-originated LSAs

  copy_flushed : (moment : ℕ) (key : Key) (c : Option DatabaseCopy) (o : AreaState)
      → finite.get o.area.database key ≡ c → OfOutcome i o → OfOutcome i (flush_copy moment key c o)
  copy_flushed moment key None o is h = h
  copy_flushed moment key (Some c) o is h =
      chosen (OfOutcome i) (is_aged_out moment c) o
      (flood_from_nobody moment (lsa_with_age 3600 c.lsa)
      (on_database (age_prematurely moment key) o))
      (λ aged. h) (λ young. kept.flushes moment key c o is young h)

  flush_kept : (moment : ℕ) (key : Key) (p : EventState) → InProgress p
      → InProgress (flush moment key p)
  flush_kept moment key p h =
      on_area_kept (flush_copy moment key (finite.get p.router.area.database key)) p
      (λ a. copy_flushed moment key (finite.get p.router.area.database key) (outcome p) refl a) h

  waits_kept : (key : Key) (p : EventState) → InProgress p → InProgress (on_router (postpone key) p)
  waits_kept key p h = record { area = h.area; announced = h.announced }

  body_kept : (may_now : Bool) (moment : ℕ) (key : Key) (says : Option LsaBody) (p : EventState)
      → i.of_key key → wanted_body p.router key ≡ says → (may_now ≡ true → MayGrow i key p.router)
      → InProgress p → InProgress (originate_body may_now moment key says p)
  body_kept may_now moment key None p own wants grows h = h
  body_kept may_now moment key (Some says) p own wants grows h =
      chosen InProgress (has_max_sequence (finite.get p.router.area.database key))
      (flush moment key p)
      (cond (may_now && may_originate moment key p.router) (originate moment key says p)
      (on_router (postpone key) p))
      (λ is. flush_kept moment key p h)
      (λ is. chosen InProgress (may_now && may_originate moment key p.router)
      (originate moment key says p) (on_router (postpone key) p)
      (λ may. record {
        area = kept.originates moment key says p own is wants
            (grows (first_so may_now (may_originate moment key p.router) may)) h;
        announced = h.announced;
      })
      (λ may. waits_kept key p h))
    where
      first_so : (a b : Bool) → (a && b) ≡ true → a ≡ true
      first_so true b e = refl
      first_so false b e = absurd cc

  pub originate_or_wait_kept : (moment : ℕ) (key : Key) (p : EventState) → i.of_key key
      → InProgress p → InProgress (originate_or_postpone moment key p)
  originate_or_wait_kept moment key p own h =
      body_kept (has_room key p.router) moment key (wanted_body p.router key) p own refl
      (λ is. MayGrow.HasRoom is) h

  due_kept : (moment : ℕ) (keys : List Key) (p : EventState) → AllByRecursion i.of_key keys
      → InProgress p → InProgress (originate_due moment keys p)
  due_kept moment [] p own h = h
  due_kept moment (key ∷ keys) p own h =
      due_kept moment keys (originate_or_postpone moment key p) own.1
      (originate_or_wait_kept moment key p own.0 h)

  wanted_settled : (b : Bool) (moment : ℕ) (key : Key) (p : EventState) → i.of_key key
      → InProgress p → InProgress (originate_or_flush b moment key p)
  wanted_settled true moment key p own h = originate_or_wait_kept moment key p own h
  wanted_settled false moment key p own h = flush_kept moment key p h

  own_settled : (moment : ℕ) (lsa : Lsa) (p : EventState) → i.of_lsa lsa → InProgress p
      → InProgress (receive_self_originated moment lsa p)
  own_settled moment lsa p so h =
      let wanted : Bool = should_originate (wanted_body p.router (lsa_key lsa)) in
      chosen InProgress (lsa.header.advertising_router == p.router.id)
      (originate_or_flush wanted moment (lsa_key lsa) p) p
      (λ is. wanted_settled wanted moment (lsa_key lsa) p
      (kept.own_received p.router lsa so (eqb-true lsa.header.advertising_router p.router.id is)
      h.announced) h) (λ is. h)

  -- ---- packets

  settled : (case : Case) (moment : ℕ) (lsa : Lsa) (p : EventState) → i.of_lsa lsa → InProgress p
      → InProgress (after_self_originated case moment lsa p)
  settled Case.Unreadable moment lsa p so h = h
  settled Case.NothingToFlush moment lsa p so h = h
  settled Case.TooSoon moment lsa p so h = h
  settled Case.Newer moment lsa p so h = own_settled moment lsa p so h
  settled Case.BadRequest moment lsa p so h = h
  settled Case.ImpliedAcknowledgment moment lsa p so h = h
  settled Case.Duplicate moment lsa p so h = h
  settled Case.SequenceWraps moment lsa p so h = h
  settled Case.SentJustNow moment lsa p so h = h
  settled Case.Older moment lsa p so h = h

  lsa_kept : (case : Case) (moment number : ℕ) (lsa : Lsa) (p : EventState) → i.of_lsa lsa
      → InProgress p → InProgress (after_lsa case moment number lsa p)
  lsa_kept case moment number lsa p so h =
      settled case moment lsa (on_area (after_case case moment number lsa) p) so
      (on_area_kept (after_case case moment number lsa) p
      (λ a. kept.case case moment number lsa so (outcome p) a) h)

  unread_kept : (moment number : ℕ) (o : Option Lsa) (p : EventState) → IfRead i.of_lsa o
      → InProgress p → InProgress (after_parsed moment number o p)
  unread_kept moment number None p so h = h
  unread_kept moment number (Some lsa) p so h =
      lsa_kept (case_at moment number lsa p.router.area) moment number lsa p so h

  lsas_kept : (moment number : ℕ) (lsas : List (List ℕ)) (p : EventState)
      → AllByRecursion (OfBytes i.of_lsa) lsas → InProgress p
      → InProgress (after_lsas moment number lsas p)
  lsas_kept moment number [] p so h = h
  lsas_kept moment number (bytes ∷ rest) p so h =
      let q : EventState = after_parsed moment number (lsa_in bytes) p in
      let then_so : InProgress q = unread_kept moment number (lsa_in bytes) p so.0 h in
      chosen InProgress (goes_on (case_in moment number (lsa_in bytes) p))
      (after_lsas moment number rest q) q (λ is. lsas_kept moment number rest q so.1 then_so)
      (λ is. then_so)

  requests_answered : (moment number : ℕ) (keys : List Key) (o : AreaState) → OfOutcome i o
      → OfOutcome i (receive_request moment number keys o)
  requests_answered moment number keys o h =
      chosen (OfOutcome i) (list_all (is_there o.area.database) keys)
      (sending moment (sends_at number
      (map Content.Updates (requested_lsas moment o.area.database keys))) o)
      (one_neighbor moment number (adjacencies.mismatch_step moment) o)
      (λ is. kept.requested moment number keys o h) (λ is. kept.mismatch moment number o h)

  from_neighbor_kept : (moment number from : ℕ) (in_exchange : Bool) (b : PacketBody)
      (p : EventState) → OfBrought i.of_lsa b → InProgress p
      → InProgress (after_heard moment number from in_exchange b p)
  from_neighbor_kept moment number from in_exchange (body.Hello hello) p so h =
      on_area_kept (receive_hello p.router.id moment number from hello) p
      (λ a. kept.hello p.router.id moment number from hello (outcome p) a) h
  from_neighbor_kept moment number from in_exchange (body.Description d) p so h =
      on_area_kept (receive_description p.router.id moment number d) p
      (λ a. kept.description p.router.id moment number d (outcome p) a) h
  from_neighbor_kept moment number from in_exchange (body.Request keys) p so h =
      chosen InProgress in_exchange (on_area (receive_request moment number keys) p) p
      (λ is. on_area_kept (receive_request moment number keys) p
      (λ a. requests_answered moment number keys (outcome p) a) h) (λ is. h)
  from_neighbor_kept moment number from in_exchange (body.Update lsas) p so h =
      chosen InProgress in_exchange (after_lsas moment number lsas p) p
      (λ is. lsas_kept moment number lsas p so h) (λ is. h)
  from_neighbor_kept moment number from in_exchange (body.Acknowledgment headers) p so h =
      chosen InProgress in_exchange (on_area (receive_acknowledgment moment number headers) p) p
      (λ is. on_area_kept (receive_acknowledgment moment number headers) p
      (λ a. kept.acknowledgment moment number headers (outcome p) a) h) (λ is. h)

  packet_kept : (moment number : ℕ) (packet : Packet) (p : EventState)
      → OfBrought i.of_lsa packet.body → InProgress p
      → InProgress (after_packet moment number packet p)
  packet_kept moment number packet p so h =
      let n : Option Neighbor = neighbor_on (link_at number p.router.area.links) in
      chosen InProgress (is_heard p.router.id packet n)
      (after_heard moment number packet.router (neighbor_is_exchange_or_later n) packet.body p) p
      (λ is. from_neighbor_kept moment number packet.router (neighbor_is_exchange_or_later n)
      packet.body p
      so h)
      (λ is. h)

  -- ---- a Tick

  tick_kept : (moment : ℕ) (p : EventState) → InProgress p → InProgress (after_tick moment p)
  tick_kept moment p h =
      let no_sends : EventState = on_router (forget_originations moment)
      (on_area (on_links (map (expire_timers moment))) p) in
      let renewed : EventState = originate_due moment (due_keys moment no_sends.router) no_sends in
      let still : InProgress no_sends = record {
        area = kept.inactive moment (outcome p) h.area;
        announced = h.announced;
      } in
      let so : InProgress renewed = due_kept moment (due_keys moment no_sends.router) no_sends
      (kept.due moment no_sends.router still.announced) still in
      let o : AreaState = outcome renewed in
      let again : OfOutcome i (send_all_again moment o) = kept.again moment o so.area in
      let acknowledged : OfOutcome i (send_acknowledgments moment (send_all_again moment o)) =
      kept.acknowledges moment (send_all_again moment o) again in
      record {
        area = kept.hellos moment (send_acknowledgments moment (send_all_again moment o))
            acknowledged;
        announced = so.announced;
      }

  -- ---- the event's own part

  want_ended : (moment : ℕ) (key : Key) (p : EventState) → InProgress p
      → InProgress (end_want moment key p)
  want_ended moment key p h =
      flush_kept moment key (on_router (unannounce key) p) (record {
        area = h.area;
        announced = kept.unannounces p.router key h.announced;
      })

  announced_kept : (moment : ℕ) (e : External) (p : EventState)
      → i.of_key (external_key p.router.id e.prefix) → i.without_room → InProgress p
      → InProgress (announce_as moment (external_key p.router.id e.prefix) e p)
  announced_kept moment e p own anyway h =
      let key : Key = external_key p.router.id e.prefix in
      let q : EventState = on_router (announce key e) p in
      let so : InProgress q = record {
        area = h.area;
        announced = kept.announces p.router e own h.announced;
      } in
      chosen InProgress (is_announced_as e (finite.get p.router.announced key)) p
      (originate_anyway moment key q) (λ is. h)
      (λ is. body_kept true moment key (wanted_body q.router key) q own refl
      (λ may. MayGrow.Anyway anyway) so)

  redistributed : (moment : ℕ) (e : External) (tag price : ℕ) (p : EventState)
      → i.of_key (external_key p.router.id e.prefix) → i.without_room → InProgress p
      → InProgress (after_redistribute moment e tag price p)
  redistributed moment e tag price p own anyway h =
      let key : Key = external_key p.router.id e.prefix in
      chosen InProgress (nat_le ls_infinity price) (end_want moment key p)
      (announce_as moment key (answered_external e tag price) p)
      (λ is. want_ended moment key p h)
      (λ is. announced_kept moment (answered_external e tag price) p own anyway h)

  withdrawn : (moment : ℕ) (prefix : Network) (p : EventState) → InProgress p
      → InProgress (after_withdraw moment prefix p)
  withdrawn moment prefix p h =
      let key : Key = external_key p.router.id prefix in
      chosen InProgress (is_for prefix (finite.get p.router.announced key)) (end_want moment key p)
      p (λ is. want_ended moment key p h) (λ is. h)

  own_kept : (moment : ℕ) (event : Occurrence) (before after : EventState)
      → Brings i before.router event → OwnPart moment event before after → InProgress before
      → InProgress after
  own_kept moment (Occurrence.Packet number bytes) before after brings is h =
      subst InProgress (sym is.2) (packet_kept moment number is.0 before
      (brings.packet number bytes is.0 refl is.1) h)
  own_kept moment Occurrence.Tick before after brings is h =
      subst InProgress (sym is) (tick_kept moment before h)
  own_kept moment (Occurrence.Redistribute tagged tag priced price) before after brings is h =
      let its : i.of_key (external_key before.router.id priced.prefix) × i.without_room =
      brings.key tagged tag priced price refl in
      subst InProgress (sym is) (redistributed moment priced tag price before its.0 its.1 h)
  own_kept moment (Occurrence.Withdraw prefix) before after brings is h =
      subst InProgress (sym is) (withdrawn moment prefix before h)
  own_kept moment (Occurrence.Install answers) before after brings is h =
      subst InProgress (sym is) (record { area = h.area; announced = h.announced })
  own_kept moment (Occurrence.LinkDown number) before after brings is h =
      subst InProgress (sym is) (record {
        area = kept.link_down number (outcome before) h.area;
        announced = h.announced;
      })

  -- ---- the end

  all_loaded : (p : EventState) → InProgress p → InProgress (loading_done p)
  all_loaded p h = record { area = kept.loaded (outcome p) h.area; announced = h.announced }

  described : (before : List Link) (moment : ℕ) (p : EventState) → InProgress p
      → InProgress (originate_router_lsa before moment p)
  described before moment p h =
      chosen InProgress (links_differ before p.router.area.links && not
      (is_current moment p.router)) (originate_or_postpone moment (router_key p.router.id) p) p
      (λ is. originate_or_wait_kept moment (router_key p.router.id) p
      (kept.own_router p.router h.announced) h) (λ is. h)

  described_later : (before : List Link) (p : EventState) → InProgress p
      → InProgress (postpone_router_lsa before p)
  described_later before p h =
      chosen InProgress (links_differ before p.router.area.links)
      (on_router (postpone (router_key p.router.id)) p) p
      (λ is. waits_kept (router_key p.router.id) p h) (λ is. h)

  aged_removed : (moment : ℕ) (o : AreaState) → OfOutcome i o → OfOutcome i (remove_aged moment o)
  aged_removed moment o h =
      chosen (OfOutcome i) (any_exchange_or_loading o.area.links) o
      (on_database (λ db. finite.retain_keys db (stays moment o.area)) o) (λ is. h)
      (λ is. kept.removes moment o h)

  ended_kept : (old : Router) (moment : ℕ) (p : EventState) → InProgress p
      → InProgress (end_event old moment p)
  ended_kept old moment p h =
      let said : EventState = originate_router_lsa old.area.links moment (loading_done p) in
      let refilled : EventState = postpone_router_lsa said.router.area.links (loading_done said)
      in
      let so : InProgress refilled = described_later said.router.area.links (loading_done said)
      (all_loaded said (described old.area.links moment (loading_done p) (all_loaded p h))) in
      record {
        area = aged_removed moment (request_all moment (outcome refilled))
            (kept.requests moment (outcome refilled) so.area);
        announced = so.announced;
      }

  -- ---- the complete event

  begun_kept : (moment : ℕ) (r : Router) → InProgress (record {
    router = r;
    sends = [];
  }) → InProgress (start_event moment r)
  begun_kept moment r h = record {
    area = kept.ages r.moment moment (record { area = r.area; sends = [] }) h.area;
    announced = h.announced;
  }

  pub event_kept : (old : Router) (moment : ℕ) (event : Occurrence) (after : EventState)
      → Brings i old event → OwnPart moment event (start_event moment old) after
      → InProgress (record { router = old; sends = [] }) → InProgress (end_event old moment after)
  event_kept old moment event after brings own h =
      ended_kept old moment after (own_kept moment event (start_event moment old) after (record {
        packet = brings.packet;
        key = brings.key;
      }) own (begun_kept moment old h))
