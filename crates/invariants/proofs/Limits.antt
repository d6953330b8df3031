-- A Tick, a Withdraw, an Install and a LinkDown stay within the limits: a self-originated LSA is
-- only installed if there is room.
use Rattle.std.proofs.Common.{◌≡◌, ◌≤◌, ◌<◌, ℕ, ◌+◌, Bool, true, false, cond, not, ◌&&◌, ◌||◌}
use Rattle.std.proofs.Common.{nat_lt, List, [], ◌∷◌, map, Option, None, Some, is_some, refl, sym}
use Rattle.std.proofs.Common.{ap, subst, ◌∙◌, arith}
use Rattle.std.specs.FinMap as finite
use Rattle.std.specs.List.{fold, list_any}
use Rattle.std.proofs.lemmas.Bool.{le-ltb, ltb-false, ltb-true, and_parts, or_parts, or_from}
use Rattle.words.specs.Numbers.{RouterNumber}
use Rattle.words.specs.declared.key.Key.{Key}
use Rattle.keyed_map.specs.Slots.{count_after_change}
use Rattle.words.specs.declared.route.External.{External}
use Rattle.lsa.specs.Origination.{sealed_lsa}
use Rattle.lsa.specs.Text.{type_of}
use Rattle.lsa.specs.declared.body.LsaBody.{LsaBody}
use Rattle.packet.specs.declared.model.Hello.{Hello}
use Rattle.lsdb.specs.Copies.{Database, DatabaseCopy, age_prematurely, has_just_aged_out}
use Rattle.lsdb.specs.Copies.{install_originated, lsa_now}
use Rattle.lsdb.specs.Headers.{Lsa, lsa_with_age, lsa_key}
use Rattle.lsdb.specs.Limits.{exceeds as database_exceeds}
use Rattle.lsdb.specs.Keys.{ByKey, key_cmp, same_key}
use Rattle.lsdb.proofs.Keys.{keys_exact, keys_total}
pub use Rattle.lsdb.proofs.Keys.{tied as tied_key}
use Rattle.lsdb.proofs.Owned.{count_empty, count_keys, count_most, count_put}
use Rattle.adjacency.specs.Adjacencies as adjacencies
use Rattle.adjacency.specs.Contents.{Content, Step, no_sends}
use Rattle.adjacency.specs.Descriptions.{after_description}
use Rattle.adjacency.specs.Neighbors.{Neighbor}
use Rattle.adjacency.specs.Requests.{request_next}
use Rattle.adjacency.specs.Retransmissions.{after_acknowledgment}
use Rattle.adjacency.proofs.Kept.{chosen}
use Rattle.received.specs.Flooding.{flood_to}
use Rattle.received.specs.Links.{Link, change_link, has_long_list, link_at}
use Rattle.received.specs.AreaStates.{AreaState, Send, Stepping, each_neighbor, marked_database}
use Rattle.received.specs.AreaStates.{sends_at, on_database, on_links, one_neighbor, only_at}
use Rattle.received.specs.AreaStates.{sending}
use Rattle.received.specs.AreaStates.{stepping_sends, sends_of}
use Rattle.received.proofs.Marks.{changed_by}
use Rattle.event_rules.specs.declared.model.Out.{Out}
use Rattle.event_rules.specs.Endings.{end_event, flood_if_aged, start_event, stays}
use Rattle.event_rules.specs.declared.model.Config.{Config}
use Rattle.event_rules.specs.Events.{Happens, Run, Step as RunStep, initial}
use Rattle.event_rules.specs.EventState.{EventState, flood_from_nobody}
use Rattle.event_rules.specs.Hellos.{accepts, names}
use Rattle.event_rules.specs.Originations.{announced_body, due_keys, external_key, has_room}
use Rattle.event_rules.specs.Originations.{is_own_external, new_instance, originate_or_postpone}
use Rattle.event_rules.specs.Originations.{own_externals, router_body, router_key, wanted_body}
use Rattle.event_rules.specs.Packets.{accept_hello, receive_hello_on, requested_lsas, with_neighbor}
use Rattle.event_rules.specs.Refusals.{exceeds}
use Rattle.event_rules.specs.Routers.{Occurrence, Router, unannounced_router}
use Rattle.event_rules.specs.Ticks.{acknowledgments_on, again, hello_sent_on}
use Rattle.event_rules.specs.Ticks.{with_hello_sent, without_acknowledgments}
use Rattle.event_rules.proofs.Walk.{Brings, Invariant, IsKeptByParts, MayGrow, OfEvent, event_kept}
use Rattle.event_rules.proofs.Walk.{originate_or_wait_kept, outcome}
use Rattle.invariants.specs.LimitLaws.{AnnouncesExternals, OthersStayWithinLimits, may_exceed}
use Rattle.invariants.proofs.Lists.{none_asked}
use Rattle.invariants.proofs.Short.{AreShort, fresh_short, none_long, not_long, originated_short}
use Rattle.invariants.proofs.Short.{short_after}
use Rattle.invariants.proofs.Unasked.{brought_any}

-- ---- keys and options

abbrev pub body_or : LsaBody → Option LsaBody → LsaBody
body_or other None = other
body_or other (Some says) = says

-- ---- what is announced

abbrev pub AreExternal : ByKey External → Type 0
AreExternal announced = (key : Key) (e : External) → finite.get announced key ≡ Some e
    → key.ls_type ≡ 5

pub one_more : (announced : ByKey External) (k : Key) (e : External) → k.ls_type ≡ 5
    → AreExternal announced → AreExternal (finite.insert announced k e)
one_more announced k e is h key x at =
    by_key (same_key key k) refl (sym (finite.get-insert keys_total announced k e key) ∙ at)
  where
    by_key : (b : Bool) → same_key key k ≡ b → cond b (Some e) (finite.get announced key) ≡ Some x
        → key.ls_type ≡ 5
    by_key true same found = ap (λ (q : Key). q.ls_type) (tied_key key k same) ∙ is
    by_key false same found = h key x found

pub one_less : (announced : ByKey External) (k : Key) → AreExternal announced
    → AreExternal (finite.remove announced k)
one_less announced k h key x at = by_key (same_key key k)
    (sym (finite.get-remove keys_total announced k key) ∙ at)
  where
    by_key : (b : Bool) → cond b None (finite.get announced key) ≡ Some x → key.ls_type ≡ 5
    by_key true found = absurd cc
    by_key false found = h key x found

-- a wanted LSA has its key's LS type
pub wanted_type : (r : Router) (key : Key) (says : LsaBody) → AreExternal r.announced
    → wanted_body r key ≡ Some says → type_of says ≡ key.ls_type
wanted_type r key says externals wants = by_key (same_key key (router_key r.id)) refl wants
  where
    by_key : (b : Bool) → same_key key (router_key r.id) ≡ b
        → cond b (Some (router_body r.area.links)) (announced_body (finite.get r.announced key))
        ≡ Some says → type_of says ≡ key.ls_type
    by_key true same is =
        ap (λ o. type_of (body_or says o)) (sym is)
        ∙ sym (ap (λ (q : Key). q.ls_type) (tied_key key (router_key r.id) same))
    by_key false same is = of_announced (finite.get r.announced key) refl is
      where
        of_announced : (o : Option External) → finite.get r.announced key ≡ o
            → announced_body o ≡ Some says → type_of says ≡ key.ls_type
        of_announced None there found = absurd cc
        of_announced (Some e) there found =
            ap (λ o. type_of (body_or says o)) (sym found) ∙ sym (externals key e there)

-- the key of a new instance
pub new_key : (key : Key) (copy : Option DatabaseCopy) (says : LsaBody) → type_of says ≡ key.ls_type
    → lsa_key (new_instance key copy says) ≡ key
unfolding sealed_lsa
new_key key copy says is = ap (λ t. record {
  ls_type = t;
  link_state_id = key.link_state_id;
  advertising_router = key.advertising_router;
}) is

module _ (id : RouterNumber) where
  abbrev own : Database → ℕ
  own db = finite.len (finite.retain_keys db (is_own_external id))

  record IsWithin (db : Database) : Type 0 where
    all : finite.len db ≤ 16384
    externals : own db ≤ 4096

  abbrev within : Invariant
  within = record {
    of_area = λ a sends. IsWithin a.database;
    of_announced = λ router announced. (router ≡ id) × AreExternal announced;
    of_lsa = λ lsa. ⊥;
    of_key = λ key. Unit {0};
    without_room = ⊥;
  }

  -- ---- databases

  contained : (db : Database) (key : Key) (c : DatabaseCopy) → finite.get db key ≡ Some c
      → finite.contains_key db key ≡ true
  contained db key c is = ap is_some is

  -- a copy that replaces another
  replaced : (db : Database) (key : Key) (c d : DatabaseCopy) → finite.get db key ≡ Some c
      → IsWithin db → IsWithin (finite.insert db key d)
  replaced db key c d is h = record {
    all = subst (λ n. n ≤ 16384) (sym
        (finite.len-insert keys_total db key d
        ∙ ap (λ b. cond b (finite.len db) (finite.len db + 1)) (contained db key c is))) h.all;
    externals = subst (λ n. n ≤ 4096)
        (sym (count_put (is_own_external id) db key d
        ∙ ap (λ b. cond (is_own_external id key) (count_after_change b true (own db)) (own db))
        (contained db key c is)
        ∙ either (is_own_external id key) (own db))) h.externals;
  }
    where
      either : (b : Bool) (n : ℕ) → cond b n n ≡ n
      either true n = refl
      either false n = refl

  changed_within : (key : Key) (change : DatabaseCopy → DatabaseCopy) (db : Database) → IsWithin db
      → IsWithin (changed_by key change db (finite.get db key))
  changed_within key change db h = by_copy (finite.get db key) refl
    where
      by_copy : (o : Option DatabaseCopy) → finite.get db key ≡ o
          → IsWithin (changed_by key change db o)
      by_copy None is = h
      by_copy (Some c) is = replaced db key c (change c) is h

  marked_within : (moment : ℕ) (says : Content) (db : Database) → IsWithin db
      → IsWithin (marked_database moment db says)
  marked_within moment (Content.SendsHello hello) db h = h
  marked_within moment (Content.Describes d) db h = h
  marked_within moment (Content.Requests keys) db h = h
  marked_within moment (Content.Updates lsa) db h = changed_within (lsa_key lsa) (λ c. record c {
    sent = Some moment;
  }) db h
  marked_within moment (Content.Acknowledges header) db h = h

  all_marked : (moment : ℕ) (more : List Send) (db : Database) → IsWithin db
      → IsWithin (fold (λ (d : Database) (s : Send). marked_database moment d s.content) db more)
  all_marked moment [] db h = h
  all_marked moment (s ∷ more) db h =
      all_marked moment more (marked_database moment db s.content)
      (marked_within moment s.content db h)

  -- an LSA for which there is room
  put_within : (db : Database) (key : Key) (c : DatabaseCopy)
      → (finite.contains_key db key ||
      (nat_lt (finite.len db) 16384 &&
      (not (is_own_external id key) || nat_lt (own_externals id db) 4096))) ≡ true
      → IsWithin db → IsWithin (finite.insert db key c)
  put_within db key c room h = record {
    all = subst (λ n. n ≤ 16384) (sym (finite.len-insert keys_total db key c))
        (all_by (finite.contains_key db key) room);
    externals = subst (λ n. n ≤ 4096) (sym (count_put (is_own_external id) db key c))
        (own_by (finite.contains_key db key) (is_own_external id key) room);
  }
    where
      all_by : (b : Bool) → (b || (nat_lt (finite.len db) 16384 &&
          (not (is_own_external id key) || nat_lt (own_externals id db) 4096))) ≡ true
          → cond b (finite.len db) (finite.len db + 1) ≤ 16384
      all_by true e = h.all
      all_by false e =
          let fewer : finite.len db < 16384 =
          ltb-true (finite.len db) 16384 (and_parts (nat_lt (finite.len db) 16384) _ e).0 in
          omega (arith, fewer)

      own_by : (b o : Bool) → (b || (nat_lt (finite.len db) 16384 &&
          (not o || nat_lt (own_externals id db) 4096))) ≡ true
          → cond o (count_after_change b true (own db)) (own db) ≤ 4096
      own_by b false e = h.externals
      own_by true true e = h.externals
      own_by false true e =
          let fewer : own_externals id db < 4096 =
          ltb-true (own_externals id db) 4096 (and_parts (nat_lt (finite.len db) 16384) _ e).1 in
          let few : own db < 4096 = subst (λ n. n < 4096) (count_keys (is_own_external id) db) fewer
          in
          omega (arith, few)

  -- fewer copies
  retain_twice : (db : Database) (p q : Key → Bool)
      → finite.retain_keys (finite.retain_keys db p) q
      ≡ finite.retain_keys (finite.retain_keys db q) p
  retain_twice db p q =
      finite.same_map keys_total keys_exact _ _ (λ k.
      kept_of (finite.retain_keys db p) q k ∙ ap (λ o. cond (q k) o None) (kept_of db p k)
      ∙ either_order (p k) (q k) (finite.get db k)
      ∙ sym (kept_of (finite.retain_keys db q) p k ∙ ap (λ o. cond (p k) o None) (kept_of db q k)))
    where
      kept_of : (d : Database) (r : Key → Bool) (k : Key)
          → finite.get (finite.retain_keys d r) k ≡ cond (r k) (finite.get d k) None
      kept_of d r k = finite.get-retain_keys d r k (λ x e. ap r (sym (keys_exact k x e)))

      either_order : (a b : Bool) (o : Option DatabaseCopy)
          → cond b (cond a o None) None ≡ cond a (cond b o None) None
      either_order true true o = refl
      either_order true false o = refl
      either_order false true o = refl
      either_order false false o = refl

  retained : (db : Database) (p : Key → Bool) → IsWithin db → IsWithin (finite.retain_keys db p)
  retained db p h = record {
    all = omega (arith, count_most p db, h.all);
    externals = subst (λ (d : Database). finite.len d ≤ 4096)
        (retain_twice db (is_own_external id) p)
        (omega (arith, count_most p (finite.retain_keys db (is_own_external id)), h.externals));
  }

  -- ---- parts of an event

  abbrev OnOutcome : AreaState → Type 0
  OnOutcome o = IsWithin o.area.database

  sent_within : (moment : ℕ) (more : List Send) (o : AreaState) → OnOutcome o
      → OnOutcome (sending moment more o)
  sent_within moment more o h = all_marked moment more o.area.database h

  each_within : (moment : ℕ) (f : Stepping) (o : AreaState) → OnOutcome o
      → OnOutcome (each_neighbor moment f o)
  each_within moment f o h = all_marked moment (stepping_sends f o.area.links) o.area.database h

  one_within : (moment number : ℕ) (f : Neighbor → Step) (o : AreaState) → OnOutcome o
      → OnOutcome (one_neighbor moment number f o)
  one_within moment number f o h = each_within moment (only_at number f) o h

  flooded : (moment : ℕ) (lsa : Lsa) (o : AreaState) → OnOutcome o
      → OnOutcome (flood_from_nobody moment lsa o)
  flooded moment lsa o h = each_within moment (flood_to moment None lsa) o h

  ages_within : (before moment : ℕ) (es : List (Key × DatabaseCopy)) (o : AreaState) → OnOutcome o
      → OnOutcome (fold (flood_if_aged before moment) o es)
  ages_within before moment [] o h = h
  ages_within before moment (e ∷ es) o h =
      ages_within before moment es (flood_if_aged before moment o e)
      (chosen OnOutcome (has_just_aged_out before moment e.1)
      (flood_from_nobody moment (lsa_now moment e.1) o) o
      (λ is. flooded moment (lsa_now moment e.1) o h) (λ is. h))

  hello_heard : (own_id moment number from : ℕ) (hello : Hello) (link : Option Link) (o : AreaState)
      → OnOutcome o → OnOutcome (receive_hello_on own_id moment number from hello link o)
  hello_heard own_id moment number from hello None o h = h
  hello_heard own_id moment number from hello (Some link) o h =
      let s : Step = adjacencies.after_hello moment from (names own_id hello) link.neighbor in
      chosen OnOutcome (accepts own_id from hello link) (accept_hello moment number s o) o
      (λ is. sent_within moment (sends_at number s.sends)
      (on_links (change_link number (with_neighbor s.neighbor)) o) h) (λ is. h)

  room_of : (key : Key) (r : Router) → MayGrow within key r → has_room key r ≡ true
  room_of key r (MayGrow.HasRoom is) = is
  room_of key r (MayGrow.Anyway anyway) = absurd anyway

  parts_within : IsKeptByParts within
  parts_within = record {
    ages = λ before moment o h. ages_within before moment (finite.entries o.area.database) o h;
    flushes = λ moment key c o is young h.
        flooded moment (lsa_with_age 3600 c.lsa) (on_database (age_prematurely moment key) o)
        (changed_within key (λ d. record d {
          lsa = lsa_with_age 3600 d.lsa;
          stored = moment;
        }) o.area.database h);
    originates = λ moment key says p so goes wants grows h.
        let lsa : Lsa = new_instance key (finite.get p.router.area.database key) says in
        let db : Database = p.router.area.database in
        let room : (finite.contains_key db key ||
        (nat_lt (finite.len db) 16384 &&
        (not (is_own_external id key) || nat_lt (own_externals id db) 4096))) ≡ true =
        subst (λ (r : RouterNumber). (finite.contains_key db key ||
        (nat_lt (finite.len db) 16384 &&
        (not (is_own_external r key) || nat_lt (own_externals r db) 4096))) ≡ true)
        h.announced.0 (room_of key p.router grows) in
        flooded moment lsa (on_database (install_originated moment lsa) (outcome p))
        (subst (λ (k : Key). IsWithin (finite.insert db k (record {
          lsa = lsa;
          stored = moment;
          received = None;
          sent = None;
        })))
        (sym (new_key key (finite.get db key) says
        (wanted_type p.router key says h.announced.1 wants)))
        (put_within db key (record {
          lsa = lsa;
          stored = moment;
          received = None;
          sent = None;
        }) room h.area));
    own_router = λ r same. tt;
    case = λ case moment number lsa so o h. absurd so;
    own_received = λ r lsa so is same. absurd so;
    hello = λ own_id moment number from hello o h. hello_heard own_id moment number from hello
        (link_at number o.area.links) o h;
    description = λ own_id moment number d o h. one_within moment number
        (after_description own_id moment o.area.database d) o h;
    requested = λ moment number keys o h. sent_within moment
        (sends_at number (map Content.Updates (requested_lsas moment o.area.database keys))) o h;
    mismatch = λ moment number o h. one_within moment number (adjacencies.mismatch_step moment) o h;
    acknowledgment = λ moment number headers o h. one_within moment number
        (λ n. no_sends (after_acknowledgment moment headers n)) o h;
    due = λ moment r same. none_asked (due_keys moment r);
    inactive = λ moment o h. h;
    again = λ moment o h. each_within moment (again moment o) o h;
    acknowledges = λ moment o h. sent_within moment (sends_of acknowledgments_on o.area.links)
        (on_links (map without_acknowledgments) o) h;
    hellos = λ moment o h. sent_within moment (sends_of (hello_sent_on moment) o.area.links)
        (on_links (map (with_hello_sent moment)) o) h;
    announces = λ r e so h. (h.0, one_more r.announced (external_key r.id e.prefix) e refl h.1);
    unannounces = λ r key h. (h.0, one_less r.announced key h.1);
    link_down = λ number o h. h;
    loaded = λ o h. h;
    requests = λ moment o h. each_within moment (λ number link n. request_next moment n) o h;
    removes = λ moment o h. retained o.area.database (stays moment o.area) h;
  }

-- ---- an event

brings : (id : RouterNumber) (old : Router) (event : Occurrence) → may_exceed event ≡ false
    → Brings (within id) old event
brings id old event may = record {
  packet = λ number bytes packet is text. let no : true ≡ false = sym (ap may_exceed is) ∙ may in
      absurd cc;
  key = λ tagged tag priced price is. let no : true ≡ false = sym (ap may_exceed is) ∙ may in
      absurd cc;
}

is_within : (r : Router) → exceeds r ≡ false
    → IsWithin r.id r.area.database × AreShort r.area.links
is_within r e =
    let parts = or_parts (database_exceeds r.id r.area.database)
    (list_any has_long_list r.area.links) e in
    let both = or_parts (nat_lt 16384 (finite.len r.area.database)) _ parts.0 in (
      record {
        all = ltb-false 16384 (finite.len r.area.database) both.0;
        externals = subst (λ n. n ≤ 4096) (count_keys (is_own_external r.id) r.area.database)
            (ltb-false 4096 (own_externals r.id r.area.database) both.1);
      },
      none_long r.area.links parts.1,
    )

is_not_past : (id : RouterNumber) (r : Router) → r.id ≡ id → IsWithin id r.area.database
    → AreShort r.area.links → exceeds r ≡ false
is_not_past id r same h short =
    let few : own_externals r.id r.area.database ≤ 4096 =
    subst (λ (i : RouterNumber). own_externals i r.area.database ≤ 4096) (sym same)
    (subst (λ n. n ≤ 4096) (sym (count_keys (is_own_external id) r.area.database)) h.externals)
    in
    or_from (database_exceeds r.id r.area.database) (list_any has_long_list r.area.links)
    (or_from (nat_lt 16384 (finite.len r.area.database))
    (nat_lt 4096 (own_externals r.id r.area.database))
    (le-ltb 16384 (finite.len r.area.database) h.all)
    (le-ltb 4096 (own_externals r.id r.area.database) few)) (not_long r.area.links short)

kept : (old : Router) (moment : ℕ) (event : Occurrence) (outs : List Out) (new : Router)
    → AnnouncesExternals old → may_exceed event ≡ false → Happens old moment event outs new
    → exceeds old ≡ false → exceeds new ≡ false
kept old moment event outs new externals may happens fine =
    let old_within = is_within old fine in
    let end : OfEvent (within old.id) (end_event old moment happens.after) =
    event_kept (within old.id) (parts_within old.id) old moment event happens.after
    (brings old.id old event may) happens.own
    (record { area = old_within.0; announced = (refl, externals) }) in
    let begun : OfEvent (within old.id) (start_event moment old) = record {
      area = ages_within old.id old.moment moment (finite.entries old.area.database) (record {
        area = old.area;
        sends = [];
      }) old_within.0;
      announced = (refl, externals);
    } in
    let short = short_after (within old.id) (parts_within old.id) old moment event may
    happens.after (brings old.id old event may) happens.own begun old_within.1 in
    subst (λ (r : Router). exceeds r ≡ false) (sym happens.router)
    (is_not_past old.id (end_event old moment happens.after).router end.announced.0 end.area short)

-- ---- the start

none_announced : AreExternal finite.empty
none_announced key e at = let no : None ≡ Some e = sym (finite.get-empty key_cmp key) ∙ at in
    absurd cc

empty_within : (id : RouterNumber) → IsWithin id finite.empty
empty_within id = record {
  all = omega (arith, finite.len-empty key_cmp DatabaseCopy);
  externals = omega (arith, count_empty DatabaseCopy (is_own_external id));
}

start : (c : Config) → exceeds (initial c) ≡ false
start c =
    let begun : EventState = record { router = unannounced_router c; sends = [] } in
    let end : OfEvent (within c.router) (originate_or_postpone c.start (router_key c.router)
    begun) =
    originate_or_wait_kept (within c.router) (parts_within c.router) c.start (router_key c.router)
    begun tt
    (record { area = empty_within c.router; announced = (refl, none_announced) }) in
    is_not_past c.router (initial c) end.announced.0 end.area
    (originated_short c.start (router_key c.router) begun (fresh_short c.interfaces))

-- ---- what is announced, in every run

abbrev external : Invariant
external = record {
  of_area = λ a sends. Unit {0};
  of_announced = λ router announced. AreExternal announced;
  of_lsa = λ lsa. Unit {0};
  of_key = λ key. Unit {0};
  without_room = Unit {0};
}

parts_external : IsKeptByParts external
parts_external = record {
  ages = λ before moment o h. tt;
  flushes = λ moment key c o is young h. tt;
  originates = λ moment key says p so goes wants grows h. tt;
  own_router = λ r h. tt;
  case = λ case moment number lsa so o h. tt;
  own_received = λ r lsa so is h. tt;
  hello = λ own_id moment number from hello o h. tt;
  description = λ own_id moment number d o h. tt;
  requested = λ moment number keys o h. tt;
  mismatch = λ moment number o h. tt;
  acknowledgment = λ moment number headers o h. tt;
  due = λ moment r h. none_asked (due_keys moment r);
  inactive = λ moment o h. tt;
  again = λ moment o h. tt;
  acknowledges = λ moment o h. tt;
  hellos = λ moment o h. tt;
  announces = λ r e so h. one_more r.announced (external_key r.id e.prefix) e refl h;
  unannounces = λ r key h. one_less r.announced key h;
  link_down = λ number o h. tt;
  loaded = λ o h. tt;
  requests = λ moment o h. tt;
  removes = λ moment o h. tt;
}

after_event : (old : Router) (moment : ℕ) (event : Occurrence) (outs : List Out) (new : Router)
    → Happens old moment event outs new → AnnouncesExternals old → AnnouncesExternals new
after_event old moment event outs new happens h =
    subst AnnouncesExternals (sym happens.router)
    (event_kept external parts_external old moment event happens.after
    (record {
      packet = λ number bytes packet is text. brought_any packet.body;
      key = λ tagged tag priced price is. (tt, tt);
    }) happens.own
    (record { area = tt; announced = h })).announced

first : (c : Config) → AnnouncesExternals (initial c)
first c =
    (originate_or_wait_kept external parts_external c.start (router_key c.router) (record {
      router = unannounced_router c;
      sends = [];
    }) tt
    (record { area = tt; announced = none_announced })).announced

after_run : (steps : List RunStep) (old new : Router) → Run old steps new → AnnouncesExternals old
    → AnnouncesExternals new
after_run [] old new same h = subst AnnouncesExternals (sym same) h
after_run (s ∷ steps) old new run h =
    after_run steps run.0 new run.2 (after_event old s.moment s.event s.outs run.0 run.1 h)

pub others_stay_within_limits : OthersStayWithinLimits
others_stay_within_limits = record {
  start = start;
  first = first;
  event = after_event;
  run = λ c steps new run. after_run steps (initial c) new run (first c);
  kept = kept;
  not_refused = λ old moment event externals may fine exceeding.
      let no : true ≡ false = sym exceeding.too_much
      ∙ kept old moment event exceeding.outs exceeding.new externals may exceeding.happens fine
      in
      absurd cc;
}
