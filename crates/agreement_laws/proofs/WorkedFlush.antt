-- A router-LSA that is received with MaxSequenceNumber.
use Rattle.std.proofs.Common.{◌≡◌, ℕ, ◌<◌, ◌==◌, pos, true, false, cond, not, ◌&&◌, ◌||◌, List, []}
use Rattle.std.proofs.Common.{◌∷◌, Option, None, Some, refl, sym, ap, ◌∙◌, subst, is_some, drop}
use Rattle.std.proofs.Common.{arith}
use Rattle.std.specs.FinMap as finite
use Rattle.std.specs.Cmp.{int_cmp_total, nat_cmp_total, tied_itself}
use Rattle.std.specs.Ordering.{int_cmp, is_eq, ordering_then}
use Rattle.std.proofs.lemmas.Bool.{or_right}
use Rattle.words.specs.declared.key.Key.{Key}
use Rattle.lsdb.specs.Copies.{Database, DatabaseCopy, age_prematurely, install_flooded}
use Rattle.lsdb.specs.Copies.{received_just_now}
use Rattle.lsdb.specs.Copies.{newer_than_copy}
use Rattle.lsdb.specs.Headers.{Header, Lsa, header_with_age, key_of, lsa_with_age, lsa_key}
use Rattle.lsdb.specs.Instances.{ListEntry}
use Rattle.lsdb.specs.Order.{age_at, compare_ages, is_max_age}
use Rattle.packet.specs.declared.model.PacketBody.TheVariants as body
use Rattle.packet.specs.declared.model.Packet.{Packet}
use Rattle.packet.proofs.Whole.{one_packet}
use Rattle.adjacency.specs.Neighbors.{Neighbor}
use Rattle.adjacency.specs.Retransmissions.{is_entry, add_retransmission, remove_retransmission}
use Rattle.received.specs.Cases.{Case, case_of_readable, case_tests, first_case}
use Rattle.received.specs.Links.{Area, Link, any_has_retransmission, any_exchange_or_loading}
use Rattle.received.specs.Links.{neighbor_at}
use Rattle.received.specs.AreaStates.{AreaState, on_database}
use Rattle.received.specs.Updates.{case_at, flood_and_install}
use Rattle.event_rules.specs.declared.model.Out.{Out}
use Rattle.event_rules.specs.Endings.{start_event, end_event, stays_as}
use Rattle.event_rules.specs.Events.{Happens}
use Rattle.event_rules.specs.Originations.{flush, flush_copy, has_max_sequence, has_room}
use Rattle.event_rules.specs.Originations.{should_originate}
use Rattle.event_rules.specs.Originations.{may_originate, originate, originate_body, router_body}
use Rattle.event_rules.specs.Originations.{router_key, originate_or_flush, postpone, wanted_body}
use Rattle.event_rules.specs.Packets.{after_lsa, after_packet, receive_acknowledgment}
use Rattle.event_rules.specs.Packing.{outs_of}
use Rattle.event_rules.specs.EventState.{EventState, flood_from_nobody, on_area, on_router}
use Rattle.event_rules.specs.Routers.{Occurrence, Router}
use Rattle.agreement_laws.specs.WorkedFlush.{AcknowledgesTheLast, ComesBack, HasOnList, IsFlushed}
use Rattle.agreement_laws.specs.WorkedFlush.{TheNumbersEnd, full}
use Rattle.agreement_laws.specs.WorkedOwn.{beside, sends_update}
use Rattle.agreement_laws.specs.WorkedUpdates.{IsUpdateWith}
use Rattle.agreement_laws.proofs.WorkedEnds.{begins, ended, ends, got}
use Rattle.agreement_laws.proofs.WorkedOwn.{put, wanted}
use Rattle.agreement_laws.proofs.WorkedUpdates.{changed_by, inserted, is_young, itself, marked_once}
use Rattle.agreement_laws.proofs.WorkedUpdates.{own_part, same_age, start, taken_off, brought}

-- ---- it is newer

newer_case : (moment : ℕ) (lsa : Lsa) (a : Area) (own : DatabaseCopy)
    → finite.get a.database (lsa_key lsa) ≡ Some own → newer_than_copy moment lsa.header (Some own)
    ≡ true → received_just_now moment (Some own) ≡ false → lsa.header.age < 3600
    → case_at moment 1 lsa a ≡ Case.Newer
newer_case moment lsa a own there newer settled young =
    ap (λ c. case_of_readable moment c (neighbor_at 1 a.links) (any_exchange_or_loading a.links)
    lsa) there
    ∙ (λ i. first_case ((
      is_young lsa.header.age young i && false && not (any_exchange_or_loading a.links),
      Case.NothingToFlush,
    )
    ∷ (true && newer i && settled i, Case.TooSoon)
    ∷ (newer i, Case.Newer)
    ∷ drop 3 (case_tests moment (Some own) (neighbor_at 1 a.links) (any_exchange_or_loading a.links)
    lsa)) Case.Older)

-- ---- it is flushed

abbrev flushed : Router → Link → Neighbor → ℕ → Lsa → EventState
flushed r link n moment lsa =
    on_area (λ o. flood_from_nobody moment (lsa_with_age 3600 lsa)
    (on_database (age_prematurely moment (router_key r.id)) o))
    (put r link moment lsa (remove_retransmission (lsa_key lsa) (full n)))

installs : (r : Router) (link : Link) (n : Neighbor) (moment : ℕ) (lsa : Lsa)
    → on_area (flood_and_install moment 1 lsa) (start (beside r link (full n)))
    ≡ put r link moment lsa (remove_retransmission (lsa_key lsa) (full n))
installs r link n moment lsa = refl

settles : (r : Router) (link : Link) (n : Neighbor) (moment : ℕ) (lsa : Lsa) → lsa_key lsa
    ≡ router_key r.id → lsa.header.sequence ≡ pos 2147483647 → lsa.header.age < 3600
    → after_lsa Case.Newer moment 1 lsa (start (beside r link (full n)))
    ≡ flushed r link n moment lsa
settles r link n moment lsa mine last young =
    let p : EventState = put r link moment lsa (remove_retransmission (lsa_key lsa) (full n)) in
    let key : Key = router_key r.id in
    let c : DatabaseCopy = brought lsa moment None in
    let own : (lsa.header.advertising_router == r.id) ≡ true =
    ap (λ (k : Key). k.advertising_router == r.id) mine ∙ itself r.id in
    let there : finite.get p.router.area.database key ≡ Some c =
    ap (λ k. finite.get p.router.area.database k) (sym mine)
    ∙ inserted r.area.database (lsa_key lsa) c in
    let max : has_max_sequence (Some c) ≡ true =
    ap (λ s. is_eq (int_cmp s (pos 2147483647))) last in
    let fresh : is_max_age (age_at lsa.header.age moment moment) ≡ false =
    ap is_max_age (same_age lsa.header.age moment young) ∙ is_young lsa.header.age young in
    let o : AreaState = record { area = p.router.area; sends = [] } in
    let rest : EventState = cond (has_room key p.router && may_originate moment key p.router)
    (originate moment key (router_body p.router.area.links) p) (on_router (postpone key) p) in
    (λ i. cond (own i) (originate_or_flush (should_originate (wanted_body p.router (mine i))) moment
    (mine i) p) p)
    ∙ (λ i. originate_or_flush (should_originate (wanted p.router i)) moment key p)
    ∙ (λ i. originate_body (has_room key p.router) moment key (wanted p.router i) p)
    ∙ (λ i. cond (has_max_sequence (there i)) (flush moment key p) rest)
    ∙ (λ i. cond (max i) (flush moment key p) rest)
    ∙ (λ i. on_area (flush_copy moment key (there i)) p)
    ∙ (λ i. on_area (λ q. cond (fresh i) q
    (flood_from_nobody moment (lsa_with_age 3600 lsa)
    (on_database (age_prematurely moment key) q))) p)

pub aged : (db : Database) (key : Key) (c : DatabaseCopy) (moment : ℕ) → finite.get db key ≡ Some c
    → finite.get (age_prematurely moment key db) key ≡ Some (record c {
      lsa = lsa_with_age 3600 c.lsa;
      stored = moment;
    })
aged db key c moment there =
    ap (λ o. finite.get (changed_by key (λ d. record d {
      lsa = lsa_with_age 3600 d.lsa;
      stored = moment;
    }) db o) key) there
    ∙ inserted db key (record c { lsa = lsa_with_age 3600 c.lsa; stored = moment })

on_list : (r : Router) (link : Link) (n : Neighbor) (moment : ℕ) (lsa : Lsa) → lsa_key lsa
    ≡ router_key r.id
    → HasOnList (ended moment (flushed r link n moment lsa)).router (router_key r.id)
    (Some (record { header = header_with_age 3600 lsa.header; at = moment }))
on_list r link n moment lsa mine =
    let h : Header = header_with_age 3600 lsa.header in
    let m : Neighbor = add_retransmission moment h (remove_retransmission (lsa_key lsa) (full n))
    in (
      m,
      refl,
      ap (λ k. finite.get m.retransmissions k) (sym mine)
          ∙ inserted (finite.remove (remove_retransmission (lsa_key lsa) (full n)).retransmissions
          (lsa_key lsa)) (lsa_key lsa) (record { header = h; at = moment }),
    )

is_flushed : (r : Router) (link : Link) (n : Neighbor) (moment : ℕ) (lsa : Lsa) → lsa_key lsa
    ≡ router_key r.id → IsFlushed (ended moment (flushed r link n moment lsa)).router moment lsa
unfolding on_list
is_flushed r link n moment lsa mine =
    let key : Key = router_key r.id in
    let p : EventState = flushed r link n moment lsa in
    let o : AreaState = record { area = p.router.area; sends = p.sends } in
    let db : Database = install_flooded moment lsa r.area.database in
    let there : finite.get db key ≡ Some (brought lsa moment None) = ap (finite.get db) (sym mine)
    ∙ inserted r.area.database (lsa_key lsa) (brought lsa moment None) in
    let c : DatabaseCopy = record (brought lsa moment None) { lsa = lsa_with_age 3600 lsa } in
    let still = marked_once moment (lsa_key lsa) key c (age_prematurely moment key db)
    (aged db key (brought lsa moment None) moment there) in
    let listed = on_list r link n moment lsa mine in
    let owed_by : any_has_retransmission key o.area.links ≡ true =
    ap (λ (e : Option ListEntry). is_some e || false) listed.2 in (
      still.0,
      got moment o key
          ∙ ap (λ e. cond (stays_as moment (any_has_retransmission key o.area.links) e) e None)
          still.1
          ∙ ap (λ b. cond b (Some (record c {
            sent = still.0;
          })) None) (or_right (not (is_max_age (age_at 3600 moment moment)))
          (any_has_retransmission key o.area.links) owed_by),
    )

flushes_it : (r new : Router) (link : Link) (n : Neighbor) (moment : ℕ) (bytes : List ℕ) (lsa : Lsa)
    (own : DatabaseCopy) (outs : List Out) → ComesBack r n moment lsa own
    → IsUpdateWith bytes n.router lsa
    → Happens (beside r link (full n)) moment (Occurrence.Packet 1 bytes) outs new
    → IsFlushed new moment lsa × HasOnList new (router_key r.id) (Some (record {
      header = header_with_age 3600 lsa.header;
      at = moment;
    }))
    × (outs ≡ outs_of r.id (beside r link (full n)).area.links
    (sends_update (lsa_with_age 3600 lsa)))
flushes_it r new link n moment bytes lsa own outs back text event =
    let old : Router = beside r link (full n) in
    let p : EventState = flushed r link n moment lsa in
    let there : finite.get r.area.database (lsa_key lsa) ≡ Some own =
    ap (finite.get r.area.database) back.is_own ∙ back.own_there in
    let own_is : event.after ≡ p =
    own_part old moment 1 bytes lsa (full n) event.after back.nothing_ages refl back.is_other refl
    text event.own
    ∙ ap (λ c. after_lsa c moment 1 lsa (start old))
    (newer_case moment lsa old.area own there back.is_newer back.not_just_now back.is_young)
    ∙ settles r link n moment lsa back.is_own back.is_last back.is_young in
    let end : end_event old moment event.after ≡ ended moment p = ap (end_event old moment) own_is
    ∙ ends old moment p refl refl in
    let is : new ≡ (ended moment p).router = event.router ∙ ap (λ (q : EventState). q.router) end in
    let sent : outs ≡ outs_of r.id old.area.links (sends_update (lsa_with_age 3600 lsa)) =
    event.sent
    ∙ ap (λ (q : EventState). outs_of r.id old.area.links q.sends) end in
    let flushed_now : IsFlushed new moment lsa =
    subst (λ s. IsFlushed s moment lsa) (sym is) (is_flushed r link n moment lsa back.is_own) in
    let listed_now : HasOnList new (router_key r.id) (Some (record {
      header = header_with_age 3600 lsa.header;
      at = moment;
    })) =
    subst (λ s. HasOnList s (router_key r.id) (Some (record {
      header = header_with_age 3600 lsa.header;
      at = moment;
    }))) (sym is)
    (on_list r link n moment lsa back.is_own) in
    (flushed_now, listed_now, sent)

-- ---- it is removed

abbrev acknowledged_by_it : Router → Link → Neighbor → Header → EventState
acknowledged_by_it r link n h = start (beside r link (remove_retransmission (key_of h) (full n)))

leaves_it : (r new : Router) (link : Link) (n : Neighbor) (moment : ℕ) (bytes : List ℕ) (h : Header)
    (entry : ListEntry) (c : DatabaseCopy) (outs : List Out)
    → AcknowledgesTheLast r n moment bytes h entry c
    → Happens (beside r link (full n)) moment (Occurrence.Packet 1 bytes) outs new
    → (finite.get new.area.database (key_of h) ≡ None) × HasOnList new (key_of h) None
    × (outs ≡ [])
leaves_it r new link n moment bytes h entry c outs last event =
    let old : Router = beside r link (full n) in
    let packet : Packet = record { router = n.router; body = body.Acknowledgment (h ∷ []) } in
    let p : EventState = acknowledged_by_it r link n h in
    let o : AreaState = record { area = p.router.area; sends = [] } in
    let entry_is : is_entry moment h (finite.get n.retransmissions (key_of h)) ≡ true =
    ap (is_entry moment h) last.on_list ∙ last.is_same in
    let own : event.after ≡ p =
    event.own.2
    ∙ ap (λ q. after_packet moment 1 q (start_event moment old))
    (one_packet bytes event.own.0 packet event.own.1 last.is_text)
    ∙ ap (after_packet moment 1 packet) (begins moment old last.nothing_ages)
    ∙ (λ i. cond (last.is_other i && (false || itself n.router i))
    (on_area (receive_acknowledgment moment 1 (h ∷ [])) (start old)) (start old))
    ∙ (λ i. start (beside r link (cond (entry_is i) (remove_retransmission (key_of h) (full n))
    (full n)))) in
    let end : end_event old moment event.after ≡ ended moment p = ap (end_event old moment) own
    ∙ ends old moment p refl refl in
    let is : new ≡ (ended moment p).router = event.router ∙ ap (λ (q : EventState). q.router) end in
    let off : finite.get (finite.remove n.retransmissions (key_of h)) (key_of h) ≡ None =
    taken_off n.retransmissions (key_of h) in
    let gone : finite.get (ended moment p).router.area.database (key_of h) ≡ None =
    got moment o (key_of h)
    ∙ (λ i. cond (stays_as moment (is_some (off i) || false) (last.copy_there i))
    (finite.get r.area.database (key_of h)) None)
    ∙ (λ i. cond (not (last.is_aged i) || false) (finite.get r.area.database (key_of h)) None) in
    let listed : HasOnList (ended moment p).router (key_of h) None =
    (remove_retransmission (key_of h) (full n), refl, off) in (
      ap (λ (s : Router). finite.get s.area.database (key_of h)) is ∙ gone,
      subst (λ s. HasOnList s (key_of h) None) (sym is) listed,
      event.sent ∙ ap (λ (q : EventState). outs_of r.id old.area.links q.sends) end,
    )

at_max : (at moment : ℕ) → age_at 3600 at moment ≡ 3600
at_max at moment = omega arith

pub numbers_end : TheNumbersEnd
numbers_end = record {
  flushes = flushes_it;
  entry_stays = λ h at moment.
      (λ i. is_eq (ordering_then (tied_itself int_cmp_total h.sequence i)
      (ordering_then (tied_itself nat_cmp_total h.checksum i)
      (compare_ages 3600 (at_max at moment i)))));
  copy_stays = λ lsa at moment received sent. ap is_max_age (at_max at moment);
  leaves = leaves_it;
}
