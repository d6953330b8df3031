-- A Tick that originates the router-LSA and sends delayed acknowledgments.
use Rattle.std.proofs.Common.{◌≡◌, ℕ, ◌==◌, Bool, true, false, cond, not, ◌&&◌, List, [], ◌∷◌, ◌++◌}
use Rattle.std.proofs.Common.{map, Option, None, Some, refl, sym, ap, ◌∙◌, append_assoc, append-nil}
use Rattle.std.specs.List.{filter}
use Rattle.std.specs.FinMap as finite
use Rattle.std.specs.FinSet as set
use Rattle.words.specs.declared.key.Key.{Key}
use Rattle.lsa.specs.Origination.{sealed_lsa}
use Rattle.lsa.specs.declared.body.LsaBody.{LsaBody}
use Rattle.lsdb.specs.Copies.{Database, DatabaseCopy}
use Rattle.lsdb.specs.Headers.{Lsa}
use Rattle.lsdb.proofs.Keys.{keys_exact}
use Rattle.adjacency.specs.Adjacencies.{has_passed}
use Rattle.adjacency.specs.Contents.{Content, no_sends}
use Rattle.adjacency.specs.Contents as contents
use Rattle.adjacency.specs.Descriptions.{is_over_for}
use Rattle.adjacency.specs.Neighbors.{Neighbor}
use Rattle.adjacency.specs.Requests.{still_outstanding}
use Rattle.adjacency.specs.Retransmissions.{next_retransmissions, add_retransmission, request_again}
use Rattle.adjacency.specs.Retransmissions.{send_again, update_again}
use Rattle.received.specs.Links.{Link}
use Rattle.received.specs.AreaStates.{AreaState, Send, on_links, stepping_sends, sends_of}
use Rattle.event_rules.specs.declared.model.Out.{Out}
use Rattle.event_rules.specs.Endings.{end_event}
use Rattle.event_rules.specs.Events.{Happens}
use Rattle.event_rules.specs.Originations.{as_originated, due_keys, flush, forget_originations}
use Rattle.event_rules.specs.Originations.{has_max_sequence, has_room, install_and_flood}
use Rattle.event_rules.specs.Originations.{interval_is_over, is_due, is_recent, may_originate}
use Rattle.event_rules.specs.Originations.{new_instance, originate_body, originate_due}
use Rattle.event_rules.specs.Originations.{originate_or_postpone, postpone, router_body, router_key}
use Rattle.event_rules.specs.Packing.{outs_of}
use Rattle.event_rules.specs.EventState.{EventState, on_area, on_router}
use Rattle.event_rules.specs.Routers.{Occurrence, Router}
use Rattle.event_rules.specs.Ticks.{send_acknowledgments, after_tick, again, send_hellos}
use Rattle.event_rules.specs.Ticks.{hello_sent_on}
use Rattle.event_rules.specs.Ticks.{expire_timers, send_all_again, settled_exchange}
use Rattle.agreement_laws.specs.WorkedFlush.{full}
use Rattle.agreement_laws.specs.WorkedOwn.{beside}
use Rattle.agreement_laws.specs.WorkedTicks.{ATickOriginates, IsDueAtTick, IsNothingDue}
use Rattle.agreement_laws.specs.WorkedTicks.{originated_lsa, waiting_acknowledgments}
use Rattle.agreement_laws.proofs.WorkedEnds.{begins, ended, ends}
use Rattle.agreement_laws.proofs.WorkedLinks.{chosen_step, who}
use Rattle.agreement_laws.proofs.WorkedOwn.{wanted}
use Rattle.agreement_laws.proofs.WorkedUpdates.{start}

-- ---- expired timers

both_full : (b : Bool) (m n : Neighbor) → cond b (full m) (full n) ≡ full (cond b m n)
both_full true m n = refl
both_full false m n = refl

-- the last Database Description may be discarded
abbrev settled : Link → Neighbor → ℕ → Neighbor
settled link n moment = cond (is_over_for moment link.interface.dead_interval n.exchanged)
    (record n { described = None }) n

abbrev resting : Router → Link → Neighbor → ℕ → EventState
resting r link n moment = on_router (forget_originations moment)
    (start (beside r link (full (settled link n moment))))

rests : (r : Router) (link : Link) (n : Neighbor) (moment : ℕ)
    → has_passed n.last_heard link.interface.dead_interval moment ≡ false
    → on_router (forget_originations moment)
    (on_area (on_links (map (expire_timers moment))) (start (beside r link (full n))))
    ≡ resting r link n moment
rests r link n moment last_heard =
    let put : Option Neighbor → EventState =
    λ o. on_router (forget_originations moment) (start (record r {
      area = record r.area { links = record link { neighbor = o } ∷ [] };
    })) in
    ap (λ b. put (settled_exchange moment link.interface.dead_interval
    (cond b None (Some (full n))))) last_heard
    ∙ ap (λ m. put (Some m)) (both_full
    (is_over_for moment link.interface.dead_interval n.exchanged) (record n {
      described = None;
    }) n)

over_or_none : (moment : ℕ) (o : Option ℕ) (b : Bool) → interval_is_over moment o ≡ true → b
    ≡ is_recent moment o → interval_is_over moment (cond b o None) ≡ true
over_or_none moment o true over is = over
over_or_none moment o false over is = refl

still_over : (moment : ℕ) (r : Router) (key : Key)
    → interval_is_over moment (finite.get r.originated key) ≡ true
    → may_originate moment key (forget_originations moment r) ≡ true
still_over moment r key over =
    let recent : Key → Bool = λ k. is_recent moment (finite.get r.originated k) in
    ap (interval_is_over moment) (finite.get-retain_keys r.originated recent key
    (λ x e. ap recent (sym (keys_exact key x e))))
    ∙ over_or_none moment (finite.get r.originated key) (recent key) over refl

-- ---- the origination

abbrev told : ℕ → Option DatabaseCopy → EventState → EventState
told moment copy p = on_router (as_originated moment (router_key p.router.id))
    (on_area (install_and_flood moment
    (new_instance (router_key p.router.id) copy (router_body p.router.area.links))) p)

originates : (moment : ℕ) (copy : Option DatabaseCopy) (p : EventState)
    → finite.get p.router.area.database (router_key p.router.id) ≡ copy → has_max_sequence copy
    ≡ false → has_room (router_key p.router.id) p.router ≡ true
    → may_originate moment (router_key p.router.id) p.router ≡ true
    → originate_or_postpone moment (router_key p.router.id) p ≡ told moment copy p
originates moment copy p there counts room may =
    let key : Key = router_key p.router.id in
    let says : LsaBody = router_body p.router.area.links in
    (λ i. originate_body (room i) moment key (wanted p.router i) p)
    ∙ (λ i. cond (has_max_sequence (there i)) (flush moment key p)
    (cond (true && may i) (on_router (as_originated moment key)
    (on_area (install_and_flood moment (new_instance key (there i) says)) p))
    (on_router (postpone key) p)))
    ∙ (λ i. cond (counts i) (flush moment key p) (told moment copy p))

alone_due : (r : Router) (moment : ℕ) → finite.keys r.announced ≡ []
    → is_due moment r (router_key r.id) ≡ true → due_keys moment r ≡ router_key r.id ∷ []
alone_due r moment none due =
    (λ i. filter (is_due moment r) (router_key r.id ∷ none i))
    ∙ (λ i. cond (due i) (router_key r.id ∷ []) [])

-- ---- what is retransmitted doesn't change the neighbor's state

request_keeps : (moment interval : ℕ) (n : Neighbor)
    → who (request_again moment interval n).neighbor ≡ who n
request_keeps moment interval n =
    chosen_step (not (set.len n.outstanding == 0) && has_passed n.requested_at interval moment)
    (record {
      neighbor = record n {
        requested_at = moment;
      };
      sends = contents.Requests (still_outstanding n) ∷ [];
    })
    (no_sends n) (who n) refl refl

update_keeps : (moment interval : ℕ) (db : Database) (n : Neighbor)
    → who (update_again moment interval db n).neighbor ≡ who n
update_keeps moment interval db n =
    chosen_step (not (finite.len n.retransmissions == 0) && has_passed n.retransmitted_at interval
    moment)
    (record {
      neighbor = record n {
        retransmitted_at = moment;
      };
      sends = map contents.Updates (next_retransmissions moment db n);
    }) (no_sends n) (who n) refl
    refl

again_keeps : (moment interval : ℕ) (db : Database) (n : Neighbor)
    → who (send_again moment interval db (full n)).neighbor ≡ who (full n)
again_keeps moment interval db n =
    update_keeps moment interval db (request_again moment interval (full n)).neighbor
    ∙ request_keeps moment interval (full n)

-- ---- the complete event

abbrev rest_of_tick : ℕ → EventState → EventState
rest_of_tick moment p = on_area (λ o. send_hellos moment
    (send_acknowledgments moment (send_all_again moment o))) p

forgets : (n : Neighbor) (b : Bool) → (cond b (record n { described = None }) n).router ≡ n.router
forgets n true = refl
forgets n false = refl

tick_sends : (r new : Router) (link : Link) (n : Neighbor) (moment : ℕ) (copy : Option DatabaseCopy)
    (outs : List Out) → IsDueAtTick r link n moment copy
    → Happens (beside r link (full n)) moment Occurrence.Tick outs new
    → (again more : List Send) × (outs ≡ outs_of r.id (beside r link (full n)).area.links
    (record {
      interface = 1;
      content = Content.Updates (originated_lsa r link n copy);
    }
    ∷ (again ++ (waiting_acknowledgments link ++ more))))
tick_sends r new link n moment copy outs due event =
    let old : Router = beside r link (full n) in
    let key : Key = router_key r.id in
    let m : Neighbor = settled link n moment in
    let q : EventState = resting r link n moment in
    let lsa : Lsa = originated_lsa r link n copy in
    let p : EventState = told moment copy q in
    let after : EventState = rest_of_tick moment p in
    let o : AreaState = record { area = p.router.area; sends = p.sends } in
    let x : AreaState = send_all_again moment o in
    let y : AreaState = send_acknowledgments moment x in
    let resent : List Send = stepping_sends (again moment o) o.area.links in
    let hellos : List Send = sends_of (hello_sent_on moment) y.area.links in
    let same_router : m.router ≡ n.router =
    forgets n (is_over_for moment link.interface.dead_interval n.exchanged) in
    let one_due : due_keys moment q.router ≡ key ∷ [] =
    alone_due q.router moment due.nothing_announced due.is_due_now in
    let begun_so : event.after ≡ after =
    event.own
    ∙ ap (after_tick moment) (begins moment old due.nothing_ages)
    ∙ ap (λ z. rest_of_tick moment (originate_due moment (due_keys moment z.router) z))
    (rests r link n moment due.is_heard)
    ∙ ap (λ keys. rest_of_tick moment (originate_due moment keys q)) one_due
    ∙ ap (rest_of_tick moment) (originates moment copy q due.copy_there due.counts_on due.room
    (still_over moment (beside r link (full m)) key due.is_over)) in
    let newly : Lsa = new_instance key copy (router_body q.router.area.links) in
    let seen_same : who (send_again moment link.interface.retransmit_interval o.area.database
    (full (add_retransmission moment newly.header m))).neighbor ≡ who (full n) =
    again_keeps moment link.interface.retransmit_interval o.area.database
    (add_retransmission moment newly.header m) ∙ (λ i. (same_router i, (full n).state)) in
    let end : end_event old moment event.after ≡ ended moment after =
    ap (end_event old moment) begun_so
    ∙ ends old moment after (λ i. (link.interface, Some (seen_same i)) ∷ []) refl in
    let content : List Send → List Send = λ rest. record {
      interface = 1;
      content = Content.Updates newly;
    } ∷ rest in
    let in_order : (resent ++ (waiting_acknowledgments link ++ [])) ++ hellos ≡ resent
    ++ (waiting_acknowledgments link ++ hellos) =
    ap (λ a. (resent ++ a) ++ hellos) (append-nil (waiting_acknowledgments link))
    ∙ append_assoc resent (waiting_acknowledgments link) hellos in
    let as_told : newly ≡ lsa = ap (λ id. new_instance key copy (router_body (record link {
      neighbor = Some (full (record n { router = id }));
    } ∷ []))) same_router in (
      resent,
      hellos,
      event.sent ∙ ap (λ (z : EventState). outs_of r.id old.area.links z.sends) end
          ∙ ap (λ rest. outs_of r.id old.area.links (content rest)) in_order
          ∙ ap (λ l. outs_of r.id old.area.links (record {
            interface = 1;
            content = Content.Updates l;
          }
          ∷ (resent ++ (waiting_acknowledgments link ++ hellos)))) as_told,
    )

none_due : (r : Router) (moment : ℕ) → finite.keys r.announced ≡ []
    → is_due moment r (router_key r.id) ≡ false → due_keys moment r ≡ []
none_due r moment none due =
    (λ i. filter (is_due moment r) (router_key r.id ∷ none i))
    ∙ (λ i. cond (due i) (router_key r.id ∷ []) [])

tick_acknowledges : (r new : Router) (link : Link) (n : Neighbor) (moment : ℕ) (outs : List Out)
    → IsNothingDue r link n moment → Happens (beside r link (full n)) moment Occurrence.Tick outs
    new → (again more : List Send) ×
    (outs ≡ outs_of r.id (beside r link (full n)).area.links
    (again ++ (waiting_acknowledgments link ++ more)))
tick_acknowledges r new link n moment outs idle event =
    let old : Router = beside r link (full n) in
    let m : Neighbor = settled link n moment in
    let q : EventState = resting r link n moment in
    let after : EventState = rest_of_tick moment q in
    let o : AreaState = record { area = q.router.area; sends = [] } in
    let y : AreaState = send_acknowledgments moment (send_all_again moment o) in
    let resent : List Send = stepping_sends (again moment o) o.area.links in
    let hellos : List Send = sends_of (hello_sent_on moment) y.area.links in
    let same_router : m.router ≡ n.router =
    forgets n (is_over_for moment link.interface.dead_interval n.exchanged) in
    let begun_so : event.after ≡ after =
    event.own
    ∙ ap (after_tick moment) (begins moment old idle.nothing_ages)
    ∙ ap (λ z. rest_of_tick moment (originate_due moment (due_keys moment z.router) z))
    (rests r link n moment idle.is_heard)
    ∙ ap (λ keys. rest_of_tick moment (originate_due moment keys q))
    (none_due q.router moment idle.nothing_announced idle.not_due) in
    let seen_same : who (send_again moment link.interface.retransmit_interval o.area.database
    (full m)).neighbor ≡ who (full n) =
    again_keeps moment link.interface.retransmit_interval o.area.database m
    ∙ (λ i. (same_router i, (full n).state)) in
    let end : end_event old moment event.after ≡ ended moment after =
    ap (end_event old moment) begun_so
    ∙ ends old moment after (λ i. (link.interface, Some (seen_same i)) ∷ []) refl in
    let in_order : (resent ++ (waiting_acknowledgments link ++ [])) ++ hellos ≡ resent
    ++ (waiting_acknowledgments link ++ hellos) =
    ap (λ a. (resent ++ a) ++ hellos) (append-nil (waiting_acknowledgments link))
    ∙ append_assoc resent (waiting_acknowledgments link) hellos in (
      resent,
      hellos,
      event.sent ∙ ap (λ (z : EventState). outs_of r.id old.area.links z.sends) end
          ∙ ap (outs_of r.id old.area.links) in_order,
    )

pub tick_originates : ATickOriginates
unfolding sealed_lsa
tick_originates = record {
  first_number = λ r link n. refl;
  next_number = λ r link n c. refl;
  sends = tick_sends;
  acknowledges = tick_acknowledges;
}
