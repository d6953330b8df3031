-- An LSA in the router's own name that it doesn't originate.
use Rattle.std.proofs.Common.{◌≡◌, ℕ, ◌<◌, ◌==◌, true, false, cond, not, ◌||◌, Option, None, Some}
use Rattle.std.proofs.Common.{refl, sym, ap, ◌∙◌, subst, is_some}
use Rattle.std.specs.FinMap as finite
use Rattle.std.proofs.lemmas.Bool.{or_right}
use Rattle.words.specs.declared.key.Key.{Key}
use Rattle.lsdb.specs.Copies.{Database, DatabaseCopy, age_prematurely, install_flooded}
use Rattle.lsdb.specs.Headers.{Header, Lsa, header_with_age, lsa_with_age, lsa_key}
use Rattle.lsdb.specs.Instances.{ListEntry}
use Rattle.lsdb.specs.Keys.{same_key}
use Rattle.lsdb.specs.Order.{age_at, is_max_age}
use Rattle.adjacency.specs.Neighbors.{Neighbor}
use Rattle.adjacency.specs.Retransmissions.{add_retransmission, remove_retransmission}
use Rattle.received.specs.Cases.{Case}
use Rattle.received.specs.Links.{Link, any_has_retransmission}
use Rattle.received.specs.AreaStates.{AreaState, on_database}
use Rattle.event_rules.specs.Endings.{end_event, stays_as}
use Rattle.event_rules.specs.EventState.{EventState, flood_from_nobody, on_area}
use Rattle.event_rules.specs.Originations.{announced_body, flush_copy, should_originate}
use Rattle.event_rules.specs.Originations.{originate_or_flush, router_body, router_key, wanted_body}
use Rattle.event_rules.specs.Packets.{after_lsa}
use Rattle.event_rules.specs.Packing.{outs_of}
use Rattle.event_rules.specs.Routers.{Router}
use Rattle.agreement_laws.specs.WorkedFlush.{HasOnList, full}
use Rattle.agreement_laws.specs.WorkedOwn.{beside, sends_update}
use Rattle.agreement_laws.specs.WorkedUnannounced.{IsFlushed, WhatIsNotAnnouncedIsFlushed}
use Rattle.agreement_laws.specs.WorkedUpdates.{WaitsAt}
use Rattle.agreement_laws.proofs.WorkedEnds.{ended, ends, got}
use Rattle.agreement_laws.proofs.WorkedFlush.{aged}
use Rattle.agreement_laws.proofs.WorkedOwn.{put}
use Rattle.agreement_laws.proofs.WorkedUpdates.{inserted, is_young, itself, marked_once, new_case}
use Rattle.agreement_laws.proofs.WorkedUpdates.{own_part, same_age, start, brought}

abbrev flushed : Router → Link → Neighbor → ℕ → Lsa → EventState
flushed r link n moment lsa =
    on_area (λ o. flood_from_nobody moment (lsa_with_age 3600 lsa)
    (on_database (age_prematurely moment (lsa_key lsa)) o))
    (put r link moment lsa (remove_retransmission (lsa_key lsa) (full n)))

settles : (r : Router) (link : Link) (n : Neighbor) (moment : ℕ) (lsa : Lsa)
    → lsa.header.advertising_router ≡ r.id → same_key (lsa_key lsa) (router_key r.id) ≡ false
    → finite.get r.announced (lsa_key lsa) ≡ None → lsa.header.age < 3600
    → after_lsa Case.Newer moment 1 lsa (start (beside r link (full n)))
    ≡ flushed r link n moment lsa
settles r link n moment lsa mine other unknown young =
    let p : EventState = put r link moment lsa (remove_retransmission (lsa_key lsa) (full n)) in
    let key : Key = lsa_key lsa in
    let c : DatabaseCopy = brought lsa moment None in
    let own : (lsa.header.advertising_router == r.id) ≡ true = ap (λ (a : ℕ). a == r.id) mine
    ∙ itself r.id in
    let there : finite.get p.router.area.database key ≡ Some c = inserted r.area.database key c in
    let fresh : is_max_age (age_at lsa.header.age moment moment) ≡ false =
    ap is_max_age (same_age lsa.header.age moment young) ∙ is_young lsa.header.age young in
    (λ i. cond (own i) (originate_or_flush (should_originate (wanted_body p.router key)) moment key
    p) p)
    ∙ (λ i. originate_or_flush (should_originate
    (cond (other i) (Some (router_body p.router.area.links))
    (announced_body (finite.get r.announced key)))) moment key p)
    ∙ (λ i. originate_or_flush (should_originate (announced_body (unknown i))) moment key p)
    ∙ (λ i. on_area (flush_copy moment key (there i)) p)
    ∙ (λ i. on_area (λ q. cond (fresh i) q
    (flood_from_nobody moment (lsa_with_age 3600 lsa)
    (on_database (age_prematurely moment key) q))) p)

on_list : (r : Router) (link : Link) (n : Neighbor) (moment : ℕ) (lsa : Lsa)
    → HasOnList (ended moment (flushed r link n moment lsa)).router (lsa_key lsa) (Some (record {
      header = header_with_age 3600 lsa.header;
      at = moment;
    }))
on_list r link n moment lsa =
    let h : Header = header_with_age 3600 lsa.header in (
      add_retransmission moment h (remove_retransmission (lsa_key lsa) (full n)),
      refl,
      inserted (finite.remove (remove_retransmission (lsa_key lsa) (full n)).retransmissions
          (lsa_key lsa)) (lsa_key lsa) (record { header = h; at = moment }),
    )

is_flushed : (r : Router) (link : Link) (n : Neighbor) (moment : ℕ) (lsa : Lsa)
    → IsFlushed (ended moment (flushed r link n moment lsa)).router moment lsa
unfolding on_list
is_flushed r link n moment lsa =
    let key : Key = lsa_key lsa in
    let p : EventState = flushed r link n moment lsa in
    let o : AreaState = record { area = p.router.area; sends = p.sends } in
    let db : Database = install_flooded moment lsa r.area.database in
    let there : finite.get db key ≡ Some (brought lsa moment None) =
    inserted r.area.database key (brought lsa moment None) in
    let c : DatabaseCopy = record (brought lsa moment None) { lsa = lsa_with_age 3600 lsa } in
    let still = marked_once moment key key c (age_prematurely moment key db)
    (aged db key (brought lsa moment None) moment there) in
    let listed = on_list r link n moment lsa in
    let owed_by : any_has_retransmission key o.area.links ≡ true =
    ap (λ (e : Option ListEntry). is_some e || false) listed.2 in
    record {
      sent = still.0;
      copy = got moment o key
          ∙ ap (λ e. cond (stays_as moment (any_has_retransmission key o.area.links) e) e None)
          still.1
          ∙ ap (λ b. cond b (Some (record c {
            sent = still.0;
          })) None) (or_right (not (is_max_age (age_at 3600 moment moment)))
          (any_has_retransmission key o.area.links) owed_by);
      on_list = listed;
    }

pub unannounced : WhatIsNotAnnouncedIsFlushed
unannounced r new link n moment bytes lsa outs here text event =
    let old : Router = beside r link (full n) in
    let p : EventState = flushed r link n moment lsa in
    let own_is : event.after ≡ p =
    own_part old moment 1 bytes lsa (full n) event.after here.nothing_ages refl here.is_other refl
    text event.own
    ∙ ap (λ c. after_lsa c moment 1 lsa (start old))
    (new_case moment 1 lsa old.area here.is_absent here.is_young)
    ∙ settles r link n moment lsa here.is_own here.no_router_lsa here.no_destination here.is_young
    in
    let end : end_event old moment event.after ≡ ended moment p = ap (end_event old moment) own_is
    ∙ ends old moment p refl refl in
    let is : new ≡ (ended moment p).router = event.router ∙ ap (λ (q : EventState). q.router) end in
    subst (λ s. IsFlushed s moment lsa × WaitsAt s 1 lsa
    × (outs ≡ outs_of r.id old.area.links (sends_update (lsa_with_age 3600 lsa)))) (sym is) (
      is_flushed r link n moment lsa,
      (_, refl, inserted link.acknowledgments (lsa_key lsa) lsa.header),
      event.sent ∙ ap (λ (q : EventState). outs_of r.id old.area.links q.sends) end,
    )
