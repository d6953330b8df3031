-- LSInfinity as the metric withholds a destination, and the largest metric below it announces it.
use Rattle.std.proofs.Common.{◌≡◌, ◌<◌, ℕ, true, cond, ◌&&◌, List, Option, None, Some, refl, ap}
use Rattle.std.proofs.Common.{subst, ◌∙◌, arith}
use Rattle.std.specs.FinMap as finite
use Rattle.words.specs.declared.key.Key.{Key}
use Rattle.words.specs.declared.route.External.{External}
use Rattle.lsa.specs.Origination.{sealed_lsa}
use Rattle.lsa.specs.declared.body.LsaBody.{LsaBody}
use Rattle.lsdb.specs.Copies.{DatabaseCopy}
use Rattle.lsdb.specs.Headers.{Lsa, lsa_key}
use Rattle.received.specs.Flooding.{flood_to}
use Rattle.received.specs.Links.{any_has_retransmission}
use Rattle.received.specs.AreaStates.{AreaState, stepping_sends}
use Rattle.event_rules.specs.declared.model.Out.{Out}
use Rattle.event_rules.specs.Commands.{after_redistribute, announce, answered_external}
use Rattle.event_rules.specs.Commands.{is_announced_as}
use Rattle.event_rules.specs.Commands.{unannounce}
use Rattle.event_rules.specs.Endings.{end_event, stays_as}
use Rattle.event_rules.specs.Events.{Happens}
use Rattle.event_rules.specs.EventState.{EventState, on_area, on_router}
use Rattle.event_rules.specs.Originations.{announced_body, as_originated, external_body}
use Rattle.event_rules.specs.Originations.{external_key}
use Rattle.event_rules.specs.Originations.{flush, flush_copy, has_max_sequence, install_and_flood}
use Rattle.event_rules.specs.Originations.{new_instance, originate_anyway, originate_body, postpone}
use Rattle.event_rules.specs.Originations.{wanted_body}
use Rattle.event_rules.specs.Routers.{Occurrence, Router}
use Rattle.agreement_laws.specs.WorkedMetrics.{MayAnnounce, MetricsAnnounceOrWithhold}
use Rattle.agreement_laws.specs.WorkedMetrics.{first_external}
use Rattle.agreement_laws.specs.WorkedUpdates.{IsAtRest}
use Rattle.agreement_laws.proofs.WorkedEnds.{begins, ended, ends, got}
use Rattle.agreement_laws.proofs.WorkedLinks.{flooding_keeps, stepped_seen}
use Rattle.agreement_laws.proofs.WorkedUpdates.{IsStill, inserted, mark_all, start, stays_young}
use Rattle.agreement_laws.proofs.WorkedUpdates.{taken_off}

-- ---- the LSA

key_is : (r : Router) (e : External) (tag metric : ℕ) → lsa_key (first_external r e tag metric)
    ≡ external_key r.id e.prefix
unfolding sealed_lsa
key_is r e tag metric = refl

age_is : (r : Router) (e : External) (tag metric : ℕ) → (first_external r e tag metric).header.age
    ≡ 0
unfolding sealed_lsa
age_is r e tag metric = refl

-- ---- it is announced

announces : (old new : Router) (moment tag : ℕ) (e : External) (outs : List Out)
    → IsAtRest old moment → MayAnnounce old moment e
    → Happens old moment (Occurrence.Redistribute e tag e 16777214) outs new
    → (finite.get new.announced (external_key old.id e.prefix)
    ≡ Some (answered_external e tag 16777214))
    × ((sent : Option ℕ) × (finite.get new.area.database
    (external_key old.id e.prefix)
    ≡ Some (record {
      lsa = first_external old e tag 16777214;
      stored = moment;
      received = None;
      sent = sent;
    })))
announces old new moment tag e outs rest may event =
    let key : Key = external_key old.id e.prefix in
    let x : External = answered_external e tag 16777214 in
    let says : LsaBody = external_body x in
    let lsa : Lsa = first_external old e tag 16777214 in
    let p : EventState = start old in
    let q : EventState = on_router (announce key x) p in
    let said : EventState = on_router (as_originated moment key)
    (on_area (install_and_flood moment lsa) q) in
    let wanted : wanted_body q.router key ≡ Some says =
    ap announced_body (inserted old.announced key x) in
    let own : event.after ≡ said =
    event.own
    ∙ ap (after_redistribute moment e tag 16777214) (begins moment old rest.nothing_ages)
    ∙ (λ i. cond (is_announced_as x (may.unannounced i)) p (originate_anyway moment key q))
    ∙ (λ i. originate_body true moment key (wanted i) q)
    ∙ (λ i. cond (has_max_sequence (may.no_copy i)) (flush moment key q)
    (cond (true && may.is_over i) (on_router (as_originated moment key)
    (on_area (install_and_flood moment (new_instance key (may.no_copy i) says)) q))
    (on_router (postpone key) q))) in
    let end : end_event old moment event.after ≡ ended moment said =
    ap (end_event old moment) own ∙ ends old moment said
    (stepped_seen (flood_to moment None lsa) (flooding_keeps moment None lsa) old.area.links)
    rest.nobody in
    let router : new ≡ (ended moment said).router = event.router
    ∙ ap (λ (z : EventState). z.router) end in
    let o : AreaState = record { area = said.router.area; sends = said.sends } in
    let c : DatabaseCopy = record { lsa = lsa; stored = moment; received = None; sent = None } in
    let there : finite.get (finite.insert old.area.database (lsa_key lsa) c) key ≡ Some c =
    subst (λ k. finite.get (finite.insert old.area.database (lsa_key lsa) c) k ≡ Some c)
    (key_is old e tag 16777214) (inserted old.area.database (lsa_key lsa) c) in
    let still : IsStill o.area.database key c =
    mark_all moment (stepping_sends (flood_to moment None lsa) old.area.links) key c
    (finite.insert old.area.database (lsa_key lsa) c) there in
    let new_age : lsa.header.age < 3600 = omega (arith, age_is old e tag 16777214) in (
      ap (λ (r : Router). finite.get r.announced key) router ∙ inserted old.announced key x,
      (
        still.0,
        ap (λ (r : Router). finite.get r.area.database key) router
            ∙ got moment o key
            ∙ ap (λ y. cond (stays_as moment (any_has_retransmission key o.area.links) y) y None)
            still.1
            ∙ ap (λ b. cond b (Some (record c { sent = still.0 })) None)
            (stays_young moment (any_has_retransmission key o.area.links) lsa (record c {
              sent = still.0;
            }) refl refl new_age),
      ),
    )

-- ---- it is withheld

withholds : (old new : Router) (moment tag : ℕ) (e : External) (outs : List Out)
    → IsAtRest old moment → MayAnnounce old moment e
    → Happens old moment (Occurrence.Redistribute e tag e 16777215) outs new
    → (finite.get new.announced (external_key old.id e.prefix) ≡ None)
    × (finite.get new.area.database (external_key old.id e.prefix) ≡ None)
withholds old new moment tag e outs rest may event =
    let key : Key = external_key old.id e.prefix in
    let p : EventState = start old in
    let said : EventState = on_router (unannounce key) p in
    let own : event.after ≡ said =
    event.own
    ∙ ap (after_redistribute moment e tag 16777215) (begins moment old rest.nothing_ages)
    ∙ (λ i. on_area (flush_copy moment key (may.no_copy i)) said) in
    let end : end_event old moment event.after ≡ ended moment said = ap (end_event old moment) own
    ∙ ends old moment said refl rest.nobody in
    let router : new ≡ (ended moment said).router = event.router
    ∙ ap (λ (z : EventState). z.router) end in
    let o : AreaState = record { area = said.router.area; sends = said.sends } in (
      ap (λ (r : Router). finite.get r.announced key) router ∙ taken_off old.announced key,
      ap (λ (r : Router). finite.get r.area.database key) router
          ∙ got moment o key
          ∙ ap (λ y. cond (stays_as moment (any_has_retransmission key o.area.links) y) y None)
          may.no_copy,
    )

pub announce_or_withhold : MetricsAnnounceOrWithhold
announce_or_withhold = record { announces = announces; withholds = withholds }
