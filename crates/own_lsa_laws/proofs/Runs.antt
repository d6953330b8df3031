-- Every event keeps the invariant of the router's own copies, and so does every run from the start.
use Rattle.std.proofs.Common.{◌≡◌, ℕ, ◌+◌, ◌<◌, ◌≤◌, Bool, true, false, cond, ◌&&◌, ◌⊎◌, inl, inr}
use Rattle.std.proofs.Common.{List, [], ◌∷◌, map, Option, None, Some, refl, sym, ap, subst, ◌∙◌}
use Rattle.std.proofs.Common.{arith, true≢false}
use Rattle.std.specs.FinMap as finite
use Rattle.std.specs.FinSet as set
use Rattle.std.proofs.lemmas.Bool.{both_ways}
use Rattle.words.specs.declared.key.Key.{Key}
use Rattle.words.specs.declared.route.External.{External}
use Rattle.lsa.specs.Text.{body_text}
use Rattle.lsa.specs.declared.body.LsaBody.{LsaBody}
use Rattle.lsdb.specs.Copies.{DatabaseCopy, is_aged_out}
use Rattle.lsdb.specs.Headers.{lsa_key}
use Rattle.lsdb.specs.Keys.{ByKey, KeySet, key_cmp, same_key}
use Rattle.lsdb.proofs.Keys.{keys_total}
use Rattle.adjacency.proofs.Kept.{chosen}
use Rattle.adjacency.proofs.Maps.{AllIn, none_in}
use Rattle.event_rules.specs.declared.model.Config.{Config}
use Rattle.event_rules.specs.declared.model.Out.{Out}
use Rattle.event_rules.specs.Endings.{end_event, link_loading_done, start_event}
use Rattle.event_rules.specs.Events.{Happens, OwnPart, Run, Step, initial}
use Rattle.event_rules.specs.EventState.{EventState, on_router}
use Rattle.event_rules.specs.Originations.{due_keys, external_body, flush, has_max_sequence}
use Rattle.event_rules.specs.Originations.{has_room}
use Rattle.event_rules.specs.Originations.{is_recent, may_originate, originate, originate_body}
use Rattle.event_rules.specs.Originations.{originate_or_postpone, postpone, router_body, router_key}
use Rattle.event_rules.specs.Originations.{wanted_body}
use Rattle.event_rules.specs.Routers.{Occurrence, Router, unannounced_router}
use Rattle.event_rules.specs.Ticks.{after_tick}
use Rattle.invariants.proofs.Retransmitted.{retransmissions_are_of_the_database}
use Rattle.event_rules.specs.Clocks.{ClockRunsOn}
use Rattle.own_lsa_laws.specs.OwnCopies.{EndsWithTick, IsHeldBack, IsSelfOriginated}
use Rattle.own_lsa_laws.specs.OwnCopies.{IsToBeReplaced, NobodySpeaksForThisRouter}
use Rattle.own_lsa_laws.specs.OwnCopies.{HasWantedBody}
use Rattle.own_lsa_laws.proofs.Agreeing.{same_of_text, tick_agrees}
use Rattle.own_lsa_laws.proofs.Ended.{Rests, among, ended_kept, is_among, packet_kept}
use Rattle.own_lsa_laws.proofs.Ended.{redistribute_kept, run_down, text_of, tick_faces, tick_kept}
use Rattle.own_lsa_laws.proofs.Ended.{told, waits_are_due, withdraw_kept}
use Rattle.own_lsa_laws.proofs.Faces.{ages_faces, body_faces, faces, same_faces}
use Rattle.own_lsa_laws.proofs.Parts.{FitsAt, InProgress, ages_kept, excused, full, or_wait_kept}
use Rattle.own_lsa_laws.proofs.Standing.{Fits, IsWanted, Standing, Terms, all_so, at_copy, recast}
use Rattle.own_lsa_laws.proofs.Standing.{stays_aged, wanted_external, wanted_router_lsa, wants}

-- ---- a router between events

abbrev anything : Key → Type 0
anything key = Unit {0}

abbrev at_rest : Router → EventState
at_rest r = record { router = r; sends = [] }

-- whatever waits may wait
abbrev Stands : Router → Type 0
Stands r = Rests anything r.moment (at_rest r)

-- ---- the start of the event

-- what the router-LSA said, it said before the event; what may wait, waits
begun : (was moment : ℕ) → was ≤ moment
    → (text now : List ℕ) (may_wait : Key → Type 0) (id : ℕ) (a : ByKey External) (w : KeySet)
    (o s : ByKey ℕ) → ((q : Key) (at : ℕ) → finite.get s q ≡ Some at → finite.get o q ≡ Some at)
    → ((q : Key) → IsWanted id a q → set.contains w q ≡ true → may_wait q)
    → (q : Key) (c : DatabaseCopy) → Fits was (told text anything) id a w o q c
    → Fits moment (record {
      before = text;
      now = now;
      may_wait = may_wait;
      excused = λ k. ⊥;
    }) id a w s q c
begun was moment later text now may_wait id a w o s back may q c fits =
    (λ at last. fits.0 at (back q at last), λ own. by_case (fits.1 own))
  where
    by_case : Standing was (told text anything) id a w o q c.lsa c.stored
        → Standing moment (record {
          before = text;
          now = now;
          may_wait = may_wait;
          excused = λ k. ⊥;
        }) id a w s q c.lsa
        c.stored
    by_case (Standing.Aged is) = Standing.Aged
        (stays_aged c.lsa.header.age c.stored was moment is later)
    by_case (Standing.Says e other there is) = Standing.Says e other there is
    by_case (Standing.SaidBefore same is) = Standing.SaidBefore same is
    by_case (Standing.SaysNow same is) = Standing.SaidBefore same is
    by_case (Standing.Waits any wanted there) = Standing.Waits (may q wanted there) wanted there
    by_case (Standing.HeldBack at wanted there last recent) =
        Standing.Waits (may q wanted there) wanted there
    by_case (Standing.Excused out) = absurd out

module _ (old : Router) (moment : ℕ) (later : old.moment ≤ moment) (h : Stands old) where
  abbrev text : List ℕ
  text = text_of (at_rest old)

  abbrev start : EventState
  start = start_event moment old

  start_faces : faces start.router.area.links ≡ faces old.area.links
  start_faces = ages_faces old.moment moment (finite.entries old.area.database) (record {
    area = old.area;
    sends = [];
  })

  start_text : text_of start ≡ text
  start_text = ap body_text (same_faces old.area.links start.router.area.links start_faces)

  max_age_copies : AllIn (FitsAt old.moment (told text anything) old) start.router.area.database
  max_age_copies = ages_kept old.moment old.moment moment (told text anything) old
      (finite.entries old.area.database) (record { area = old.area; sends = [] }) h.copies

  earlier_so : (key : Key) (at : ℕ) → finite.get old.originated key ≡ Some at → at ≤ moment
  earlier_so key at last = let first : at ≤ old.moment = h.earlier key at last in omega arith

  -- ---- events other than a Tick

  abbrev plain : Terms
  plain = told text anything

  started : InProgress moment plain start
  started = record {
    externals = h.externals;
    earlier = earlier_so;
    copies = all_so (FitsAt old.moment plain old) (FitsAt moment plain old)
        start.router.area.database
        (λ q c there fits. begun old.moment moment later text text anything old.id old.announced
        old.waiting old.originated old.originated (λ k at last. last) (λ k wanted waits. tt) q c
        fits) max_age_copies;
  }

  -- ---- a Tick

  abbrev first : EventState
  first = run_down moment start

  abbrev of_tick : Terms
  of_tick = record { before = text; now = text_of first; may_wait = anything; excused = λ q. ⊥ }

  if_recent : (b : Bool) (o : Option ℕ) (at : ℕ) → cond b o None ≡ Some at → o ≡ Some at
  if_recent true o at e = e
  if_recent false o at e = absurd cc

  remembered : (key : Key) (at : ℕ) → finite.get first.router.originated key ≡ Some at
      → finite.get old.originated key ≡ Some at
  remembered key at last =
      if_recent (is_recent moment (finite.get old.originated key)) (finite.get old.originated key)
      at
      (sym (finite.get-retain_keys old.originated
      (λ k. is_recent moment (finite.get old.originated k)) key
      (λ k tie. ap (λ (o : Option ℕ). is_recent moment o)
      (finite.get_tied keys_total old.originated key k tie))) ∙ last)

  ran_down : InProgress moment (full (among (due_keys moment first.router) of_tick)) first
  ran_down = record {
    externals = h.externals;
    earlier = λ key at last. earlier_so key at (remembered key at last);
    copies = all_so (FitsAt old.moment plain old)
        (FitsAt moment (full (among (due_keys moment first.router) of_tick)) first.router)
        start.router.area.database
        (λ q c there fits. begun old.moment moment later text (text_of first)
        (λ k. is_among k (due_keys moment first.router) ≡ true) old.id old.announced old.waiting
        old.originated
        first.router.originated remembered
        (λ k wanted waits. waits_are_due moment first.router k wanted waits) q c fits)
        max_age_copies;
  }

  ticked : InProgress moment (full (among [] of_tick)) (after_tick moment start)
  ticked = tick_kept moment of_tick start refl ran_down

  tick_agreed : text ≡ body_text (router_body
      (map link_loading_done (after_tick moment start).router.area.links)) → text_of first ≡ text
  tick_agreed same =
      ap body_text (tick_agrees moment start.router.area.links
      (after_tick moment start).router.area.links (tick_faces moment start) (start_text ∙ same))
      ∙ start_text

  pub tick_rests : (after : EventState) → after ≡ after_tick moment start
      → Rests (λ q. false ≡ true) moment (end_event old moment after)
  tick_rests after is =
      subst (λ (p : EventState). Rests (λ q. false ≡ true) moment (end_event old moment p)) (sym is)
      (ended_kept old moment (among [] of_tick) (after_tick moment start) refl tick_agreed ticked)

  -- ---- the complete event

  plainly : (after : EventState) → InProgress moment plain after
      → Rests anything moment (end_event old moment after)
  plainly after so = ended_kept old moment plain after refl (λ same. refl) so

  loosened : (p : EventState) → Rests (λ q. false ≡ true) moment p → Rests anything moment p
  loosened p so =
      let r : Router = p.router in
      record {
        externals = so.externals;
        earlier = so.earlier;
        copies = all_so (FitsAt moment (told (text_of p) (λ q. false ≡ true)) r)
            (FitsAt moment (told (text_of p) anything) r) r.area.database
            (λ q c there fits. (
              fits.0,
              λ own. recast moment (told (text_of p) (λ q. false ≡ true))
                  (told (text_of p) anything) r.id r.announced r.announced r.waiting r.waiting
                  r.originated r.originated q c.lsa c.stored (record {
                    announced = λ e away there. there;
                    waiting = λ there. there;
                    originated = λ at last. last;
                    before = λ same is. Standing.SaidBefore same is;
                    now = λ same is. Standing.SaysNow same is;
                    may_wait = λ may wanted there. Standing.Waits tt wanted there;
                    excused = λ out. absurd out;
                  }) (fits.1 own),
            )) so.copies;
      }

  rests : (event : Occurrence) (after : EventState) → OwnPart moment event start after
      → Rests anything moment (end_event old moment after)
  rests (Occurrence.Packet number bytes) after part =
      plainly after (subst (InProgress moment plain) (sym part.2)
      (packet_kept moment plain number part.0 start start_text started))
  rests Occurrence.Tick after part = loosened (end_event old moment after) (tick_rests after part)
  rests (Occurrence.Redistribute tagged tag priced price) after part =
      plainly after (subst (InProgress moment plain) (sym part)
      (redistribute_kept moment plain priced tag price start started))
  rests (Occurrence.Withdraw prefix) after part =
      plainly after (subst (InProgress moment plain) (sym part)
      (withdraw_kept moment plain prefix start started))
  rests (Occurrence.Install answers) after part =
      plainly after (subst (InProgress moment plain) (sym part) (record {
        externals = started.externals;
        earlier = started.earlier;
        copies = started.copies;
      }))
  rests (Occurrence.LinkDown number) after part =
      plainly after (subst (InProgress moment plain) (sym part) (record {
        externals = started.externals;
        earlier = started.earlier;
        copies = started.copies;
      }))

-- the packets that are sent don't matter
unsent : (may_wait : Key → Type 0) (moment : ℕ) (p : EventState) → Rests may_wait moment p
    → Rests may_wait moment (at_rest p.router)
unsent may_wait moment p so = record {
  externals = so.externals;
  earlier = so.earlier;
  copies = so.copies;
}

event_kept : (old : Router) (moment : ℕ) (event : Occurrence) (outs : List Out) (new : Router)
    → Happens old moment event outs new → old.moment ≤ moment → Stands old → Stands new
event_kept old moment event outs new happens later h =
    subst Stands (sym happens.router)
    (unsent anything moment (end_event old moment happens.after)
    (rests old moment later h event happens.after happens.own))

-- ---- the start

moment_kept : (may_now : Bool) (moment : ℕ) (key : Key) (wanted : Option LsaBody) (p : EventState)
    → (originate_body may_now moment key wanted p).router.moment ≡ p.router.moment
moment_kept may_now moment key None p = refl
moment_kept may_now moment key (Some says) p =
    let may : Bool = may_originate moment key p.router in
    let Same = λ (q : EventState). q.router.moment ≡ p.router.moment in
    chosen Same (has_max_sequence (finite.get p.router.area.database key)) (flush moment key p)
    (cond (may_now && may) (originate moment key says p) (on_router (postpone key) p))
    (λ is. refl) (λ is. chosen Same (may_now && may) (originate moment key says p)
    (on_router (postpone key) p) (λ goes. refl) (λ waits. refl))

no_external : (key : Key) (e : External)
    → finite.get (finite.empty {X = External} {R = key_cmp}) key ≡ Some e → key.ls_type ≡ 5
no_external key e there = let nothing : None ≡ Some e = sym (finite.get-empty key_cmp key)
    ∙ there in absurd cc

no_moment : (moment : ℕ) (key : Key) (at : ℕ) → finite.get (finite.empty {X = ℕ} {R = key_cmp}) key
    ≡ Some at → at ≤ moment
no_moment moment key at last = let nothing : None ≡ Some at = sym (finite.get-empty key_cmp key)
    ∙ last in absurd cc

module _ (c : Config) where
  abbrev bare : EventState
  bare = at_rest (unannounced_router c)

  abbrev key : Key
  key = router_key c.router

  abbrev begins : EventState
  begins = originate_or_postpone c.start key bare

  bare_so : InProgress c.start (told (text_of bare) anything) bare
  bare_so = record {
    externals = no_external;
    earlier = no_moment c.start;
    copies = none_in (FitsAt c.start (told (text_of bare) anything) bare.router);
  }

  begins_so : InProgress c.start (told (text_of bare) anything) begins
  begins_so = or_wait_kept c.start (told (text_of bare) anything) key bare
      (λ none. bare_so) (λ same. refl)
      (excused c.start (told (text_of bare) anything) key bare bare_so)

  begins_moment : begins.router.moment ≡ c.start
  begins_moment = moment_kept (has_room key bare.router) c.start key (wanted_body bare.router key)
      bare

  begins_faces : faces begins.router.area.links ≡ faces bare.router.area.links
  begins_faces = body_faces (has_room key bare.router) c.start key (wanted_body bare.router key)
      bare

  begins_rests : Rests anything c.start begins
  begins_rests = subst (λ (t : List ℕ). InProgress c.start (told t anything) begins)
      (ap body_text (sym (same_faces bare.router.area.links begins.router.area.links begins_faces)))
      begins_so

  initial_kept : Stands (initial c)
  initial_kept = subst (λ (m : ℕ). Rests anything m (at_rest (initial c))) (sym begins_moment)
      (unsent anything c.start begins begins_rests)

  initial_moment : (initial c).moment ≡ c.start
  initial_moment = begins_moment

-- ---- runs

run_kept : (steps : List Step) (old new : Router) → ClockRunsOn old.moment steps → Run old steps new
    → Stands old → Stands new
run_kept [] old new clock same h = subst Stands (sym same) h
run_kept (s ∷ steps) old new clock run h =
    let at : run.0.moment ≡ s.moment = ap (λ (r : Router). r.moment) run.1.router in
    run_kept steps run.0 new (subst (λ (m : ℕ). ClockRunsOn m steps) (sym at) clock.1) run.2
    (event_kept old s.moment s.event s.outs run.0 run.1 clock.0 h)

runs : (c : Config) (steps : List Step) (r : Router) → ClockRunsOn c.start steps
    → Run (initial c) steps r → Stands r
runs c steps r clock run = run_kept steps (initial c) r
    (subst (λ (m : ℕ). ClockRunsOn m steps) (sym (initial_moment c)) clock) run (initial_kept c)

-- ---- in terms of the law

-- it has the wanted body, or may wait, or only MinLSInterval prevents the replacement
module _ (may_wait : Key → Type 0) (r : Router) (key : Key) (copy : DatabaseCopy)
    (so : Rests may_wait r.moment (at_rest r)) (own : IsSelfOriginated r key copy)
    (keyed : lsa_key copy.lsa ≡ key) where
  abbrev Told : Type 0
  Told = HasWantedBody r key copy
      ⊎ ((may_wait key × IsToBeReplaced r key) ⊎ IsHeldBack r key copy)

  fits : FitsAt r.moment (told (text_of (at_rest r)) may_wait) r key copy
  fits = at_copy (FitsAt r.moment (told (text_of (at_rest r)) may_wait) r) r.area.database key copy
      own.there so.copies

  says_router_lsa : same_key key (router_key r.id) ≡ true → body_text copy.lsa.body
      ≡ text_of (at_rest r) → HasWantedBody r key copy
  says_router_lsa same is = record {
    says = router_body r.area.links;
    wanted = wanted_router_lsa r key same;
    same = same_of_text copy.lsa.body (router_body r.area.links) is;
  }

  replaced : IsWanted r.id r.announced key → set.contains r.waiting key ≡ true
      → IsToBeReplaced r key
  replaced wanted there = record {
    says = (wants r key wanted).0;
    wanted = (wants r key wanted).1;
    waits = there;
  }

  by_case : Standing r.moment (told (text_of (at_rest r)) may_wait) r.id r.announced r.waiting
      r.originated key copy.lsa copy.stored → Told
  by_case (Standing.Aged is) = absurd (both_ways (is_aged_out r.moment copy) own.young is)
  by_case (Standing.Says e other there is) = inl (record {
    says = external_body e;
    wanted = wanted_external r key e other there;
    same = same_of_text copy.lsa.body (external_body e) is;
  })
  by_case (Standing.SaidBefore same is) = inl (says_router_lsa same is)
  by_case (Standing.SaysNow same is) = inl (says_router_lsa same is)
  by_case (Standing.Waits may wanted there) = inr (inl (may, replaced wanted there))
  by_case (Standing.HeldBack at wanted there last recent) =
      inr (inr (record {
        replaced = replaced wanted there;
        originated = at;
        last = last;
        before = fits.0 at last;
        recent = recent;
      }))
  by_case (Standing.Excused out) = absurd out

  is_told : Told
  is_told = by_case (fits.1 (ap (λ (k : Key). k.advertising_router) (sym keyed) ∙ own.own))

always : (c : Config) (steps : List Step) (r : Router) → ClockRunsOn c.start steps
    → Run (initial c) steps r → (key : Key) (copy : DatabaseCopy) → IsSelfOriginated r key copy
    → HasWantedBody r key copy ⊎ IsToBeReplaced r key
always c steps r clock run key copy own =
    by_case (is_told anything r key copy (runs c steps r clock run) own
    ((retransmissions_are_of_the_database.run c steps r run).keys key copy own.there))
  where
    by_case : HasWantedBody r key copy
        ⊎ ((anything key × IsToBeReplaced r key) ⊎ IsHeldBack r key copy)
        → HasWantedBody r key copy ⊎ IsToBeReplaced r key
    by_case (inl says) = inl says
    by_case (inr (inl waits)) = inr waits.1
    by_case (inr (inr held)) = inr held.replaced

tick_stands : (c : Config) (moment : ℕ) (r : Router) → EndsWithTick c moment r
    → Rests (λ q. false ≡ true) r.moment (at_rest r)
tick_stands c moment r ends =
    let h : Stands ends.before = runs c ends.steps ends.before ends.clock ends.run in
    subst (λ (new : Router). Rests (λ q. false ≡ true) new.moment (at_rest new))
    (sym ends.tick.router)
    (unsent (λ q. false ≡ true) moment (end_event ends.before moment ends.tick.after)
    (tick_rests ends.before moment ends.later h ends.tick.after ends.tick.own))

tick_keyed : (c : Config) (moment : ℕ) (r : Router) → EndsWithTick c moment r
    → (key : Key) (copy : DatabaseCopy) → finite.get r.area.database key ≡ Some copy
    → lsa_key copy.lsa ≡ key
tick_keyed c moment r ends key copy there =
    (retransmissions_are_of_the_database.event ends.before moment Occurrence.Tick ends.outs r
    ends.tick (retransmissions_are_of_the_database.run c ends.steps ends.before ends.run)).keys
    key copy there

after_ticks : (c : Config) (moment : ℕ) (r : Router) → EndsWithTick c moment r
    → (key : Key) (copy : DatabaseCopy) → IsSelfOriginated r key copy → HasWantedBody r key copy
    ⊎ IsHeldBack r key copy
after_ticks c moment r ends key copy own =
    by_case (is_told (λ q. false ≡ true) r key copy (tick_stands c moment r ends) own
    (tick_keyed c moment r ends key copy own.there))
  where
    by_case : HasWantedBody r key copy
        ⊎ (((false ≡ true) × IsToBeReplaced r key) ⊎ IsHeldBack r key copy)
        → HasWantedBody r key copy ⊎ IsHeldBack r key copy
    by_case (inl says) = inl says
    by_case (inr (inl waits)) = absurd (true≢false (sym waits.0))
    by_case (inr (inr held)) = inr held

in_five : (c : Config) (moment : ℕ) (r : Router) → EndsWithTick c moment r
    → (key : Key) (copy : DatabaseCopy) → IsSelfOriginated r key copy → copy.stored + 5 ≤ moment
    → HasWantedBody r key copy
in_five c moment r ends key copy own past = by_case (after_ticks c moment r ends key copy own)
  where
    at : r.moment ≡ moment
    at = ap (λ (x : Router). x.moment) ends.tick.router

    too_late : (stored originated now moment : ℕ) → now ≡ moment → originated ≤ stored
        → now < originated + 5 → stored + 5 ≤ moment → ⊥
    too_late stored originated now moment at before recent past = omega arith

    by_case : HasWantedBody r key copy ⊎ IsHeldBack r key copy → HasWantedBody r key copy
    by_case (inl says) = says
    by_case (inr held) = absurd (too_late copy.stored held.originated r.moment moment at held.before
        held.recent past)

pub nobody_speaks : NobodySpeaksForThisRouter
nobody_speaks = record { always = always; tick = after_ticks; in_five_seconds = in_five }
