use Rattle.std.proofs.Common.{◌≡◌, ◌≤◌, None, sym, ap, ◌∙◌, subst, arith}
use Rattle.area_routes.specs.Kept.{AreKept, KeepsWalkUnlessChanged}
use Rattle.event_rules.specs.Routers.{Router}
use Rattle.invariants.specs.Keeping.{AreTexts}
use Rattle.router.specs.Full.{full_routers}
use Rattle.router.specs.Kept.{KeptRouter}
use Rattle.router.specs.Making.{interfaces_of}
use Rattle.router.proofs.Making.{as_many_links}
use Rattle.flood.specs.Early.{early_refusal}
use Rattle.flood.specs.Occurrences.{occurrence_of}
use Rattle.flood.specs.Parts.{HasInterface, RefusesAtLimit, made_state}
use Rattle.flood.proofs.Answering.{clock_is_on}
use Rattle.flood.proofs.Early.{first_is_late, none_of_event}
use Rattle.flood.proofs.Happening.{made_answers, made_happens, made_has_room, made_holds, made_id}
use Rattle.flood.proofs.Happening.{made_keeps, made_order}
use Rattle.flood.proofs.Happening.{made_lawful}
use Rattle.flood.proofs.Made.{few_drafts, if_ok, if_ok_with, made_drafts, made_router, made_sent}
use Rattle.flood.proofs.Made.{made_whole, ok_if, on_ok, stays_within}
use Rattle.flood.proofs.Refusing.{event_answers}
use Rattle.flood.proofs.processing.process_event.Goals as goal

pub apply_part-requires : goal.apply_part-requires
apply_part-requires c = record {
  interface = subst (HasInterface c.in_ok-part.part)
      (sym (as_many_links c.in_ok-flood_aged.ensures.makes)) c.in_ok-part.ensures.interface;
}

pub end_event-requires-clause-before : goal.end_event-requires-clause-before
end_event-requires-clause-before c =
    let kept = c.in_ok-apply_part.ensures.committed ∙ c.in_ok-flood_aged.ensures.committed
    ∙ c.requires.committed in
    c.deref.ensures.value ∙ c.in_ok-full.ensures
    ∙ ap (λ (r : Router). full_routers r.area.links) (sym kept)

pub end_event-requires-clause-interfaces : goal.end_event-requires-clause-interfaces
end_event-requires-clause-interfaces c =
    let kept = c.in_ok-apply_part.ensures.committed ∙ c.in_ok-flood_aged.ensures.committed
    ∙ c.requires.committed in
    c.in_ok-apply_part.ensures.makes.interfaces ∙ c.in_ok-flood_aged.ensures.makes.interfaces
    ∙ ap (λ (r : Router). interfaces_of r.area.links) (sym kept)

pub pack_and_update_routes-requires-clause-drafts :
    goal.pack_and_update_routes-requires-clause-drafts
pack_and_update_routes-requires-clause-drafts c =
    let old = c.args.router.now in
    let event = occurrence_of c.args.event.now in
    let whole = made_whole old c.flood_aged.new.self c.apply_part.new.router c.end_event.new.router
    c.args.moment c.in_ok-part.part c.requires.committed c.in_ok-flood_aged.ensures.makes
    c.in_ok-apply_part.ensures.makes c.in_ok-end_event.ensures.makes in
    let new = c.take_drafts.new.self.present in
    let is = ap (λ (r : KeptRouter). r.present) c.in_ok-drafts.ensures.rest in
    let room = made_has_room old.present c.args.moment event c.in_ok-part.part
    c.in_ok-part.ensures.part c.requires.roomy in
    let are = made_drafts old c.end_event.new.router new c.in_ok-drafts.drafts.items c.args.moment
    c.in_ok-part.part whole c.requires.drafted is c.in_ok-drafts.ensures.drafts room in
    let sends = (made_state old.present c.args.moment c.in_ok-part.part).sends in
    (old.present.area.links, sends, are)

pub pack_and_update_routes-requires-clause-few : goal.pack_and_update_routes-requires-clause-few
pack_and_update_routes-requires-clause-few c =
    let old = c.args.router.now in
    let event = occurrence_of c.args.event.now in
    let whole = made_whole old c.flood_aged.new.self c.apply_part.new.router c.end_event.new.router
    c.args.moment c.in_ok-part.part c.requires.committed c.in_ok-flood_aged.ensures.makes
    c.in_ok-apply_part.ensures.makes c.in_ok-end_event.ensures.makes in
    let new = c.take_drafts.new.self.present in
    let is = ap (λ (r : KeptRouter). r.present) c.in_ok-drafts.ensures.rest in
    let room = made_has_room old.present c.args.moment event c.in_ok-part.part
    c.in_ok-part.ensures.part c.requires.roomy in
    let are = made_drafts old c.end_event.new.router new c.in_ok-drafts.drafts.items c.args.moment
    c.in_ok-part.part whole c.requires.drafted is c.in_ok-drafts.ensures.drafts room in
    let sends = (made_state old.present c.args.moment c.in_ok-part.part).sends in
    few_drafts old.present.area.links sends _ are c.requires.roomy.few

pub pack_and_update_routes-requires-clause-order : goal.pack_and_update_routes-requires-clause-order
pack_and_update_routes-requires-clause-order c =
    let old = c.args.router.now in
    let event = occurrence_of c.args.event.now in
    let whole = made_whole old c.flood_aged.new.self c.apply_part.new.router c.end_event.new.router
    c.args.moment c.in_ok-part.part c.requires.committed c.in_ok-flood_aged.ensures.makes
    c.in_ok-apply_part.ensures.makes c.in_ok-end_event.ensures.makes in
    let new = c.take_drafts.new.self.present in
    let is = ap (λ (r : KeptRouter). r.present) c.in_ok-drafts.ensures.rest in
    let at = made_router old c.end_event.new.router new c.in_ok-drafts.drafts.items c.args.moment
    c.in_ok-part.part whole c.requires.drafted is c.in_ok-drafts.ensures.drafts in
    let none : early_refusal old.present c.args.moment event ≡ None =
    sym c.early_refusal.ensures ∙ c.in_default.is in
    let first : c.moment-before.result ≡ old.present.moment = c.moment-before.ensures in
    let low : old.present.moment ≤ c.args.moment =
    clock_is_on old.present c.args.moment event
    (first_is_late old.present c.args.moment event none ∙ c.in_ok-part.ensures.tells) in
    let now : new.moment ≡ c.args.moment = ap (λ (r : Router). r.moment) at in
    omega (arith, first, low, now)

pub pack_and_update_routes-requires-clause-kept : goal.pack_and_update_routes-requires-clause-kept
pack_and_update_routes-requires-clause-kept c =
    let old = c.args.router.now in
    let event = occurrence_of c.args.event.now in
    let whole = made_whole old c.flood_aged.new.self c.apply_part.new.router c.end_event.new.router
    c.args.moment c.in_ok-part.part c.requires.committed c.in_ok-flood_aged.ensures.makes
    c.in_ok-apply_part.ensures.makes c.in_ok-end_event.ensures.makes in
    let new = c.take_drafts.new.self.present in
    let is = ap (λ (r : KeptRouter). r.present) c.in_ok-drafts.ensures.rest in
    let at = made_router old c.end_event.new.router new c.in_ok-drafts.drafts.items c.args.moment
    c.in_ok-part.part whole c.requires.drafted is c.in_ok-drafts.ensures.drafts in
    let kept = c.args.routes.now in
    let committed = c.in_ok-drafts.ensures.committed ∙ c.in_ok-end_event.ensures.committed
    ∙ c.in_ok-apply_part.ensures.committed ∙ c.in_ok-flood_aged.ensures.committed
    ∙ c.requires.committed in
    let same = ap (λ (r : Router). r.id) at
    ∙ made_id old.present c.args.moment event c.in_ok-part.part c.in_ok-part.ensures.part
    c.requires.order.own in
    subst (λ (s : Router). AreKept new.id s.area c.moment-before.result s.answers kept)
    (sym committed)
    (subst (λ m. AreKept new.id old.present.area m old.present.answers kept)
    (sym c.moment-before.ensures)
    (subst (λ x. AreKept x old.present.area old.present.moment old.present.answers kept) (sym same)
    c.requires.kept))

pub pack_and_update_routes-requires-clause-answers :
    goal.pack_and_update_routes-requires-clause-answers
pack_and_update_routes-requires-clause-answers c none =
    let old = c.args.router.now in
    let event = occurrence_of c.args.event.now in
    let whole = made_whole old c.flood_aged.new.self c.apply_part.new.router c.end_event.new.router
    c.args.moment c.in_ok-part.part c.requires.committed c.in_ok-flood_aged.ensures.makes
    c.in_ok-apply_part.ensures.makes c.in_ok-end_event.ensures.makes in
    let new = c.take_drafts.new.self.present in
    let is = ap (λ (r : KeptRouter). r.present) c.in_ok-drafts.ensures.rest in
    let at = made_router old c.end_event.new.router new c.in_ok-drafts.drafts.items c.args.moment
    c.in_ok-part.part whole c.requires.drafted is c.in_ok-drafts.ensures.drafts in
    let committed = c.in_ok-drafts.ensures.committed ∙ c.in_ok-end_event.ensures.committed
    ∙ c.in_ok-apply_part.ensures.committed ∙ c.in_ok-flood_aged.ensures.committed
    ∙ c.requires.committed in
    ap (λ (r : Router). r.answers) at
    ∙ made_answers old.present c.args.moment event c.in_ok-part.part c.in_ok-part.ensures.part none
    ∙ sym (ap (λ (s : Router). s.answers) committed)

pub returns-clause-ok : goal.returns-clause-ok
returns-clause-ok c =
    let old = c.args.router.now in
    let event = occurrence_of c.args.event.now in
    let whole = made_whole old c.flood_aged.new.self c.apply_part.new.router c.end_event.new.router
    c.args.moment c.in_ok-part.part c.requires.committed c.in_ok-flood_aged.ensures.makes
    c.in_ok-apply_part.ensures.makes c.in_ok-end_event.ensures.makes in
    let new = c.take_drafts.new.self.present in
    let is = ap (λ (r : KeptRouter). r.present) c.in_ok-drafts.ensures.rest in
    let room = made_has_room old.present c.args.moment event c.in_ok-part.part
    c.in_ok-part.ensures.part c.requires.roomy in
    let are = made_drafts old c.end_event.new.router new c.in_ok-drafts.drafts.items c.args.moment
    c.in_ok-part.part whole c.requires.drafted is c.in_ok-drafts.ensures.drafts room in
    let sends = (made_state old.present c.args.moment c.in_ok-part.part).sends in
    if_ok c.pack_and_update_routes.result
    (λ outs sent. made_happens old.present c.args.moment event c.in_ok-part.part
    c.in_ok-part.ensures.part outs.items new
    (made_sent old c.end_event.new.router new c.in_ok-drafts.drafts.items c.args.moment
    c.in_ok-part.part whole c.requires.drafted is c.in_ok-drafts.ensures.drafts c.id-own.result
    outs.items c.id-own.ensures sent))
    (c.pack_and_update_routes.ensures.outs old.present.area.links sends are)

pub returns-clause-keeps : goal.returns-clause-keeps
returns-clause-keeps c =
    let old = c.args.router.now in
    let event = occurrence_of c.args.event.now in
    let whole = made_whole old c.flood_aged.new.self c.apply_part.new.router c.end_event.new.router
    c.args.moment c.in_ok-part.part c.requires.committed c.in_ok-flood_aged.ensures.makes
    c.in_ok-apply_part.ensures.makes c.in_ok-end_event.ensures.makes in
    let new = c.take_drafts.new.self.present in
    let is = ap (λ (r : KeptRouter). r.present) c.in_ok-drafts.ensures.rest in
    let room = made_has_room old.present c.args.moment event c.in_ok-part.part
    c.in_ok-part.ensures.part c.requires.roomy in
    let are = made_drafts old c.end_event.new.router new c.in_ok-drafts.drafts.items c.args.moment
    c.in_ok-part.part whole c.requires.drafted is c.in_ok-drafts.ensures.drafts room in
    let sends = (made_state old.present c.args.moment c.in_ok-part.part).sends in
    if_ok_with c.pack_and_update_routes.result
    (λ outs sent texts.
    made_keeps old.present c.args.moment event c.in_ok-part.part c.in_ok-part.ensures.part
    outs.items new
    (made_sent old c.end_event.new.router new c.in_ok-drafts.drafts.items c.args.moment
    c.in_ok-part.part whole c.requires.drafted is c.in_ok-drafts.ensures.drafts c.id-own.result
    outs.items c.id-own.ensures sent)
    c.read_part.ensures.address c.requires.order c.requires.holds
    (subst (λ own. AreTexts own old.present.area.links sends) c.id-own.ensures texts))
    (c.pack_and_update_routes.ensures.outs old.present.area.links sends are)
    (c.pack_and_update_routes.ensures.texts old.present.area.links sends are)

pub returns-clause-lawful : goal.returns-clause-lawful
returns-clause-lawful c =
    let old = c.args.router.now in
    let event = occurrence_of c.args.event.now in
    let whole = made_whole old c.flood_aged.new.self c.apply_part.new.router c.end_event.new.router
    c.args.moment c.in_ok-part.part c.requires.committed c.in_ok-flood_aged.ensures.makes
    c.in_ok-apply_part.ensures.makes c.in_ok-end_event.ensures.makes in
    let new = c.take_drafts.new.self.present in
    let is = ap (λ (r : KeptRouter). r.present) c.in_ok-drafts.ensures.rest in
    let room = made_has_room old.present c.args.moment event c.in_ok-part.part
    c.in_ok-part.ensures.part c.requires.roomy in
    let are = made_drafts old c.end_event.new.router new c.in_ok-drafts.drafts.items c.args.moment
    c.in_ok-part.part whole c.requires.drafted is c.in_ok-drafts.ensures.drafts room in
    let sends = (made_state old.present c.args.moment c.in_ok-part.part).sends in
    if_ok_with c.pack_and_update_routes.result
    (λ outs sent texts.
    made_lawful old.present c.args.moment event c.in_ok-part.part c.in_ok-part.ensures.part
    outs.items new
    (made_sent old c.end_event.new.router new c.in_ok-drafts.drafts.items c.args.moment
    c.in_ok-part.part whole c.requires.drafted is c.in_ok-drafts.ensures.drafts c.id-own.result
    outs.items c.id-own.ensures sent)
    c.read_part.ensures.address c.requires.order c.requires.holds
    (subst (λ own. AreTexts own old.present.area.links sends) c.id-own.ensures texts))
    (c.pack_and_update_routes.ensures.outs old.present.area.links sends are)
    (c.pack_and_update_routes.ensures.texts old.present.area.links sends are)

pub returns-clause-order : goal.returns-clause-order
returns-clause-order c =
    let old = c.args.router.now in
    let event = occurrence_of c.args.event.now in
    let whole = made_whole old c.flood_aged.new.self c.apply_part.new.router c.end_event.new.router
    c.args.moment c.in_ok-part.part c.requires.committed c.in_ok-flood_aged.ensures.makes
    c.in_ok-apply_part.ensures.makes c.in_ok-end_event.ensures.makes in
    let new = c.take_drafts.new.self.present in
    let is = ap (λ (r : KeptRouter). r.present) c.in_ok-drafts.ensures.rest in
    let room = made_has_room old.present c.args.moment event c.in_ok-part.part
    c.in_ok-part.ensures.part c.requires.roomy in
    let are = made_drafts old c.end_event.new.router new c.in_ok-drafts.drafts.items c.args.moment
    c.in_ok-part.part whole c.requires.drafted is c.in_ok-drafts.ensures.drafts room in
    let sends = (made_state old.present c.args.moment c.in_ok-part.part).sends in
    ok_if c.pack_and_update_routes.result
    (λ outs sent. made_order old.present c.args.moment event c.in_ok-part.part
    c.in_ok-part.ensures.part outs.items new
    (made_sent old c.end_event.new.router new c.in_ok-drafts.drafts.items c.args.moment
    c.in_ok-part.part whole c.requires.drafted is c.in_ok-drafts.ensures.drafts c.id-own.result
    outs.items c.id-own.ensures sent)
    c.requires.order)
    (c.pack_and_update_routes.ensures.outs old.present.area.links sends are)

pub returns-clause-holds : goal.returns-clause-holds
returns-clause-holds c =
    let old = c.args.router.now in
    let event = occurrence_of c.args.event.now in
    let whole = made_whole old c.flood_aged.new.self c.apply_part.new.router c.end_event.new.router
    c.args.moment c.in_ok-part.part c.requires.committed c.in_ok-flood_aged.ensures.makes
    c.in_ok-apply_part.ensures.makes c.in_ok-end_event.ensures.makes in
    let new = c.take_drafts.new.self.present in
    let is = ap (λ (r : KeptRouter). r.present) c.in_ok-drafts.ensures.rest in
    let room = made_has_room old.present c.args.moment event c.in_ok-part.part
    c.in_ok-part.ensures.part c.requires.roomy in
    let are = made_drafts old c.end_event.new.router new c.in_ok-drafts.drafts.items c.args.moment
    c.in_ok-part.part whole c.requires.drafted is c.in_ok-drafts.ensures.drafts room in
    let sends = (made_state old.present c.args.moment c.in_ok-part.part).sends in
    ok_if c.pack_and_update_routes.result
    (λ outs sent.
    made_holds old.present c.args.moment event c.in_ok-part.part c.in_ok-part.ensures.part
    outs.items new
    (made_sent old c.end_event.new.router new c.in_ok-drafts.drafts.items c.args.moment
    c.in_ok-part.part whole c.requires.drafted is c.in_ok-drafts.ensures.drafts c.id-own.result
    outs.items c.id-own.ensures sent)
    c.read_part.ensures.address c.requires.order c.requires.holds)
    (c.pack_and_update_routes.ensures.outs old.present.area.links sends are)

pub returns-clause-refused : goal.returns-clause-refused
returns-clause-refused c =
    let old = c.args.router.now in
    let event = occurrence_of c.args.event.now in
    let whole = made_whole old c.flood_aged.new.self c.apply_part.new.router c.end_event.new.router
    c.args.moment c.in_ok-part.part c.requires.committed c.in_ok-flood_aged.ensures.makes
    c.in_ok-apply_part.ensures.makes c.in_ok-end_event.ensures.makes in
    let new = c.take_drafts.new.self.present in
    let is = ap (λ (r : KeptRouter). r.present) c.in_ok-drafts.ensures.rest in
    let at = made_router old c.end_event.new.router new c.in_ok-drafts.drafts.items c.args.moment
    c.in_ok-part.part whole c.requires.drafted is c.in_ok-drafts.ensures.drafts in
    let none : early_refusal old.present c.args.moment event ≡ None =
    sym c.early_refusal.ensures ∙ c.in_default.is in
    event_answers _ old.present c.args.moment event none c.in_ok-part.part c.in_ok-part.ensures.part
    c.in_ok-part.ensures.tells c.pack_and_update_routes.result
    (subst (λ (r : Router). RefusesAtLimit r c.pack_and_update_routes.result) at
    c.pack_and_update_routes.ensures.limit)

pub returns-clause-limit : goal.returns-clause-limit
returns-clause-limit c =
    stays_within c.pack_and_update_routes.result c.take_drafts.new.self.present
    c.pack_and_update_routes.ensures.limit

pub returns-clause-committed : goal.returns-clause-committed
returns-clause-committed c =
    c.in_ok-drafts.ensures.committed ∙ c.in_ok-end_event.ensures.committed
    ∙ c.in_ok-apply_part.ensures.committed ∙ c.in_ok-flood_aged.ensures.committed

pub returns-clause-kept : goal.returns-clause-kept
returns-clause-kept c = c.pack_and_update_routes.ensures.kept

pub returns-clause-walks : goal.returns-clause-walks
returns-clause-walks c =
    let new = c.take_drafts.new.self.present in
    let old = c.args.routes.now in
    let committed = c.in_ok-drafts.ensures.committed ∙ c.in_ok-end_event.ensures.committed
    ∙ c.in_ok-apply_part.ensures.committed ∙ c.in_ok-flood_aged.ensures.committed
    ∙ c.requires.committed in
    on_ok c.pack_and_update_routes.result
    (λ walks. subst (λ m. KeepsWalkUnlessChanged m new.moment new.id c.args.router.now.present.area
    new.area old c.pack_and_update_routes.new.routes) c.moment-before.ensures
    (subst (λ (s : Router). KeepsWalkUnlessChanged c.moment-before.result new.moment new.id s.area
    new.area
    old c.pack_and_update_routes.new.routes) committed walks))
    c.pack_and_update_routes.ensures.walks

pub returns-clause-err : goal.returns-clause-err
returns-clause-err c = c.pack_and_update_routes.ensures.err

pub read_part-requires : goal.read_part-requires
read_part-requires c =
    none_of_event c.args.router.now.present c.args.moment (occurrence_of c.args.event.now)
    (sym c.early_refusal.ensures ∙ c.in_default.is)
