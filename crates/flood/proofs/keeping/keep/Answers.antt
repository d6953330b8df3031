use Rattle.std.proofs.Common.{refl, ap, subst, sym, ◌∙◌}
use Rattle.area_routes.specs.Kept.{AreKept, AreRoutesOf}
use Rattle.area.specs.Kept.{RouterArea}
use Rattle.flood.proofs.Kept.{are_kept, walks_then}
use Rattle.flood.proofs.keeping.keep.Goals as goal

pub update-requires-clause-routes : goal.update-requires-clause-routes
update-requires-clause-routes c =
    subst (λ (a : RouterArea). AreRoutesOf c.id-own.result a.committed c.args.before
    c.args.routes.now) (sym c.area-area.ensures.parts)
    (subst (λ x. AreRoutesOf x c.args.router.now.committed.area c.args.before c.args.routes.now)
    (sym c.id-own.ensures) c.requires.kept.routes)

pub take_answers-requires : goal.take_answers-requires
take_answers-requires c = record { routes = c.in_ok-update.ensures.routes }

pub returns-then-is_install-clause-kept : goal.returns-then-is_install-clause-kept
returns-then-is_install-clause-kept c =
    are_kept c.args.router.now.present c.id-own.result c.area-area.result.now.present
    c.moment-moment.result c.answers.result.now c.take_answers.new.self
    c.id-own.ensures (ap (λ (a : RouterArea). a.present) c.area-area.ensures.parts)
    c.moment-moment.ensures c.answers.ensures c.take_answers.ensures.kept

pub returns-else-is_install-clause-kept : goal.returns-else-is_install-clause-kept
returns-else-is_install-clause-kept c =
    let r = c.args.router.now.present in
    let area = c.area-area.result.now.present in
    let knew =
    subst (λ (a : RouterArea). AreKept c.id-own.result a.committed c.args.before
    c.args.router.now.committed.answers c.args.routes.now) (sym c.area-area.ensures.parts)
    (subst (λ x. AreKept x c.args.router.now.committed.area c.args.before
    c.args.router.now.committed.answers c.args.routes.now) (sym c.id-own.ensures) c.requires.kept)
    in
    let knows = c.in_ok-update.ensures.answered c.args.router.now.committed.answers knew in
    are_kept r c.id-own.result area c.moment-moment.result r.answers c.update.new.self
    c.id-own.ensures (ap (λ (a : RouterArea). a.present) c.area-area.ensures.parts)
    c.moment-moment.ensures refl
    (subst (λ w. AreKept c.id-own.result area c.moment-moment.result w c.update.new.self)
    (sym (c.requires.answers (sym c.is_install.ensures ∙ c.if-is_install.false))) knows)

pub returns-then-is_install-clause-walks : goal.returns-then-is_install-clause-walks
returns-then-is_install-clause-walks c =
    let area = c.area-area.result.now in
    walks_then c.args.before c.args.router.now.present c.args.router.now.committed.area
    c.id-own.result c.moment-moment.result area.committed area.present
    c.args.routes.now c.update.new.self c.take_answers.new.self
    c.id-own.ensures (ap (λ (a : RouterArea). a.committed) c.area-area.ensures.parts)
    (ap (λ (a : RouterArea). a.present) c.area-area.ensures.parts)
    c.moment-moment.ensures c.take_answers.ensures.walk c.take_answers.ensures.behind
    c.in_ok-update.ensures.walks

pub returns-else-is_install-clause-walks : goal.returns-else-is_install-clause-walks
returns-else-is_install-clause-walks c =
    let area = c.area-area.result.now in
    walks_then c.args.before c.args.router.now.present c.args.router.now.committed.area
    c.id-own.result c.moment-moment.result area.committed area.present
    c.args.routes.now c.update.new.self c.update.new.self
    c.id-own.ensures (ap (λ (a : RouterArea). a.committed) c.area-area.ensures.parts)
    (ap (λ (a : RouterArea). a.present) c.area-area.ensures.parts)
    c.moment-moment.ensures refl refl c.in_ok-update.ensures.walks
