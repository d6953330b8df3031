use Rattle.std.proofs.Common.{◌∙◌, subst, sym}
use Rattle.std.proofs.lemmas.Result.{IfOk-weaker}
use Rattle.kept_routes.specs.Externals.{AreOldOrLeftOut}
use Rattle.kept_routes.proofs.Staying.{offer_the_same, others_are_old, others_keep}
use Rattle.kept_routes.proofs.Staying.{within_one_moment}
use Rattle.kept_routes.proofs.externals.offering_lsas_are_unchanged.Goals as goal

pub returns-clause-same : goal.returns-clause-same
returns-clause-same c =
    let old = c.args.db.now.committed in
    let new = c.args.db.now.present in
    let walk = c.args.walk.now in
    let keys = c.deref.ensures.value ∙ c.in_ok-keys.ensures in
    IfOk-weaker c.have_not_just_aged_out_or_are_left_out.result _ _ (λ are is t.
    offer_the_same c.args.before c.args.moment old new walk c.requires.order
    (c.in_ok-others_are_unchanged.ensures.same c.if-not-branch.false)
    (subst (AreOldOrLeftOut c.args.before c.args.moment new walk) keys (is.0 t))
    c.requires.walk) c.have_not_just_aged_out_or_are_left_out.ensures

pub returns-clause-left : goal.returns-clause-left
returns-clause-left c =
    let old = c.args.db.now.committed in
    let new = c.args.db.now.present in
    let walk = c.args.walk.now in
    IfOk-weaker c.have_not_just_aged_out_or_are_left_out.result _ _ (λ are is left.
    is.1 (others_are_old c.args.before c.args.moment old new walk c.deref.result.now left))
    c.have_not_just_aged_out_or_are_left_out.ensures

pub returns-then-not-branch-clause-left : goal.returns-then-not-branch-clause-left
returns-then-not-branch-clause-left c left =
    sym c.if-not-branch.true ∙ c.in_ok-others_are_unchanged.ensures.kept
    (others_keep c.args.before c.args.moment c.args.db.now.committed c.args.db.now.present
    c.args.walk.now left)

pub returns-then-count-clause-same : goal.returns-then-count-clause-same
returns-then-count-clause-same c = λ t.
    let old = c.args.db.now.committed in
    let new = c.args.db.now.present in
    let walk = c.args.walk.now in
    offer_the_same c.args.before c.args.moment old new walk c.requires.order
    (c.in_ok-others_are_unchanged.ensures.same c.if-not-branch.false)
    (within_one_moment c.args.before c.args.moment old new walk _ cc)
    c.requires.walk
