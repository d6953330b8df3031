use Rattle.std.proofs.Common.{◌∙◌, refl, subst, sym}
use Rattle.kept_routes.specs.Ages.{HaveNotJustAgedOut}
use Rattle.kept_routes.proofs.Aging.{all_left, all_old_within, all_same, keeps_all, olds_all}
use Rattle.kept_routes.proofs.sameness.lsas_are_unchanged.Goals as goal

pub returns-clause-same : goal.returns-clause-same
returns-clause-same c = λ t.
    let old = c.args.db.now.committed in
    let new = c.args.db.now.present in
    let keys = c.deref.ensures.value ∙ c.in_ok-keys.ensures in
    all_same c.args.last_type c.args.before c.args.moment old new c.requires
    (all_left c.args.last_type c.args.before c.args.moment old new
    (c.in_ok-is_unchanged.ensures.0 c.if-not-branch.false)
    (subst (HaveNotJustAgedOut c.args.last_type c.args.before c.args.moment new) keys
    (c.have_not_just_aged_out.ensures.0 t)))

pub returns-clause-left : goal.returns-clause-left
returns-clause-left c =
    let old = c.args.db.now.committed in
    let new = c.args.db.now.present in
    let keys = c.deref.ensures.value ∙ c.in_ok-keys.ensures in (
      (λ t. all_left c.args.last_type c.args.before c.args.moment old new
          (c.in_ok-is_unchanged.ensures.0 c.if-not-branch.false)
          (subst (HaveNotJustAgedOut c.args.last_type c.args.before c.args.moment new) keys
          (c.have_not_just_aged_out.ensures.0 t))),
      (λ left. c.have_not_just_aged_out.ensures.1
          (olds_all c.args.last_type c.args.before c.args.moment old new
          c.deref.result.now left)),
    )

pub returns-then-not-branch-clause-left : goal.returns-then-not-branch-clause-left
returns-then-not-branch-clause-left c = (
  (λ t. absurd cc),
  (λ left. sym c.if-not-branch.true
      ∙ c.in_ok-is_unchanged.ensures.1 (keeps_all c.args.last_type c.args.before c.args.moment
      c.args.db.now.committed c.args.db.now.present left)),
)

pub returns-then-count-clause-same : goal.returns-then-count-clause-same
returns-then-count-clause-same c = λ t.
    let old = c.args.db.now.committed in
    let new = c.args.db.now.present in
    all_same c.args.last_type c.args.before c.args.moment old new c.requires
    (all_left c.args.last_type c.args.before c.args.moment old new
    (c.in_ok-is_unchanged.ensures.0 c.if-not-branch.false)
    (all_old_within c.args.last_type c.args.before c.args.moment new _ cc))

pub returns-then-count-clause-left : goal.returns-then-count-clause-left
returns-then-count-clause-left c =
    let old = c.args.db.now.committed in
    let new = c.args.db.now.present in (
      (λ t. all_left c.args.last_type c.args.before c.args.moment old new
          (c.in_ok-is_unchanged.ensures.0 c.if-not-branch.false)
          (all_old_within c.args.last_type c.args.before c.args.moment new _ cc)),
      (λ left. refl),
    )
