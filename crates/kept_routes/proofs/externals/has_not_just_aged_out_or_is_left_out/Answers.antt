use Rattle.std.proofs.Common.{refl, sym, ◌∙◌}
use mathlib.Core.Bool.{false≢true}
use Rattle.std.proofs.lemmas.Result.{IfOk-weaker}
use Rattle.std.specs.Prelude.{None}
use Rattle.kept_routes.specs.Ages.{HasNotJustAgedOut}
use Rattle.kept_routes.specs.Externals.{OffersNothing}
use Rattle.kept_routes.proofs.Tests.{left_out}
use Rattle.kept_routes.proofs.externals.has_not_just_aged_out_or_is_left_out.Goals as goal

pub returns-then-has_not_just_aged_out : goal.returns-then-has_not_just_aged_out
returns-then-has_not_just_aged_out c =
    ((λ t counts. c.has_not_just_aged_out.ensures.0 c.if-has_not_just_aged_out.true), (λ all. refl))

pub returns : goal.returns
returns c =
    let rule = c.args.rule.now in
    let key = c.args.key.now in
    IfOk-weaker c.leaves_out.result _ _ (λ out is.
    left_out out (OffersNothing rule.moment rule.db.now.present rule.walk.now key)
    (HasNotJustAgedOut None c.args.before rule.moment rule.db.now.present key) is
    (λ old. false≢true (sym c.if-has_not_just_aged_out.false
    ∙ c.has_not_just_aged_out.ensures.1 old))) c.leaves_out.ensures
