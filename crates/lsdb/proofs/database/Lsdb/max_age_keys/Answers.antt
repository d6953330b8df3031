use Rattle.std.proofs.Common.{◌<◌, ap, arith, ◌∙◌}
use Rattle.std.proofs.lemmas.Result.{IfOk-weaker}
use Rattle.lsdb.specs.Copies.{max_age_keys}
use Rattle.lsdb.proofs.SameKeys.{keys_aged}
use Rattle.lsdb.proofs.database.Lsdb.max_age_keys.Goals as goal

-- before `due`, only the aged keys can have MaxAge
pub returns-then-lt : goal.returns-then-lt
returns-then-lt c =
    let moment = c.args.moment in
    let before : moment < c.self.inside.ages.due = grind (arith, c.lt.ensures, c.if-lt.true) in
    IfOk-weaker c.keys_where.result _ _ (λ keys is.
    is
    ∙ keys_aged moment c.self.inside.ages.aged.present c.self.inside.copies.present
    (λ q aged. c.self.invariant.foreseen q moment before aged)
    ∙ ap (λ h. max_age_keys moment h.present) c.self.view_is) c.keys_where.ensures

pub returns : goal.returns
returns c =
    IfOk-weaker c.keys_where-2.result _ _
    (λ keys is. is ∙ ap (λ h. max_age_keys c.args.moment h.present) c.self.view_is)
    c.keys_where-2.ensures
