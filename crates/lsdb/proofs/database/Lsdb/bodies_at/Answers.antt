use Rattle.std.proofs.Common.{◌≤◌, length, subst}
use Rattle.std.proofs.lemmas.Result.{IfOk-weaker}
use Rattle.std.specs.FinMap as finite
use Rattle.lsdb.specs.Bodies.{AreBodies}
use Rattle.lsdb.specs.Copies.{contents_of}
use Rattle.lsdb.specs.Kept.{RouterDatabase}
use Rattle.lsdb.proofs.database.Lsdb.bodies_at.Goals as goal

pub returns-clause-bodies : goal.returns-clause-bodies
returns-clause-bodies c =
    IfOk-weaker c.bodies_of.result _ _ (λ bodies are.
    subst (λ (h : RouterDatabase). AreBodies c.args.last_type
    (λ key. contents_of c.args.moment (finite.get h.present key)) bodies.items) c.self.view_is are)
    c.bodies_of.ensures.bodies

pub returns-clause-few : goal.returns-clause-few
returns-clause-few c =
    IfOk-weaker c.bodies_of.result _ _ (λ bodies few.
    subst (λ (h : RouterDatabase). length bodies.items ≤ finite.len h.present) c.self.view_is few)
    c.bodies_of.ensures.few
