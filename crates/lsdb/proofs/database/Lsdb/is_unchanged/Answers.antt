use Rattle.std.proofs.Common.{sym, subst}
use Rattle.std.proofs.lemmas.Result.{IfOk-weaker}
use Rattle.std.specs.FinMap as finite
use Rattle.lsdb.specs.Changes.{ContentsAgree}
use Rattle.lsdb.specs.Kept.{RouterDatabase}
use Rattle.lsdb.proofs.Changes.{says_as_itself}
use Rattle.lsdb.proofs.database.Lsdb.is_unchanged.Goals as goal

pub keeps-requires : goal.keeps-requires
keeps-requires c key o of = says_as_itself c.args.moment o

pub returns : goal.returns
returns c =
    let moment = c.args.moment in
    IfOk-weaker c.keeps.result _ _ (λ same is. (
      (λ t key of. subst (λ (d : RouterDatabase). ContentsAgree moment (finite.get d.committed key)
          (finite.get d.present key)) c.self.view_is (is.0 t key of)),
      (λ all. is.1 (λ key of. subst (λ (d : RouterDatabase). ContentsAgree moment
          (finite.get d.committed key) (finite.get d.present key)) (sym c.self.view_is)
          (all key of))),
    )) c.keeps.ensures
