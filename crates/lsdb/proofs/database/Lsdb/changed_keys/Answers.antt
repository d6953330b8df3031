use Rattle.std.proofs.Common.{sym, subst}
use Rattle.std.proofs.lemmas.Result.{IfOk-weaker}
use Rattle.std.specs.FinMap as finite
use Rattle.lsdb.specs.Changes.{ContentsAgree}
use Rattle.lsdb.specs.Kept.{RouterDatabase}
use Rattle.lsdb.proofs.Changes.{says_as_itself}
use Rattle.lsdb.proofs.database.Lsdb.changed_keys.Goals as goal

pub changed_keys-requires : goal.changed_keys-requires
changed_keys-requires c key o of = says_as_itself c.args.moment o

pub returns-clause-changed : goal.returns-clause-changed
returns-clause-changed c =
    let moment = c.args.moment in
    IfOk-weaker c.changed_keys.result _ _ (λ keys is key among says. is key among (λ of.
    subst (λ (d : RouterDatabase). ContentsAgree moment (finite.get d.committed key)
    (finite.get d.present key)) (sym c.self.view_is) says)) c.changed_keys.ensures.changed

pub returns-clause-others : goal.returns-clause-others
returns-clause-others c =
    let moment = c.args.moment in
    IfOk-weaker c.changed_keys.result _ _ (λ keys is key none.
    subst (λ (d : RouterDatabase). ContentsAgree moment (finite.get d.committed key)
    (finite.get d.present key)) c.self.view_is (is key none tt)) c.changed_keys.ensures.others
