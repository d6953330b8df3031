use Rattle.std.proofs.Common.{inl, sym, subst}
use Rattle.std.proofs.lemmas.Result.{IfOk-weaker}
use Rattle.std.specs.FinMap as finite
use Rattle.lsdb.specs.Changes.{ContentsAgree}
use Rattle.lsdb.specs.Kept.{RouterDatabase}
use Rattle.lsdb.specs.Unchanged.{IsUnchangedApartFromAging}
use Rattle.lsdb.proofs.Changes.{says_as_itself}
use Rattle.lsdb.proofs.database.Lsdb.others_are_unchanged.Goals as goal

pub keeps-requires : goal.keeps-requires
keeps-requires g c key o of = inl (says_as_itself c.args.moment o)

pub returns-clause-same : goal.returns-clause-same
returns-clause-same g c =
    IfOk-weaker c.keeps.result _ _ (λ keeps is t key of.
    subst (λ (d : RouterDatabase). IsUnchangedApartFromAging c.args.before c.args.moment
    (finite.get d.committed key)
    (finite.get d.present key)) c.self.view_is (is.0 t key of)) c.keeps.ensures

pub returns-clause-kept : goal.returns-clause-kept
returns-clause-kept g c =
    IfOk-weaker c.keeps.result _ _ (λ keeps is all. is.1 (λ key of. inl (
    subst (λ (d : RouterDatabase). ContentsAgree c.args.moment (finite.get d.committed key)
    (finite.get d.present key)) (sym c.self.view_is) (all key of)))) c.keeps.ensures
