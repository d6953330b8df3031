use Rattle.std.proofs.Common.{ap, sym, subst, ◌∙◌}
use Rattle.lsdb.specs.Copies.{DatabaseCopy}
use Rattle.lsdb.specs.Foresight.{ForeseesAll}
use Rattle.lsdb.specs.Limits.{count_own_externals, is_own_external}
use Rattle.lsdb.proofs.Copies.{database_is}
use Rattle.lsdb.proofs.Foresight.{foresees_nothing}
use Rattle.lsdb.proofs.Owned.{count_empty}
use Rattle.lsdb.proofs.database.Lsdb.new.Goals as goal

pub invariant_of-result : goal.invariant_of-result
invariant_of-result c = record {
  counted = sym (ap (λ h. count_own_externals c.args.router h.present) c.new.ensures
      ∙ count_empty DatabaseCopy (is_own_external c.args.router));
  committed_counted = sym (ap (λ h. count_own_externals c.args.router h.committed) c.new.ensures
      ∙ count_empty DatabaseCopy (is_own_external c.args.router));
  foreseen = subst (λ h. ForeseesAll c.new-3.result h.present) (sym c.new.ensures)
      (foresees_nothing c.new-3.result);
  committed_foreseen = subst (λ h. ForeseesAll c.new-3.result h.committed) (sym c.new.ensures)
      (foresees_nothing c.new-3.result);
}

pub returns : goal.returns
returns c = database_is (ap (λ h. h.present) c.new.ensures) (ap (λ h. h.committed) c.new.ensures)
