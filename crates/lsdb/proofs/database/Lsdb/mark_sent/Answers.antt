use Rattle.std.proofs.Common.{◌≡◌, Some, ap, refl, sym, subst, ◌∙◌}
use Rattle.std.specs.Prelude.{is_some}
use Rattle.std.specs.FinMap as finite
use Rattle.keyed_map.proofs.Helds.{after}
use Rattle.lsdb.specs.Copies.{DatabaseCopy, mark_sent}
use Rattle.lsdb.specs.Foresight.{Foresees, ForeseesAll}
use Rattle.lsdb.specs.Limits.{count_own_externals, is_own_external}
use Rattle.lsdb.proofs.Copies.{marks_none}
use Rattle.lsdb.proofs.Foresight.{foresees_put}
use Rattle.lsdb.proofs.Owned.{count_change}
use Rattle.lsdb.proofs.database.Lsdb.mark_sent.Goals as goal

pub returns-in_default : goal.returns-in_default
returns-in_default c = record {
  ok =
      ap (λ h. h.present) (sym c.self.view_is)
      ∙ marks_none c.args.moment c.args.key.now c.self.inside.copies.present
      (sym c.in_default.ensures)
      ∙ ap (λ h. mark_sent c.args.moment c.args.key.now h.present) c.self.view_is;
  committed = refl;
  router = refl;
}

-- the age of a copy stays when it is sent
pub invariant_of-self : goal.invariant_of-self
invariant_of-self c =
    let router = c.self.inside.router in
    let copies = c.self.inside.copies.present in
    let key = c.args.key.now in
    let ages = c.self.inside.ages in
    let marked = c.in_ok-marked.marked in
    let edited = finite.insert copies key marked in
    let there = ap is_some (sym c.in-Some.ensures) in
    let stays : Foresees ages key (Some marked) =
    subst (λ (x : DatabaseCopy). Foresees ages key (Some x)) (sym c.in_ok-marked.ensures)
    (subst (Foresees ages key) (sym c.in-Some.ensures) (c.self.invariant.foreseen key)) in
    record {
      counted = after c.insert.result (λ d. c.self.inside.externals ≡ count_own_externals router d)
          c.insert.new.self.present copies edited c.insert.ensures.ok c.insert.ensures.err
          (c.self.invariant.counted ∙ sym
          (count_change (is_own_external router) copies key marked there))
          c.self.invariant.counted;
      committed_counted = c.self.invariant.committed_counted
          ∙ sym (ap (count_own_externals router) c.insert.ensures.committed);
      foreseen = after c.insert.result (ForeseesAll ages) c.insert.new.self.present copies edited
          c.insert.ensures.ok c.insert.ensures.err
          (foresees_put ages copies key c.self.invariant.foreseen marked stays)
          c.self.invariant.foreseen;
      committed_foreseen = subst (ForeseesAll ages) (sym c.insert.ensures.committed)
          c.self.invariant.committed_foreseen;
    }
