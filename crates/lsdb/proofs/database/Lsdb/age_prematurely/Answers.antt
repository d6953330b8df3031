use Rattle.std.proofs.Common.{◌≡◌, ap, sym, subst, ◌∙◌}
use Rattle.std.specs.Prelude.{is_some}
use Rattle.std.specs.FinMap as finite
use Rattle.keyed_map.proofs.Helds.{after}
use Rattle.lsdb.specs.Foresight.{ForeseesAll}
use Rattle.lsdb.specs.Limits.{count_own_externals, is_own_external}
use Rattle.lsdb.proofs.Foresight.{foresees_put}
use Rattle.lsdb.proofs.Owned.{count_change}
use Rattle.lsdb.proofs.database.Lsdb.age_prematurely.Goals as goal

pub invariant_of-self-2 : goal.invariant_of-self-2
invariant_of-self-2 c =
    let router = c.self.inside.router in
    let copies = c.self.inside.copies in
    let key = c.args.key.now in
    let ages = c.note.new.self in
    let aged = c.in_ok-aged.aged in
    let edited = finite.insert copies.present key aged in
    let there = ap is_some (sym c.in-Some.ensures) in
    let stays : ForeseesAll ages copies.present =
    λ q. c.note.ensures.more q (finite.get copies.present q) (c.self.invariant.foreseen q) in
    record {
      counted = after c.insert.result (λ d. c.self.inside.externals ≡ count_own_externals router d)
          c.insert.new.self.present copies.present edited c.insert.ensures.ok c.insert.ensures.err
          (c.self.invariant.counted ∙ sym
          (count_change (is_own_external router) copies.present key aged there))
          c.self.invariant.counted;
      committed_counted = c.self.invariant.committed_counted
          ∙ sym (ap (count_own_externals router) c.insert.ensures.committed);
      foreseen = after c.insert.result (ForeseesAll ages) c.insert.new.self.present copies.present
          edited c.insert.ensures.ok c.insert.ensures.err
          (foresees_put ages copies.present key stays aged c.in_ok-note.ensures.there) stays;
      committed_foreseen = subst (ForeseesAll ages) (sym c.insert.ensures.committed)
          (λ q. c.note.ensures.more q (finite.get copies.committed q)
          (c.self.invariant.committed_foreseen q));
    }
