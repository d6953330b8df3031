use Rattle.std.proofs.Common.{false, cond, ap, sym, subst, ◌∙◌}
use Rattle.std.specs.FinMap as finite
use Rattle.keyed_map.specs.Slots.{count_after_change}
use Rattle.lsdb.specs.Foresight.{ForeseesAll}
use Rattle.lsdb.specs.Limits.{count_own_externals, is_own_external}
use Rattle.lsdb.proofs.Foresight.{foresees_taken}
use Rattle.lsdb.proofs.Owned.{count_remove, counts_if_own}
use Rattle.lsdb.proofs.database.Lsdb.remove.Goals as goal

pub recount-self-inside-requires : goal.recount-self-inside-requires
recount-self-inside-requires c =
    let router = c.self.inside.router in
    let copies = c.self.inside.copies.present in
    let key = c.args.key.now in
    let own = is_own_external router key in
    ap (count_own_externals router) c.in_ok-remove.ensures.ok
    ∙ count_remove (is_own_external router) copies key
    ∙ counts_if_own own (finite.contains_key copies key) false (count_own_externals router copies)
    ∙ sym (λ i. cond own (count_after_change (c.holds_own-held.ensures i) false
    (c.self.invariant.counted i)) (c.self.invariant.counted i))

pub invariant_of-self-2 : goal.invariant_of-self-2
invariant_of-self-2 c =
    let copies = c.self.inside.copies.present in
    let ages = c.self.inside.ages in record {
      counted = c.recount-self-inside.ensures;
      committed_counted = c.self.invariant.committed_counted
          ∙ sym (ap (count_own_externals c.self.inside.router) c.remove.ensures.committed);
      foreseen = subst (ForeseesAll ages) (sym c.in_ok-remove.ensures.ok)
          (foresees_taken ages copies c.args.key.now c.self.invariant.foreseen);
      committed_foreseen = subst (ForeseesAll ages) (sym c.remove.ensures.committed)
          c.self.invariant.committed_foreseen;
    }
