use Rattle.std.proofs.Common.{true, cond, ap, sym, subst, ◌∙◌}
use Rattle.std.specs.FinMap as finite
use Rattle.keyed_map.specs.Slots.{count_after_change}
use Rattle.lsdb.specs.Foresight.{ForeseesAll}
use Rattle.lsdb.specs.Limits.{count_own_externals, is_own_external}
use Rattle.lsdb.proofs.Foresight.{foresees_put}
use Rattle.lsdb.proofs.Owned.{count_put, counts_if_own}
use Rattle.lsdb.proofs.database.Lsdb.install.Goals as goal

pub recount-self-inside-requires : goal.recount-self-inside-requires
recount-self-inside-requires c =
    let router = c.self.inside.router in
    let copies = c.self.inside.copies.present in
    let key = c.key-name.result in
    let own = is_own_external router key in
    ap (count_own_externals router) c.in_ok-insert.ensures.ok
    ∙ count_put (is_own_external router) copies key c.in_ok-copy.copy
    ∙ counts_if_own own (finite.contains_key copies key) true (count_own_externals router copies)
    ∙ sym (λ i. cond own (count_after_change (c.holds_own-held.ensures i) true
    (c.self.invariant.counted i)) (c.self.invariant.counted i))

pub invariant_of-self-2 : goal.invariant_of-self-2
invariant_of-self-2 c =
    let copies = c.self.inside.copies in
    let key = c.key-name.result in
    let ages = c.note.new.self in record {
      counted = c.recount-self-inside.ensures;
      committed_counted = c.self.invariant.committed_counted
          ∙ sym (ap (count_own_externals c.self.inside.router) c.insert.ensures.committed);
      foreseen = subst (ForeseesAll ages) (sym c.in_ok-insert.ensures.ok)
          (foresees_put ages copies.present key
          (λ q. c.note.ensures.more q (finite.get copies.present q)
          (c.self.invariant.foreseen q)) c.in_ok-copy.copy c.in_ok-note.ensures.there);
      committed_foreseen = subst (ForeseesAll ages) (sym c.insert.ensures.committed)
          (λ q. c.note.ensures.more q (finite.get copies.committed q)
          (c.self.invariant.committed_foreseen q));
    }
