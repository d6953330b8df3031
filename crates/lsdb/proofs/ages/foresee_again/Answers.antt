use Rattle.std.proofs.Common.{ap, sym, subst, ◌∙◌}
use Rattle.std.specs.FinMap as finite
use Rattle.std.specs.List.{list_any}
use Rattle.std.specs.Ordering.{eq_by_cmp}
use Rattle.lsdb.specs.Foresight.{Foresees}
use Rattle.lsdb.specs.Keys.{key_cmp}
use Rattle.lsdb.proofs.Foresight.{foresees_next, foresees_past}
use Rattle.lsdb.proofs.ages.foresee_again.Goals as goal

-- before `due`, the copy of no other key can have MaxAge
pub loop-key-init : goal.loop-key-init
loop-key-init c = λ q none.
    let all = c.into_iter-key-iterator.ensures.into_iter_gives ∙ c.keys-key-items.ensures in
    foresees_past c.args.ages.now c.new-made.result c.new-made.ensures q
    (finite.get c.args.copies.now.present q)
    (sym (ap (list_any (eq_by_cmp key_cmp q)) all) ∙ none) (c.requires q)

pub loop-key-preserved-in-Continue-1 : goal.loop-key-preserved-in-Continue-1
loop-key-preserved-in-Continue-1 c =
    foresees_next c.loop-key.made c.note.new.self c.args.copies.now.present c.in-Some.key
    c.next.new.self
    (λ q none. c.loop-key.invariant q
    (ap (list_any (eq_by_cmp key_cmp q)) c.in-Some.ensures.steps ∙ none))
    c.note.ensures.more
    (subst (Foresees c.note.new.self c.in-Some.key) c.in-Some-get.ensures
    c.in_ok-note.ensures.there)
