use Rattle.std.proofs.Common.{◌++◌, map, refl, ap, sym, ◌∙◌, arith, length}
use Rattle.std.specs.Vec.Iter.{into_iter_items, into_iter_len}
use Rattle.router.proofs.Packs.{all_moved, none_left, one_moved}
use Rattle.router.proofs.bodies.put_bodies.Goals as goal

pub loop-item-init : goal.loop-item-init
loop-item-init g c =
    let gives = c.into_iter-item-iterator.ensures.into_iter_gives in
    (tt, tt, refl, gives.1 ∙ c.args.items.ok.0 ∙ ap length (sym gives.0))

pub loop-item-preserved : goal.loop-item-preserved
loop-item-preserved g c =
    let steps = c.in-Some.ensures.steps in (
      tt,
      tt,
      one_moved g.X.Says.says c.loop-item.bodies.items c.push.new.self.items
          (into_iter_items c.loop-item.item-iterator) (into_iter_items c.next.new.self)
          c.in-Some.item c.body.result _
          c.loop-item.invariant.2 steps.0 c.body.ensures c.in_ok-push.ensures.items,
      let was = c.loop-item.invariant.3 in let gone = steps.1 in let short = ap length steps.0 in
          omega arith,
    )

pub returns : goal.returns
returns g c =
    let rest = into_iter_items c.loop-item.item-iterator in
    let none = none_left rest (into_iter_len c.loop-item.item-iterator) c.loop-item.invariant.3
    c.in-None.ensures.steps.0 in
    all_moved g.X.Says.says c.loop-item.bodies.items rest _ c.loop-item.invariant.2 none
    ∙ ap (λ xs. c.args.bodies.now.items ++ map g.X.Says.says xs)
    c.into_iter-item-iterator.ensures.into_iter_gives.0
