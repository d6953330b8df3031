use Rattle.std.proofs.Common.{◌++◌, refl, ap, sym, ◌∙◌, arith, length}
use Rattle.std.specs.Vec.Iter.{into_iter_items, into_iter_len}
use Rattle.adjacency.specs.declared.draft.Update.{Update}
use Rattle.router.specs.Bodies.{texts}
use Rattle.router.proofs.Packs.{all_moved, none_left, one_moved}
use Rattle.router.proofs.bodies.texts.Goals as goal

pub loop-update-init : goal.loop-update-init
loop-update-init c =
    let gives = c.into_iter-update-iterator.ensures.into_iter_gives in (
      ap (λ ts. ts ++ texts (into_iter_items c.into_iter-update-iterator.result))
          c.new-made.ensures.items,
      gives.1 ∙ c.args.updates.ok.0 ∙ ap length (sym gives.0),
    )

pub loop-update-preserved : goal.loop-update-preserved
loop-update-preserved c =
    let steps = c.in-Some.ensures.steps in (
      one_moved (λ (u : Update). u.text) c.loop-update.made.items c.push.new.self.items
          (into_iter_items c.loop-update.update-iterator) (into_iter_items c.next.new.self)
          c.in-Some.update
          c.in-Some.update.text _ c.loop-update.invariant.0 steps.0 refl c.in_ok-push.ensures.items,
      let was = c.loop-update.invariant.1 in let gone = steps.1 in let short = ap length steps.0 in
          omega arith,
    )

pub returns : goal.returns
returns c =
    let rest = into_iter_items c.loop-update.update-iterator in
    let none = none_left rest (into_iter_len c.loop-update.update-iterator)
    c.loop-update.invariant.1 c.in-None.ensures.steps.0 in
    all_moved (λ (u : Update). u.text) c.loop-update.made.items rest _ c.loop-update.invariant.0
    none ∙ ap texts c.into_iter-update-iterator.ensures.into_iter_gives.0
