use Rattle.std.proofs.Common.{◌≡◌, ◌≤◌, ◌+◌, IfOk, ap, sym, ◌∙◌, arith, length, subst}
use Rattle.std.specs.List.{AllByRecursion}
use Rattle.std.specs.Vec.Iter.{into_iter_items, into_iter_len}
use Rattle.event_rules.specs.Packing.{packed_groups}
use Rattle.router.proofs.Packs.{all_packed, more_packed, next_room, none_left, nothing_packed}
use Rattle.router.proofs.packing.packed.Goals as goal

pub loop-item-init : goal.loop-item-init
loop-item-init g c =
    let gives = c.into_iter-item-iterator.ensures.into_iter_gives in
    let made = c.new-filling.ensures in
    let all = into_iter_items c.into_iter-item-iterator.result in (
      tt,
      tt,
      nothing_packed g.X.HasSize.size c.args.start all _ _ _ _ all made.start made.used made.packets
          made.taken (λ i. all) c.requires.start
          (subst (λ xs. AllByRecursion (λ x. c.args.start + g.X.HasSize.size x ≤ 8192) xs)
          (sym gives.0) c.requires.room),
      gives.1 ∙ c.args.items.ok.0 ∙ ap length (sym gives.0),
    )

pub pack-requires-clause-filling : goal.pack-requires-clause-filling
pack-requires-clause-filling g c = c.loop-item.invariant.2.filling

pub pack-requires-clause-room : goal.pack-requires-clause-room
pack-requires-clause-room g c = next_room g.X.HasSize.size _ _ _ _ _ _ _ _ _ c.loop-item.invariant.2
    c.in-Some.ensures.steps.0

pub loop-item-preserved : goal.loop-item-preserved
loop-item-preserved g c =
    let took = c.in_ok-pack.ensures in (
      tt,
      tt,
      more_packed g.X.HasSize.size c.args.start (into_iter_items c.into_iter-item-iterator.result) _
          _ _ _ _ (into_iter_items c.next.new.self) c.in-Some.item _ _ _ _ c.loop-item.invariant.2
          c.in-Some.ensures.steps.0 took.filling took.start
          (took.packed (into_iter_items c.next.new.self)),
      let was = c.loop-item.invariant.3 in
          let gone = c.in-Some.ensures.steps.1 in
          let short = ap length c.in-Some.ensures.steps.0 in
          omega arith,
    )

pub returns : goal.returns
returns g c =
    let size = g.X.HasSize.size in
    let rest = into_iter_items c.loop-item.item-iterator in
    let all = into_iter_items c.into_iter-item-iterator.result in
    let none = none_left rest (into_iter_len c.loop-item.item-iterator) c.loop-item.invariant.3
    c.in-None.ensures.steps.0 in
    let whole = all_packed size c.args.start all _ _ _ _ rest c.loop-item.invariant.2 none
    ∙ ap (λ xs. packed_groups size c.args.start xs)
    c.into_iter-item-iterator.ensures.into_iter_gives.0 in
    subst (λ ps. IfOk c.finish.result (λ packets. packets.items ≡ ps)) whole c.finish.ensures
