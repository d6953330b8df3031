use Rattle.std.proofs.Common.{◌++◌, map, refl, ap, sym, ◌∙◌, length, subst, arith}
use Rattle.std.specs.List.{AllByRecursion}
use Rattle.std.specs.Vec.Iter.{into_iter_items, into_iter_len}
use Rattle.event_rules.specs.Packing.{out_of}
use Rattle.router.specs.Texts.{CanBeSent, IsSentText}
use Rattle.router.proofs.Drafted.{draft_room, draft_says}
use Rattle.router.proofs.Packs.{all_moved, none_left, one_moved}
use Rattle.router.proofs.Whole.{draft_can_be_sent}
use Rattle.router.proofs.writing.push_packets.Goals as goal

pub bodies-requires : goal.bodies-requires
bodies-requires c = draft_room c.args.interface c.requires.0 c.requires.1 c.args.draft c.requires.2

pub loop-body-init : goal.loop-body-init
loop-body-init c =
    let gives = c.into_iter-body-iterator.ensures.into_iter_gives in
    let can = draft_can_be_sent c.args.interface c.requires.0 c.requires.1 c.args.draft c.requires.2
    in (
      refl,
      subst (λ bs. AllByRecursion CanBeSent bs) (sym (gives.0 ∙ c.in_ok-body-items.ensures)) can,
      gives.1 ∙ c.in_ok-body-items.body-items.ok.0 ∙ ap length (sym gives.0),
      λ sent. sent,
    )

pub push_packet-requires-clause-room : goal.push_packet-requires-clause-room
push_packet-requires-clause-room c = (subst (λ bs. AllByRecursion CanBeSent bs)
    c.in-Some.ensures.steps.0 c.loop-body.invariant.1).0.0

pub push_packet-requires-clause-whole : goal.push_packet-requires-clause-whole
push_packet-requires-clause-whole c = (subst (λ bs. AllByRecursion CanBeSent bs)
    c.in-Some.ensures.steps.0 c.loop-body.invariant.1).0.1

pub loop-body-preserved : goal.loop-body-preserved
loop-body-preserved c =
    let steps = c.in-Some.ensures.steps in
    let out = out_of c.args.own c.args.interface in (
      one_moved out c.loop-body.outs.items c.push_packet.new.outs.items
          (into_iter_items c.loop-body.body-iterator) (into_iter_items c.next.new.self)
          c.in-Some.body (out c.in-Some.body) _
          c.loop-body.invariant.0 steps.0 refl c.in_ok-push_packet.ensures.out,
      (subst (λ bs. AllByRecursion CanBeSent bs) steps.0 c.loop-body.invariant.1).1,
      let was = c.loop-body.invariant.2 in let gone = steps.1 in let short = ap length steps.0 in
          omega arith,
      λ sent. c.loop-body.invariant.3 (subst (λ bs. AllByRecursion (IsSentText c.args.own) bs)
          (sym steps.0) (c.in_ok-push_packet.ensures.text, sent)),
    )

pub returns-clause-outs : goal.returns-clause-outs
returns-clause-outs c = λ link sends is.
    let rest = into_iter_items c.loop-body.body-iterator in
    let none = none_left rest (into_iter_len c.loop-body.body-iterator) c.loop-body.invariant.2
    c.in-None.ensures.steps.0 in
    let said = c.into_iter-body-iterator.ensures.into_iter_gives.0 ∙ c.in_ok-body-items.ensures
    ∙ draft_says c.args.interface link sends c.args.draft is in
    all_moved (out_of c.args.own c.args.interface) c.loop-body.outs.items rest _
    c.loop-body.invariant.0 none
    ∙ ap (λ bs. c.args.outs.now.items ++ map (out_of c.args.own c.args.interface) bs) said

pub returns-clause-texts : goal.returns-clause-texts
returns-clause-texts c = λ link sends is.
    let rest = into_iter_items c.loop-body.body-iterator in
    let none = none_left rest (into_iter_len c.loop-body.body-iterator) c.loop-body.invariant.2
    c.in-None.ensures.steps.0 in
    let said = c.into_iter-body-iterator.ensures.into_iter_gives.0 ∙ c.in_ok-body-items.ensures
    ∙ draft_says c.args.interface link sends c.args.draft is in
    subst (λ bs. AllByRecursion (IsSentText c.args.own) bs) said
    (c.loop-body.invariant.3 (subst (λ bs. AllByRecursion (IsSentText c.args.own) bs) (sym none)
    tt))
