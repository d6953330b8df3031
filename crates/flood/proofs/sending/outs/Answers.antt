use Rattle.std.proofs.Common.{length, refl, sym, ap, ◌∙◌, subst, arith}
use Rattle.std.specs.Vec.Iter.{into_iter_items, into_iter_len}
use Rattle.router.proofs.Packs.{none_left}
use Rattle.flood.specs.Drafts.{AreDraftsFrom}
use Rattle.flood.proofs.Drafting.{all_sent, all_spelled, next_draft, one_sent, sending_starts}
use Rattle.flood.proofs.sending.outs.Goals as goal

pub loop-draft-init : goal.loop-draft-init
loop-draft-init c =
    let gives = c.into_iter-draft-iterator.ensures.into_iter_gives in
    let count = ap length gives.0 in (
      sending_starts c.args.own _ _ _ c.new-outs.ensures.items refl,
      gives.1 ∙ c.args.drafts.ok.0 ∙ ap length (sym gives.0),
      omega (arith, count, c.requires.few),
    )

pub push_packets-requires : goal.push_packets-requires
push_packets-requires c =
    let gives = c.into_iter-draft-iterator.ensures.into_iter_gives in
    next_draft c.args.own (into_iter_items c.into_iter-draft-iterator.result) c.loop-draft.interface
    c.loop-draft.outs.items (into_iter_items c.loop-draft.draft-iterator)
    (into_iter_items c.next.new.self) c.in-Some.draft
    c.loop-draft.invariant.0 c.in-Some.ensures.steps.0 c.requires.drafts.0 c.requires.drafts.1
    (subst (AreDraftsFrom 1 c.requires.drafts.0 c.requires.drafts.1) (sym gives.0)
    c.requires.drafts.2.from)

pub overflow_add-interface : goal.overflow_add-interface
overflow_add-interface c =
    let short = ap length c.in-Some.ensures.steps.0 in
    let few = c.loop-draft.invariant.2 in
    omega arith

pub loop-draft-preserved : goal.loop-draft-preserved
loop-draft-preserved c =
    let steps = c.in-Some.ensures.steps in
    let was = c.loop-draft.invariant.1 in
    let few = c.loop-draft.invariant.2 in
    let gone = steps.1 in
    let short = ap length steps.0 in (
      one_sent c.args.own (into_iter_items c.into_iter-draft-iterator.result) c.loop-draft.interface
          c.loop-draft.outs.items c.push_packets.new.outs.items
          (into_iter_items c.loop-draft.draft-iterator) (into_iter_items c.next.new.self)
          c.in-Some.draft
          c.loop-draft.invariant.0 steps.0 c.in_ok-push_packets.ensures.outs
          c.in_ok-push_packets.ensures.texts,
      omega arith,
      omega arith,
    )

pub returns-clause-outs : goal.returns-clause-outs
returns-clause-outs c = λ links sends are.
    let rest = into_iter_items c.loop-draft.draft-iterator in
    let gives = c.into_iter-draft-iterator.ensures.into_iter_gives in
    let none = none_left rest (into_iter_len c.loop-draft.draft-iterator) c.loop-draft.invariant.1
    c.in-None.ensures.steps.0 in
    all_sent c.args.own (into_iter_items c.into_iter-draft-iterator.result) c.loop-draft.interface
    c.loop-draft.outs.items rest c.loop-draft.invariant.0 none links sends
    (subst (AreDraftsFrom 1 links sends) (sym gives.0) are.from)

pub returns-clause-texts : goal.returns-clause-texts
returns-clause-texts c = λ links sends are.
    let rest = into_iter_items c.loop-draft.draft-iterator in
    let gives = c.into_iter-draft-iterator.ensures.into_iter_gives in
    let none = none_left rest (into_iter_len c.loop-draft.draft-iterator) c.loop-draft.invariant.1
    c.in-None.ensures.steps.0 in
    all_spelled c.args.own (into_iter_items c.into_iter-draft-iterator.result)
    c.loop-draft.interface
    c.loop-draft.outs.items rest c.loop-draft.invariant.0 none links sends
    (subst (AreDraftsFrom 1 links sends) (sym gives.0) are.from)
