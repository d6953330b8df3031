use Rattle.std.proofs.Common.{ap, sym, subst, ◌∙◌}
use Rattle.std.specs.FinMap as finite
use Rattle.keyed_map.specs.Slots.{AllFit, kept, live, slots_of, undone}
use Rattle.keyed_map.proofs.Orders.{filled, filled_live}
use Rattle.keyed_map.proofs.Slots.{live-empty, slots-empty}
use Rattle.keyed_map.proofs.map.KeyedMap.copied.Goals as goal

pub loop-key-init : goal.loop-key-init
loop-key-init g c = ap (λ m. filled m (kept c.into_iter-key-iterator.result))
    (ap live (slots-empty _ c.new-slots.ensures.empty) ∙ live-empty)

pub invariant_of-result : goal.invariant_of-result
invariant_of-result g c =
    let slots = slots_of c.loop-key.slots.entries in
    let same = ap (λ es. filled (live slots) (kept es)) (sym c.in-None.ensures.steps.0)
    ∙ c.loop-key.invariant
    ∙ ap (λ es. filled finite.empty (kept es))
    (c.into_iter-key-iterator.ensures.into_iter_gives ∙ c.iter-key-items.ensures.rest)
    ∙ filled_live c.self.inside.slots.entries c.iter-key-items.ensures.ordered in
    let len = c.self.invariant.1 ∙ sym (ap finite.len same) in (
      subst (λ es. AllFit es slots) (sym c.new.ensures.items) tt,
      len,
      len ∙ ap (λ es. finite.len (live (undone es slots))) (sym c.new.ensures.items),
    )

pub returns-clause-present : goal.returns-clause-present
returns-clause-present g c =
    ap (λ es. filled (live (slots_of c.loop-key.slots.entries)) (kept es))
    (sym c.in-None.ensures.steps.0) ∙ c.loop-key.invariant
    ∙ ap (λ es. filled finite.empty (kept es))
    (c.into_iter-key-iterator.ensures.into_iter_gives ∙ c.iter-key-items.ensures.rest)
    ∙ filled_live c.self.inside.slots.entries c.iter-key-items.ensures.ordered
    ∙ ap (λ h. h.present) c.self.view_is
