use Rattle.std.proofs.Common.{ap, sym, subst, ◌∙◌}
use Rattle.std.specs.FinMap as map
use Rattle.keyed_map.specs.Keys.{key_cmp}
use Rattle.keyed_map.specs.Slots.{AllFit, live, slots_of, undone}
use Rattle.keyed_map.proofs.Helds.{held}
use Rattle.keyed_map.proofs.Slots.{live-empty, slots-empty}
use Rattle.keyed_map.proofs.map.KeyedMap.new.Goals as goal

pub invariant_of-result : goal.invariant_of-result
invariant_of-result g c =
    let slots = slots_of c.new.result.entries in
    let none = ap map.len (ap live (slots-empty _ c.new.ensures.empty) ∙ live-empty)
    ∙ map.len-empty key_cmp _ in (
      subst (λ es. AllFit es slots) (sym c.new-2.ensures.items) tt,
      sym none,
      sym (ap (λ es. map.len (live (undone es slots))) c.new-2.ensures.items ∙ none),
    )

pub returns : goal.returns
returns g c =
    let none = slots-empty _ c.new.ensures.empty in
    held (ap live none ∙ live-empty) (ap (λ es. live (undone es (slots_of c.new.result.entries)))
    c.new-2.ensures.items ∙ ap live none ∙ live-empty)
