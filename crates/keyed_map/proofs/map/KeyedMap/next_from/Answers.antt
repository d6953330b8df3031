use Rattle.std.proofs.Common.{◌∷◌, Some, map, ap, sym, ◌∙◌}
use Rattle.std.specs.Prelude.{slice_get}
use Rattle.std.specs.FinMap as finite
use Rattle.keyed_map.specs.declared.slot.KeySlot.{KeySlot}
use Rattle.keyed_map.specs.Slots.{kept, keys_from}
use Rattle.keyed_map.proofs.Orders.{kept_from, live_entries}
use Rattle.keyed_map.proofs.map.KeyedMap.next_from.Goals as goal

pub returns-in-Holds : goal.returns-in-Holds
returns-in-Holds g c =
    let entries = c.self.inside.slots.entries in
    let shown = ap (map (λ e. e.0)) (live_entries entries c.range-first-items.ensures.ordered) in
    let whole = c.loop-first.invariant
    ∙ ap (λ es. map (λ e. e.0) (kept es))
    (c.into_iter-first-iterator.ensures.into_iter_gives
    ∙ c.range-first-items.ensures.between tt)
    ∙ kept_from c.args.key.now entries
    ∙ ap (keys_from c.args.key.now) (sym shown ∙ ap (λ h. finite.keys h.present) c.self.view_is)
    in
    ap Some c.copy_key.ensures ∙ ap (λ ks. slice_get ks 0)
    (ap (λ (s : KeySlot _). map (λ e. e.0) (kept ((c.in-Some.first.now, s) ∷ c.next.new.self)))
    (sym c.in-Holds.is) ∙ ap (λ es. map (λ e. e.0) (kept es)) (sym c.in-Some.ensures.steps)
    ∙ whole)

pub returns : goal.returns
returns g c =
    let entries = c.self.inside.slots.entries in
    let shown = ap (map (λ e. e.0)) (live_entries entries c.range-first-items.ensures.ordered) in
    let whole = c.loop-first.invariant
    ∙ ap (λ es. map (λ e. e.0) (kept es))
    (c.into_iter-first-iterator.ensures.into_iter_gives
    ∙ c.range-first-items.ensures.between tt)
    ∙ kept_from c.args.key.now entries
    ∙ ap (keys_from c.args.key.now) (sym shown ∙ ap (λ h. finite.keys h.present) c.self.view_is)
    in
    ap (λ ks. slice_get ks 0) (ap (λ es. map (λ e. e.0) (kept es)) (sym c.in-None.ensures.steps.0)
    ∙ whole)
