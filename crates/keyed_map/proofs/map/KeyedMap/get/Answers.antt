use Rattle.std.proofs.Common.{Some, ap, sym, ◌∙◌}
use Rattle.std.specs.FinMap as map
use Rattle.keyed_map.specs.Slots.{slots_of}
use Rattle.keyed_map.proofs.Slots.{get-live, get-slots, held_in}
use Rattle.keyed_map.proofs.map.KeyedMap.get.Goals as goal

pub returns-in-Some-Holds : goal.returns-in-Some-Holds
returns-in-Some-Holds g c =
    let entries = c.self.inside.slots.entries in
    ap (λ s. held_in (Some s)) (sym c.in-Some-Holds.field-0-is)
    ∙ ap held_in (c.in-Some-Holds.ensures.value ∙ sym (get-slots entries c.args.key.now))
    ∙ sym (get-live (slots_of entries) c.args.key.now)
    ∙ ap (λ h. map.get h.present c.args.key.now) c.self.view_is

pub returns-in-Some-Gone : goal.returns-in-Some-Gone
returns-in-Some-Gone g c =
    let entries = c.self.inside.slots.entries in
    ap (λ s. held_in (Some s)) (sym c.in-Some-Gone.field-0-is)
    ∙ ap held_in (c.in-Some-Gone.ensures.value ∙ sym (get-slots entries c.args.key.now))
    ∙ sym (get-live (slots_of entries) c.args.key.now)
    ∙ ap (λ h. map.get h.present c.args.key.now) c.self.view_is

pub returns-in-None : goal.returns-in-None
returns-in-None g c =
    let entries = c.self.inside.slots.entries in
    ap held_in (c.in-None.ensures.value ∙ sym (get-slots entries c.args.key.now))
    ∙ sym (get-live (slots_of entries) c.args.key.now)
    ∙ ap (λ h. map.get h.present c.args.key.now) c.self.view_is
