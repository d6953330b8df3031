use Rattle.std.proofs.Common.{IsSome, Some, refl, ap, sym, subst, ◌∙◌}
use Rattle.std.specs.FinMap as map
use Rattle.keyed_map.specs.declared.slot.KeySlot.TheVariants.{Gone}
use Rattle.keyed_map.specs.Changes.{held_before}
use Rattle.keyed_map.specs.Slots.{slots_of}
use Rattle.keyed_map.proofs.Slots.{get-slots, same_again, slots_insert}
use Rattle.keyed_map.proofs.map.take_out.Goals as goal

pub returns-in-Holds-clause-value : goal.returns-in-Holds-clause-value
returns-in-Holds-clause-value g c =
    let entries = c.args.slots.now.entries in
    ap held_before (ap Some (sym c.in-Holds.is ∙ c.replace.ensures.value) ∙ c.in-Some.ensures.value
    ∙ sym (get-slots entries c.args.key.now))

pub returns-in-Holds-clause-some : goal.returns-in-Holds-clause-some
returns-in-Holds-clause-some g c =
    let entries = c.args.slots.now.entries in
    let key = c.args.key.now in
    let w = c.replace.new.dest in
    slots_insert entries (c.get_mut.follows.lender w).entries key w
    ((c.get_mut.follows.holds w).3 (subst IsSome c.in-Some.ensures.value refl)).0
    ∙ ap (map.insert (slots_of entries) key) c.replace.ensures.after

pub returns-in-Gone-clause-value : goal.returns-in-Gone-clause-value
returns-in-Gone-clause-value g c =
    let entries = c.args.slots.now.entries in
    ap held_before (ap Some (sym c.in-Gone.is ∙ c.replace.ensures.value) ∙ c.in-Some.ensures.value
    ∙ sym (get-slots entries c.args.key.now))

pub returns-in-Gone-clause-none : goal.returns-in-Gone-clause-none
returns-in-Gone-clause-none g c _ =
    let entries = c.args.slots.now.entries in
    let key = c.args.key.now in
    let w = c.replace.new.dest in
    slots_insert entries (c.get_mut.follows.lender w).entries key w
    ((c.get_mut.follows.holds w).3 (subst IsSome c.in-Some.ensures.value refl)).0
    ∙ ap (map.insert (slots_of entries) key) c.replace.ensures.after
    ∙ same_again (slots_of entries) key Gone
    (sym (ap Some (sym c.in-Gone.is ∙ c.replace.ensures.value) ∙ c.in-Some.ensures.value
    ∙ sym (get-slots entries key)))

pub returns-in-None-clause-value : goal.returns-in-None-clause-value
returns-in-None-clause-value g c =
    ap held_before (c.in-None.ensures.value
    ∙ sym (get-slots c.args.slots.now.entries c.args.key.now))
