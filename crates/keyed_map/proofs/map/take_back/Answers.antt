use Rattle.std.proofs.Common.{◌≡◌, IsSome, None, OnErr, ap, sym, subst, ◌∙◌}
use mathlib.Core.Bool.{false≢true}
use Rattle.std.specs.BTreeMap as tree
use Rattle.keyed_map.specs.Keys.{key_cmp}
use Rattle.keyed_map.specs.Slots.{HasPlace, put_back, slots_of}
use Rattle.keyed_map.proofs.Slots.{get-slots, slots_insert, slots_remove}
use Rattle.keyed_map.proofs.map.take_back.Goals as goal

-- the key has its slot, and only a key without one can be refused
pub unreachable-requires : goal.unreachable-requires
unreachable-requires g c =
    let entries = c.args.slots.now.entries in
    let has = subst (λ b. HasPlace c.args.edit.key b (slots_of entries)) c.in-Some.is c.requires in
    let none = subst (λ r. OnErr r (tree.get key_cmp c.args.slots.now c.args.edit.key ≡ None))
    c.in_default.is c.insert-written.ensures.absent in
    absurd (false≢true (subst IsSome (get-slots entries c.args.edit.key ∙ none) has))

pub returns-in-Ok : goal.returns-in-Ok
returns-in-Ok g c =
    let entries = c.args.slots.now.entries in
    slots_insert entries c.insert-written.new.self.entries c.args.edit.key c.in-Some.slot
    c.in-Ok.ensures.updates.0 ∙ ap (λ b. put_back c.args.edit.key b (slots_of entries))
    (sym c.in-Some.is)

pub returns-in-None : goal.returns-in-None
returns-in-None g c =
    let entries = c.args.slots.now.entries in
    slots_remove entries c.remove-gone.new.self.entries c.args.edit.key
    c.remove-gone.ensures.updates.0
    ∙ ap (λ b. put_back c.args.edit.key b (slots_of entries)) (sym c.in-None.is)
