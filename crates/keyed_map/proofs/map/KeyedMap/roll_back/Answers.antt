use Rattle.std.proofs.Common.{[], ◌++◌, ◌-◌, take, ap, sym, subst, ◌∙◌, refl}
use Rattle.std.specs.FinMap as map
use Rattle.keyed_map.specs.Slots.{AllFit, live, slots_of, undo, undone}
use Rattle.keyed_map.proofs.Slots.{popped, undone-push}
use Rattle.keyed_map.proofs.map.KeyedMap.roll_back.Goals as goal

pub take_back-requires : goal.take_back-requires
take_back-requires g c =
    let slots = slots_of c.loop-edit.self-inside.slots.entries in
    (popped c.pop.new.self.items c.in-Some.edit slots
    (subst (λ es. AllFit es slots) c.in-Some.ensures.items c.loop-edit.invariant.fit)).0

pub loop-edit-preserved : goal.loop-edit-preserved
loop-edit-preserved g c =
    let slots = slots_of c.loop-edit.self-inside.slots.entries in
    let edits = c.pop.new.self.items in
    let edit = c.in-Some.edit in
    record {
      fit = subst (AllFit edits) (sym c.take_back.ensures)
          (popped c.pop.new.self.items c.in-Some.edit slots
          (subst (λ es. AllFit es slots) c.in-Some.ensures.items c.loop-edit.invariant.fit)).1;
      len = c.loop-edit.invariant.len;
      committed = ap (λ m. live (undone edits m)) c.take_back.ensures
          ∙ ap live (sym (undone-push edits edit (undo edit slots) slots refl))
          ∙ ap (λ es. live (undone es slots)) (sym c.in-Some.ensures.items)
          ∙ c.loop-edit.invariant.committed;
    }

pub invariant_of-self : goal.invariant_of-self
invariant_of-self g c =
    let slots = slots_of c.loop-edit.self-inside.slots.entries in
    let none = c.in_default.ensures.rest
    ∙ ap (λ n. take (n - 1) c.loop-edit.self-inside.edits.items) c.in_default.ensures.cases.0 in
    let emptied = c.in_default.ensures.items ∙ ap (λ es. es ++ []) none in
    let len = c.loop-edit.invariant.len ∙ sym (ap map.len c.loop-edit.invariant.committed)
    ∙ ap (λ es. map.len (live (undone es slots))) emptied in (
      subst (λ es. AllFit es slots) (sym none) tt,
      len,
      len ∙ ap (λ es. map.len (live (undone es slots))) (sym none),
    )
