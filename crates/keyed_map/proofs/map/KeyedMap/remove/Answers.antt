use Rattle.std.proofs.Common.{◌≡◌, ◌-◌, [], ◌∷◌, ◌++◌, Some, false, refl, ap, sym, subst, ◌∙◌}
use Rattle.std.specs.FinMap as map
use Rattle.keyed_map.specs.declared.slot.Edit.{Edit}
use Rattle.keyed_map.specs.declared.slot.KeySlot.TheVariants.{Gone, Holds}
use Rattle.keyed_map.specs.Slots.{AllFit, count_after_change, live, slots_of, undone}
use Rattle.keyed_map.proofs.Changes.{held_same, holds_is, was_there}
use Rattle.keyed_map.proofs.Slots.{AllFit-push, absent, get-live, has_place, len_put, live_put}
use Rattle.keyed_map.proofs.Slots.{put_back_is, undone-push}
use Rattle.keyed_map.proofs.map.KeyedMap.remove.Goals as goal

pub invariant_of-self-in-Some : goal.invariant_of-self-in-Some
invariant_of-self-in-Some g c =
    let slots = slots_of c.self.inside.slots.entries in
    let edits = c.self.inside.edits.items in
    let key = c.args.key.now in
    let edit : Edit _ = record { key = c.args.key.now; before = Some (Holds c.in-Some.x) } in
    let now = c.in-Some.ensures.some in
    let stood = holds_is (map.get slots key) c.in-Some.x c.in-Some.ensures.value in
    let pushed : c.push_reserved.new.self.items ≡ c.self.inside.edits.items ++ record {
      key = c.args.key.now;
      before = Some (Holds c.in-Some.x);
    } ∷ [] =
    c.push_reserved.ensures.items ∙ ap (λ es. es ++ record {
      key = c.copy_key.result;
      before = Some (Holds c.in-Some.x);
    } ∷ []) c.reserve.ensures.items
    ∙ ap (λ k. c.self.inside.edits.items ++ record {
      key = k;
      before = Some (Holds c.in-Some.x);
    } ∷ []) c.copy_key.ensures in
    let back = put_back_is slots key Gone (Some (Holds c.in-Some.x)) stood in
    let fit : AllFit c.push_reserved.new.self.items (slots_of c.take_out.new.slots.entries) =
    subst (AllFit c.push_reserved.new.self.items) (sym now)
    (subst (λ es. AllFit es (map.insert slots key Gone)) (sym pushed)
    (AllFit-push edits edit slots (map.insert slots key Gone) back
    (has_place slots key Gone (Some (Holds c.in-Some.x))) c.self.invariant.0)) in
    let there = was_there slots key (Some (Holds c.in-Some.x)) stood in
    let len = c.saturating_sub-self-inside.ensures ∙ ap (λ n. n - 1) c.self.invariant.1
    ∙ ap (λ b. count_after_change b false (map.len (live slots))) there
    ∙ sym (ap (λ m. map.len (live m)) now ∙ ap map.len (live_put slots key Gone)
    ∙ len_put (live slots) key Gone) in
    let committed = ap (λ es. live (undone es (slots_of c.take_out.new.slots.entries))) pushed
    ∙ ap (λ m. live (undone (edits ++ edit ∷ []) m)) now
    ∙ ap live (undone-push edits edit slots (map.insert slots key Gone) back) in
    (fit, len, c.self.invariant.2 ∙ sym (ap map.len committed))

pub returns-in-Some-clause-ok : goal.returns-in-Some-clause-ok
returns-in-Some-clause-ok g c =
    let slots = slots_of c.self.inside.slots.entries in
    ap live c.in-Some.ensures.some ∙ live_put slots c.args.key.now Gone
    ∙ ap (λ h. map.remove h.present c.args.key.now) c.self.view_is

pub returns-in-Some-clause-committed : goal.returns-in-Some-clause-committed
returns-in-Some-clause-committed g c =
    let slots = slots_of c.self.inside.slots.entries in
    let edits = c.self.inside.edits.items in
    let key = c.args.key.now in
    let edit : Edit _ = record { key = c.args.key.now; before = Some (Holds c.in-Some.x) } in
    let now = c.in-Some.ensures.some in
    let stood = holds_is (map.get slots key) c.in-Some.x c.in-Some.ensures.value in
    let pushed : c.push_reserved.new.self.items ≡ c.self.inside.edits.items ++ record {
      key = c.args.key.now;
      before = Some (Holds c.in-Some.x);
    } ∷ [] =
    c.push_reserved.ensures.items ∙ ap (λ es. es ++ record {
      key = c.copy_key.result;
      before = Some (Holds c.in-Some.x);
    } ∷ []) c.reserve.ensures.items
    ∙ ap (λ k. c.self.inside.edits.items ++ record {
      key = k;
      before = Some (Holds c.in-Some.x);
    } ∷ []) c.copy_key.ensures in
    let back = put_back_is slots key Gone (Some (Holds c.in-Some.x)) stood in
    ap (λ es. live (undone es (slots_of c.take_out.new.slots.entries))) pushed
    ∙ ap (λ m. live (undone (edits ++ edit ∷ []) m)) now
    ∙ ap live (undone-push edits edit slots (map.insert slots key Gone) back)
    ∙ ap (λ h. h.committed) c.self.view_is

pub returns-in_default-clause-ok : goal.returns-in_default-clause-ok
returns-in_default-clause-ok g c =
    let slots = slots_of c.self.inside.slots.entries in
    let key = c.args.key.now in
    ap live (c.in_default.ensures.none refl)
    ∙ absent (live slots) key (get-live slots key ∙ held_same (map.get slots key)
    ∙ sym c.in_default.ensures.value) ∙ ap (λ h. map.remove h.present key) c.self.view_is
