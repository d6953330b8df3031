use Rattle.std.proofs.Common.{◌≡◌, [], ◌∷◌, ◌++◌, ap, sym, subst, ◌∙◌, true}
use Rattle.std.specs.FinMap as map
use Rattle.keyed_map.specs.declared.slot.Edit.{Edit}
use Rattle.keyed_map.specs.declared.slot.KeySlot.TheVariants.{Holds}
use Rattle.keyed_map.specs.Slots.{AllFit, count_after_change, live, slots_of, undone}
use Rattle.keyed_map.proofs.Changes.{was_there}
use Rattle.keyed_map.proofs.Slots.{AllFit-push, get-slots, has_place, len_put, live_put}
use Rattle.keyed_map.proofs.Slots.{put_back_is, slots_insert, undone-push}
use Rattle.keyed_map.proofs.map.KeyedMap.insert.Goals as goal

pub invariant_of-self-2 : goal.invariant_of-self-2
invariant_of-self-2 g c =
    let slots = slots_of c.self.inside.slots.entries in
    let edits = c.self.inside.edits.items in
    let edit : Edit _ = record { key = c.args.key; before = c.in_ok-before.before } in
    let now = slots_insert c.self.inside.slots.entries c.insert.new.self.entries c.args.key
    (Holds c.args.x) c.in_ok-before.ensures.updates.0 in
    let stood = c.in_ok-before.ensures.old
    ∙ sym (get-slots c.self.inside.slots.entries c.args.key) in
    let pushed : c.push_reserved.new.self.items ≡ c.self.inside.edits.items ++ record {
      key = c.args.key;
      before = c.in_ok-before.before;
    } ∷ [] =
    c.push_reserved.ensures.items ∙ ap (λ es. es ++ record {
      key = c.copy_key-noted.result;
      before = c.in_ok-before.before;
    } ∷ []) c.reserve.ensures.items
    ∙ ap (λ k. c.self.inside.edits.items ++ record {
      key = k;
      before = c.in_ok-before.before;
    } ∷ []) c.copy_key-noted.ensures in
    let back = put_back_is slots c.args.key (Holds c.args.x) c.in_ok-before.before stood in
    let fit : AllFit c.push_reserved.new.self.items (slots_of c.insert.new.self.entries) =
    subst (AllFit c.push_reserved.new.self.items) (sym now)
    (subst (λ es. AllFit es (map.insert slots c.args.key (Holds c.args.x))) (sym pushed)
    (AllFit-push edits edit slots (map.insert slots c.args.key (Holds c.args.x)) back
    (has_place slots c.args.key (Holds c.args.x) c.in_ok-before.before) c.self.invariant.0))
    in
    let committed = ap (λ es. live (undone es (slots_of c.insert.new.self.entries))) pushed
    ∙ ap (λ m. live (undone (edits ++ edit ∷ []) m)) now
    ∙ ap live (undone-push edits edit slots (map.insert slots c.args.key (Holds c.args.x))
    back) in
    (fit, c.count-self-inside.ensures, c.self.invariant.2 ∙ sym (ap map.len committed))

pub returns-clause-ok : goal.returns-clause-ok
returns-clause-ok g c =
    let slots = slots_of c.self.inside.slots.entries in
    let now = slots_insert c.self.inside.slots.entries c.insert.new.self.entries c.args.key
    (Holds c.args.x) c.in_ok-before.ensures.updates.0 in
    ap live now ∙ live_put slots c.args.key (Holds c.args.x)
    ∙ ap (λ h. map.insert h.present c.args.key c.args.x) c.self.view_is

pub returns-clause-committed : goal.returns-clause-committed
returns-clause-committed g c =
    let slots = slots_of c.self.inside.slots.entries in
    let edits = c.self.inside.edits.items in
    let edit : Edit _ = record { key = c.args.key; before = c.in_ok-before.before } in
    let now = slots_insert c.self.inside.slots.entries c.insert.new.self.entries c.args.key
    (Holds c.args.x) c.in_ok-before.ensures.updates.0 in
    let stood = c.in_ok-before.ensures.old
    ∙ sym (get-slots c.self.inside.slots.entries c.args.key) in
    let pushed : c.push_reserved.new.self.items ≡ c.self.inside.edits.items ++ record {
      key = c.args.key;
      before = c.in_ok-before.before;
    } ∷ [] =
    c.push_reserved.ensures.items ∙ ap (λ es. es ++ record {
      key = c.copy_key-noted.result;
      before = c.in_ok-before.before;
    } ∷ []) c.reserve.ensures.items
    ∙ ap (λ k. c.self.inside.edits.items ++ record {
      key = k;
      before = c.in_ok-before.before;
    } ∷ []) c.copy_key-noted.ensures in
    let back = put_back_is slots c.args.key (Holds c.args.x) c.in_ok-before.before stood in
    ap (λ es. live (undone es (slots_of c.insert.new.self.entries))) pushed
    ∙ ap (λ m. live (undone (edits ++ edit ∷ []) m)) now
    ∙ ap live (undone-push edits edit slots (map.insert slots c.args.key (Holds c.args.x))
    back) ∙ ap (λ h. h.committed) c.self.view_is

pub count-self-inside-requires : goal.count-self-inside-requires
count-self-inside-requires g c =
    let slots = slots_of c.self.inside.slots.entries in
    let now = slots_insert c.self.inside.slots.entries c.insert.new.self.entries c.args.key
    (Holds c.args.x) c.in_ok-before.ensures.updates.0 in
    let stood = c.in_ok-before.ensures.old
    ∙ sym (get-slots c.self.inside.slots.entries c.args.key) in
    let held : map.contains_key (live slots) c.args.key ≡ c.held-held.result =
    sym (c.held-held.ensures ∙ was_there slots c.args.key c.in_ok-before.before stood) in
    ap (λ m. map.len (live m)) now ∙ ap map.len (live_put slots c.args.key (Holds c.args.x))
    ∙ len_put (live slots) c.args.key (Holds c.args.x)
    ∙ (λ i. count_after_change (held i) true ((sym c.self.invariant.1) i))
