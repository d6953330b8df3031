use Rattle.std.proofs.Common.{◌≡◌, true, false, length, refl, ap, sym, subst, ◌∙◌, arith}
use Rattle.std.specs.Prelude.{Some, slice_get}
use Rattle.std.specs.FinMap as map
use Rattle.std.specs.Ordering.{is_eq}
use Rattle.std.proofs.lemmas.Option.{slice_get_read}
use Rattle.keyed_map.specs.Changes.{IsFirst}
use Rattle.keyed_map.specs.Held.{Held}
use Rattle.keyed_map.specs.Keys.{key_cmp}
use Rattle.keyed_map.specs.Slots.{slots_of}
use Rattle.keyed_map.proofs.Changes.{another, first_committed, first_still, same_key, unedited}
use Rattle.keyed_map.proofs.map.KeyedMap.committed_get.Goals as goal

pub loop-place-preserved : goal.loop-place-preserved
loop-place-preserved g c =
    let es = c.as_slice-edits.result.now in
    let n = c.loop-place.place in
    let key = c.args.key.now in
    let edit = c.index-edits-place.result in
    let at = slice_get_read es (length es) n edit refl (omega (arith, c.loop-place-test.true))
    c.index-edits-place.is in
    let differs : is_eq (key_cmp edit.key key) ≡ false =
    ap is_eq (sym c.compare.ensures) ∙ sym c.is_eq.ensures ∙ c.if-is_eq.false in
    first_still es n key edit at (λ same. another edit.key key differs (sym same))
    c.loop-place.invariant

pub returns-then-is_eq : goal.returns-then-is_eq
returns-then-is_eq g c =
    let es = c.as_slice-edits.result.now in
    let n = c.loop-place.place in
    let key = c.args.key.now in
    let edit = c.index-edits-place.result in
    let at = slice_get_read es (length es) n edit refl (omega (arith, c.loop-place-test.true))
    c.index-edits-place.is in
    let items = c.self.inside.edits.items in
    let slots = slots_of c.self.inside.slots.entries in
    let value = c.as_slice-edits.ensures.value in
    let in_items = subst (λ xs. slice_get xs n ≡ Some edit) value at in
    let first = subst (λ xs. IsFirst xs n key) value c.loop-place.invariant in
    let equal : is_eq (key_cmp edit.key key) ≡ true =
    ap is_eq (sym c.compare.ensures) ∙ sym c.is_eq.ensures ∙ c.if-is_eq.true in
    c.held_before.ensures ∙ first_committed items slots n edit key in_items
    (same_key edit.key key equal) first
    ∙ ap (λ (h : Held _). map.get h.committed key) c.self.view_is

pub returns : goal.returns
returns g c =
    let key = c.args.key.now in
    let items = c.self.inside.edits.items in
    let slots = slots_of c.self.inside.slots.entries in
    let value = c.as_slice-edits.ensures.value in
    let none : IsFirst items (length items) key =
    λ at e low is. c.loop-place.invariant at e
    (omega (arith, low, c.loop-place-test.false, c.as_slice-edits.ensures.len, ap length value))
    (subst (λ xs. slice_get xs at ≡ Some e) (sym value) is) in
    c.get.ensures ∙ ap (λ (h : Held _). map.get h.present key) (sym c.self.view_is)
    ∙ unedited items slots key none
    ∙ ap (λ (h : Held _). map.get h.committed key) c.self.view_is
