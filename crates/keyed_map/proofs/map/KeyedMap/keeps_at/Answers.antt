use Rattle.std.proofs.Common.{length, refl, ap, sym, subst, ◌∙◌, arith}
use Rattle.std.specs.Prelude.{IfOk, IsTrue, ◌↔◌}
use Rattle.std.specs.FinMap as map
use Rattle.std.proofs.lemmas.Option.{same_Some, slice_get_read}
use Rattle.keyed_map.specs.declared.slot.Edit.{Edit}
use Rattle.keyed_map.specs.Changes.{IsFirst, held_before}
use Rattle.keyed_map.proofs.map.KeyedMap.keeps_at.Goals as goal

-- a key that doesn't count has the same value by definition
pub returns-then-not-branch : goal.returns-then-not-branch
returns-then-not-branch g c edit at =
    let S = g.T.ChangeTest.same c.args.test.now in
    let es = c.args.edits.now in
    let one = c.index-edits-place.result in
    let here = slice_get_read es (length es) c.args.place one refl (omega (arith, c.requires))
    c.index-edits-place.is in
    let present = c.args.self.now.present in (
      (λ t first. subst (λ (e : Edit _). S e.key (held_before e.before) (map.get present e.key))
          (same_Some one edit (sym here ∙ at))
          (c.in_ok-counts.ensures.1 c.if-not-branch.true (held_before one.before)
          (map.get present one.key))),
      (λ all. refl),
    )

pub is_kept-requires-clause-counted : goal.is_kept-requires-clause-counted
is_kept-requires-clause-counted g c edit at =
    let es = c.args.edits.now in
    let one = c.index-edits-place.result in
    let here = slice_get_read es (length es) c.args.place one refl (omega (arith, c.requires))
    c.index-edits-place.is in
    subst (λ (e : Edit _). g.T.ChangeTest.counted c.args.test.now e.key)
    (same_Some one edit (sym here ∙ at)) (c.in_ok-counts.ensures.0 c.if-not-branch.false)

pub returns : goal.returns
returns g c edit at =
    let S = g.T.ChangeTest.same c.args.test.now in
    let es = c.args.edits.now in
    let one = c.index-edits-place.result in
    let here = slice_get_read es (length es) c.args.place one refl (omega (arith, c.requires))
    c.index-edits-place.is in
    let present = c.args.self.now.present in
    subst (λ o. IfOk c.is_kept.result
    (λ kept. IsTrue kept ↔ (IsFirst es c.args.place edit.key
    → S edit.key (held_before edit.before) o)))
    (c.get-now.ensures ∙ ap (λ (e : Edit _). map.get present e.key)
    (same_Some one edit (sym here ∙ at))) (c.is_kept.ensures edit at)
