use Rattle.std.proofs.Common.{◌≡◌, true, false, length, sym, ap, subst, ◌∙◌, refl, arith}
use Rattle.std.specs.Prelude.{Some, slice_get}
use Rattle.std.specs.FinMap as map
use Rattle.words.specs.declared.key.Key.{Key}
use Rattle.keyed_map.specs.Changes.{IsFirst}
use Rattle.keyed_map.specs.Slots.{slots_of}
use Rattle.keyed_map.specs.Held.{Held}
use Rattle.keyed_map.proofs.Changes.{Keeps, first_kept, found_at, kept, one_more}
use Rattle.keyed_map.proofs.map.KeyedMap.keeps.Goals as goal

pub loop-place-preserved : goal.loop-place-preserved
loop-place-preserved g c =
    let S = g.T.ChangeTest.same c.args.test.now in
    let es = c.as_slice-edits.result.now in
    let n = c.loop-place.place in
    let found = found_at es n (omega arith) in
    let edit = found.0 in
    let at = found.1 in
    one_more S c.args.self.now.present es n edit at
    ((c.in_ok-keeps_at.ensures edit at).0 c.if-not-branch.false) c.loop-place.invariant

pub returns-then-not-branch : goal.returns-then-not-branch
returns-then-not-branch g c =
    let S = g.T.ChangeTest.same c.args.test.now in
    let es = c.as_slice-edits.result.now in
    let n = c.loop-place.place in
    let found = found_at es n (omega arith) in
    let edit = found.0 in
    let at = found.1 in
    let items = c.self.inside.edits.items in
    let slots = slots_of c.self.inside.slots.entries in
    let in_items = subst (λ xs. slice_get xs n ≡ Some edit) c.as_slice-edits.ensures.value at in (
      (λ t. absurd cc),
      (λ all. absurd (
          let inside = subst (λ (h : Held _). (key : Key)
          → S key (map.get h.committed key) (map.get h.present key)) (sym c.self.view_is) all in
          let same = λ (first : IsFirst es n edit.key).
          let one = first_kept S items slots n edit in_items
          (subst (λ xs. IsFirst xs n edit.key) c.as_slice-edits.ensures.value first) inside in
          subst (λ (h : Held _). Keeps S h.present edit) c.self.view_is one in
          let t = (c.in_ok-keeps_at.ensures edit at).1 same in
          let no : false ≡ true = sym c.if-not-branch.true ∙ t in
          cc)),
    )

pub returns : goal.returns
returns g c = (
  (λ t key.
      let S = g.T.ChangeTest.same c.args.test.now in
      let items = c.self.inside.edits.items in
      let slots = slots_of c.self.inside.slots.entries in
      let value = c.as_slice-edits.ensures.value in
      subst (λ (h : Held _). S key (map.get h.committed key) (map.get h.present key)) c.self.view_is
      (kept S c.requires items slots (λ place e low at first.
      subst (λ (h : Held _). Keeps S h.present e) (sym c.self.view_is)
      (c.loop-place.invariant place e (omega
      (arith, low, c.loop-place-test.false, c.as_slice-edits.ensures.len, ap length value))
      (subst (λ xs. slice_get xs place ≡ Some e) (sym value) at)
      (subst (λ xs. IsFirst xs place e.key) (sym value) first))) key)),
  (λ all. refl),
)
