use Rattle.std.proofs.Common.{◌≡◌, true, false, [], ◌∷◌, ◌++◌, length, refl, ap, sym, subst, ◌∙◌}
use Rattle.std.proofs.Common.{arith}
use Rattle.std.specs.Prelude.{Some, slice_get}
use Rattle.std.specs.FinMap as map
use Rattle.std.proofs.lemmas.List.Elements.{Contains-push}
use Rattle.std.proofs.lemmas.Option.{slice_get_read}
use Rattle.keyed_map.specs.Changes.{IsFirst}
use Rattle.keyed_map.specs.Held.{Held}
use Rattle.keyed_map.specs.Slots.{slots_of}
use Rattle.keyed_map.proofs.Changes.{Keeps, Outside, kept, kept_there, one_differs, one_more}
use Rattle.keyed_map.proofs.Changes.{still_outside}
use Rattle.keyed_map.proofs.map.KeyedMap.changed_keys.Goals as goal
use Rattle.keyed_map.proofs.map.KeyedMap.changed_keys.Goals.{then-not-branch+in_ok-push}
use Rattle.keyed_map.proofs.map.KeyedMap.changed_keys.Goals.{else-not-branch}

pub loop-place-preserved : goal.loop-place-preserved
loop-place-preserved g c =
    let S = g.T.ChangeTest.same c.args.test.now in
    let committed = c.args.self.now.committed in
    let present = c.args.self.now.present in
    let es = c.as_slice-edits.result.now in
    let n = c.loop-place.place in
    let edit = c.index-edits-place.result in
    let at = slice_get_read es (length es) n edit refl (omega (arith, c.loop-place-test.true))
    c.index-edits-place.is in
    let keys = c.loop-place.keys.items in
    let kept_here = c.in_ok-keeps_at.ensures edit at in
    elim c.if-not-branch.branch [
      | then-not-branch+in_ok-push w ↦
          let pushed = w.in_ok-push.ensures.items ∙ ap (λ k. keys ++ k ∷ []) w.copy_key.ensures in
          let items = c.self.inside.edits.items in
          let slots = slots_of c.self.inside.slots.entries in
          let value = c.as_slice-edits.ensures.value in
          let in_items = subst (λ xs. slice_get xs n ≡ Some edit) value at in
          let differs = λ (same : S edit.key (map.get committed edit.key)
          (map.get present edit.key)).
          let inside = subst (λ (h : Held _). S edit.key (map.get h.committed edit.key)
          (map.get h.present edit.key)) (sym c.self.view_is) same in
          let t = kept_here.1 (λ first.
          let one = kept_there S items slots n edit in_items
          (subst (λ xs. IsFirst xs n edit.key) value first) inside in
          subst (λ (h : Held _). Keeps S h.present edit) c.self.view_is one) in
          let no : false ≡ true = sym w.if-not-branch.true ∙ t in
          absurd cc in
          let still = still_outside S present es n keys (edit.key ∷ [])
          c.loop-place.invariant.others in
          let changed = one_differs S committed present keys edit.key c.loop-place.invariant.changed
          differs in
          let others = one_more (Outside (keys ++ edit.key ∷ []) S) present es n edit at
          (λ first none. absurd (none (Contains-push keys edit.key))) still in
          rw (w.keys-is, pushed) (record { changed = changed; others = others })
      | else-not-branch w ↦
          let others = one_more (Outside keys S) present es n edit at
          (λ first none. kept_here.0 w.if-not-branch.false first) c.loop-place.invariant.others in
          rw w.keys-is (record { changed = c.loop-place.invariant.changed; others = others })
    ]

pub returns-clause-others : goal.returns-clause-others
returns-clause-others g c key none =
    let S = g.T.ChangeTest.same c.args.test.now in
    let items = c.self.inside.edits.items in
    let slots = slots_of c.self.inside.slots.entries in
    let value = c.as_slice-edits.ensures.value in
    let keys = c.loop-place.keys.items in
    subst (λ (h : Held _). S key (map.get h.committed key) (map.get h.present key)) c.self.view_is
    (kept (Outside keys S) (λ k o out. c.requires k o) items slots (λ place e low at first.
    subst (λ (h : Held _). Keeps (Outside keys S) h.present e) (sym c.self.view_is)
    (c.loop-place.invariant.others place e
    (omega (arith, low, c.loop-place-test.false, c.as_slice-edits.ensures.len, ap length value))
    (subst (λ xs. slice_get xs place ≡ Some e) (sym value) at)
    (subst (λ xs. IsFirst xs place e.key) (sym value) first))) key none)
