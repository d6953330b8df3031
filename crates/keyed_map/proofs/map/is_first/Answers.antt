use Rattle.std.proofs.Common.{◌≡◌, true, false, get_or, ap, sym, ◌∙◌, arith}
use Rattle.std.specs.Ordering.{is_eq}
use Rattle.std.proofs.lemmas.Option.{slice_get-get_or}
use Rattle.keyed_map.specs.Keys.{key_cmp}
use Rattle.keyed_map.proofs.Changes.{another, first_still, same_key}
use Rattle.keyed_map.proofs.map.is_first.Goals as goal

pub loop-at-preserved : goal.loop-at-preserved
loop-at-preserved g c =
    let es = c.args.edits.now in
    let n = c.loop-at.at in
    let edit = get_or es n c.index-edits-at.result in
    let at = slice_get-get_or es n c.index-edits-at.result (omega arith) in
    let differs : is_eq (key_cmp edit.key c.args.key.now) ≡ false =
    ap is_eq (sym c.compare.ensures) ∙ sym c.is_eq.ensures ∙ c.if-is_eq.false in
    first_still es n c.args.key.now edit at
    (λ same. another edit.key c.args.key.now differs (sym same)) c.loop-at.invariant

pub returns-then-is_eq : goal.returns-then-is_eq
returns-then-is_eq g c =
    let es = c.args.edits.now in
    let n = c.loop-at.at in
    let edit = get_or es n c.index-edits-at.result in
    let at = slice_get-get_or es n c.index-edits-at.result (omega arith) in
    let equal : is_eq (key_cmp edit.key c.args.key.now) ≡ true =
    ap is_eq (sym c.compare.ensures) ∙ sym c.is_eq.ensures ∙ c.if-is_eq.true in (
      (λ t. absurd cc),
      (λ first. absurd (first n edit (omega arith) at (same_key edit.key c.args.key.now equal))),
    )
