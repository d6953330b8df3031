use Rattle.std.proofs.Common.{length, refl, subst, sym, ◌∙◌, arith}
use Rattle.std.specs.Prelude.{IsTrue, not, option_copied}
use Rattle.std.proofs.lemmas.Option.{same_Some, slice_get_read}
use Rattle.keyed_map.specs.declared.slot.Edit.{Edit}
use Rattle.keyed_map.specs.Changes.{IsFirst, held_before}
use Rattle.keyed_map.proofs.Changes.{kept_or_later}
use Rattle.keyed_map.proofs.map.is_kept.Goals as goal

pub returns-else-same : goal.returns-else-same
returns-else-same g c edit at =
    let es = c.args.edits.now in
    let place = c.args.place in
    let one = c.index-edits-place.result in
    let here = slice_get_read es (length es) place one refl (omega (arith, c.requires.there))
    c.index-edits-place.is in
    let S = g.T.ChangeTest.same c.args.test.now in
    let later = IsTrue (not c.is_first.result) in
    let now = option_copied c.args.now in
    subst (λ (e : Edit _). (later → IsFirst es place e.key → S e.key (held_before e.before) now)
    × ((IsFirst es place e.key → S e.key (held_before e.before) now) → later))
    (same_Some one edit (sym here ∙ at))
    (subst (λ o. (later → IsFirst es place one.key → S one.key o now)
    × ((IsFirst es place one.key → S one.key o now) → later)) c.held_before.ensures
    (kept_or_later c.in_ok-same.same c.is_first.result _ _ c.if-same.false c.in_ok-same.ensures
    c.is_first.ensures))

pub is_same-requires : goal.is_same-requires
is_same-requires g c =
    let es = c.args.edits.now in
    let one = c.index-edits-place.result in
    c.requires.counted one (slice_get_read es (length es) c.args.place one refl
    (omega (arith, c.requires.there)) c.index-edits-place.is)
