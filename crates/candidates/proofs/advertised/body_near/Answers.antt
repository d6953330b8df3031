use Rattle.std.proofs.Common.{◌≡◌, Some, length, slice_get, arith, refl, sym, ◌∙◌, ap}
use Rattle.std.proofs.lemmas.Option.{slice_get_read}
use Rattle.lsa.specs.declared.body.LsaBody.{LsaBody}
use Rattle.routes.specs.Contents.{contents_at}
use Rattle.candidates.proofs.GraphWhole.{contained}
use Rattle.candidates.proofs.advertised.body_near.Goals as goal

pub returns-then-is_same_key : goal.returns-then-is_same_key
returns-then-is_same_key c =
    let contents = contents_at c.args.advertised.now.moment c.args.advertised.now.db.now.present in
    let bodies = c.args.advertised.now.bodies.now in
    let at = c.loop-at.at in
    let one = c.index-bodies-at.result in
    let here : slice_get bodies at ≡ Some one =
    slice_get_read bodies (length bodies) at one refl
    (omega (arith, c.few_from-end.ensures, c.loop-at-test.true)) c.index-bodies-at.is in
    let says : contents one.0 ≡ Some one.1 =
    ((c.requires.each one.0 one.1).0 (contained bodies at one here)).1 in
    ap (λ (b : LsaBody). Some b) c.body.ensures ∙ sym says
    ∙ ap contents (sym c.key.ensures ∙ c.is_same_key.ensures.0 c.if-is_same_key.true)
