use Rattle.std.proofs.Common.{ap, map, ◌∙◌}
use Rattle.area.specs.Links.{present}
use Rattle.router.specs.Described.{described_body, interfaces}
use Rattle.router.proofs.FullNeighbors.{differ_by_texts}
use Rattle.router.proofs.described.texts_differ.Goals as goal

pub returns : goal.returns
returns c = λ old alike full.
    let links = map present c.args.links.now in
    differ_by_texts old links c.args.before.now c.in_ok-old.old.body c.in_ok-new.new.body
    c.in_ok-same.same alike full c.in_ok-old.ensures
    (c.in_ok-new.ensures ∙ ap (described_body (interfaces links)) c.requires.now)
    c.in_ok-same.ensures
