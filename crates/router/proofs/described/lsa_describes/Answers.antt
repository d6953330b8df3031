use Rattle.std.proofs.Common.{ap, map, ◌∙◌}
use Rattle.event_rules.specs.Endings.{same_body}
use Rattle.area.specs.Links.{present}
use Rattle.router.specs.Described.{described_body, interfaces}
use Rattle.router.proofs.FullNeighbors.{body_now}
use Rattle.router.proofs.described.lsa_describes.Goals as goal

pub returns : goal.returns
returns c =
    let links = map present c.args.links.now in
    c.in_ok-same.ensures
    ∙ ap (same_body c.args.lsa.now.body)
    (c.in_ok-present.ensures ∙ ap (described_body (interfaces links))
    (c.deref.ensures.value ∙ c.in_ok-now.ensures) ∙ body_now links)
