use Rattle.std.proofs.Common.{◌-◌, length, ap, ◌∙◌, arith}
use Rattle.std.proofs.lemmas.List.{length-map}
use Rattle.adjacency.specs.Steps.{named_neighbor}
use Rattle.received.specs.Links.{neighbor_at}
use Rattle.area.specs.Kept.{KeptLink, RouterArea}
use Rattle.area.specs.Links.{present}
use Rattle.area.proofs.Synchronizing.{shown_neighbor}
use Rattle.router.proofs.packets.neighbor_at.Goals as goal

pub returns : goal.returns
returns c =
    let n = c.args.interface in
    let ls = c.links-links.result.now in
    let same = c.links-links.ensures.present
    ∙ ap (λ (a : RouterArea). a.present.links) c.area.ensures.parts in
    c.neighbor.ensures
    ∙ ap (λ (k : KeptLink). named_neighbor k.present.neighbor) c.index-links-i.is
    ∙ ap named_neighbor (shown_neighbor ls (n - 1) n c.index-links-i.result
    (omega (arith, c.requires.first, c.requires.last, length-map ls present, ap length same))
    (omega (arith, c.requires.first)))
    ∙ ap (λ links. named_neighbor (neighbor_at n links)) same
