use Rattle.std.proofs.Common.{map, ◌∙◌}
use Rattle.area.specs.Links.{present}
use Rattle.router.proofs.FullNeighbors.{none_differ}
use Rattle.router.proofs.described.links_differ.Goals as goal

pub returns-then-same_full : goal.returns-then-same_full
returns-then-same_full c = λ old alike full.
    none_differ old (map present c.args.links.now) alike
    (full ∙ c.same_full.ensures c.if-same_full.true ∙ c.deref.ensures.value
    ∙ c.in_ok-now.ensures)
