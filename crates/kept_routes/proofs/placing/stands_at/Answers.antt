use Rattle.std.proofs.Common.{Some, length, refl, ap, ◌∙◌}
use Rattle.std.proofs.lemmas.Option.{get_or_from_slice_get, slice_get_read}
use Rattle.words.specs.declared.route.Route.{Route}
use Rattle.kept_routes.proofs.Paged.{first_of_part}
use Rattle.kept_routes.proofs.placing.stands_at.Goals as goal

pub bounds-part-0 : goal.bounds-part-0
bounds-part-0 c = c.part_from-part.ensures.some c.requires

pub returns : goal.returns
returns c =
    let routes = c.args.routes.now in
    let at = c.args.at in
    let route = c.args.route.now in
    let here : Route = c.index-part-0.result in
    let is = first_of_part routes at c.part_from-part.result.now here c.part_from-part.ensures
    c.requires c.index-part-0.is in (
      (λ t. slice_get_read routes (length routes) at here refl c.requires is
          ∙ ap (λ (r : Route). Some r) (c.is_same.ensures.0 t)),
      (λ same. c.is_same.ensures.1 (is ∙ get_or_from_slice_get routes at route here same)),
    )
