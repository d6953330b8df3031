use Rattle.area_routes.specs.Offers.{root_by}
use Rattle.routes.specs.Contents.{contents_at}
use Rattle.area_routes.proofs.kept.AreaRoutes.table.Goals as goal

pub returns : goal.returns
returns c =
    let contents = contents_at c.args.moment c.args.area.now.present.database in
    let root = root_by c.args.router c.args.area.now.present.links in
    c.in_ok-table.ensures contents root c.in_ok-candidates.ensures
