use Rattle.std.proofs.Common.{ap, subst, sym}
use Rattle.candidates.specs.Ways.{AreWays}
use Rattle.routes.specs.Candidates.{Offers}
use Rattle.routes.specs.Contents.{contents_at}
use Rattle.routes.specs.declared.root.Root.{Root}
use Rattle.candidates.specs.Reached.{way_in}
use Rattle.kept_routes.specs.Kept.{KeptWalk}
use Rattle.kept_routes.proofs.walks.Routes.candidates.Goals as goal

pub routes_of-requires-clause-ways : goal.routes_of-requires-clause-ways
routes_of-requires-clause-ways c =
    subst (λ (k : KeptWalk). AreWays (contents_at c.args.moment c.args.db.now.present) k.root
    (way_in k.reached)) (sym c.self.view_is) c.requires.ways

pub returns-clause-every : goal.returns-clause-every
returns-clause-every c o offered =
    let contents = contents_at c.args.moment c.args.db.now.present in
    let inside = subst (λ (r : Root). Offers contents r o)
    (sym (ap (λ (k : KeptWalk). k.root) c.self.view_is)) offered in
    c.every_offer_has_a_candidate.ensures contents c.self.inside.root c.in_ok-routes.routes.items o
    c.in_ok-routes.ensures inside
