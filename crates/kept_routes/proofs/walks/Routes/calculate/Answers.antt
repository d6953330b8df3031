use Rattle.std.proofs.Common.{subst, sym}
use Rattle.candidates.specs.Inner.{AreInner}
use Rattle.candidates.specs.Ways.{AreWays}
use Rattle.routes.specs.Contents.{contents_at}
use Rattle.candidates.specs.Reached.{way_in}
use Rattle.kept_routes.specs.Kept.{KeptWalk}
use Rattle.kept_routes.proofs.walks.Routes.calculate.Goals as goal

pub calculate-requires-clause-ways : goal.calculate-requires-clause-ways
calculate-requires-clause-ways c =
    subst (λ (k : KeptWalk). AreWays (contents_at c.args.moment c.args.db.now.present) k.root
    (way_in k.reached)) (sym c.self.view_is) c.requires.walk.ways

pub returns-clause-inner : goal.returns-clause-inner
returns-clause-inner c =
    subst (λ (k : KeptWalk). AreInner (contents_at c.args.moment c.args.db.now.present) k.root
    (way_in k.reached) c.in_ok-made.made.inner) c.self.view_is c.in_ok-made.ensures.inner
