use Rattle.std.proofs.Common.{◌≡◌, false, true, List, Option, subst, sym}
use Rattle.std.specs.Prelude.{IfSome}
use Rattle.words.specs.declared.route.Route.{Route}
use Rattle.area_routes.specs.Kept.{AreAmongKept, HaveAnother}
use Rattle.routes.specs.Candidates.{AreCandidates}
use Rattle.routes.specs.Contents.{contents_at}
use Rattle.area_routes.proofs.following.follow_some.Goals as goal

pub follow_from-requires-clause-routes : goal.follow_from-requires-clause-routes
follow_from-requires-clause-routes c =
    subst (λ (o : Option (List Route)). IfSome o
    (λ routes. AreCandidates (contents_at c.args.before c.args.area.now.committed.database)
    c.args.walk.now.root routes))
    c.in-Some.is c.requires.routes

pub returns-in-Some-clause-another : goal.returns-in-Some-clause-another
returns-in-Some-clause-another c =
    subst (λ (o : Option (List Route)). IfSome c.follow_from.result
    (λ next. next.none_new ≡ false → HaveAnother o next.candidates))
    (sym c.in-Some.is) c.follow_from.ensures.another

pub returns-in-Some-clause-among : goal.returns-in-Some-clause-among
returns-in-Some-clause-among c =
    subst (λ (o : Option (List Route)). IfSome c.follow_from.result
    (λ next. next.none_new ≡ true → AreAmongKept o next.candidates))
    (sym c.in-Some.is) c.follow_from.ensures.among
