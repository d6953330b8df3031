use Rattle.std.proofs.Common.{Vec, Global, Option, subst}
use Rattle.std.specs.Prelude.{IfSome}
use Rattle.words.specs.declared.key.Key.{Key}
use Rattle.kept_routes.specs.Destinations.{HaveAllUnder}
use Rattle.kept_routes.proofs.keys.keys_under.Goals as goal

pub returns-in-Some : goal.returns-in-Some
returns-in-Some c =
    subst (λ (o : Option (Vec Key Global)). IfSome o
    (λ keys. HaveAllUnder c.args.db.now.present c.args.prefix keys.items)) c.in-Some.is
    c.in_ok-few.ensures
