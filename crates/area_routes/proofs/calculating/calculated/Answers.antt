use Rattle.std.proofs.Common.{List, Option, subst, sym}
use Rattle.std.specs.Prelude.{IfSome}
use Rattle.std.specs.Global.{Vec}
use Rattle.candidates.specs.Externals.{AreExternals}
use Rattle.candidates.specs.declared.externals.ExternalAdvertisement.{ExternalAdvertisement}
use Rattle.routes.specs.Contents.{contents_at}
use Rattle.area_routes.proofs.calculating.calculated.Goals as goal

pub calculate_by-requires-clause-externals : goal.calculate_by-requires-clause-externals
calculate_by-requires-clause-externals c =
    let contents = contents_at c.args.moment c.args.area.now.present.database in
    subst (λ (xs : List ExternalAdvertisement). AreExternals contents xs)
    (sym c.deref.ensures.value)
    (subst (λ (o : Option (Vec ExternalAdvertisement)). IfSome o
    (λ advertised. AreExternals contents advertised.items))
    c.in-Some.is c.requires.externals)

pub calculate_by-requires-in-None-clause-externals :
    goal.calculate_by-requires-in-None-clause-externals
calculate_by-requires-in-None-clause-externals c =
    let contents = contents_at c.args.moment c.args.area.now.present.database in
    subst (λ (xs : List ExternalAdvertisement). AreExternals contents xs)
    (sym c.deref-in-None.ensures.value)
    c.in_ok-advertised-in-None.ensures
