use Rattle.std.proofs.Common.{List, sym, subst}
use Rattle.candidates.specs.Externals.{AreExternals}
use Rattle.candidates.specs.declared.externals.ExternalAdvertisement.{ExternalAdvertisement}
use Rattle.routes.specs.Contents.{contents_at}
use Rattle.candidates.proofs.calculation.routes_of.Goals as goal

pub calculate-requires-clause-externals : goal.calculate-requires-clause-externals
calculate-requires-clause-externals g c =
    subst (λ (advertised : List ExternalAdvertisement). AreExternals
    (contents_at c.args.moment c.args.db.now.present)
    advertised) (sym c.deref.ensures.value) c.in_ok-externals.ensures
