use Rattle.routes.specs.Contents.{contents_at}
use Rattle.candidates.proofs.calculation.candidates.Goals as goal

pub returns-clause-every : goal.returns-clause-every
returns-clause-every c o offered =
    c.every_offer_has_a_candidate.ensures (contents_at c.args.moment c.args.db.now.present)
    c.args.root.now c.in_ok-routes.routes.items o c.in_ok-routes.ensures offered
