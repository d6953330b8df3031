use Rattle.std.proofs.Common.{map, arith}
use Rattle.area.specs.Links.{present}
use Rattle.router.specs.Described.{interfaces}
use Rattle.router.proofs.FullNeighbors.{count_of, described_fits, described_size}
use Rattle.router.proofs.described.described_lsa.Goals as goal

pub lsa_with_body-requires-clause-fits : goal.lsa_with_body-requires-clause-fits
lsa_with_body-requires-clause-fits c =
    described_fits (interfaces (map present c.args.links.now)) c.args.full.now c.in_ok-body.body
    c.in_ok-body.ensures (omega (arith, c.requires.few, count_of c.args.links.now))

pub lsa_with_body-requires-clause-size : goal.lsa_with_body-requires-clause-size
lsa_with_body-requires-clause-size c =
    described_size (interfaces (map present c.args.links.now)) c.args.full.now c.in_ok-body.body
    c.in_ok-body.ensures (omega (arith, c.requires.few, count_of c.args.links.now))
