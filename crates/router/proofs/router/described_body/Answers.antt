use Rattle.std.proofs.Common.{map, arith}
use Rattle.area.specs.Links.{present}
use Rattle.router.specs.Described.{described_links, interfaces}
use Rattle.router.proofs.FullNeighbors.{count_of, described_next, interface_here}
use Rattle.router.proofs.router.described_body.Goals as goal

pub loop-i-preserved : goal.loop-i-preserved
loop-i-preserved c =
    let links = c.args.links.now in
    let is = interfaces (map present links) in
    let i = c.loop-i.i in
    described_next is c.args.full.now i c.interface-interface.result c.index-full-i.result
    c.loop-i.router_links.items c.put_described.new.links.items (described_links is c.args.full.now)
    (omega (arith, c.loop-i-test.true, count_of links)) (omega (arith, c.requires, count_of links))
    (interface_here links i c.index-links-i.result c.interface-interface.result c.loop-i-test.true
    c.interface-interface.ensures c.index-links-i.is)
    c.index-full-i.is c.in_ok-put_described.ensures c.loop-i.invariant
