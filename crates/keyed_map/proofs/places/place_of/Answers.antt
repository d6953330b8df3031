use Rattle.std.proofs.Common.{length, ap, arith}
use Rattle.keyed_map.proofs.Joined.{is_there}
use Rattle.keyed_map.proofs.places.place_of.Goals as goal

pub returns-then-left-count : goal.returns-then-left-count
returns-then-left-count g c =
    let size = ap length c.as_slice-count.ensures in
    is_there c.args.pages.now c.args.at c.loop-index.index c.loop-index.left
    c.index-pages-index.result c.loop-index-test.true c.index-pages-index.is
    c.loop-index.invariant (omega (arith, c.if-left-count.true, size))
