use Rattle.lsa.specs.Headers.{header_text}
use Rattle.packet.proofs.Sizes.{part_more}
use Rattle.packet.proofs.writing.put_headers.Goals as goal

pub loop-header-preserved : goal.loop-header-preserved
loop-header-preserved c =
    part_more header_text c.args.headers.now c.loop-header.header-index c.header-item.result
    c.args.out.now.items c.loop-header.out.items c.put_header.new.out.items
    c.loop-header-test.true c.header-item.is c.loop-header.invariant c.in_ok-put_header.ensures
