use Rattle.std.proofs.Common.{arith}
use Rattle.packet.proofs.Whole.{is_found, is_only}
use Rattle.packet.proofs.Writable.{is_writable}
use Rattle.packet.proofs.reading.read.Goals as goal

pub returns-clause-found : goal.returns-clause-found
returns-clause-found c = is_found c.args.bytes.now c.parsed.result
    (λ i. omega (arith, c.type_inv.bytes i)) c.parsed.ensures

pub returns-clause-only : goal.returns-clause-only
returns-clause-only c = is_only c.args.bytes.now c.parsed.result c.parsed.ensures

pub returns-clause-writable : goal.returns-clause-writable
returns-clause-writable c = is_writable c.args.bytes.now c.parsed.result (returns-clause-found c)
