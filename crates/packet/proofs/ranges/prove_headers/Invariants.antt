use Rattle.std.proofs.Common.{take}
use Rattle.std.specs.List.{AllByRecursion}
use Rattle.lsa.specs.Headers.{IsHeader}
use Rattle.packet.proofs.ranges.prove_headers.Given as goal

abbrev pub invariant-loop-header : goal.invariant-loop-header
invariant-loop-header l = AllByRecursion IsHeader (take l.header-index l.headers)
