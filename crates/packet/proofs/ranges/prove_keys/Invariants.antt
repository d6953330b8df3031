use Rattle.std.proofs.Common.{take}
use Rattle.std.specs.List.{AllByRecursion}
use Rattle.packet.specs.Text.{IsKey}
use Rattle.packet.proofs.ranges.prove_keys.Given as goal

abbrev pub invariant-loop-key : goal.invariant-loop-key
invariant-loop-key l = AllByRecursion IsKey (take l.key-index l.keys)
