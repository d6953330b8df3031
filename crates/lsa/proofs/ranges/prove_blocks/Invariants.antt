use Rattle.std.proofs.Common.{take}
use Rattle.std.specs.List.{AllByRecursion}
use Rattle.lsa.specs.Ranges.{ExternalTosIsTyped}
use Rattle.lsa.proofs.ranges.prove_blocks.Given as goal

abbrev pub invariant-loop-block : goal.invariant-loop-block
invariant-loop-block l = AllByRecursion ExternalTosIsTyped (take l.block-index l.blocks)
