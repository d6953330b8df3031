use Rattle.std.proofs.Common.{take}
use Rattle.std.specs.List.{AllByRecursion}
use Rattle.lsa.specs.Ranges.{LinkIsTyped}
use Rattle.lsa.proofs.ranges.prove_links.Given as goal

abbrev pub invariant-loop-link : goal.invariant-loop-link
invariant-loop-link l = AllByRecursion LinkIsTyped (take l.link-index l.links)
