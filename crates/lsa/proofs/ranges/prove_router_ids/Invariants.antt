use Rattle.std.proofs.Common.{take}
use Rattle.std.specs.List.{AllByRecursion}
use Rattle.lsa.specs.Text.{IsRouterId}
use Rattle.lsa.proofs.ranges.prove_router_ids.Given as goal

abbrev pub invariant-loop-router : goal.invariant-loop-router
invariant-loop-router l = AllByRecursion IsRouterId (take l.router-index l.routers)
