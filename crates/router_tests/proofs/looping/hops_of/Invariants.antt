use Rattle.std.specs.List.{All}
use Rattle.routes.specs.Loops.{IsAmong}
use Rattle.router_tests.proofs.looping.hops_of.Given as goal

abbrev pub invariant-loop-pair : goal.invariant-loop-pair
invariant-loop-pair l = All (IsAmong l.routers) l.hops.items
