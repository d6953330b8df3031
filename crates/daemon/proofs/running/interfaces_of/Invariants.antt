use Rattle.std.specs.Prelude.{◌≡◌, map, take}
use Rattle.daemon.proofs.running.interfaces_of.Given as goal

abbrev pub invariant-loop-configured : goal.invariant-loop-configured
invariant-loop-configured l =
    l.interfaces.items ≡ map (λ c. c.interface) (take l.configured-index l.fn.configured)
