use Rattle.std.proofs.Common.{◌≡◌, ℕ, ◌==◌, take, false}
use Rattle.std.specs.List.{list_any}
use Rattle.router.proofs.received_hellos.is_among.Given as goal

abbrev pub invariant-loop-router : goal.invariant-loop-router
invariant-loop-router l = list_any (λ (router : ℕ). router == l.own) (take l.router-index l.routers)
    ≡ false
