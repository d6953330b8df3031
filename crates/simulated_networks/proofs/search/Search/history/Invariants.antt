use Rattle.std.proofs.Common.{◌≡◌, ◌+◌, vec_len}
use Rattle.simulated_networks.proofs.search.Search.history.Given as goal

abbrev pub invariant-loop : goal.invariant-loop
invariant-loop l = vec_len l.acts ≡ l.counter + 1
