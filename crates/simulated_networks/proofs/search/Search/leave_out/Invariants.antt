use Rattle.std.proofs.Common.{◌≤◌, vec_len}
use Rattle.simulated_networks.proofs.search.Search.leave_out.Given as goal

abbrev pub invariant-loop : goal.invariant-loop
invariant-loop l = vec_len l.kept ≤ vec_len l.initial.kept
