use Rattle.std.proofs.Common.{◌≤◌, vec_len}
use Rattle.simulated_networks.proofs.search.Search.shorten_once.Given as goal

abbrev pub invariant-loop-many : goal.invariant-loop-many
invariant-loop-many l = vec_len l.kept ≤ vec_len l.initial.kept
