use Rattle.std.proofs.Common.{◌≡◌, vec_len}
use Rattle.simulated_networks.proofs.search.Search.make_simpler.Given as goal

abbrev pub invariant-loop-place : goal.invariant-loop-place
invariant-loop-place l = vec_len l.kept ≡ vec_len l.initial.kept
