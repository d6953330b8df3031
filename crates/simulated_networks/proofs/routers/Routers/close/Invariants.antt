use Rattle.std.proofs.Common.{vec_len}
use Rattle.simulated_networks.proofs.routers.Routers.close.Given as goal

abbrev pub decreases-loop-core : goal.decreases-loop-core
decreases-loop-core l = vec_len l.cores
