use Rattle.std.specs.Prelude.{◌≡◌, ◌+◌, vec_len}
use Rattle.daemon.proofs.crew.join_workers.Given as goal

abbrev pub invariant-loop-thread : goal.invariant-loop-thread
invariant-loop-thread g l =
    (vec_len l.back + vec_len l.running ≡ vec_len l.fn.running + 1)
    × (vec_len l.ends + vec_len l.running ≡ vec_len l.fn.running)

abbrev pub decreases-loop-thread : goal.decreases-loop-thread
decreases-loop-thread g l = vec_len l.running
