use Rattle.std.proofs.Common.{◌≡◌}
use Rattle.hooks.specs.Known.{loader_history}
use Rattle.program_tests.proofs.questions.threads.load.Given as goal

-- the loader's history is unchanged
abbrev pub invariant-loop-turn : goal.invariant-loop-turn
invariant-loop-turn g l = loader_history l.loader ≡ loader_history l.fn.loader
