use Rattle.std.proofs.Common.{refl}
use Rattle.hooks.specs.Known.{loader_history}
use Rattle.hooks.proofs.Fresh.{all_ask}
use Rattle.daemon.proofs.running.operate.Goals as goal

pub run_all-requires-clause-setup : goal.run_all-requires-clause-setup
run_all-requires-clause-setup g c κs within = (
  refl,
  refl,
  refl,
  all_ask (loader_history c.in_ok-loader.loader) c.in_ok-loader.setup.askers.items
      c.in_ok-loader.ensures.loader.1,
)
