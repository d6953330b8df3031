use Rattle.std.proofs.Common.{refl}
use Rattle.hooks.specs.Known.{loader_history}
use Rattle.hooks.proofs.Fresh.{all_ask}
use Rattle.bench.proofs.turn_speed.print.Goals as goal

pub print_at-requires-clause-setup : goal.print_at-requires-clause-setup
print_at-requires-clause-setup g c =
    let loader = c.in_ok-loader in (
      refl,
      refl,
      refl,
      all_ask (loader_history loader.loader) loader.setup.askers.items
          loader.ensures.loader.1,
    )
