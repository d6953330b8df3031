use Rattle.hooks.proofs.Kept.{sees_same}
use Rattle.hooks.proofs.defaults.look.Goals as goal

pub enter_as-requires : goal.enter_as-requires
enter_as-requires c x = sees_same _ _ x
