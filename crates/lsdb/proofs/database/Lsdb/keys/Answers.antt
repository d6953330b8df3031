use Rattle.std.proofs.Common.{ap, ◌∙◌}
use Rattle.std.specs.FinMap as finite
use Rattle.lsdb.proofs.database.Lsdb.keys.Goals as goal

pub returns : goal.returns
returns c = c.keys.ensures ∙ ap (λ h. finite.keys h.present) c.self.view_is
