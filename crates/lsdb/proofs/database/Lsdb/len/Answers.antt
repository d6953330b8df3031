use Rattle.std.proofs.Common.{ap, ◌∙◌}
use Rattle.std.specs.FinMap as finite
use Rattle.lsdb.proofs.database.Lsdb.len.Goals as goal

pub returns : goal.returns
returns c = c.len.ensures ∙ ap (λ h. finite.len h.present) c.self.view_is
