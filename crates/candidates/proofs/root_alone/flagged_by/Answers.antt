use Rattle.std.proofs.Common.{ap}
use Rattle.std.specs.Prelude.{option_copied}
use Rattle.candidates.specs.Borders.{TellsFlags}
use Rattle.candidates.proofs.RootAlone.{just_of_it}
use Rattle.candidates.proofs.root_alone.flagged_by.Goals as goal

pub returns-in-Some : goal.returns-in-Some
returns-in-Some g c =
    just_of_it (TellsFlags (g.W.Ways.ways c.args.ways.now)) c.args.key.now c.in-Some.body.now
    (option_copied c.args.body) (ap option_copied c.in-Some.is) c.flagged_at.result
    c.flagged_at.ensures
