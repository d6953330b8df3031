use Rattle.std.proofs.Common.{arith, sym}
use Rattle.candidates.proofs.flagged.at_index.Goals as goal

pub returns : goal.returns
returns c = ((c.args.place, omega arith, sym c.index-routers-place.is), omega arith)
