use Rattle.std.proofs.Common.{inr, map}
use Rattle.commands.proofs.Told.{told}
use Rattle.commands.proofs.program.program.Goals as goal

pub returns-in-Err : goal.returns-in-Err
returns-in-Err g c =
    let read = c.in-Err.ensures in
    let words = map (λ word. word.now) c.args.words.now in
    let refused = told read.0 words c.in-Err.error c.from.result read.2 c.from.ensures in
    record { ended = (read.0, read.1, inr (c.from.result, refused, c.end.ensures)) }
