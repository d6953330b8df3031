use Rattle.std.proofs.Common.{◌∷◌}
use Rattle.std.specs.List.{AllByRecursion}
use Rattle.isa.specs.Flow.{source_registers}
use Rattle.kinds.specs.Plain.{HoldsNumber}
use Rattle.transfer.proofs.Keeps.{reads_both}
use Rattle.transfer.proofs.straight.operate.Goals as goal

pub returns-in_default-clause-plain : goal.returns-in_default-clause-plain
returns-in_default-clause-plain g c = λ reads.
    let both : AllByRecursion (HoldsNumber c.args.state)
    (c.args.target ∷ source_registers c.args.source) =
    rw (reads_both c.args.operation c.args.target c.args.source c.in_default.not-Move) at
    reads in
    c.combine.ensures.plain both.0 both.1

pub returns-in_default-clause-keeps : goal.returns-in_default-clause-keeps
returns-in_default-clause-keeps g c = λ reads.
    let both : AllByRecursion (HoldsNumber c.args.state)
    (c.args.target ∷ source_registers c.args.source) =
    rw (reads_both c.args.operation c.args.target c.args.source c.in_default.not-Move) at
    reads in
    c.combine.ensures.keeps both.0
