use Rattle.std.proofs.Common.{inl, refl}
use Rattle.annotations.specs.Annotated.{no_fuel}
use Rattle.annotations.proofs.Outcomes.{shortfall_with_turns}
use Rattle.annotations.proofs.counting.annotate_bounded.Goals as goal

pub returns-in-Err : goal.returns-in-Err
returns-in-Err c =
    shortfall_with_turns c.args.task.now.hook (no_fuel c.args.task.now.answer)
    c.args.task.now.bytes.now c.args.task.now.bytes.now c.in-Err.fault (inl refl) c.in-Err.ensures
