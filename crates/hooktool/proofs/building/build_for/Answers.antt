use Rattle.std.proofs.Common.{◌∙◌}
use Rattle.elf.specs.Lists.{relocations_of}
use Rattle.hooktool.proofs.Built.{refused_or, section_built, told_more}
use Rattle.hooktool.proofs.Unchanged.{by_none, none_read}
use Rattle.hooktool.specs.Orders.{wanted_of}
use Rattle.hooktool.proofs.building.build_for.Goals as goal

pub build_others-requires-clause-relocations : goal.build_others-requires-clause-relocations
build_others-requires-clause-relocations g c =
    c.deref.ensures.value ∙ c.in_ok-relocations.ensures

pub returns-then-not-is_empty-clause-built : goal.returns-then-not-is_empty-clause-built
returns-then-not-is_empty-clause-built g c = refused_or _ c.build_others.result
    c.build_others.ensures.refused

pub build_functions-requires-clause-unchanged : goal.build_functions-requires-clause-unchanged
build_functions-requires-clause-unchanged g c =
    by_none (relocations_of c.args.file.now c.args.index) c.args.functions.now
    (none_read c.in_ok-relocations.relocations
    (relocations_of c.args.file.now c.args.index) c.is_empty.result c.in_ok-relocations.ensures
    c.is_empty.ensures c.if-not-is_empty.false)

pub returns-clause-built : goal.returns-clause-built
returns-clause-built g c = told_more _ _ c.build_functions.result (λ report built.
    section_built c.args.file.now (wanted_of g.R.WholeFiles.known c.args.order.now) c.args.index
    c.args.hook c.args.functions.now report c.requires.hook
    (none_read c.in_ok-relocations.relocations
    (relocations_of c.args.file.now c.args.index) c.is_empty.result c.in_ok-relocations.ensures
    c.is_empty.ensures c.if-not-is_empty.false) c.requires.functions built)
    c.build_functions.ensures.built
