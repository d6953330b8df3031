use Rattle.elf.specs.Lists.{relocations_of}
use Rattle.hooktool.proofs.Unchanged.{by_all, same}
use Rattle.hooktool.proofs.building.build_unchanged.Goals as goal

pub build_functions-requires-clause-unchanged : goal.build_functions-requires-clause-unchanged
build_functions-requires-clause-unchanged g c =
    by_all c.args.relocations.now (relocations_of c.args.file.now c.args.index) _
    c.requires.relocations
    (same c.args.relocations.now c.in_ok-others.others.items c.deref.result.now
    c.deref.ensures.value c.in_ok-others.ensures)
