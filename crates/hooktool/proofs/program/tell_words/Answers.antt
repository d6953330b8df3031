use Rattle.hooktool.proofs.Told.{tells_memory, tells_mistake}
use Rattle.hooktool.proofs.program.tell_words.Goals as goal

pub returns-in-OutOfMemory : goal.returns-in-OutOfMemory
returns-in-OutOfMemory g c = tells_memory c.args.error.now c.kind.result _ _ _ _ c.kind.ensures
    c.in-OutOfMemory.is c.tell.ensures

pub returns-in_default : goal.returns-in_default
returns-in_default g c =
    tells_mistake c.args.error.now c.kind.result _ _ _ _ c.kind.ensures c.in_default.not-OutOfMemory
    c.in_default.not-DisplayHelp c.in_default.not-DisplayVersion c.tell_usage-in_default.ensures
