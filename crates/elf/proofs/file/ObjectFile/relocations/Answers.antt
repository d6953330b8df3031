use Rattle.std.proofs.Common.{◌∙◌, ◌++◌, ℕ, List, add-one, ap, sym}
use Rattle.elf.proofs.file.ObjectFile.relocations.Goals as goal
use Rattle.elf.specs.Lists.{relocations_below, relocations_from}
use Rattle.elf.specs.declared.lists.LinkedRelocation.{LinkedRelocation}

pub loop-i-preserved : goal.loop-i-preserved
loop-i-preserved c =
    let bytes = c.self.inside.bytes.now in
    let section = c.args.section in
    let below = relocations_below c.args.self.now section c.loop-i.i in
    c.in_ok-push_relocations_from.ensures
    ∙ ap (λ (xs : List LinkedRelocation). xs ++ relocations_from bytes section c.loop-i.i)
    c.loop-i.invariant
    ∙ ap (λ (all : List ℕ). below ++ relocations_from all section c.loop-i.i) c.self.view_is
    ∙ ap (relocations_below c.args.self.now section) (sym (add-one c.loop-i.i))
