use Rattle.std.proofs.Common.{◌≡◌, false}
use Rattle.std.specs.List.{All}
use Rattle.elf.specs.declared.lists.LinkedSymbol.{LinkedSymbol}
use Rattle.hooktool.specs.Linked.{is_changed}
use Rattle.hooktool.proofs.relocated.unchanged.Given as goal

abbrev pub invariant-loop-function : goal.invariant-loop-function
invariant-loop-function l =
    All (λ (function : LinkedSymbol). is_changed l.relocations function ≡ false) l.others.items
