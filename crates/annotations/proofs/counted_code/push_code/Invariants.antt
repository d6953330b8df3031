use Rattle.std.proofs.Common.{◌≡◌, ◌++◌, take}
use Rattle.annotations.specs.CountedCode.{redirected_from}
use Rattle.annotations.proofs.counted_code.push_code.Given as goal

abbrev pub invariant-loop-slot : goal.invariant-loop-slot
invariant-loop-slot l = l.builder ≡ l.fn.builder
    ++ redirected_from l.slots l.heads 0 (take l.slot l.place-items)
