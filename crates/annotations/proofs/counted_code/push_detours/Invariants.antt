use Rattle.std.proofs.Common.{◌≡◌, ◌+◌, ◌*◌, ◌++◌, take}
use Rattle.annotations.specs.CountedCode.{detours}
use Rattle.annotations.proofs.counted_code.push_detours.Given as goal

abbrev pub invariant-loop-head : goal.invariant-loop-head
invariant-loop-head l = record {
  builder : l.builder ≡ l.fn.builder
      ++ detours l.answer l.counter (l.slots + 1) (take l.head-index l.heads);
  at : l.at ≡ l.slots + 1 + 4 * l.head-index;
}
