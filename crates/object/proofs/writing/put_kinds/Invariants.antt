use Rattle.std.proofs.Common.{◌≡◌, ◌++◌, take}
use Rattle.std.specs.List.{flat_map}
use Rattle.object.specs.Spelling.{kind_text}
use Rattle.object.proofs.writing.put_kinds.Given as goal

abbrev pub invariant-loop-kind : goal.invariant-loop-kind
invariant-loop-kind l = l.out.items ≡ l.fn.out.items
    ++ flat_map kind_text (take l.kind-index l.kinds)
