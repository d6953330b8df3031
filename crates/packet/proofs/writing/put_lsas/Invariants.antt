use Rattle.std.proofs.Common.{◌≡◌, ◌++◌, take}
use Rattle.std.specs.List.{flat_map}
use Rattle.packet.proofs.writing.put_lsas.Given as goal

abbrev pub invariant-loop-lsa : goal.invariant-loop-lsa
invariant-loop-lsa l = l.out.items ≡ l.fn.out.items
    ++ flat_map (λ lsa. lsa) (take l.lsa-index l.lsas)
