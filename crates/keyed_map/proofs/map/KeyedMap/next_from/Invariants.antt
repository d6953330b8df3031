use Rattle.std.proofs.Common.{◌≡◌, map}
use Rattle.keyed_map.specs.Slots.{kept}
use Rattle.keyed_map.proofs.map.KeyedMap.next_from.Given as goal

-- so far only slots of removed keys were passed
abbrev pub invariant-loop-first : goal.invariant-loop-first
invariant-loop-first g l = map (λ e. e.0) (kept l.first-iterator)
    ≡ map (λ e. e.0) (kept l.initial.first-iterator)
