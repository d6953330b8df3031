use Rattle.std.proofs.Common.{◌≡◌, ◌+◌, ◌-◌, ◌*◌, ◌/◌, ◌++◌, length}
use Rattle.packet.specs.Reading.{key_at}
use Rattle.words.specs.Records.{records}
use Rattle.packet.proofs.reading.keys.Given as goal

-- the keys read so far and those still to be read are all of them
abbrev pub invariant-loop-i : goal.invariant-loop-i
invariant-loop-i l = l.keys.items ++ records key_at 12 l.bytes (0 + 12 * l.i) (l.count - l.i)
    ≡ records key_at 12 l.bytes 0 (length l.bytes / 12)
