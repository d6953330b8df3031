use Rattle.std.proofs.Common.{◌≡◌, ◌+◌, ◌-◌, ◌*◌, ◌++◌}
use Rattle.lsa.specs.Headers.{header_at}
use Rattle.words.specs.Records.{records}
use Rattle.packet.proofs.reading.headers.Given as goal

-- the headers read so far and those still to be read are all of them
abbrev pub invariant-loop-i : goal.invariant-loop-i
invariant-loop-i l = l.headers.items
    ++ records header_at 20 l.bytes (l.at + 20 * l.i) (l.count - l.i)
    ≡ records header_at 20 l.bytes l.at l.count
