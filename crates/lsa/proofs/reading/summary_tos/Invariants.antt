use Rattle.std.proofs.Common.{◌≡◌, ◌+◌, ◌-◌, ◌*◌, ◌++◌}
use Rattle.words.specs.Records.{records}
use Rattle.lsa.specs.Reading.{summary_tos_at}
use Rattle.lsa.proofs.reading.summary_tos.Given as goal

-- the metrics read so far and those still to be read are all of them
abbrev pub invariant-loop-i : goal.invariant-loop-i
invariant-loop-i l = l.tos.items ++ records summary_tos_at 4 l.bytes (l.at + 4 * l.i)
    (l.count - l.i) ≡ records summary_tos_at 4 l.bytes l.at l.count
