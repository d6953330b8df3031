use Rattle.daemon.proofs.Reading.{IsBegun}
use Rattle.daemon.proofs.lines.next_line.Given as goal

abbrev pub invariant-loop : goal.invariant-loop
invariant-loop g l = IsBegun g.I.ReadsBytes.gives l.initial.input l.input l.bytes.items l.is_lost
