use Rattle.std.specs.Io.KnownBytes.{Keeps}
use Rattle.daemon.proofs.lines.read_byte.Given as goal

-- a read that was interrupted took nothing
abbrev pub invariant-loop-tries : goal.invariant-loop-tries
invariant-loop-tries g l = Keeps (g.I.Read.remaining l.initial.input) (g.I.Read.remaining l.input)
