-- How a transport ended.
use Rattle.std.specs.Prelude.{Bool, nat_lt}
use Rattle.worker.specs.declared.sockets.socket_transports.TransportEnd.{TransportEnd}

-- a call of it failed
abbrev pub has_failed : TransportEnd → Bool
has_failed end = nat_lt 0 end.faults
