use Rattle.std.specs.Prelude.{◌≡◌, ◌+◌, vec_len}
use Rattle.std.specs.List.{All}
use Rattle.maps.specs.Words.{IsSeatOf}
use Rattle.worker.proofs.settling.settle.Given as goal

abbrev pub invariant-loop-port : goal.invariant-loop-port
invariant-loop-port g l = record {
  parts : l.all.parts + vec_len l.ports ≡ g.L.Ledger.parts;
  count : vec_len l.ports + vec_len l.seats ≡ vec_len l.initial.ports;
  tables : All (IsSeatOf g.L.Site.words) l.seats.items;
}

abbrev pub decreases-loop-port : goal.decreases-loop-port
decreases-loop-port g l = vec_len l.ports
