use Rattle.std.specs.Prelude.{◌≡◌}
use Rattle.hooks.specs.Known.{operations_of}
use Rattle.turns.specs.Askers.{asker_state}
use Rattle.turns.specs.Turns.{IsListed}
use Rattle.operator.specs.Answers.{IsAnyFile, IsAnyPath, sources}
use Rattle.daemon.specs.Talks.{place}
use Rattle.daemon.proofs.Talked.{Talking}
use Rattle.daemon.proofs.talk.answer_all.Given as goal

abbrev pub invariant-loop : goal.invariant-loop
invariant-loop g l = record {
  interfaces : l.desk.interfaces ≡ l.initial.desk.interfaces;
  talking : Talking g.I.ReadsBytes.gives g.I.ReadsBytes.fails g.O.WritesTexts.takes
      (sources g.B.Taker.offers g.B.Taker.took g.B.Taker.refuses g.B.Taker.wanted
      (IsListed g.B.Taker.began g.B.Taker.neighbor_at)
      IsAnyFile IsAnyPath)
      l.initial.desk.interfaces
      (place l.initial.console.input.now (operations_of l.initial.desk.loader)
      (asker_state l.initial.port.asker l.initial.port.seat)
      l.initial.desk.unrefreshed l.initial.port.share.amount)
      l.initial.console.output.now
      (place l.console.input.now (operations_of l.desk.loader)
      (asker_state l.port.asker l.port.seat) l.desk.unrefreshed l.port.share.amount)
      l.console.output.now;
}
