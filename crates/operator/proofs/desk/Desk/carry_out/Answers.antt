use Rattle.std.proofs.Common.{refl}
use Rattle.hooks.specs.Known.{operations_of}
use Rattle.turns.specs.Askers.{asker_state}
use Rattle.console.specs.declared.command.Command.TheVariants as commands
use Rattle.worker.specs.Lives.{senses_of, standing}
use Rattle.turns.specs.Turns.{IsListed}
use Rattle.turns.specs.declared.work.Work.TheVariants as work
use Rattle.operator.specs.Answers.{change, sources}
use Rattle.operator.specs.Shown.{ShowsNeighbors, ShowsTable}
use Rattle.operator.proofs.Answered.{made, moved, read_out}
use Rattle.operator.proofs.Served.{as_known, read_still, served_moved, unserved_still}
use Rattle.operator.proofs.desk.Desk.carry_out.Goals.{in-Attach, in-Detach, in-Add, in-Withdraw}
use Rattle.operator.proofs.desk.Desk.carry_out.Goals.{in-Table, in-Neighbors, in-Counters}
use Rattle.operator.proofs.desk.Desk.carry_out.Goals as goal

pub returns-clause-told : goal.returns-clause-told
returns-clause-told g c =
    let n = c.args.self.now.interfaces in
    let port = c.args.port.now in
    let lists = IsListed g.B.Taker.began g.B.Taker.neighbor_at in
    let s =
    sources g.B.Taker.offers g.B.Taker.took g.B.Taker.refuses g.B.Taker.wanted lists
    g.F.ReadsFiles.holds g.F.ReadsFiles.unreadable in
    let before = operations_of c.args.self.now.loader in
    let desk = c.match-command.self in
    let after = c.match-command.port in
    let knew = asker_state port.asker port.seat in
    let still = c.args.self.now.unrefreshed in
    let now = change before (operations_of desk.loader) knew (asker_state after.asker after.seat)
    still
    desk.unrefreshed port.share.amount after.share.amount in
    let command = c.args.command.now in
    let answer = c.match-command.result in
    elim c.match-command.branch [
      | in-Attach w ↦
          moved s n now _ command (commands.Attach w.in-Attach.path) answer w.attach.result
          (λ i. change before (operations_of (w.self-is i).loader) knew
          (asker_state (w.port-is i).asker (w.port-is i).seat) still (w.self-is i).unrefreshed
          port.share.amount (w.port-is i).share.amount)
          w.in-Attach.is w.result-is w.attach.ensures.told
      | in-Detach w ↦
          moved s n now _ command (commands.Detach w.in-Detach.hook) answer w.detach.result
          (λ i. change before (operations_of (w.self-is i).loader) knew
          (asker_state (w.port-is i).asker (w.port-is i).seat) still (w.self-is i).unrefreshed
          port.share.amount (w.port-is i).share.amount)
          w.in-Detach.is w.result-is w.detach.ensures.told
      | in-Add w ↦
          moved s n now _ command (commands.Add w.in-Add.external) answer w.add.result
          (λ i. change before (operations_of (w.self-is i).loader) knew
          (asker_state (w.port-is i).asker (w.port-is i).seat) still (w.self-is i).unrefreshed
          port.share.amount (w.port-is i).share.amount)
          w.in-Add.is w.result-is ((refl, refl), w.add.ensures.told)
      | in-Withdraw w ↦
          moved s n now _ command (commands.Withdraw w.in-Withdraw.prefix) answer w.withdraw.result
          (λ i. change before (operations_of (w.self-is i).loader) knew
          (asker_state (w.port-is i).asker (w.port-is i).seat) still (w.self-is i).unrefreshed
          port.share.amount (w.port-is i).share.amount)
          w.in-Withdraw.is w.result-is ((refl, refl), w.withdraw.ensures.told)
      | in-Table w ↦
          moved s n now _ command (commands.Table) answer w.lines.result
          (λ i. change before (operations_of (w.self-is i).loader) knew
          (asker_state (w.port-is i).asker (w.port-is i).seat) still (w.self-is i).unrefreshed
          port.share.amount (w.port-is i).share.amount)
          w.in-Table.is w.result-is (
            record {
              unchanged = record { programs = (refl, refl); known = refl; events = refl };
              seat = refl;
            },
            made (ShowsTable g.B.Taker.offers) w.table.result w.lines.result w.table.ensures
                w.lines.ensures,
          )
      | in-Neighbors w ↦
          moved s n now _ command (commands.Neighbors) answer w.lines-in-Neighbors.result
          (λ i. change before (operations_of (w.self-is i).loader) knew
          (asker_state (w.port-is i).asker (w.port-is i).seat) still (w.self-is i).unrefreshed
          port.share.amount (w.port-is i).share.amount)
          w.in-Neighbors.is w.result-is (
            record {
              unchanged = record { programs = (refl, refl); known = refl; events = refl };
              seat = refl;
            },
            made (ShowsNeighbors (lists n)) w.neighbors.result w.lines-in-Neighbors.result
                w.neighbors.ensures w.lines-in-Neighbors.ensures,
          )
      | in-Counters w ↦
          let read = w.counters.new.port in
          let shown = change before before knew (asker_state read.asker read.seat) still still
          port.share.amount read.share.amount in
          moved s n now shown command (commands.Counters) answer w.lines-in-Counters.result
          (λ i. change before (operations_of (w.self-is i).loader) knew
          (asker_state (w.port-is i).asker (w.port-is i).seat) still (w.self-is i).unrefreshed
          port.share.amount (w.port-is i).share.amount)
          w.in-Counters.is w.result-is (
            record {
              programs = (refl, refl);
              known = w.counters.ensures.known;
              events = λ i. (w.counters.ensures.share i).amount;
            },
            read_out shown w.counters.result w.lines-in-Counters.result w.counters.ensures.text
                w.counters.ensures.some w.lines-in-Counters.ensures,
          )
    ]

pub returns-clause-served : goal.returns-clause-served
returns-clause-served g c =
    let faults = g.K.Transport.faults in
    let senses = senses_of g.K.Transport.gives g.K.Transport.hears g.C.Seconds.shows
    g.B.Taker.offers g.B.Taker.took g.B.Taker.refuses c.args.port.now.number in
    let own = c.args.self.now.outlet in
    let now = standing own.transport own.clock
    (asker_state c.args.port.now.asker c.args.port.now.seat)
    c.args.port.now.share.amount in
    let desk = c.match-command.self in
    let port = c.match-command.port in
    let after = standing desk.outlet.transport desk.outlet.clock (asker_state port.asker port.seat)
    port.share.amount in
    let command = c.args.command.now in
    let answer = c.match-command.result in
    elim c.match-command.branch [
      | in-Attach w ↦
          served_moved faults senses command (commands.Attach w.in-Attach.path) answer
          w.attach.result now after
          (standing w.attach.new.self.outlet.transport w.attach.new.self.outlet.clock
          (asker_state w.attach.new.port.asker w.attach.new.port.seat)
          w.attach.new.port.share.amount)
          (λ i. standing (w.self-is i).outlet.transport (w.self-is i).outlet.clock
          (asker_state (w.port-is i).asker (w.port-is i).seat) (w.port-is i).share.amount)
          w.in-Attach.is w.result-is w.attach.ensures.served
      | in-Detach w ↦
          served_moved faults senses command (commands.Detach w.in-Detach.hook) answer
          w.detach.result now after
          (standing w.detach.new.self.outlet.transport w.detach.new.self.outlet.clock
          (asker_state w.detach.new.port.asker w.detach.new.port.seat)
          w.detach.new.port.share.amount)
          (λ i. standing (w.self-is i).outlet.transport (w.self-is i).outlet.clock
          (asker_state (w.port-is i).asker (w.port-is i).seat) (w.port-is i).share.amount)
          w.in-Detach.is w.result-is w.detach.ensures.served
      | in-Add w ↦
          served_moved faults senses command (commands.Add w.in-Add.external) answer w.add.result
          now after
          (standing w.add.new.outlet.transport w.add.new.outlet.clock
          (asker_state w.add.new.port.asker w.add.new.port.seat)
          w.add.new.port.share.amount)
          (λ i. standing (w.self-is i).outlet.transport (w.self-is i).outlet.clock
          (asker_state (w.port-is i).asker (w.port-is i).seat) (w.port-is i).share.amount)
          w.in-Add.is w.result-is
          (as_known faults senses (work.Add w.in-Add.external) now
          (standing w.add.new.outlet.transport w.add.new.outlet.clock
          (asker_state w.add.new.port.asker w.add.new.port.seat)
          w.add.new.port.share.amount)
          w.add.ensures.served)
      | in-Withdraw w ↦
          served_moved faults senses command (commands.Withdraw w.in-Withdraw.prefix) answer
          w.withdraw.result now after
          (standing w.withdraw.new.outlet.transport w.withdraw.new.outlet.clock
          (asker_state w.withdraw.new.port.asker w.withdraw.new.port.seat)
          w.withdraw.new.port.share.amount)
          (λ i. standing (w.self-is i).outlet.transport (w.self-is i).outlet.clock
          (asker_state (w.port-is i).asker (w.port-is i).seat) (w.port-is i).share.amount)
          w.in-Withdraw.is w.result-is
          (as_known faults senses (work.Withdraw w.in-Withdraw.prefix) now
          (standing w.withdraw.new.outlet.transport w.withdraw.new.outlet.clock
          (asker_state w.withdraw.new.port.asker w.withdraw.new.port.seat)
          w.withdraw.new.port.share.amount)
          w.withdraw.ensures.served)
      | in-Table w ↦
          served_moved faults senses command (commands.Table) answer w.lines.result now after
          now
          (λ i. standing (w.self-is i).outlet.transport (w.self-is i).outlet.clock
          (asker_state (w.port-is i).asker (w.port-is i).seat) (w.port-is i).share.amount)
          w.in-Table.is w.result-is (unserved_still faults senses now)
      | in-Neighbors w ↦
          served_moved faults senses command (commands.Neighbors) answer
          w.lines-in-Neighbors.result now after
          now
          (λ i. standing (w.self-is i).outlet.transport (w.self-is i).outlet.clock
          (asker_state (w.port-is i).asker (w.port-is i).seat) (w.port-is i).share.amount)
          w.in-Neighbors.is w.result-is (unserved_still faults senses now)
      | in-Counters w ↦
          served_moved faults senses command (commands.Counters) answer w.lines-in-Counters.result
          now after
          (standing own.transport own.clock
          (asker_state w.counters.new.port.asker w.counters.new.port.seat)
          w.counters.new.port.share.amount)
          (λ i. standing (w.self-is i).outlet.transport (w.self-is i).outlet.clock
          (asker_state (w.port-is i).asker (w.port-is i).seat) (w.port-is i).share.amount)
          w.in-Counters.is w.result-is
          (read_still faults senses own.transport own.clock
          (asker_state c.args.port.now.asker c.args.port.now.seat)
          (asker_state w.counters.new.port.asker w.counters.new.port.seat)
          c.args.port.now.share.amount w.counters.new.port.share.amount
          w.counters.ensures.known (λ i. (w.counters.ensures.share i).amount))
    ]
