use Rattle.std.proofs.Common.{subst}
use Rattle.hooks.specs.Known.{operations_of}
use Rattle.turns.specs.Askers.{asker_state}
use Rattle.worker.specs.Lives.{senses_of, standing}
use Rattle.turns.specs.Turns.{IsListed}
use Rattle.operator.specs.Answers.{change, sources}
use Rattle.operator.specs.Served.{IsLineServed, IsUnlessFault}
use Rattle.operator.proofs.Answered.{obeyed_from}
use Rattle.operator.proofs.Served.{both_served}
use Rattle.operator.proofs.desk.Desk.obey_with.Goals as goal

pub returns-clause-told : goal.returns-clause-told
returns-clause-told g c =
    let lists = IsListed g.B.Taker.began g.B.Taker.neighbor_at in
    let s =
    sources g.B.Taker.offers g.B.Taker.took g.B.Taker.refuses g.B.Taker.wanted lists
    g.F.ReadsFiles.holds g.F.ReadsFiles.unreadable in
    let between = c.make_up.new.port in
    let after = c.answer.new.port in
    let still = c.make_up.new.self.unrefreshed in
    let desk = c.answer.new.self in (
      still,
      asker_state between.asker between.seat,
      between.share.amount,
      c.make_up.ensures.made_up,
      obeyed_from s c.args.self.now.interfaces c.make_up.new.self.interfaces
          (change (operations_of c.args.self.now.loader) (operations_of desk.loader)
          (asker_state between.asker between.seat) (asker_state after.asker after.seat) still
          desk.unrefreshed
          between.share.amount after.share.amount)
          (change (operations_of c.make_up.new.self.loader) (operations_of desk.loader)
          (asker_state between.asker between.seat) (asker_state after.asker after.seat) still
          desk.unrefreshed
          between.share.amount after.share.amount)
          c.args.line.now c.answer.result c.make_up.ensures.interfaces
          (λ i. change (operations_of (c.make_up.ensures.loader i)) (operations_of desk.loader)
          (asker_state between.asker between.seat) (asker_state after.asker after.seat) still
          desk.unrefreshed
          between.share.amount after.share.amount)
          c.answer.ensures.told,
    )

pub returns-clause-served : goal.returns-clause-served
returns-clause-served g c =
    let faults = g.K.Transport.faults in
    let own = c.args.self.now.outlet in
    let now = standing own.transport own.clock
    (asker_state c.args.port.now.asker c.args.port.now.seat)
    c.args.port.now.share.amount in
    let first = c.make_up.new.self.outlet in
    let between = standing first.transport first.clock
    (asker_state c.make_up.new.port.asker c.make_up.new.port.seat)
    c.make_up.new.port.share.amount in
    let last = c.answer.new.self.outlet in
    let after = standing last.transport last.clock
    (asker_state c.answer.new.port.asker c.answer.new.port.seat)
    c.answer.new.port.share.amount in
    let line = c.args.line.now in
    both_served faults (senses_of g.K.Transport.gives g.K.Transport.hears g.C.Seconds.shows
    g.B.Taker.offers g.B.Taker.took g.B.Taker.refuses c.args.port.now.number)
    c.args.self.now.unrefreshed line
    c.answer.result now between after c.make_up.ensures.served
    (subst (λ n. IsUnlessFault faults (IsLineServed
    (senses_of g.K.Transport.gives g.K.Transport.hears g.C.Seconds.shows
    g.B.Taker.offers g.B.Taker.took g.B.Taker.refuses n) line c.answer.result) between after)
    c.make_up.ensures.number c.answer.ensures.served)
