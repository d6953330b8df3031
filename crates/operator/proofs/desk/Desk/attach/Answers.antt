use Rattle.std.proofs.Common.{refl}
use Rattle.hooks.specs.Known.{operations_of}
use Rattle.turns.specs.Askers.{asker_state}
use Rattle.worker.specs.Lives.{senses_of, standing}
use Rattle.turns.specs.Turns.{IsListed}
use Rattle.operator.specs.Answers.{change, sources}
use Rattle.operator.proofs.Answered.{told_why}
use Rattle.operator.proofs.Served.{lines_served}
use Rattle.operator.proofs.desk.Desk.attach.Goals as goal

pub returns-in-Err-clause-told : goal.returns-in-Err-clause-told
returns-in-Err-clause-told g c =
    let desk = c.args.self.now in
    let port = c.args.port.now in
    let lists = IsListed g.B.Taker.began g.B.Taker.neighbor_at in
    let s =
    sources g.B.Taker.offers g.B.Taker.took g.B.Taker.refuses g.B.Taker.wanted lists
    g.F.ReadsFiles.holds g.F.ReadsFiles.unreadable in
    let operations = operations_of desk.loader in
    let same =
    change operations operations (asker_state port.asker port.seat)
    (asker_state port.asker port.seat) desk.unrefreshed
    desk.unrefreshed port.share.amount port.share.amount in
    told_why s same c.args.path.now c.in-Err.error c.reason.result c.lines.result
    (record {
      unchanged = record { programs = (refl, refl); known = refl; events = refl };
      seat = refl;
    })
    c.in-Err.ensures.err c.reason.ensures c.lines.ensures

pub returns-in-Err-clause-served : goal.returns-in-Err-clause-served
returns-in-Err-clause-served g c =
    let senses = senses_of g.K.Transport.gives g.K.Transport.hears g.C.Seconds.shows
    g.B.Taker.offers g.B.Taker.took g.B.Taker.refuses c.args.port.now.number in
    let own = c.args.self.now.outlet in
    let now = standing own.transport own.clock
    (asker_state c.args.port.now.asker c.args.port.now.seat)
    c.args.port.now.share.amount in
    lines_served g.K.Transport.faults senses c.reason.result c.lines.result now c.lines.ensures
