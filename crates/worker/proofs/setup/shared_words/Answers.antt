use Rattle.std.proofs.Common.{arith}
use Rattle.worker.proofs.FreshSeats.{are_seated, are_so_many}
use Rattle.worker.proofs.setup.shared_words.Goals as goal

pub returns-in-Ok-clause-count : goal.returns-in-Ok-clause-count
returns-in-Ok-clause-count c =
    let many = are_so_many c.in-Ok.made.0 c.args.count c.in-Ok.made.1.items c.in-Ok.ensures.fresh in
    let length_is = c.in-Ok.made.1.ok.0 in omega arith

pub returns-in-Ok-clause-seated : goal.returns-in-Ok-clause-seated
returns-in-Ok-clause-seated c = are_seated c.in-Ok.made.0 c.args.count c.in-Ok.made.1.items
    c.in-Ok.ensures.fresh
