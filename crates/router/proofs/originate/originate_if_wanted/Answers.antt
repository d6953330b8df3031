use Rattle.std.proofs.Common.{sym, ◌∙◌}
use Rattle.router.proofs.Making.{does_same}
use Rattle.router.proofs.Found.{done_as_found}
use Rattle.router.proofs.originate.originate_if_wanted.Goals as goal

pub returns : goal.returns
returns c =
    does_same c.carry_out.result
    (done_as_found c.args.may_now c.args.moment c.args.key.now c.args.router.now.present
    c.in-Some.found
    (sym c.in-Some.is ∙ c.in_ok-found.ensures))
    c.carry_out.ensures
