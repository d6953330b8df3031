use Rattle.own_lsa_laws.proofs.RunningRouter.{nobody_speaks}
use Rattle.own_lsa_laws.proofs.workers.nobody_speaks_for_the_running_router.Goals as goal

pub returns : goal.returns
returns c = nobody_speaks c.nobody_speaks_for_this_router.ensures
    c.routers_refuse_clocks_that_go_back.ensures
