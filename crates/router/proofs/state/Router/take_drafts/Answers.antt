use Rattle.std.proofs.Common.{refl, ap, ◌∙◌}
use Rattle.keyed_map.proofs.Helds.{on_ok}
use Rattle.area.proofs.Doing.{if_ok}
use Rattle.router.specs.Kept.{KeptRouter}
use Rattle.router.proofs.Answered.{area_stays, drafts_leave}
use Rattle.router.proofs.state.Router.take_drafts.Goals as goal

pub returns-clause-drafts : goal.returns-clause-drafts
returns-clause-drafts c =
    if_ok c.take_drafts.result
    (λ drafts is. is ∙ ap (λ (r : KeptRouter). r.drafted) c.self.view_is)
    c.take_drafts.ensures.drafts

pub returns-clause-rest : goal.returns-clause-rest
returns-clause-rest c =
    on_ok c.take_drafts.result
    (drafts_leave _ c.args.self.now c.self.inside.area c.take_drafts.new.self c.self.view_is refl)
    c.take_drafts.ensures.rest

pub returns-clause-committed : goal.returns-clause-committed
returns-clause-committed c =
    area_stays _ c.args.self.now c.self.inside.area c.take_drafts.new.self c.self.view_is refl
    c.take_drafts.ensures.committed
