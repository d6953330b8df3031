use Rattle.std.proofs.Common.{sym, ap, ◌∙◌, ◌||◌}
use Rattle.received.specs.Links.{any_long_list}
use Rattle.lsdb.specs.Limits.{exceeds as database_exceeds}
use Rattle.area.specs.Kept.{RouterArea}
use Rattle.flood.proofs.keeping.pack_and_update_routes.Goals as goal

pub returns-then-exceeds-clause-limit : goal.returns-then-exceeds-clause-limit
returns-then-exceeds-clause-limit c =
    sym (c.exceeds.ensures ∙ ap (λ (a : RouterArea).
    database_exceeds a.router a.present.database || any_long_list a.present.links)
    c.area.ensures.parts)
    ∙ c.if-exceeds.true

pub returns-clause-outs : goal.returns-clause-outs
returns-clause-outs c = c.in_ok-outs.ensures.outs

pub returns-clause-texts : goal.returns-clause-texts
returns-clause-texts c = c.in_ok-outs.ensures.texts

pub returns-clause-limit : goal.returns-clause-limit
returns-clause-limit c =
    sym (c.exceeds.ensures ∙ ap (λ (a : RouterArea).
    database_exceeds a.router a.present.database || any_long_list a.present.links)
    c.area.ensures.parts)
    ∙ c.if-exceeds.false
