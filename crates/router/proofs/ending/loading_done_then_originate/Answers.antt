use Rattle.std.proofs.Common.{sym, ◌∙◌}
use Rattle.event_rules.specs.Endings.{loading_done, originate_router_lsa}
use Rattle.router.proofs.Making.{as_many_links, then_does}
use Rattle.router.proofs.ending.loading_done_then_originate.Goals as goal

pub originate_router_lsa-requires : goal.originate_router_lsa-requires
originate_router_lsa-requires c = record {
  before = c.requires.before ∙ sym (as_many_links c.end_loading.ensures);
}

pub returns : goal.returns
returns c old same full =
    then_does {f = loading_done} {g = originate_router_lsa old c.args.moment}
    c.originate_router_lsa.result
    c.end_loading.ensures
    (c.originate_router_lsa.ensures old (same ∙ sym c.end_loading.ensures.interfaces) full)
