use Rattle.std.proofs.Common.{map, ap, ◌∙◌}
use Rattle.event_rules.specs.Routers.{with_links}
use Rattle.area.specs.Links.{present}
use Rattle.flood.specs.Starts.{fresh_kept}
use Rattle.flood.proofs.Starting.{few_links, fresh_links}
use Rattle.flood.proofs.start.begin.Goals as goal

pub new-router-requires : goal.new-router-requires
new-router-requires c = record {
  few =
      few_links c.args.config.now c.in_ok-links.links.items c.requires
      (ap (λ ls. map present ls) c.in_ok-links.ensures
      ∙ ap (λ is. map present (map fresh_kept is)) c.as_slice.ensures
      ∙ fresh_links c.args.config.now.interfaces);
}

pub originate_first_router_lsa-requires : goal.originate_first_router_lsa-requires
originate_first_router_lsa-requires c =
    let config = c.args.config.now in
    let links = ap (λ ls. map present ls) c.in_ok-links.ensures
    ∙ ap (λ is. map present (map fresh_kept is)) c.as_slice.ensures
    ∙ fresh_links config.interfaces in
    c.new-router.ensures.present ∙ ap (λ ls. with_links config.router ls config.start) links
