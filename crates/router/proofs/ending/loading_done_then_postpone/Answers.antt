use Rattle.std.proofs.Common.{length, ap, sym, ◌∙◌}
use Rattle.std.proofs.lemmas.List.{length-map}
use Rattle.received.specs.Links.{Link}
use Rattle.event_rules.specs.Endings.{loading_done, postpone_router_lsa}
use Rattle.event_rules.specs.Routers.{Router}
use Rattle.router.specs.Described.{full_router_on}
use Rattle.router.proofs.Making.{as_many_links, does_same, then_does}
use Rattle.router.specs.EndingParts.{loading_done_then_postpone}
use Rattle.router.proofs.ending.loading_done_then_postpone.Goals as goal

pub postpone_router_lsa-requires : goal.postpone_router_lsa-requires
postpone_router_lsa-requires c = record {
  before = ap length (c.deref.ensures.value ∙ c.in_ok-full_before.ensures)
      ∙ length-map c.args.router.now.present.area.links (λ (l : Link). full_router_on l.neighbor)
      ∙ sym (as_many_links c.end_loading.ensures);
}

pub returns : goal.returns
returns c =
    let links = c.args.router.now.present.area.links in
    does_same {f = λ p. postpone_router_lsa links (loading_done p)} {g = loading_done_then_postpone}
    c.postpone_router_lsa.result
    (λ p is. ap (λ (r : Router). postpone_router_lsa r.area.links (loading_done p)) (sym is))
    (then_does {f = loading_done} {g = postpone_router_lsa links} c.postpone_router_lsa.result
    c.end_loading.ensures
    (c.postpone_router_lsa.ensures links (sym c.end_loading.ensures.interfaces)
    (sym (c.deref.ensures.value ∙ c.in_ok-full_before.ensures))))
