use Rattle.std.proofs.Common.{ap, sym, ◌∙◌}
use Rattle.std.specs.FinMap as finite
use Rattle.router.proofs.Found.{found_external, found_router}
use Rattle.router.proofs.wanted.wanted_origination.Goals as goal

pub returns-then-names_router_lsa : goal.returns-then-names_router_lsa
returns-then-names_router_lsa c =
    found_router c.args.may_now c.args.moment c.args.key.now c.args.router.now.present _ _ _ _
    c.in_ok-found.found
    c.id-own.ensures (sym c.names_router_lsa.ensures ∙ c.if-names_router_lsa.true)
    (c.links-links.ensures.present ∙ ap (λ a. a.present.links) c.area-area.ensures.parts)
    (ap (λ d. d.present) c.database.ensures
    ∙ ap (λ a. a.present.database) c.area-area.ensures.parts)
    c.originated-last.ensures c.in_ok-found.ensures

pub returns : goal.returns
returns c =
    found_external c.args.may_now c.args.moment c.args.key.now c.args.router.now.present _ _ _ _
    c.in_ok-found-2.found
    c.id-own.ensures (sym c.names_router_lsa.ensures ∙ c.if-names_router_lsa.false)
    (sym (c.in-Some.ensures ∙ ap (λ m. finite.get m.present c.args.key.now)
    c.announced.ensures.parts))
    c.announced.ensures.own
    (ap (λ d. d.present) c.database-database.ensures
    ∙ ap (λ a. a.present.database) c.area-area.ensures.parts)
    c.originated-last.ensures c.in_ok-found-2.ensures
