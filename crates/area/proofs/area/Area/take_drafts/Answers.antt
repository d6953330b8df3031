use Rattle.std.proofs.Common.{List, map, refl, ap, ◌∙◌}
use Rattle.keyed_map.proofs.Helds.{on_ok}
use Rattle.area.specs.Drafted.{nothing_at}
use Rattle.area.specs.Kept.{KeptLink, RouterArea}
use Rattle.area.specs.Links.{draft_of, present}
use Rattle.area.proofs.Doing.{if_ok}
use Rattle.area.proofs.Lent.{committed_back, given_back}
use Rattle.area.proofs.Marking.{area_is, router_area_is}
use Rattle.area.proofs.area.Area.take_drafts.Goals as goal

pub returns-clause-drafts : goal.returns-clause-drafts
returns-clause-drafts c =
    if_ok c.take_drafts.result
    (λ drafts is. is ∙ ap (map draft_of) c.deref_mut.ensures.value
    ∙ ap (λ (v : RouterArea). v.drafted) c.self.view_is)
    c.take_drafts.ensures.drafts

pub returns-clause-rest : goal.returns-clause-rest
returns-clause-rest c =
    let items = c.self.inside.links.items in
    let lent = c.deref_mut.result.now in
    let made = c.take_drafts.new.links in
    let n = c.self.inside.links.len in
    let value = c.deref_mut.ensures.value in
    let back = given_back items lent made n c.deref_mut.ensures.len
    c.take_drafts.ensures.committed in
    on_ok c.take_drafts.result
    (λ is.
    router_area_is refl
    (area_is (ap (map present) back ∙ c.take_drafts.ensures.present ∙ ap (map present) value) refl)
    (area_is (committed_back items lent made n value c.deref_mut.ensures.len
    c.take_drafts.ensures.committed) refl)
    (ap (map draft_of) back ∙ is ∙ ap (λ (ls : List KeptLink). nothing_at (map present ls)) value)
    ∙ ap (λ (v : RouterArea). record v { drafted = nothing_at v.present.links }) c.self.view_is)
    c.take_drafts.ensures.rest

pub returns-clause-present : goal.returns-clause-present
returns-clause-present c =
    let items = c.self.inside.links.items in
    let back = given_back items c.deref_mut.result.now c.take_drafts.new.links
    c.self.inside.links.len c.deref_mut.ensures.len c.take_drafts.ensures.committed in
    area_is (ap (map present) back ∙ c.take_drafts.ensures.present
    ∙ ap (map present) c.deref_mut.ensures.value) refl
    ∙ ap (λ (v : RouterArea). v.present) c.self.view_is

pub returns-clause-committed : goal.returns-clause-committed
returns-clause-committed c =
    area_is (committed_back c.self.inside.links.items c.deref_mut.result.now
    c.take_drafts.new.links c.self.inside.links.len c.deref_mut.ensures.value
    c.deref_mut.ensures.len c.take_drafts.ensures.committed) refl
    ∙ ap (λ (v : RouterArea). v.committed) c.self.view_is
