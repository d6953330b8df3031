use Rattle.std.proofs.Common.{◌≡◌, ◌<◌, length, map, refl, sym, ap, ◌∙◌, arith}
use Rattle.std.proofs.lemmas.List.{length-set}
use Rattle.area.specs.Kept.{RouterArea}
use Rattle.area.specs.Links.{committed_link, draft_of, present}
use Rattle.area.proofs.Changes.{changes_begin}
use Rattle.area.proofs.Kept.{mixed_all, mixed_next, shows_kept}
use Rattle.area.proofs.Marking.{area_is, router_area_is}
use Rattle.area.proofs.area.Area.change_links.Goals as goal

pub loop-i-init : goal.loop-i-init
loop-i-init g c = record {
  count = refl;
  stays = refl;
  drafts = refl;
  comes = changes_begin present (g.C.LinkChange.after c.args.change.now) c.self.inside.links.items;
  database = refl;
}

pub loop-i-preserved : goal.loop-i-preserved
loop-i-preserved g c =
    let links = c.loop-i.self-inside.links.items in
    let i = c.loop-i.i in
    let link = c.index_mut.result.now in
    let lt : i < length links =
    omega (arith, c.loop-i-test.true, c.loop-i.invariant.count, c.self.inside.links.ok.0) in
    record {
      count = length-set links i c.change.new.link ∙ c.loop-i.invariant.count;
      stays = shows_kept committed_link links i link c.change.new.link c.index_mut.ensures.value
          (ap committed_link c.change.ensures ∙ ap committed_link c.index_mut.ensures.value)
          ∙ c.loop-i.invariant.stays;
      drafts = shows_kept draft_of links i link c.change.new.link c.index_mut.ensures.value
          (ap draft_of c.change.ensures ∙ ap draft_of c.index_mut.ensures.value)
          ∙ c.loop-i.invariant.drafts;
      comes = mixed_next present (λ n. g.C.LinkChange.after c.args.change.now (present n)) i links
          c.change.new.link link
          (ap present c.change.ensures
          ∙ ap (λ n. g.C.LinkChange.after c.args.change.now (present n)) c.index_mut.ensures.value)
          lt ∙ c.loop-i.invariant.comes;
      database = c.loop-i.invariant.database;
    }

pub returns : goal.returns
returns g c =
    let A = g.C.LinkChange.after c.args.change.now in
    let links = c.loop-i.self-inside.links.items in
    let i = c.loop-i.i in
    let same = c.loop-i.invariant.database in
    let all : length links ≡ i =
    omega (
      arith,
      c.loop-i-test.false,
      c.loop-i.auto.i-end,
      c.loop-i.invariant.count,
      c.self.inside.links.ok.0,
    ) in
    router_area_is (ap (λ d. d.router) same)
    (area_is (sym (mixed_all present (λ n. A (present n)) i links all)
    ∙ c.loop-i.invariant.comes) (ap (λ d. d.present) same))
    (area_is c.loop-i.invariant.stays (ap (λ d. d.committed) same)) c.loop-i.invariant.drafts
    ∙ ap (λ (v : RouterArea). record v {
      present = record v.present { links = map A v.present.links };
    })
    c.self.view_is
