use Rattle.std.proofs.Common.{◌≡◌, ◌-◌, ◌<◌, ◌+◌, length, map, refl, ap, ◌∙◌, arith}
use Rattle.std.proofs.lemmas.List.{length-map}
use Rattle.received.specs.Links.{change_link, taken_down}
use Rattle.area.specs.Kept.{RouterArea}
use Rattle.area.specs.Links.{committed_link, draft_of, present}
use Rattle.area.proofs.Kept.{shows_kept}
use Rattle.area.proofs.Marking.{area_is, router_area_is}
use Rattle.area.proofs.OneLink.{changed_at}
use Rattle.area.proofs.area.Area.take_down.Goals as goal

pub index_mut-requires : goal.index_mut-requires
index_mut-requires c =
    let shown : length (map present c.self.inside.links.items)
    ≡ length c.args.self.now.present.links = ap (λ v. length v.present.links) c.self.view_is in
    omega (
      arith,
      c.requires.first,
      c.requires.last,
      shown,
      length-map c.self.inside.links.items present,
      c.self.inside.links.ok.0,
    )

pub returns : goal.returns
returns c =
    let n = c.args.interface in
    let i = n - 1 in
    let items = c.self.inside.links.items in
    let link = c.index_mut.result.now in
    let shown : length (map present items) ≡ length c.args.self.now.present.links =
    ap (λ v. length v.present.links) c.self.view_is in
    let lt : i < length items =
    omega (arith, c.requires.first, c.requires.last, shown, length-map items present) in
    let at : n ≡ 1 + i = omega (arith, c.requires.first) in
    router_area_is refl
    (area_is (changed_at present taken_down 1 n i items c.take_down.new.self link lt at
    (ap present c.take_down.ensures
    ∙ ap (λ k. taken_down (present k)) c.index_mut.ensures.value)) refl)
    (area_is (shows_kept committed_link items i link c.take_down.new.self c.index_mut.ensures.value
    (ap committed_link c.take_down.ensures ∙ ap committed_link c.index_mut.ensures.value)) refl)
    (shows_kept draft_of items i link c.take_down.new.self c.index_mut.ensures.value
    (ap draft_of c.take_down.ensures ∙ ap draft_of c.index_mut.ensures.value))
    ∙ ap (λ (v : RouterArea). record v {
      present = record v.present { links = change_link n taken_down v.present.links };
    }) c.self.view_is
