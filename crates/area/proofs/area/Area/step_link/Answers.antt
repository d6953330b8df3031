use Rattle.std.proofs.Common.{◌≡◌, ◌-◌, ◌<◌, ◌+◌, length, drop, map, refl, ap, ◌∙◌}
use Rattle.std.proofs.Common.{arith, sym}
use Rattle.std.proofs.lemmas.List.{get_or-set_same, length-map}
use Rattle.std.specs.Prelude.{Option, Some}
use Rattle.keyed_map.proofs.Helds.{on_ok}
use Rattle.adjacency.specs.Drafts.{Drafted, drafting}
use Rattle.received.specs.Links.{Link, link_at}
use Rattle.received.specs.AreaStates.{sends_at}
use Rattle.area.specs.Drafted.{drafts_with}
use Rattle.area.specs.Kept.{KeptLink, RouterArea}
use Rattle.area.specs.Links.{committed_link, draft_of, present, with_no_sends}
use Rattle.area.specs.Steps.{key_of_update, mark_each, one_link, sent_by}
use Rattle.area.proofs.Doing.{on_err}
use Rattle.area.proofs.Kept.{shows_kept}
use Rattle.area.proofs.Marking.{area_is, marks}
use Rattle.area.proofs.Only.{drafts_sent, links_changed}
use Rattle.area.proofs.Updates.{marks_behind, same_item, shown_link}
use Rattle.area.proofs.area.Area.step_link.Goals as goal

pub index-requires : goal.index-requires
index-requires g c =
    let shown : length (map present c.self.inside.links.items)
    ≡ length c.args.self.now.present.links = ap (λ v. length v.present.links) c.self.view_is in
    omega (
      arith,
      c.requires.first,
      c.requires.last,
      shown,
      length-map c.self.inside.links.items present,
      c.self.inside.links.ok.0,
    )

pub index_mut-requires : goal.index_mut-requires
index_mut-requires g c =
    let shown : length (map present c.self.inside.links.items)
    ≡ length c.args.self.now.present.links = ap (λ v. length v.present.links) c.self.view_is in
    omega (
      arith,
      c.requires.first,
      c.requires.last,
      shown,
      length-map c.self.inside.links.items present,
      c.self.inside.links.ok.0,
    )

pub index-requires-2 : goal.index-requires-2
index-requires-2 g c =
    let shown : length (map present c.self.inside.links.items)
    ≡ length c.args.self.now.present.links = ap (λ v. length v.present.links) c.self.view_is in
    omega (
      arith,
      c.requires.first,
      c.requires.last,
      shown,
      length-map c.self.inside.links.items present,
      c.self.inside.links.ok.0,
    )

pub returns-in_err-apply : goal.returns-in_err-apply
returns-in_err-apply g c = record {
  area = on_err c.from_residual.result _ c.from_residual.ensures.0;
  drafts = on_err c.from_residual.result _ c.from_residual.ensures.0;
  committed = area_is (shows_kept committed_link c.self.inside.links.items (c.args.interface - 1)
      c.index_mut.result.now c.apply.new.link c.index_mut.ensures.value
      (c.in_err-apply.ensures.committed ∙ ap committed_link c.index_mut.ensures.value)) refl
      ∙ ap (λ (v : RouterArea). v.committed) c.self.view_is;
  router = ap (λ (v : RouterArea). v.router) c.self.view_is;
}

pub returns : goal.returns
returns g c =
    let m = c.args.moment in
    let k = c.args.interface in
    let i = k - 1 in
    let items = c.self.inside.links.items in
    let d = c.self.inside.database.present in
    let A = g.S.LinkStep.after c.args.step.now in
    let S = g.S.LinkStep.sends c.args.step.now in
    let link = c.index_mut.result.now in
    let after = c.apply.new.link in
    let delay = link.present.interface.delay in
    let value = c.index_mut.ensures.value in
    let does = c.in_ok-apply.ensures in
    let shown : length (map present items) ≡ length c.args.self.now.present.links =
    ap (λ v. length v.present.links) c.self.view_is in
    let lt : i < length items =
    omega (arith, c.requires.first, c.requires.last, shown, length-map items present) in
    let at : k ≡ 1 + i = omega (arith, c.requires.first) in
    let first : c.index.result.now ≡ link =
    c.index.ensures ∙ same_item i items c.index.result.now link lt ∙ sym value in
    let last : c.index-2.result.now ≡ after =
    c.index-2.ensures ∙ get_or-set_same items i after c.index-2.result.now lt in
    let here : Some link.present ≡ link_at k (map present items) =
    ap (λ (l : KeptLink). Some l.present) value ∙ shown_link items i k link lt at in
    record {
      area = on_ok c.mark_behind.result
          (λ is.
          area_is
          (links_changed items i k after link lt at (A d)
          (does.link ∙ ap (λ (l : KeptLink). A d l.present) value))
          (is
          ∙ (λ j. mark_each m d
          (map key_of_update (drop (length (c.updates-count.ensures j)) (c.updates.ensures j))))
          ∙ (λ j. mark_each m d
          (map key_of_update (drop (length (first j).drafted.updates) (last j).drafted.updates)))
          ∙ ap (λ (x : Drafted). mark_each m d
          (map key_of_update (drop (length link.drafted.updates) x.updates))) does.draft
          ∙ marks_behind m delay k (S d link.present) d link.drafted
          ∙ ap (λ (o : Option Link). marks m d (sends_at k (sent_by (S d) o))) here)
          ∙ ap (λ (v : RouterArea). (one_link m k A S (with_no_sends v.present)).area)
          c.self.view_is)
          c.mark_behind.ensures.ok;
      drafts = on_ok c.mark_behind.result
          (λ _.
          drafts_sent items i k after link lt at (S d link.present)
          (does.draft ∙ ap (λ (l : KeptLink). drafting l.present.interface.delay
          (S d link.present) l.drafted) value)
          ∙ ap (λ (o : Option Link). drafts_with (sends_at k (sent_by (S d) o))
          (map present items) (map draft_of items)) here
          ∙ ap (λ (v : RouterArea). drafts_with (one_link m k A S (with_no_sends v.present)).sends
          v.present.links v.drafted) c.self.view_is)
          c.mark_behind.ensures.ok;
      committed = area_is (shows_kept committed_link items i link after value
          (does.committed ∙ ap committed_link value)) c.mark_behind.ensures.committed
          ∙ ap (λ (v : RouterArea). v.committed) c.self.view_is;
      router = c.mark_behind.ensures.router ∙ ap (λ (v : RouterArea). v.router) c.self.view_is;
    }
