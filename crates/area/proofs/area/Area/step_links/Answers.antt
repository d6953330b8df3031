use Rattle.std.proofs.Common.{◌≡◌, List, length, map, refl, sym, ap, ◌∙◌}
use Rattle.std.proofs.lemmas.List.{length-map}
use Rattle.keyed_map.proofs.Helds.{on_ok}
use Rattle.area.specs.Drafted.{drafts_with}
use Rattle.area.specs.Kept.{KeptLink, RouterArea}
use Rattle.area.specs.Links.{area_of, committed_link, draft_of, present, with_no_sends}
use Rattle.area.specs.Steps.{all_links, keys_behind, mark_each, update_count, update_count_on}
use Rattle.area.proofs.Doing.{on_err}
use Rattle.area.proofs.Lent.{committed_back, given_back}
use Rattle.area.proofs.Marked.{counts_on, marks_are, sent_at}
use Rattle.area.proofs.Marking.{area_is}
use Rattle.area.proofs.Sends.{drafts_are}
use Rattle.area.proofs.area.Area.step_links.Goals as goal

pub mark_all-requires : goal.mark_all-requires
mark_all-requires g c =
    let items = c.self.inside.links.items in
    let lent = c.deref_mut.result.now in
    let made = c.step_links.new.links in
    let kept = c.in_ok-step_links.ensures.committed in
    let back = given_back items lent made c.self.inside.links.len c.deref_mut.ensures.len kept in
    let counted : length c.deref-2.result.now ≡ length items =
    ap length (c.deref-2.ensures.value ∙ c.in_ok-counts.ensures)
    ∙ length-map c.deref.result.now update_count_on ∙ ap length c.deref.ensures.value in
    let linked : length c.deref-3.result.now ≡ length items =
    ap length (c.deref-3.ensures.value ∙ back) ∙ sym (length-map made committed_link)
    ∙ ap length kept ∙ length-map lent committed_link ∙ ap length c.deref_mut.ensures.value in
    counted ∙ sym linked

pub returns-in_err-step_links : goal.returns-in_err-step_links
returns-in_err-step_links g c = record {
  area = on_err c.from_residual-in_err-step_links.result _
      c.from_residual-in_err-step_links.ensures.0;
  drafts = on_err c.from_residual-in_err-step_links.result _
      c.from_residual-in_err-step_links.ensures.0;
  committed = area_is (committed_back c.self.inside.links.items c.deref_mut.result.now
      c.step_links.new.links c.self.inside.links.len c.deref_mut.ensures.value
      c.deref_mut.ensures.len c.in_err-step_links.ensures.committed) refl
      ∙ ap (λ (v : RouterArea). v.committed) c.self.view_is;
  router = ap (λ (v : RouterArea). v.router) c.self.view_is;
}

pub returns : goal.returns
returns g c =
    let m = c.args.moment in
    let items = c.self.inside.links.items in
    let lent = c.deref_mut.result.now in
    let made = c.step_links.new.links in
    let ls = map present lent in
    let ds = map draft_of lent in
    let d = c.self.inside.database.present in
    let A = g.S.LinkStep.after c.args.step.now in
    let S = g.S.LinkStep.sends c.args.step.now in
    let does = c.in_ok-step_links.ensures in
    let count : length ds ≡ length ls = length-map lent draft_of ∙ sym (length-map lent present) in
    let back = given_back items lent made c.self.inside.links.len c.deref_mut.ensures.len
    does.committed in
    let counts : c.deref-2.result.now ≡ map update_count ds =
    c.deref-2.ensures.value ∙ c.in_ok-counts.ensures
    ∙ ap (map update_count_on) (c.deref.ensures.value ∙ sym c.deref_mut.ensures.value)
    ∙ counts_on lent in
    let drafts = ap (map draft_of) (c.deref-3.ensures.value ∙ back) ∙ does.drafts
    ∙ drafts_are (sent_at m (S d)) ls ds in
    record {
      area = on_ok c.mark_all.result (λ is.
          area_is (ap (map present) back ∙ does.links)
          (is ∙ (λ j. mark_each m d (keys_behind (counts j) (drafts j)))
          ∙ marks_are m (S d) 1 ls ds d count)
          ∙ ap (λ (xs : List KeptLink). (all_links m A S (with_no_sends (area_of xs d))).area)
          c.deref_mut.ensures.value
          ∙ ap (λ (v : RouterArea). (all_links m A S (with_no_sends v.present)).area)
          c.self.view_is)
          c.mark_all.ensures.ok;
      drafts = on_ok c.mark_all.result (λ _.
          ap (map draft_of) back ∙ does.drafts
          ∙ ap (λ (xs : List KeptLink). drafts_with
          (all_links m A S (with_no_sends (area_of xs d))).sends (map present xs) (map draft_of xs))
          c.deref_mut.ensures.value
          ∙ ap (λ (v : RouterArea). drafts_with (all_links m A S (with_no_sends v.present)).sends
          v.present.links v.drafted) c.self.view_is)
          c.mark_all.ensures.ok;
      committed = area_is (committed_back items lent made c.self.inside.links.len
          c.deref_mut.ensures.value c.deref_mut.ensures.len does.committed)
          c.mark_all.ensures.committed ∙ ap (λ (v : RouterArea). v.committed) c.self.view_is;
      router = c.mark_all.ensures.router ∙ ap (λ (v : RouterArea). v.router) c.self.view_is;
    }
