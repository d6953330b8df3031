use Rattle.std.proofs.Common.{List, map, refl, ap, ◌∙◌}
use Rattle.std.specs.FinMap as finite
use Rattle.keyed_map.proofs.Helds.{on_ok}
use Rattle.lsa.specs.Headers.{key_of}
use Rattle.lsdb.specs.Copies.{mark_sent}
use Rattle.received.specs.Links.{Area}
use Rattle.received.specs.Updates.{send_copy}
use Rattle.area.specs.Drafted.{drafts_with}
use Rattle.area.specs.Kept.{KeptLink, RouterArea}
use Rattle.area.specs.Links.{area_of, draft_of, present, with_no_sends}
use Rattle.area.proofs.Doing.{area_rests, on_err}
use Rattle.area.proofs.Lent.{committed_back, given_back}
use Rattle.area.proofs.Marking.{area_is}
use Rattle.area.proofs.area.Area.draft_copy.Goals as goal

pub returns-in_default : goal.returns-in_default
returns-in_default c =
    let a = c.args.self.now.present in
    let k = c.args.key.now in
    area_rests
    (λ (x : Area). send_copy c.args.moment c.args.interface (finite.get x.database k)
    (with_no_sends x))
    c.args.self.now _
    (ap (λ q. send_copy c.args.moment c.args.interface q (with_no_sends a)) (c.in_default.ensures
    ∙ ap (λ (v : RouterArea). finite.get v.present.database k) c.self.view_is))

pub returns-in_err-draft_update : goal.returns-in_err-draft_update
returns-in_err-draft_update c = record {
  area = on_err c.from_residual.result _ c.from_residual.ensures.0;
  drafts = on_err c.from_residual.result _ c.from_residual.ensures.0;
  committed = area_is (committed_back c.self.inside.links.items c.deref_mut.result.now
      c.draft_update.new.links c.self.inside.links.len c.deref_mut.ensures.value
      c.deref_mut.ensures.len c.in_err-draft_update.ensures.committed) refl
      ∙ ap (λ (v : RouterArea). v.committed) c.self.view_is;
  router = ap (λ (v : RouterArea). v.router) c.self.view_is;
}

pub returns : goal.returns
returns c =
    let m = c.args.moment in
    let n = c.args.interface in
    let k = c.args.key.now in
    let items = c.self.inside.links.items in
    let len = c.self.inside.links.len in
    let lent = c.deref_mut.result.now in
    let made = c.draft_update.new.links in
    let d = c.self.inside.database.present in
    let does = c.in_ok-draft_update.ensures in
    let back = given_back items lent made len c.deref_mut.ensures.len does.committed in
    record {
      area = on_ok c.mark_sent.result (λ is.
          area_is (ap (map present) back ∙ does.links) (is ∙ ap (λ j. mark_sent m j d)
          (c.key-sent_key.ensures ∙ ap key_of c.header-header.ensures))
          ∙ ap (λ q. (send_copy m n q (with_no_sends (area_of lent d))).area) c.in-Some.ensures
          ∙ ap (λ (ls : List KeptLink). (send_copy m n (finite.get d k)
          (with_no_sends (area_of ls d))).area) c.deref_mut.ensures.value
          ∙ ap (λ (v : RouterArea). (send_copy m n (finite.get v.present.database k)
          (with_no_sends v.present)).area) c.self.view_is) c.mark_sent.ensures.ok;
      drafts = on_ok c.mark_sent.result (λ _.
          ap (map draft_of) back ∙ does.drafts
          ∙ ap (λ q. drafts_with (send_copy m n q (with_no_sends (area_of lent d))).sends
          (map present lent) (map draft_of lent)) c.in-Some.ensures
          ∙ ap (λ (ls : List KeptLink). drafts_with (send_copy m n (finite.get d k)
          (with_no_sends (area_of ls d))).sends (map present ls) (map draft_of ls))
          c.deref_mut.ensures.value
          ∙ ap (λ (v : RouterArea). drafts_with (send_copy m n
          (finite.get v.present.database k) (with_no_sends v.present)).sends v.present.links
          v.drafted)
          c.self.view_is) c.mark_sent.ensures.ok;
      committed = area_is (committed_back items lent made len c.deref_mut.ensures.value
          c.deref_mut.ensures.len does.committed) c.mark_sent.ensures.committed
          ∙ ap (λ (v : RouterArea). v.committed) c.self.view_is;
      router = c.mark_sent.ensures.router ∙ ap (λ (v : RouterArea). v.router) c.self.view_is;
    }
