use Rattle.std.proofs.Common.{List, cond, map, refl, ap, sym, ◌∙◌}
use Rattle.std.specs.Prelude.{None}
use Rattle.std.specs.FinMap as finite
use Rattle.lsdb.specs.Copies.{lsa_now, mark_sent}
use Rattle.lsdb.specs.Headers.{key_of, lsa_key}
use Rattle.keyed_map.proofs.Helds.{on_ok}
use Rattle.area.specs.Drafted.{drafts_with}
use Rattle.area.specs.Kept.{KeptLink, RouterArea}
use Rattle.area.specs.Links.{area_of, draft_of, flooded_copy, flooded_key, present}
use Rattle.area.specs.Links.{with_no_sends}
use Rattle.area.proofs.Doing.{area_rests, on_err}
use Rattle.area.proofs.Flooded.{marks_once}
use Rattle.area.proofs.Lent.{committed_back, given_back}
use Rattle.area.proofs.Marking.{area_is}
use Rattle.area.proofs.area.Area.flood.Goals as goal

pub returns-in_default : goal.returns-in_default
returns-in_default c =
    let a = c.args.self.now.present in
    area_rests (flooded_key c.args.moment None c.args.key.now) c.args.self.now _
    (ap (λ q. flooded_copy c.args.moment None q (with_no_sends a)) (c.in_default.ensures
    ∙ ap (λ (v : RouterArea). finite.get v.present.database c.args.key.now) c.self.view_is))

pub returns-in_err-sent : goal.returns-in_err-sent
returns-in_err-sent c = record {
  area = on_err c.from_residual.result _ c.from_residual.ensures.0;
  drafts = on_err c.from_residual.result _ c.from_residual.ensures.0;
  committed = area_is (committed_back c.self.inside.links.items c.deref_mut.result.now
      c.flood_links.new.links c.self.inside.links.len c.deref_mut.ensures.value
      c.deref_mut.ensures.len c.in_err-sent.ensures.does.committed) refl
      ∙ ap (λ (v : RouterArea). v.committed) c.self.view_is;
  router = ap (λ (v : RouterArea). v.router) c.self.view_is;
}

pub returns-then-sent : goal.returns-then-sent
returns-then-sent c =
    let m = c.args.moment in
    let k = c.args.key.now in
    let items = c.self.inside.links.items in
    let n = c.self.inside.links.len in
    let lent = c.deref_mut.result.now in
    let made = c.flood_links.new.links in
    let d = c.self.inside.database.present in
    let lsa = lsa_now m c.in-Some.copy in
    let does = c.in_ok-sent.ensures.does in
    let back = given_back items lent made n c.deref_mut.ensures.len does.committed in
    let mark = ap (λ b. cond b (mark_sent m (lsa_key lsa) d) d)
    (sym c.if-sent.true ∙ c.in_ok-sent.ensures.sent)
    ∙ sym (marks_once m None lsa (map present lent) d) in
    record {
      area = on_ok c.mark_sent.result (λ is.
          area_is (ap (map present) back ∙ does.links) (is
          ∙ ap (λ j. mark_sent m j d) (c.key-sent_key.ensures ∙ ap key_of c.header-header.ensures)
          ∙ mark)
          ∙ ap (λ q. (flooded_copy m None q (with_no_sends (area_of lent d))).area)
          c.in-Some.ensures
          ∙ ap (λ (ls : List KeptLink). (flooded_key m None k (area_of ls d)).area)
          c.deref_mut.ensures.value
          ∙ ap (λ (v : RouterArea). (flooded_key m None k v.present).area) c.self.view_is)
          c.mark_sent.ensures.ok;
      drafts = on_ok c.mark_sent.result (λ _.
          ap (map draft_of) back ∙ does.drafts
          ∙ ap (λ q. drafts_with (flooded_copy m None q (with_no_sends (area_of lent d))).sends
          (map present lent) (map draft_of lent)) c.in-Some.ensures
          ∙ ap (λ (ls : List KeptLink). drafts_with (flooded_key m None k (area_of ls d)).sends
          (map present ls) (map draft_of ls)) c.deref_mut.ensures.value
          ∙ ap (λ (v : RouterArea). drafts_with (flooded_key m None k v.present).sends
          v.present.links v.drafted) c.self.view_is) c.mark_sent.ensures.ok;
      committed = area_is (committed_back items lent made n c.deref_mut.ensures.value
          c.deref_mut.ensures.len does.committed) c.mark_sent.ensures.committed
          ∙ ap (λ (v : RouterArea). v.committed) c.self.view_is;
      router = c.mark_sent.ensures.router ∙ ap (λ (v : RouterArea). v.router) c.self.view_is;
    }

pub returns : goal.returns
returns c =
    let m = c.args.moment in
    let k = c.args.key.now in
    let items = c.self.inside.links.items in
    let n = c.self.inside.links.len in
    let lent = c.deref_mut.result.now in
    let made = c.flood_links.new.links in
    let d = c.self.inside.database.present in
    let lsa = lsa_now m c.in-Some.copy in
    let does = c.in_ok-sent.ensures.does in
    let back = given_back items lent made n c.deref_mut.ensures.len does.committed in
    let mark = ap (λ b. cond b (mark_sent m (lsa_key lsa) d) d)
    (sym c.if-sent.false ∙ c.in_ok-sent.ensures.sent)
    ∙ sym (marks_once m None lsa (map present lent) d) in
    record {
      area =
          area_is (ap (map present) back ∙ does.links) mark
          ∙ ap (λ q. (flooded_copy m None q (with_no_sends (area_of lent d))).area)
          c.in-Some.ensures
          ∙ ap (λ (ls : List KeptLink). (flooded_key m None k (area_of ls d)).area)
          c.deref_mut.ensures.value
          ∙ ap (λ (v : RouterArea). (flooded_key m None k v.present).area) c.self.view_is;
      drafts =
          ap (map draft_of) back ∙ does.drafts
          ∙ ap (λ q. drafts_with (flooded_copy m None q (with_no_sends (area_of lent d))).sends
          (map present lent) (map draft_of lent)) c.in-Some.ensures
          ∙ ap (λ (ls : List KeptLink). drafts_with (flooded_key m None k (area_of ls d)).sends
          (map present ls) (map draft_of ls)) c.deref_mut.ensures.value
          ∙ ap (λ (v : RouterArea). drafts_with (flooded_key m None k v.present).sends
          v.present.links v.drafted) c.self.view_is;
      committed = area_is (committed_back items lent made n c.deref_mut.ensures.value
          c.deref_mut.ensures.len does.committed) refl
          ∙ ap (λ (v : RouterArea). v.committed) c.self.view_is;
      router = ap (λ (v : RouterArea). v.router) c.self.view_is;
    }
