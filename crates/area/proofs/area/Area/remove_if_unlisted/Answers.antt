use Rattle.std.proofs.Common.{cond, sym, ap, ◌∙◌}
use Rattle.std.specs.FinMap as finite
use Rattle.keyed_map.proofs.Helds.{on_ok}
use Rattle.received.specs.Links.{Area, any_has_retransmission}
use Rattle.area.specs.Kept.{RouterArea}
use Rattle.area.specs.Links.{with_no_sends, without_acknowledged}
use Rattle.area.proofs.Doing.{area_rests}
use Rattle.area.proofs.Marking.{area_is}
use Rattle.area.proofs.Sends.{drafted_none}
use Rattle.area.proofs.area.Area.remove_if_unlisted.Goals as goal

pub returns-then-listed : goal.returns-then-listed
returns-then-listed c =
    let a : Area = c.args.self.now.present in
    let k = c.args.key.now in
    area_rests
    (λ (x : Area). with_no_sends (record x {
      database = without_acknowledged x.links x.database k;
    }))
    c.args.self.now _
    (ap (λ b. with_no_sends (record a {
      database = cond b a.database (finite.remove a.database k);
    }))
    (sym c.if-listed.true ∙ c.any_has_retransmission-listed.ensures
    ∙ ap (any_has_retransmission k) c.links.ensures.present))

pub returns : goal.returns
returns c =
    let old = c.args.self.now in
    let a : Area = old.present in
    let k = c.args.key.now in
    record {
      area = on_ok c.remove.result (λ is.
          area_is (ap (λ (v : RouterArea). v.present.links) c.self.view_is)
          (is ∙ ap (λ (v : RouterArea). finite.remove v.present.database k) c.self.view_is)
          ∙ ap (λ b. record a { database = cond b a.database (finite.remove a.database k) })
          (sym c.if-listed.false ∙ c.any_has_retransmission-listed.ensures
          ∙ ap (any_has_retransmission k) c.links.ensures.present)) c.remove.ensures.ok;
      drafts = on_ok c.remove.result (λ _.
          ap (λ (v : RouterArea). v.drafted) c.self.view_is
          ∙ drafted_none 1 a.links old.drafted) c.remove.ensures.ok;
      committed = area_is (ap (λ (v : RouterArea). v.committed.links) c.self.view_is)
          (c.remove.ensures.committed
          ∙ ap (λ (v : RouterArea). v.committed.database) c.self.view_is);
      router = c.remove.ensures.router ∙ ap (λ (v : RouterArea). v.router) c.self.view_is;
    }
