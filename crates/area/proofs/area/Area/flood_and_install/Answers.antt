use Rattle.std.proofs.Common.{◌≡◌, ◌++◌, List, cond, drop, length, map, take, refl, ap, sym, ◌∙◌}
use Rattle.std.proofs.Common.{arith}
use Rattle.std.proofs.lemmas.List.{length-map}
use Rattle.std.specs.Prelude.{Some}
use Rattle.lsdb.specs.Copies.{install_flooded, mark_sent}
use Rattle.lsdb.specs.Headers.{Header, key_of, lsa_key}
use Rattle.keyed_map.proofs.Helds.{on_ok}
use Rattle.received.specs.Flooding.{flood_to}
use Rattle.received.specs.Links.{change_link, delay_acknowledgment}
use Rattle.received.specs.AreaStates.{stepped_links}
use Rattle.received.specs.Updates.{flood_and_install}
use Rattle.area.specs.Drafted.{drafts_with}
use Rattle.area.specs.Kept.{KeptLink, RouterArea}
use Rattle.area.specs.Links.{area_of, draft_of, present, with_no_sends}
use Rattle.area.proofs.Doing.{on_err}
use Rattle.area.proofs.Flooded.{marks_once}
use Rattle.area.proofs.Lent.{committed_back, given_back}
use Rattle.area.proofs.Marking.{area_is}
use Rattle.area.proofs.Sends.{drafted_none}
use Rattle.area.proofs.area.Area.flood_and_install.Goals as goal

pub delay_acknowledgment-requires-clause-last : goal.delay_acknowledgment-requires-clause-last
delay_acknowledgment-requires-clause-last c =
    let shown : length (map present c.self.inside.links.items)
    ≡ length c.args.self.now.present.links = ap (λ v. length v.present.links) c.self.view_is in
    omega (
      arith,
      c.requires.last,
      c.deref_mut-2.ensures.len,
      c.deref_mut.ensures.len,
      ap length c.deref_mut.ensures.value,
      length-map c.self.inside.links.items present,
      shown,
    )

pub returns-in_err-sent : goal.returns-in_err-sent
returns-in_err-sent c = record {
  area = on_err c.from_residual.result _ c.from_residual.ensures.0;
  drafts = on_err c.from_residual.result _ c.from_residual.ensures.0;
  committed = area_is (committed_back c.self.inside.links.items c.deref_mut.result.now
      c.flood_received.new.links c.self.inside.links.len c.deref_mut.ensures.value
      c.deref_mut.ensures.len c.in_err-sent.ensures.does.committed) refl
      ∙ ap (λ (v : RouterArea). v.committed) c.self.view_is;
  router = ap (λ (v : RouterArea). v.router) c.self.view_is;
}

pub returns-in_err-delay_acknowledgment : goal.returns-in_err-delay_acknowledgment
returns-in_err-delay_acknowledgment c =
    let away = c.from_residual-in_err-delay_acknowledgment in
    let items = c.self.inside.links.items in
    let n = c.self.inside.links.len in
    let made = c.flood_received.new.links in
    let between = take n (made ++ drop (length made) items) in
    record {
      area = on_err away.result _ away.ensures.0;
      drafts = on_err away.result _ away.ensures.0;
      committed = area_is (committed_back between c.deref_mut-2.result.now
          c.delay_acknowledgment.new.links
          n c.deref_mut-2.ensures.value c.deref_mut-2.ensures.len
          c.in_err-delay_acknowledgment.ensures.committed
          ∙ committed_back items c.deref_mut.result.now made n c.deref_mut.ensures.value
          c.deref_mut.ensures.len c.in_ok-sent.ensures.does.committed) refl
          ∙ ap (λ (v : RouterArea). v.committed) c.self.view_is;
      router = ap (λ (v : RouterArea). v.router) c.self.view_is;
    }

pub returns-in_err-install : goal.returns-in_err-install
returns-in_err-install c =
    let away = c.from_residual-in_err-install in
    let items = c.self.inside.links.items in
    let n = c.self.inside.links.len in
    let made = c.flood_received.new.links in
    let between = take n (made ++ drop (length made) items) in
    record {
      area = on_err away.result _ away.ensures.0;
      drafts = on_err away.result _ away.ensures.0;
      committed = area_is (committed_back between c.deref_mut-2.result.now
          c.delay_acknowledgment.new.links
          n c.deref_mut-2.ensures.value c.deref_mut-2.ensures.len
          c.in_ok-delay_acknowledgment.ensures.committed
          ∙ committed_back items c.deref_mut.result.now made n c.deref_mut.ensures.value
          c.deref_mut.ensures.len c.in_ok-sent.ensures.does.committed)
          c.in_err-install.ensures.committed
          ∙ ap (λ (v : RouterArea). v.committed) c.self.view_is;
      router = c.in_err-install.ensures.router
          ∙ ap (λ (v : RouterArea). v.router) c.self.view_is;
    }

pub returns-then-sent : goal.returns-then-sent
returns-then-sent c =
    let m = c.args.moment in
    let k = c.args.interface in
    let lsa = c.args.lsa in
    let items = c.self.inside.links.items in
    let n = c.self.inside.links.len in
    let lent = c.deref_mut.result.now in
    let made = c.flood_received.new.links in
    let between = take n (made ++ drop (length made) items) in
    let lent2 = c.deref_mut-2.result.now in
    let made2 = c.delay_acknowledgment.new.links in
    let P = map present lent in
    let d = c.self.inside.database.present in
    let db = install_flooded m lsa d in
    let floods = c.in_ok-sent.ensures.does in
    let later = c.in_ok-delay_acknowledgment.ensures in
    let first = given_back items lent made n c.deref_mut.ensures.len floods.committed in
    let back = given_back between lent2 made2 n c.deref_mut-2.ensures.len later.committed in
    let again = c.deref_mut-2.ensures.value ∙ first in
    let mark = ap (λ b. cond b (mark_sent m (lsa_key lsa) db) db)
    (sym c.if-sent.true ∙ c.in_ok-sent.ensures.sent) ∙ sym (marks_once m (Some k) lsa P db) in
    record {
      area = on_ok c.mark_sent.result (λ is.
          area_is
          (ap (map present) back ∙ later.links
          ∙ ap (change_link k (delay_acknowledgment c.header-header.result))
          (ap (map present) again ∙ floods.links)
          ∙ ap (λ (h : Header). change_link k (delay_acknowledgment h)
          (stepped_links (flood_to m (Some k) lsa) P)) c.header-header.ensures)
          (is ∙ ap (mark_sent m c.key-key.result) c.in_ok-install.ensures.ok
          ∙ ap (λ j. mark_sent m j db) (c.key-key.ensures ∙ ap key_of c.header-header.ensures)
          ∙ mark)
          ∙ ap (λ (ls : List KeptLink). (flood_and_install m k lsa
          (with_no_sends (area_of ls d))).area)
          c.deref_mut.ensures.value
          ∙ ap (λ (v : RouterArea). (flood_and_install m k lsa (with_no_sends v.present)).area)
          c.self.view_is)
          c.mark_sent.ensures.ok;
      drafts = on_ok c.mark_sent.result (λ _.
          ap (map draft_of) back ∙ later.drafts
          ∙ sym (drafted_none 1 (map present lent2) (map draft_of lent2))
          ∙ ap (map draft_of) again ∙ floods.drafts
          ∙ ap (λ (ls : List KeptLink). drafts_with
          (flood_and_install m k lsa (with_no_sends (area_of ls d))).sends
          (map present ls) (map draft_of ls)) c.deref_mut.ensures.value
          ∙ ap (λ (v : RouterArea). drafts_with
          (flood_and_install m k lsa (with_no_sends v.present)).sends
          v.present.links v.drafted) c.self.view_is) c.mark_sent.ensures.ok;
      committed = area_is (committed_back between lent2 made2 n c.deref_mut-2.ensures.value
          c.deref_mut-2.ensures.len later.committed
          ∙ committed_back items lent made n c.deref_mut.ensures.value c.deref_mut.ensures.len
          floods.committed)
          (c.mark_sent.ensures.committed ∙ c.in_ok-install.ensures.committed)
          ∙ ap (λ (v : RouterArea). v.committed) c.self.view_is;
      router = c.mark_sent.ensures.router ∙ c.in_ok-install.ensures.router
          ∙ ap (λ (v : RouterArea). v.router) c.self.view_is;
    }

pub returns : goal.returns
returns c =
    let m = c.args.moment in
    let k = c.args.interface in
    let lsa = c.args.lsa in
    let items = c.self.inside.links.items in
    let n = c.self.inside.links.len in
    let lent = c.deref_mut.result.now in
    let made = c.flood_received.new.links in
    let between = take n (made ++ drop (length made) items) in
    let lent2 = c.deref_mut-2.result.now in
    let made2 = c.delay_acknowledgment.new.links in
    let P = map present lent in
    let d = c.self.inside.database.present in
    let db = install_flooded m lsa d in
    let floods = c.in_ok-sent.ensures.does in
    let later = c.in_ok-delay_acknowledgment.ensures in
    let first = given_back items lent made n c.deref_mut.ensures.len floods.committed in
    let back = given_back between lent2 made2 n c.deref_mut-2.ensures.len later.committed in
    let again = c.deref_mut-2.ensures.value ∙ first in
    let mark = ap (λ b. cond b (mark_sent m (lsa_key lsa) db) db)
    (sym c.if-sent.false ∙ c.in_ok-sent.ensures.sent) ∙ sym (marks_once m (Some k) lsa P db) in
    record {
      area =
          area_is
          (ap (map present) back ∙ later.links
          ∙ ap (change_link k (delay_acknowledgment c.header-header.result))
          (ap (map present) again ∙ floods.links)
          ∙ ap (λ (h : Header). change_link k (delay_acknowledgment h)
          (stepped_links (flood_to m (Some k) lsa) P)) c.header-header.ensures)
          (c.in_ok-install.ensures.ok ∙ mark)
          ∙ ap (λ (ls : List KeptLink). (flood_and_install m k lsa
          (with_no_sends (area_of ls d))).area)
          c.deref_mut.ensures.value
          ∙ ap (λ (v : RouterArea). (flood_and_install m k lsa (with_no_sends v.present)).area)
          c.self.view_is;
      drafts =
          ap (map draft_of) back ∙ later.drafts
          ∙ sym (drafted_none 1 (map present lent2) (map draft_of lent2))
          ∙ ap (map draft_of) again ∙ floods.drafts
          ∙ ap (λ (ls : List KeptLink). drafts_with
          (flood_and_install m k lsa (with_no_sends (area_of ls d))).sends
          (map present ls) (map draft_of ls)) c.deref_mut.ensures.value
          ∙ ap (λ (v : RouterArea). drafts_with
          (flood_and_install m k lsa (with_no_sends v.present)).sends
          v.present.links v.drafted) c.self.view_is;
      committed = area_is (committed_back between lent2 made2 n c.deref_mut-2.ensures.value
          c.deref_mut-2.ensures.len later.committed
          ∙ committed_back items lent made n c.deref_mut.ensures.value c.deref_mut.ensures.len
          floods.committed)
          c.in_ok-install.ensures.committed
          ∙ ap (λ (v : RouterArea). v.committed) c.self.view_is;
      router = c.in_ok-install.ensures.router
          ∙ ap (λ (v : RouterArea). v.router) c.self.view_is;
    }
