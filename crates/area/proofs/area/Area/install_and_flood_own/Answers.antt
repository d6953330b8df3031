use Rattle.std.proofs.Common.{◌≡◌, map, ap, ◌∙◌}
use Rattle.std.specs.Prelude.{None}
use Rattle.std.specs.FinMap as finite
use Rattle.lsdb.specs.Copies.{install_originated}
use Rattle.lsdb.specs.Headers.{key_of}
use Rattle.received.specs.Flooding.{flood}
use Rattle.received.specs.AreaStates.{AreaState}
use Rattle.keyed_map.proofs.Helds.{on_ok}
use Rattle.area.specs.Drafted.{drafts_with}
use Rattle.area.specs.Kept.{RouterArea}
use Rattle.area.specs.Links.{area_of, draft_of, flooded_copy, originate_outcome, present}
use Rattle.area.specs.Links.{committed_link, with_no_sends}
use Rattle.area.proofs.Installed.{at_once, just_installed}
use Rattle.area.proofs.Marking.{area_is}
use Rattle.area.proofs.area.Area.install_and_flood_own.Goals as goal

pub returns : goal.returns
returns c =
    let m = c.args.moment in
    let lsa = c.args.lsa in
    let d = c.self.inside.database.present in
    let ls = c.self.inside.links.items in
    let key = c.key-key.ensures ∙ ap key_of c.header-header.ensures in
    let whole : flooded_copy m None
    (finite.get c.install.new.self.present c.key-key.result)
    (with_no_sends (area_of ls c.install.new.self.present))
    ≡ flood m None lsa (with_no_sends (area_of ls (install_originated m lsa d))) =
    ap (λ e. flooded_copy m None (finite.get e c.key-key.result) (with_no_sends (area_of ls e)))
    c.in_ok-install.ensures.ok
    ∙ ap (λ j. flooded_copy m None (finite.get (install_originated m lsa d) j)
    (with_no_sends (area_of ls (install_originated m lsa d)))) key
    ∙ ap (λ o. flooded_copy m None o (with_no_sends (area_of ls (install_originated m lsa d))))
    (just_installed m lsa None d)
    ∙ ap (λ l. flood m None l (with_no_sends (area_of ls (install_originated m lsa d))))
    (at_once m lsa None c.prove_age.ensures) in
    record {
      area = on_ok c.flood.result (λ is. is ∙ ap (λ (o : AreaState). o.area) whole
          ∙ ap (λ (v : RouterArea). (originate_outcome m lsa v.present).area) c.self.view_is)
          c.flood.ensures.area;
      drafts = on_ok c.flood.result (λ is.
          is ∙ ap (λ (o : AreaState). drafts_with o.sends (map present ls) (map draft_of ls)) whole
          ∙ ap (λ (v : RouterArea). drafts_with (originate_outcome m lsa v.present).sends
          v.present.links v.drafted) c.self.view_is) c.flood.ensures.drafts;
      committed = c.flood.ensures.committed
          ∙ area_is (λ i. map committed_link ls) c.in_ok-install.ensures.committed
          ∙ ap (λ (v : RouterArea). v.committed) c.self.view_is;
      router = c.flood.ensures.router ∙ c.in_ok-install.ensures.router
          ∙ ap (λ (v : RouterArea). v.router) c.self.view_is;
    }
