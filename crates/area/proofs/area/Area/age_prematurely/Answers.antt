use Rattle.std.proofs.Common.{map, ap, ◌∙◌}
use Rattle.std.specs.Prelude.{None}
use Rattle.std.specs.FinMap as finite
use Rattle.keyed_map.proofs.Helds.{on_ok}
use Rattle.received.specs.AreaStates.{AreaState}
use Rattle.area.specs.Drafted.{drafts_with}
use Rattle.area.specs.Kept.{RouterArea}
use Rattle.area.specs.Links.{age_outcome, area_of, draft_of, flooded_copy, present}
use Rattle.area.specs.Links.{committed_link, with_no_sends}
use Rattle.area.proofs.Installed.{aged_is}
use Rattle.area.proofs.Marking.{area_is}
use Rattle.area.proofs.area.Area.age_prematurely.Goals as goal

pub returns : goal.returns
returns c =
    let m = c.args.moment in
    let k = c.args.key.now in
    let ls = c.self.inside.links.items in
    let whole =
    ap (λ e. flooded_copy m None (finite.get e k) (with_no_sends (area_of ls e)))
    c.in_ok-age_prematurely.ensures.ok
    ∙ aged_is m k (area_of ls c.self.inside.database.present) in
    record {
      area = on_ok c.flood.result (λ is. is ∙ ap (λ (o : AreaState). o.area) whole
          ∙ ap (λ (v : RouterArea). (age_outcome m k v.present).area) c.self.view_is)
          c.flood.ensures.area;
      drafts = on_ok c.flood.result (λ is.
          is ∙ ap (λ (o : AreaState). drafts_with o.sends (map present ls) (map draft_of ls)) whole
          ∙ ap (λ (v : RouterArea). drafts_with (age_outcome m k v.present).sends
          v.present.links v.drafted) c.self.view_is) c.flood.ensures.drafts;
      committed = c.flood.ensures.committed
          ∙ area_is (λ i. map committed_link ls) c.in_ok-age_prematurely.ensures.committed
          ∙ ap (λ (v : RouterArea). v.committed) c.self.view_is;
      router = c.flood.ensures.router ∙ c.in_ok-age_prematurely.ensures.router
          ∙ ap (λ (v : RouterArea). v.router) c.self.view_is;
    }
