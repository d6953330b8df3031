use Rattle.std.proofs.Common.{map, refl, ◌∙◌}
use Rattle.area.specs.Kept.{RouterArea}
use Rattle.received.specs.AreaStates.{on_links}
use Rattle.event_rules.specs.Endings.{link_loading_done}
use Rattle.router.proofs.Answered.{makes_alone}
use Rattle.router.proofs.Leaves.{appends_loading, keeps_loading}
use Rattle.router.proofs.ExpiredTimers.{loading_done_is}
use Rattle.router.proofs.state.Router.end_loading.Goals as goal

pub returns : goal.returns
returns c =
    let a : RouterArea = c.self.inside.area in
    makes_alone (on_links (map link_loading_done)) keeps_loading appends_loading _ c.args.self.now a
    c.change_links.new.self c.self.view_is refl
    (c.change_links.ensures ∙ (λ i. record a {
      present = record a.present { links = map (λ l. loading_done_is l i) a.present.links };
    })) refl
