use Rattle.std.proofs.Common.{ℕ, refl, ap}
use Rattle.event_rules.specs.Endings.{flood_aged}
use Rattle.event_rules.specs.EventState.{on_area}
use Rattle.router.proofs.Answered.{area_does}
use Rattle.router.proofs.Leaves.{appends_ages, keeps_ages}
use Rattle.router.proofs.Making.{does_same}
use Rattle.router.proofs.state.Router.flood_aged.Goals as goal

pub returns : goal.returns
returns c =
    let b = c.moment-before.result in
    let m = c.args.moment in
    does_same c.flood_aged.result
    (λ p is. ap (λ (x : ℕ). on_area (flood_aged x m) p) c.moment-before.ensures)
    (area_does (flood_aged b m) (keeps_ages b m) (appends_ages b m) _ c.args.self.now
    c.self.inside.area c.flood_aged.new.area c.flood_aged.result c.self.view_is refl
    c.flood_aged.ensures refl)
