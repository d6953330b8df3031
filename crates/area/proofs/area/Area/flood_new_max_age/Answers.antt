use Rattle.std.proofs.Common.{cond, sym, ap, ◌∙◌}
use Rattle.std.specs.Prelude.{None}
use Rattle.std.specs.FinMap as finite
use Rattle.lsdb.specs.Copies.{lsa_now}
use Rattle.received.specs.Flooding.{flood}
use Rattle.received.specs.AreaStates.{AreaState}
use Rattle.area.specs.Kept.{RouterArea}
use Rattle.area.specs.Links.{flood_new_max_age, flood_new_max_age_copy, flooded_copy}
use Rattle.area.specs.Links.{flooded_key, with_no_sends}
use Rattle.area.proofs.Doing.{area_rests, area_same}
use Rattle.area.proofs.area.Area.flood_new_max_age.Goals as goal

pub returns-in_default : goal.returns-in_default
returns-in_default c =
    let o : AreaState = with_no_sends c.args.self.now.present in
    area_rests (flood_new_max_age c.args.before c.args.moment c.args.key.now) c.args.self.now _
    (ap (λ q. flood_new_max_age_copy c.args.before c.args.moment q o) (c.in_default.ensures
    ∙ ap (λ (v : RouterArea). finite.get v.present.database c.args.key.now) c.self.view_is))

pub returns-then-came : goal.returns-then-came
returns-then-came c =
    let m = c.args.moment in
    let b = c.args.before in
    let k = c.args.key.now in
    let o : AreaState = with_no_sends c.args.self.now.present in
    let whole : AreaState = flood m None (lsa_now m c.in-Some.copy) o in
    let there = c.in-Some.ensures
    ∙ ap (λ (v : RouterArea). finite.get v.present.database k) c.self.view_is in
    area_same (flooded_key m None k) (flood_new_max_age b m k) c.args.self.now c.flood.new.self
    c.flood.result
    (ap (λ q. flooded_copy m None q o) (sym there)
    ∙ ap (λ t. cond t whole o) (sym c.if-came.true ∙ c.has_just_aged_out-came.ensures)
    ∙ ap (λ q. flood_new_max_age_copy b m q o) there)
    c.flood.ensures

pub returns : goal.returns
returns c =
    let m = c.args.moment in
    let b = c.args.before in
    let k = c.args.key.now in
    let o : AreaState = with_no_sends c.args.self.now.present in
    let whole : AreaState = flood m None (lsa_now m c.in-Some.copy) o in
    area_rests (flood_new_max_age b m k) c.args.self.now _
    (ap (λ t. cond t whole o) (sym c.if-came.false ∙ c.has_just_aged_out-came.ensures)
    ∙ ap (λ q. flood_new_max_age_copy b m q o) (c.in-Some.ensures
    ∙ ap (λ (v : RouterArea). finite.get v.present.database k) c.self.view_is))
