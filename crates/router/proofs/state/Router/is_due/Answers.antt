use Rattle.std.proofs.Common.{◌||◌, sym, ap, ◌∙◌}
use Rattle.std.specs.FinMap as finite
use Rattle.std.specs.FinSet as set
use Rattle.adjacency.proofs.Neighbors.{contains_key_of}
use Rattle.event_rules.specs.Originations.{refresh_time_is_over}
use Rattle.router.proofs.state.Router.is_due.Goals as goal

pub returns-then-waits : goal.returns-then-waits
returns-then-waits c =
    let k = c.args.key.now in
    let r = c.args.self.now.present in
    ap (λ b. b || refresh_time_is_over c.args.moment (finite.get r.area.database k))
    (sym c.if-waits.true ∙ c.contains-waits.ensures
    ∙ sym (contains_key_of c.self.inside.waiting.present k)
    ∙ ap (λ v. set.contains v.present.waiting k) c.self.view_is)

pub returns : goal.returns
returns c =
    let k = c.args.key.now in
    let r = c.args.self.now.present in
    c.refresh_time_is_over.ensures
    ∙ ap (refresh_time_is_over c.args.moment) (c.get.ensures
    ∙ ap (λ d. finite.get d.present k) c.database.ensures
    ∙ ap (λ v. finite.get v.present.area.database k) c.self.view_is)
    ∙ ap (λ b. b || refresh_time_is_over c.args.moment (finite.get r.area.database k))
    (sym c.if-waits.false ∙ c.contains-waits.ensures
    ∙ sym (contains_key_of c.self.inside.waiting.present k)
    ∙ ap (λ v. set.contains v.present.waiting k) c.self.view_is)
