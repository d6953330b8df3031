use Rattle.std.proofs.Common.{◌≡◌, rules, sym, ap, ◌∙◌}
use Rattle.std.specs.Prelude.{Some}
use Rattle.adjacency.specs.Asked.{neighbor_is_exchange_or_loading}
use Rattle.adjacency.specs.Neighbors.{is_exchange_or_loading}
use Rattle.area.proofs.link.Link.is_exchange_or_loading.Goals as goal

pub returns-in-Some : goal.returns-in-Some
returns-in-Some c =
    let some : c.args.self.now.present.neighbor ≡ Some c.in-Some.neighbor.present = search rules in
    c.is_exchange_or_loading.ensures
    ∙ ap (λ s. is_exchange_or_loading s.state) c.standing.ensures
    ∙ ap neighbor_is_exchange_or_loading (sym some)
