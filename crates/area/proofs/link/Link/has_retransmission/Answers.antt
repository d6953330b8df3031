use Rattle.std.proofs.Common.{◌≡◌, rules, sym, ap, ◌∙◌}
use Rattle.std.specs.Prelude.{Some}
use Rattle.std.specs.FinMap as finite
use Rattle.adjacency.specs.Asked.{has_retransmission}
use Rattle.area.proofs.link.Link.has_retransmission.Goals as goal

pub returns-in-Some : goal.returns-in-Some
returns-in-Some c =
    let some : c.args.self.now.present.neighbor ≡ Some c.in-Some.neighbor.present = search rules in
    c.contains.ensures
    ∙ ap (λ m. finite.contains_key m c.args.key.now) c.retransmissions.ensures
    ∙ ap (has_retransmission c.args.key.now) (sym some)
