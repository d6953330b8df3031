use Rattle.std.proofs.Common.{◌≡◌, rules, sym, ap, ◌∙◌}
use Rattle.std.specs.Prelude.{Some}
use Rattle.std.specs.FinMap as finite
use Rattle.adjacency.specs.Asked.{has_retransmission_of}
use Rattle.adjacency.specs.Retransmissions.{is_entry}
use Rattle.area.proofs.link.Link.has_retransmission_of.Goals as goal

pub returns : goal.returns
returns c =
    let some : c.args.self.now.present.neighbor ≡ Some c.in-Some.neighbor.present = search rules in
    let moment = c.args.moment in
    let h = c.args.header.now in
    c.is_entry.ensures
    ∙ ap (is_entry moment h) (c.get-listed.ensures
    ∙ (λ i. finite.get (c.retransmissions.ensures i) (c.key.ensures i)))
    ∙ ap (has_retransmission_of moment h) (sym some)
