use Rattle.std.proofs.Common.{◌≡◌, rules, sym, ap, ◌∙◌}
use Rattle.std.specs.Prelude.{Some}
use Rattle.std.specs.FinMap as finite
use Rattle.received.specs.Links.{requested_of}
use Rattle.area.proofs.link.Link.requested.Goals as goal

pub returns-in-Some : goal.returns-in-Some
returns-in-Some c =
    let some : c.args.self.now.present.neighbor ≡ Some c.in-Some.neighbor.present = search rules in
    c.len.ensures ∙ ap (λ m. finite.len m) c.requests.ensures ∙ ap requested_of (sym some)
