use Rattle.std.proofs.Common.{◌≡◌, ◌+◌, rules, sym, ap, ◌∙◌}
use Rattle.std.specs.Prelude.{Some, min}
use Rattle.std.specs.FinMap as finite
use Rattle.area.specs.Owed.{owed_on}
use Rattle.area.proofs.link.Link.owes.Goals as goal

pub returns-in-Some : goal.returns-in-Some
returns-in-Some c =
    let some : c.args.self.now.present.neighbor ≡ Some c.in-Some.neighbor.present = search rules in
    let unacknowledged = c.len-retransmissions.ensures
    ∙ ap (λ m. finite.len m) c.retransmissions.ensures in
    let requested = c.len.ensures ∙ ap (λ m. finite.len m) c.requests.ensures in
    c.saturating_add.ensures
    ∙ (λ i. min (unacknowledged i + requested i) 18446744073709551615)
    ∙ ap owed_on (sym some)
