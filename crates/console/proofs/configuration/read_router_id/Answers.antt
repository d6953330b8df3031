use Rattle.std.proofs.Common.{◌∙◌, arith, sym}
use Rattle.words.proofs.Addresses.{one_address}
use Rattle.console.proofs.configuration.read_router_id.Goals as goal

pub returns-then-bits-eq0 : goal.returns-then-bits-eq0
returns-then-bits-eq0 c = λ r is e.
    let same = one_address c.in-Some.id r c.in-Some.ensures.1 is.1 (sym c.in-Some.ensures.0 ∙ e) in
    omega (arith, is.0, c.bits.ensures)
