use Rattle.std.proofs.Common.{◌≡◌, rules}
use Rattle.words.specs.Prefixes.{network_address}
use Rattle.candidates.proofs.Ordered.{no_match, one_match}
use Rattle.candidates.proofs.search.match_of_length.Goals as goal

pub returns-in_err-route : goal.returns-in_err-route
returns-in_err-route c =
    let is : c.in_ok-under.field-0 ≡ record {
      address = network_address c.args.length c.args.address;
      length = c.args.length;
    } = search rules in
    rw c.from_residual-in_err-route.ensures
    (no_match c.args.routes.now c.args.address c.args.length c.in_ok-under.field-0 is
    c.in_err-route.ensures)

pub returns : goal.returns
returns c =
    let is : c.in_ok-under.field-0 ≡ record {
      address = network_address c.args.length c.args.address;
      length = c.args.length;
    } = search rules in
    one_match c.args.routes.now c.args.address c.args.length c.in_ok-under.field-0
    c.in_ok-route.route is c.in_ok-route.ensures
