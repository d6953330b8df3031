use Rattle.std.proofs.Common.{◌≡◌, ◌-◌, ◌+◌, ◌<◌, ◌⊎◌, length, map, arith}
use Rattle.area.specs.Links.{present}
use Rattle.flood.proofs.router_core.Core.owes.Goals as goal
use Rattle.flood.proofs.Owing.{none_owed, one_owed}

-- there is no interface with this number
pub returns-then-interface-eq0 : goal.returns-then-interface-eq0
returns-then-interface-eq0 c =
    let same : map present c.links-links.result.now ≡ c.args.self.now.area.links = cc in
    let outside : (c.args.interface ≡ 0) ⊎ (length c.links-links.result.now < c.args.interface) =
    grind arith in
    none_owed c.links-links.result.now c.args.self.now.area.links c.args.interface same outside

-- there is one
pub returns : goal.returns
returns c =
    let same : map present c.links-links.result.now ≡ c.args.self.now.area.links = cc in
    let inside : c.from-interface.result - 1 < length c.links-links.result.now =
    omega (arith, c.if-interface-links.false, c.if-interface-eq0.false) in
    let place : c.args.interface ≡ 1 + (c.from-interface.result - 1) =
    omega (arith, c.from-interface.ensures, c.if-interface-eq0.false) in
    one_owed c.links-links.result.now c.args.self.now.area.links c.args.interface
    (c.from-interface.result - 1) c.index-links-interface.result _ c.owes.result same inside place
    c.index-links-interface.is c.owes.ensures
