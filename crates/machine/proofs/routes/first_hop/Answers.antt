use Rattle.std.proofs.Common.{sym, ap, ◌∙◌}
use Rattle.machine.specs.Contexts.{found_or_0}
use Rattle.machine.proofs.Places.{here, further, past}
use Rattle.machine.proofs.routes.first_hop.Goals as goal

pub returns-then-contains : goal.returns-then-contains
returns-then-contains c =
    let found = here _ _ c.loop-interface-test.true (sym c.contains.ensures ∙ c.if-contains.true) in
    c.from.ensures ∙ sym (ap found_or_0 (c.loop-interface.invariant ∙ found))

pub loop-interface-preserved : goal.loop-interface-preserved
loop-interface-preserved c =
    c.loop-interface.invariant ∙ further _ _ c.loop-interface-test.true
    (sym c.contains.ensures ∙ c.if-contains.false)

pub returns : goal.returns
returns c = sym (ap found_or_0 (c.loop-interface.invariant ∙ past _ _ c.loop-interface-test.false))
