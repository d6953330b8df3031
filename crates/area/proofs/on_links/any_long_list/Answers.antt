use Rattle.std.proofs.Common.{sym, ap, ◌∙◌, arith}
use Rattle.received.specs.Links.{has_long_list}
use Rattle.area.specs.Links.{present}
use Rattle.area.proofs.AnyLink.{any_begin, any_end, any_here, any_next}
use Rattle.area.proofs.on_links.any_long_list.Goals as goal

pub loop-i-init : goal.loop-i-init
loop-i-init c = sym (any_begin present has_long_list c.args.links.now)

pub returns-then-is : goal.returns-then-is
returns-then-is c =
    sym (c.loop-i.invariant ∙ any_here present has_long_list
    c.loop-i.i c.args.links.now c.index-links-i.result (omega (arith, c.loop-i-test.true))
    (ap (λ k. has_long_list k.present) (sym c.index-links-i.is)
    ∙ sym c.has_long_list-is.ensures ∙ c.if-is.true))

pub loop-i-preserved : goal.loop-i-preserved
loop-i-preserved c =
    c.loop-i.invariant ∙ any_next present has_long_list
    c.loop-i.i c.args.links.now c.index-links-i.result (omega (arith, c.loop-i-test.true))
    (ap (λ k. has_long_list k.present) (sym c.index-links-i.is)
    ∙ sym c.has_long_list-is.ensures ∙ c.if-is.false)

pub returns : goal.returns
returns c = sym (c.loop-i.invariant
    ∙ any_end present has_long_list c.loop-i.i c.args.links.now
    (omega (arith, c.loop-i-test.false, c.loop-i.auto.i-end)))
