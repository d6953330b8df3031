use Rattle.std.proofs.Common.{sym, ap, ◌∙◌, arith}
use Rattle.received.specs.Links.{has_retransmission}
use Rattle.area.specs.Links.{present}
use Rattle.area.proofs.AnyLink.{any_begin, any_end, any_here, any_next, retransmits_is}
use Rattle.area.proofs.on_links.any_has_retransmission.Goals as goal

pub loop-i-init : goal.loop-i-init
loop-i-init c = sym (any_begin present (λ s. has_retransmission c.args.key.now s.neighbor)
    c.args.links.now)

pub returns-then-has : goal.returns-then-has
returns-then-has c =
    sym (c.loop-i.invariant ∙ any_here present (λ s. has_retransmission c.args.key.now s.neighbor)
    c.loop-i.i c.args.links.now c.index-links-i.result (omega (arith, c.loop-i-test.true))
    (ap (λ k. has_retransmission c.args.key.now k.present.neighbor) (sym c.index-links-i.is)
    ∙ sym (retransmits_is c.args.key.now (present c.index-links-i.result).neighbor)
    ∙ sym c.has_retransmission-has.ensures ∙ c.if-has.true))

pub loop-i-preserved : goal.loop-i-preserved
loop-i-preserved c =
    c.loop-i.invariant ∙ any_next present (λ s. has_retransmission c.args.key.now s.neighbor)
    c.loop-i.i c.args.links.now c.index-links-i.result (omega (arith, c.loop-i-test.true))
    (ap (λ k. has_retransmission c.args.key.now k.present.neighbor) (sym c.index-links-i.is)
    ∙ sym (retransmits_is c.args.key.now (present c.index-links-i.result).neighbor)
    ∙ sym c.has_retransmission-has.ensures ∙ c.if-has.false)

pub returns : goal.returns
returns c = sym (c.loop-i.invariant
    ∙ any_end present (λ s. has_retransmission c.args.key.now s.neighbor) c.loop-i.i
    c.args.links.now (omega (arith, c.loop-i-test.false, c.loop-i.auto.i-end)))
