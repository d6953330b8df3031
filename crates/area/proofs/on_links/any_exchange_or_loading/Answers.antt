use Rattle.std.proofs.Common.{sym, ap, ◌∙◌, arith}
use Rattle.received.specs.Links.{neighbor_is_exchange_or_loading}
use Rattle.area.specs.Links.{present}
use Rattle.area.proofs.AnyLink.{any_begin, any_end, any_here, any_next, exchanging_is}
use Rattle.area.proofs.on_links.any_exchange_or_loading.Goals as goal

pub loop-i-init : goal.loop-i-init
loop-i-init c = sym (any_begin present (λ s. neighbor_is_exchange_or_loading s.neighbor)
    c.args.links.now)

pub returns-then-is : goal.returns-then-is
returns-then-is c =
    sym (c.loop-i.invariant ∙ any_here present (λ s. neighbor_is_exchange_or_loading s.neighbor)
    c.loop-i.i c.args.links.now c.index-links-i.result (omega (arith, c.loop-i-test.true))
    (ap (λ k. neighbor_is_exchange_or_loading k.present.neighbor) (sym c.index-links-i.is)
    ∙ sym (exchanging_is (present c.index-links-i.result).neighbor)
    ∙ sym c.is_exchange_or_loading-is.ensures ∙ c.if-is.true))

pub loop-i-preserved : goal.loop-i-preserved
loop-i-preserved c =
    c.loop-i.invariant ∙ any_next present (λ s. neighbor_is_exchange_or_loading s.neighbor)
    c.loop-i.i c.args.links.now c.index-links-i.result (omega (arith, c.loop-i-test.true))
    (ap (λ k. neighbor_is_exchange_or_loading k.present.neighbor) (sym c.index-links-i.is)
    ∙ sym (exchanging_is (present c.index-links-i.result).neighbor)
    ∙ sym c.is_exchange_or_loading-is.ensures ∙ c.if-is.false)

pub returns : goal.returns
returns c = sym (c.loop-i.invariant
    ∙ any_end present (λ s. neighbor_is_exchange_or_loading s.neighbor) c.loop-i.i c.args.links.now
    (omega (arith, c.loop-i-test.false, c.loop-i.auto.i-end)))
