use Rattle.std.proofs.Common.{◌≡◌, ap, ◌∙◌, subst}
use Rattle.isa.specs.Arithmetic.{low}
use Rattle.absdom.specs.Unary.{unary_result}
use Rattle.knownbits.specs.Masks.{HasBits}
use Rattle.knownbits.proofs.Widths.{single_value, unary_low}
use Rattle.knownbits.proofs.domain.KnownBitsDomain.unary.Goals as goal

pub returns-then-is_single-clause-holds : goal.returns-then-is_single-clause-holds
returns-then-is_single-clause-holds c = λ a inside.
    let x = single_value c.cut-operand.result _ (c.is_single.ensures.single c.if-is_single.true)
    (c.cut-operand.ensures.holds a inside) in
    let result : c.unary.result ≡ unary_result c.args.operation a =
    c.unary.ensures ∙ ap (unary_result c.args.operation)
    (x ∙ ap (λ w. low w a) c.unary_width-width.ensures) ∙ unary_low c.args.operation a in
    subst (HasBits c.single.result) result c.single.ensures.holds
