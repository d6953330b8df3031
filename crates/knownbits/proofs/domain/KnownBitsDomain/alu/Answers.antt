use Rattle.std.proofs.Common.{◌≡◌, ap, ◌∙◌, subst}
use Rattle.isa.specs.Arithmetic.{low, operate}
use Rattle.absdom.proofs.ArithmeticLemmas.{low_below}
use Rattle.knownbits.specs.Masks.{HasBits}
use Rattle.knownbits.proofs.Widths.{single_value, whole_known, low_low}
use Rattle.knownbits.proofs.domain.KnownBitsDomain.alu.Goals as goal

pub returns-then-is_single-2-clause-holds : goal.returns-then-is_single-2-clause-holds
returns-then-is_single-2-clause-holds c = λ a b left right.
    let x = single_value c.cut-left.result _ (c.is_single.ensures.single c.if-is_single.true)
    (c.cut-left.ensures.holds a left) in
    let y = single_value c.cut-right.result _
    (c.is_single-then-is_single.ensures.single c.if-is_single-2.true)
    (c.cut-right.ensures.holds b right) in
    let result : c.operate.result ≡ operate c.args.width c.args.operation (low c.args.width a)
    (low c.args.width b) =
    c.operate.ensures
    ∙ ap (λ n. operate c.args.width c.args.operation (low c.args.width n)
    (low c.args.width c.cut-right.result.value)) x
    ∙ ap (λ n. operate c.args.width c.args.operation (low c.args.width (low c.args.width a))
    (low c.args.width n)) y
    ∙ ap (λ n. operate c.args.width c.args.operation n (low c.args.width (low c.args.width b)))
    (low_low c.args.width a)
    ∙ ap (λ n. operate c.args.width c.args.operation (low c.args.width a) n)
    (low_low c.args.width b) in
    subst (HasBits c.single.result) result c.single.ensures.holds

pub returns-then-is_single-2-clause-gives : goal.returns-then-is_single-2-clause-gives
returns-then-is_single-2-clause-gives c =
    rw (← c.cut-left.ensures.is, ← c.cut-right.ensures.is) (record {
      single = λ left right. c.single.ensures.knows;
      precise = λ other. absurd (other (
        whole_known c.cut-left.result
            (c.is_single.ensures.single c.if-is_single.true),
        whole_known c.cut-right.result (c.is_single-then-is_single.ensures.single
            c.if-is_single-2.true),
      ));
      upper = λ i above below. c.single.ensures.knows i below;
    })

pub returns-clause-holds : goal.returns-clause-holds
returns-clause-holds c = λ a b left right.
    c.results.ensures.holds (low c.args.width a) (low c.args.width b) (low_below c.args.width a)
    (low_below c.args.width b) (c.cut-left.ensures.holds a left)
    (c.cut-right.ensures.holds b right)
