use Rattle.std.proofs.Common.{◌≡◌, ◌/◌, ◌^◌, ◌%◌, ap, ◌∙◌, subst}
use Rattle.isa.specs.Arithmetic.{bits}
use Rattle.knownbits.specs.Masks.{HasBits}
use Rattle.knownbits.proofs.Widths.{single_value}
use Rattle.knownbits.proofs.domain.shifted_right.Goals as goal

pub returns-clause-holds : goal.returns-clause-holds
returns-clause-holds c = λ x y small small' left right.
    let count : c.shift_count.result ≡ y % bits c.args.width =
    c.shift_count.ensures.value ∙ ap (λ n. n % bits c.args.width)
    (single_value c.args.right y (c.is_single.ensures.single c.if-not-is_single.false)
    right) in
    subst (λ k. HasBits c.right_shift.result (x / 2 ^ k)) count
    (c.right_shift.ensures.holds x small left)
