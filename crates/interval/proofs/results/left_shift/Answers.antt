use Rattle.std.proofs.Common.{◌≡◌, ℕ, ◌*◌, ◌%◌, ◌<◌, ◌^◌, arith, ap, sym, subst, ◌∙◌}
use Rattle.isa.specs.declared.instruction.Width.{Width}
use Rattle.isa.specs.declared.instruction.Operation.TheVariants.{Multiply, ShiftLeft}
use Rattle.isa.specs.Arithmetic.{bits, low}
use Rattle.interval.specs.Bounds.{Bounds, bounds_of, IsSingle}
use Rattle.interval.specs.Results.{IsResult}
use Rattle.interval.proofs.results.left_shift.Goals as goal

-- A product with the power of two of the only count is a shift by it.
shifted : (w : Width) (l r p : Bounds) (n : ℕ) → IsSingle r → p.low ≡ 2 ^ (r.low % bits w)
    → p.high ≡ 2 ^ (r.low % bits w) → IsResult w Multiply l p n → IsResult w ShiftLeft l r n
shifted w l r p n one low_power high_power found =
    let same : found.1 ≡ 2 ^ (r.low % bits w) = omega (arith, found.3.above, found.3.below) in (
      found.0,
      r.low,
      found.2,
      record {
        above = omega arith;
        below = omega arith;
      },
      ap (λ q. low w (found.0 * q)) (sym same) ∙ found.4,
    )

pub returns-clause-narrow : goal.returns-clause-narrow
returns-clause-narrow c = λ one small.
    let low_power : c.single.result.low ≡ 2 ^ (c.args.right.low % bits c.args.width) =
    c.single.ensures.low ∙ c.power.ensures in
    let high_power : c.single.result.high ≡ 2 ^ (c.args.right.low % bits c.args.width) =
    c.single.ensures.high ∙ c.power.ensures in
    let least = c.product.ensures.narrow
    (subst (λ p. c.args.left.high * p < 2 ^ bits c.args.width) (sym high_power) small) in
    record {
      low = shifted c.args.width (bounds_of c.args.left) (bounds_of c.args.right)
          (bounds_of c.single.result) _ one low_power high_power least.low;
      high = shifted c.args.width (bounds_of c.args.left) (bounds_of c.args.right)
          (bounds_of c.single.result) _ one low_power high_power least.high;
    }
