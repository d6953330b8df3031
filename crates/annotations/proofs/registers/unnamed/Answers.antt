use Rattle.std.proofs.Common.{◌≤◌, below_more, rules, subst, sym, ℕ}
use Rattle.annotations.specs.CountedCode.{IsUnnamed}
use Rattle.annotations.proofs.registers.unnamed.Goals as goal

pub loop-number-preserved : goal.loop-number-preserved
loop-number-preserved c =
    let here : 6 ≤ c.loop-number.number → IsUnnamed c.args.code.now c.loop-number.number → ⊥ =
    λ least unnamed. c.is_named.ensures.named (search rules)
    (subst (λ (r : ℕ). IsUnnamed c.args.code.now r) (sym c.in-Some.ensures.value) unnamed) in
    below_more _ _ c.loop-number.invariant here
