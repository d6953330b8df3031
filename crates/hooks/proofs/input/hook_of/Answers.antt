use Rattle.std.proofs.Common.{◌≡◌, ◌≢◌, ◌≤◌, ℕ, None, Some, arith}
use Rattle.isa.specs.Hooks.{hook_number}
use Rattle.isa.specs.declared.hook.Hook.{Hook}
use Rattle.isa.specs.declared.hook.Hook.TheVariants.{Count, Tag, Price, Veto}
use Rattle.hooks.proofs.input.hook_of.Goals as goal

not_none : (hook : Hook) → None ≡ Some hook → ⊥
not_none hook e = cc

-- the numbers from 1 to 4 are those of the hooks
no_other : (n : ℕ) → 1 ≤ n → n ≤ 4 → ((hook : Hook) → hook_number hook ≢ n) → ⊥
no_other n least most none =
    let count : 1 ≢ n = none Count in
    let tag : 2 ≢ n = none Tag in
    let price : 3 ≢ n = none Price in
    let veto : 4 ≢ n = none Veto in
    omega (arith, least, most, count, tag, price, veto)

pub unreachable-requires : goal.unreachable-requires
unreachable-requires c =
    let its = c.number_of.ensures.value in
    no_other c.number_of.result (omega (arith, its, c.requires.0))
    (omega (arith, its, c.requires.1))
    (λ hook is. not_none hook (c.in-None.ensures.only hook is))
