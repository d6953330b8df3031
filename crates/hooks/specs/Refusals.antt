-- The numbers of the errors, in the order in which they are checked.
use Rattle.std.specs.Prelude.{ℕ}
use Rattle.hooks.specs.declared.error.HookError.{HookError}
use Rattle.hooks.specs.declared.error.HookError.TheVariants.{Count, Memory, Places}

abbrev pub refusal_number : HookError → ℕ
refusal_number Count = 1
refusal_number Memory = 2
refusal_number Places = 3
