-- The numbers and names of the hooks.
use Rattle.std.specs.Prelude.{ℕ, List, codes}
use Rattle.isa.specs.declared.hook.Hook.{Hook}
use Rattle.isa.specs.declared.hook.Hook.TheVariants as hooks

abbrev pub hook_number : Hook → ℕ
hook_number hooks.Count = 1
hook_number hooks.Tag = 2
hook_number hooks.Price = 3
hook_number hooks.Veto = 4

abbrev pub hook_name : Hook → List ℕ
hook_name hooks.Count = codes "count"
hook_name hooks.Tag = codes "tag"
hook_name hooks.Price = codes "price"
hook_name hooks.Veto = codes "veto"
