-- Laws that show what the definitions mean.
use Rattle.std.specs.Prelude.{◌≡◌, ◌≢◌, ◌<◌, ◌^◌, List, [], ◌∷◌, ◌++◌}
use Rattle.isa.specs.declared.hook.Hook.{Hook}
use Rattle.isa.specs.declared.hook.Hook.TheVariants.{Tag, Price}
use Rattle.words.specs.declared.route.External.{External}
use Rattle.words.specs.declared.route.TableRow.{TableRow}
use Rattle.words.specs.Numbers.{Moment}
use Rattle.hooks.specs.declared.operation.LoaderOperation.{LoaderOperation}
use Rattle.hooks.specs.Operations.{hook_of, outcome_of, leaves, default_of}
use Rattle.hooks.specs.Questions.{tag_input, price_input}

-- an operation decides what is attached at its own hook, and leaves the other hooks unchanged
abbrev pub LastDecides : Type 0
LastDecides = (before : List LoaderOperation) (last : LoaderOperation) (hook : Hook)
    → (hook_of last ≡ hook → leaves hook (before ++ last ∷ []) ≡ outcome_of last)
    × (hook_of last ≢ hook → leaves hook (before ++ last ∷ []) ≡ leaves hook before)

-- without a program `tag` answers the configured tag, and `price` the configured metric
abbrev pub DefaultsAreConfigured : Type 0
DefaultsAreConfigured = (external : External) (moment : Moment) (rows : List TableRow)
    → (external.tag < 2 ^ 32 → default_of Tag (tag_input external moment rows) ≡ external.tag)
    × (external.metric < 2 ^ 32
    → default_of Price (price_input external moment rows) ≡ external.metric)
