-- The askers of a new setup ask the loader's programs.
use Rattle.std.proofs.Common.{◌≡◌, List}
use Rattle.std.specs.List.{All}
use Rattle.logbook.specs.Pages.{Book}
use Rattle.hooks.specs.Known.{IsNew, asker_history}
use Rattle.hooks.specs.declared.asker.Asker.{Asker}

pub all_ask : (history : Book) (askers : List Asker) → All (IsNew history) askers
    → All (λ a. asker_history a ≡ history) askers
all_ask history askers new k a lt = (new k a lt).0
