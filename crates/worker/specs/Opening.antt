-- What the types of a hub and of its ports know in common.
use Rattle.std.specs.Prelude.{◌≡◌, ℕ}
use Rattle.std.specs.List.{All}
use Rattle.logbook.specs.Pages.{Book as History}
use Rattle.maps.specs.Words.{SharedWords}
use Rattle.hooks.specs.Known.{asker_history}
use Rattle.worker.specs.declared.setup.Setup.{Setup}

-- a setup with the ledger of this name and of this number of parts, with these shared words, and
-- askers of the programs of this history
abbrev pub IsSetUpFor : (name parts : ℕ) → SharedWords → History → Setup → Type 0
IsSetUpFor name parts words history s =
    (s.blank.name ≡ name) × (s.blank.parts ≡ parts) × (s.shared ≡ words)
    × All (λ a. asker_history a ≡ history) s.askers.items
