use Rattle.hooks.specs.Known.{loader_history}
use Rattle.worker_tests.proofs.scenes.play_with.Given as goal

-- the ledger is that of the setup
abbrev pub ghosts-play_at-L-Ledger : goal.ghosts-play_at-L-Ledger
ghosts-play_at-L-Ledger g a = record { name = a.setup.blank.name; parts = a.setup.blank.parts }

-- the router begins as it is given
abbrev pub ghosts-play_at-L-Origin : goal.ghosts-play_at-L-Origin
ghosts-play_at-L-Origin g a = record { origin = a.core }

-- and the workers share its words, and ask the programs of the loader
abbrev pub ghosts-play_at-L-Site : goal.ghosts-play_at-L-Site
ghosts-play_at-L-Site g a = record { words = a.setup.shared; history = loader_history a.loader }
