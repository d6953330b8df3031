use Rattle.hooks.specs.Known.{loader_history}
use Rattle.daemon.proofs.running.operate.Given as goal

-- the ledger is that of the setup
abbrev pub ghosts-run_all-L-Ledger : goal.ghosts-run_all-L-Ledger
ghosts-run_all-L-Ledger g a = record { name = a.setup.blank.name; parts = a.setup.blank.parts }

-- the book begins with the router that was made of the configuration
abbrev pub ghosts-run_all-L-Origin : goal.ghosts-run_all-L-Origin
ghosts-run_all-L-Origin g a = record { origin = a.core }

-- and the workers share its words, and ask the programs of the loader
abbrev pub ghosts-run_all-L-Site : goal.ghosts-run_all-L-Site
ghosts-run_all-L-Site g a = record { words = a.setup.shared; history = loader_history a.loader }
