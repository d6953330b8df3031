use Rattle.hooks.specs.Known.{loader_history}
use Rattle.bench.proofs.turn_speed.print.Given as goal

-- the ledger is that of the setup
abbrev pub ghosts-print_at-L-Ledger : goal.ghosts-print_at-L-Ledger
ghosts-print_at-L-Ledger g a = record {
  name = a.setup.blank.name;
  parts = a.setup.blank.parts;
}

-- the router starts as given
abbrev pub ghosts-print_at-L-Origin : goal.ghosts-print_at-L-Origin
ghosts-print_at-L-Origin g a = record { origin = a.core }

-- and the workers share its words, and ask the loader's programs
abbrev pub ghosts-print_at-L-Site : goal.ghosts-print_at-L-Site
ghosts-print_at-L-Site g a = record {
  words = a.setup.shared;
  history = loader_history a.loader.now;
}
