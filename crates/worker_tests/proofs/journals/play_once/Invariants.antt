use Rattle.worker_tests.proofs.journals.play_once.Given as goal

-- the ledger is the new one
abbrev pub ghosts-play-L-Ledger : goal.ghosts-play-L-Ledger
ghosts-play-L-Ledger a = record { name = a.blank.name; parts = a.blank.parts }

-- the router begins as it is given
abbrev pub ghosts-play-L-Origin : goal.ghosts-play-L-Origin
ghosts-play-L-Origin a = record { origin = a.core }
