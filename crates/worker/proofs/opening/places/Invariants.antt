use Rattle.std.specs.Prelude.{◌≡◌, ◌+◌, vec_len}
use Rattle.std.specs.List.{All}
use Rattle.maps.specs.Words.{IsSeatOf}
use Rattle.hooks.specs.Known.{asker_history}
use Rattle.worker.proofs.opening.places.Given as goal

abbrev pub invariant-loop-place : goal.invariant-loop-place
invariant-loop-place g l = record {
  pairs : vec_len l.askers ≡ vec_len l.seats;
  count : vec_len l.seats + vec_len l.places ≡ vec_len l.initial.seats;
  seated : All (IsSeatOf g.L.Site.words) l.seats.items;
  asks : All (λ a. asker_history a ≡ g.L.Site.history) l.askers.items;
}

abbrev pub decreases-loop-place : goal.decreases-loop-place
decreases-loop-place g l = vec_len l.seats
