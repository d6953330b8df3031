use Rattle.std.proofs.Common.{◌≡◌, take, true}
use Rattle.std.specs.List.{list_all}
use Rattle.adjacency.specs.Steps.{is_there}
use Rattle.area.proofs.neighbor_slot.requests.are_there.Given as goal

abbrev pub invariant-loop-key : goal.invariant-loop-key
invariant-loop-key l = list_all (is_there l.database.present) (take l.key-index l.keys) ≡ true
