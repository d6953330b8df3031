use Rattle.std.proofs.Common.{◌≡◌, take}
use Rattle.std.specs.List.{filter_map}
use Rattle.candidates.specs.Nodes.{node_of}
use Rattle.candidates.proofs.nodes.nodes_of.Given as goal

abbrev pub invariant-loop-one : goal.invariant-loop-one
invariant-loop-one l = l.nodes.items ≡ filter_map node_of (take l.one-index l.one-items)
