use Rattle.std.proofs.Common.{◌≡◌, ◌-◌, ◌<◌, ◌≤◌, ℕ, Some, length, slice_get}
use Rattle.std.specs.declared.cmp.Ordering.TheVariants.{Less}
use Rattle.routes.specs.declared.node.Node.{Node}
use Rattle.candidates.specs.Nodes.{node_cmp}
use Rattle.candidates.proofs.nodes.index_of.Given as goal

abbrev pub invariant-loop-low : goal.invariant-loop-low
invariant-loop-low l = record {
  bounds : l.low ≤ l.high;
  within : l.high ≤ length l.nodes;
  before : (k : ℕ) (other : Node) → slice_get l.nodes k ≡ Some other → k < l.low
      → node_cmp other l.node ≡ Less;
  beyond : (k : ℕ) (other : Node) → slice_get l.nodes k ≡ Some other → l.high ≤ k
      → node_cmp other l.node ≡ Less → ⊥;
}

abbrev pub decreases-loop-low : goal.decreases-loop-low
decreases-loop-low l = l.high - l.low
