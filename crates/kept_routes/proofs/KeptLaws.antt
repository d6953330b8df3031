-- What is kept while LSAs say the same.
use Rattle.std.proofs.Common.{◌≡◌, List, [], ◌∷◌, Option, None, Some, sym, subst}
use Rattle.routes.specs.Answers.{IsNodeAnswer}
use Rattle.routes.specs.Candidates.{AreCandidates}
use Rattle.routes.specs.Links.{Leads}
use Rattle.routes.specs.Paths.{IsWalk, Step}
use Rattle.routes.specs.Contents.{Contents}
use Rattle.routes.specs.Tables.{IsStale, IsTable}
use Rattle.routes.specs.declared.graph.Way.{Way}
use Rattle.routes.specs.declared.node.Node.{Node}
use Rattle.routes.specs.declared.node.Node.TheVariants.{ARouter}
use Rattle.routes.specs.declared.root.Root.{Root}
use Rattle.routes.proofs.Carried.{carried, leads}
use Rattle.candidates.specs.Reached.{way_in}
use Rattle.kept_routes.specs.Laws.{RoutesAreKept, WalksAreKept}
use Rattle.kept_routes.specs.Sameness.{HaveSameContents}

module _ (old new : Contents) (root : Root) (same : HaveSameContents (Some 2) old new) where
  walked_before : (from : Node) (walk : List (Step Node)) (to : Node)
      → IsWalk (Leads new root) from walk to → IsWalk (Leads old root) from walk to
  walked_before from [] to is = is
  walked_before from (s ∷ walk) to is = (
    leads new old (λ key low. sym (same key low)) root from s.target s.cost s.exit is.0,
    walked_before s.target walk to is.1,
  )

  answer : (node : Node) (way : Option Way) → IsNodeAnswer old root node way
      → IsNodeAnswer new root node way
  answer node None none = λ walk is. none walk (walked_before (ARouter root.router) walk node is)
  answer node (Some way) is = carried old new root same (ARouter root.router) node (record {
    distance = way.distance;
    hops = way.hops;
  }) is

pub walks_kept : WalksAreKept
walks_kept old new kept same is = record {
  ways = λ node. answer old new kept.root same node (way_in kept.reached node) (is.ways node);
  near = is.near;
}

equal : (old new : Contents) → HaveSameContents None old new → old ≡ new
equal old new same = λ i key. same key tt i

pub routes_kept : RoutesAreKept
routes_kept = record {
  candidates = λ old new root routes same is. subst (λ (s : Contents). AreCandidates s root routes)
      (equal old new same) is;
  table = λ old new root answers table same is. subst
      (λ (s : Contents). IsTable s root answers table)
      (equal old new same) is;
  stale = λ old new root answers same. (
    (λ is. subst (λ (s : Contents). IsStale s root answers) (equal old new same) is),
    (λ is. subst (λ (s : Contents). IsStale s root answers) (sym (equal old new same)) is),
  );
}
