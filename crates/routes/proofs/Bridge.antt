-- The answers of a graph that stands for a relation are those of the relation.
use Rattle.std.proofs.Common.{◌≡◌, ℕ, ◌+◌, ◌≤◌, List, [], ◌∷◌, Option, Some, None, arith, refl, sym}
use Rattle.std.proofs.Common.{◌∙◌, subst}
use Rattle.std.proofs.lemmas.List.Sums.{sum_by-cons}
use Rattle.routes.specs.Graphs.{Graph, IsAnswer, IsGraphOf, IsWalk, cost}
use Rattle.routes.specs.Paths.{Step, cost_of}
use Rattle.routes.specs.Paths as paths
use Rattle.routes.specs.declared.graph.VertexLink.{VertexLink}
use Rattle.routes.specs.declared.graph.Way.{Way}
use Rattle.routes.specs.Answers.{GraphsCarryAnswers}
use Rattle.routes.specs.Links.{Leads}
use Rattle.routes.specs.declared.node.Node.TheVariants.{ARouter}
use Rattle.routes.proofs.Determined.{bit_of_member, is_member}

cost-cons : (l : VertexLink) (ls : List VertexLink) → cost (l ∷ ls) ≡ l.cost + cost ls
cost-cons l ls = sum_by-cons (λ (link : VertexLink). link.cost) l ls

-- a walk for a path, that costs no more
record Walks (g : Graph) (at to price : ℕ) : Type 0 where
  walk : List VertexLink
  is_walk : IsWalk g at walk to
  cheap : cost walk ≤ price

record Paths {V : Type 0} (leads : V → Step V → Type 0) (from to : V) (price : ℕ) : Type 0 where
  path : List (Step V)
  is_walk : paths.IsWalk leads from path to
  same : cost_of path ≡ price

walk_of : {V : Type 0} (leads : V → Step V → Type 0) (number : V → ℕ → Type 0) (g : Graph)
    → IsGraphOf leads number g → (v : V) (at : ℕ) (ss : List (Step V)) (w : V) (to : ℕ)
    → number v at → number w to → paths.IsWalk leads v ss w → Walks g at to (cost_of ss)
walk_of {V} leads number g is v at [] w to nv nw p =
    let P : V → Type 0 = λ x. number x to in
    record {
      walk = [];
      is_walk = is.one_place v at to nv (subst P (sym p) nw);
      cheap = omega arith;
    }
walk_of {V} leads number g is v at (s ∷ ss) w to nv nw p =
    let link = is.forth v at s nv p.0 in
    let rest = walk_of leads number g is s.target link.0.to ss w to link.2.target nw p.1 in
    record {
      walk = link.0 ∷ rest.walk;
      is_walk = (link.1, rest.is_walk);
      cheap = omega (arith, cost-cons link.0 rest.walk, rest.cheap, link.2.cost);
    }

path_of : {V : Type 0} (leads : V → Step V → Type 0) (number : V → ℕ → Type 0) (g : Graph)
    → IsGraphOf leads number g → (v : V) (at : ℕ) (ls : List VertexLink) (w : V) (to : ℕ)
    → number v at → number w to → IsWalk g at ls to → Paths leads v w (cost ls)
path_of {V} leads number g is v at [] w to nv nw p =
    let P : ℕ → Type 0 = λ x. number w x in
    record { path = []; is_walk = is.one_vertex v w at nv (subst P (sym p) nw); same = refl }
path_of {V} leads number g is v at (l ∷ ls) w to nv nw p =
    let step = is.back v at l nv p.0 in
    let rest = path_of leads number g is step.0.target l.to ls w to step.2.target nw p.1 in
    record {
      path = step.0 ∷ rest.path;
      is_walk = (step.1, rest.is_walk);
      same = omega (arith, cost-cons l ls, rest.same, step.2.cost);
    }

-- the answer of the graph for one vertex is that for what the vertex stands for
abbrev pub IsAnswerFor : {V : Type 0} → (V → Step V → Type 0) → V → V → Option Way → Type 0
IsAnswerFor {V} leads from to None = (walk : List (Step V)) → paths.IsWalk leads from walk to → ⊥
IsAnswerFor {V} leads from to (Some way) = paths.IsWay leads from to (record {
  distance = way.distance;
  hops = way.hops;
})

pub bridged : {V : Type 0} (leads : V → Step V → Type 0) (number : V → ℕ → Type 0) (g : Graph)
    → IsGraphOf leads number g → (v w : V) (at to : ℕ) → number v at → number w to
    → (o : Option Way) → IsAnswer g at to o → IsAnswerFor leads v w o
bridged leads number g is v w at to nv nw None h =
    λ path p. let k = walk_of leads number g is v at path w to nv nw p in h k.walk k.is_walk
bridged leads number g is v w at to nv nw (Some way) h =
    let own = path_of leads number g is v at h.0.0 w to nv nw h.0.1.is_walk in
    record {
      distance = (
        own.path,
        record {
          is_walk = own.is_walk;
          least = λ other p. let k = walk_of leads number g is v at other w to nv nw p in
              omega (arith, own.same, k.cheap, h.0.1.least k.walk k.is_walk);
        },
        own.same ∙ h.0.2,
      );
      hops = λ i. (
        (λ t.
            let hop = (h.1 i).0 (bit_of_member way.hops i t) in
            let step = is.back v at hop.0 nv hop.2.is_walk.0 in
            let rest = path_of leads number g is step.0.target hop.0.to hop.1 w to step.2.target nw
            hop.2.is_walk.1 in (
              step.0,
              rest.path,
              record {
                is_walk = (step.1, rest.is_walk);
                least = λ other p. let k = walk_of leads number g is v at other w to nv nw p in
                    omega (
                      arith,
                      rest.same,
                      k.cheap,
                      step.2.cost,
                      cost-cons hop.0 hop.1,
                      hop.2.least k.walk k.is_walk,
                    );
              },
              step.2.exit ∙ hop.3,
            )),
        (λ y.
            let link = is.forth v at y.0 nv y.2.is_walk.0 in
            let rest = walk_of leads number g is y.0.target link.0.to y.1 w to link.2.target nw
            y.2.is_walk.1 in
            is_member way.hops i ((h.1 i).1 (
              link.0,
              rest.walk,
              record {
                is_walk = (link.1, rest.is_walk);
                least = λ other p. let k = path_of leads number g is v at other w to nv nw p in
                    omega (
                      arith,
                      rest.cheap,
                      k.same,
                      link.2.cost,
                      cost-cons link.0 rest.walk,
                      y.2.least k.path k.is_walk,
                    );
              },
              sym link.2.exit ∙ y.3,
            ))),
      );
    }

pub carried : GraphsCarryAnswers
carried contents root place g is from to node None start end h =
    bridged (Leads contents root) (λ v at. place v ≡ Some at) g is (ARouter root.router) node
    from to
    start end None h
carried contents root place g is from to node (Some way) start end h =
    bridged (Leads contents root) (λ v at. place v ≡ Some at) g is (ARouter root.router) node
    from to
    start end (Some way) h
