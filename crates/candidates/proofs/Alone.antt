-- If the root has no LSA, or one without a link to a node, no link leads on from it, so that it
-- alone is reached.
use Rattle.std.proofs.Common.{◌≡◌, ◌<◌, get_or, ℕ, zero, suc, true, inl, inr, List, [], ◌∷◌}
use Rattle.std.proofs.Common.{slice_get, Option, None, Some, arith, refl, sym, ap, subst}
use Rattle.std.proofs.lemmas.Bool.{false≢true}
use Rattle.std.proofs.lemmas.List.Elements.{All-contains}
use Rattle.std.proofs.lemmas.List.Sums.{AllPass-from_list_all}
use Rattle.std.specs.List.{Contains, list_all}
use Rattle.std.proofs.lemmas.Nat.Bits.{bit_at-zero}
use Rattle.std.proofs.lemmas.Option.{same_Some}
use Rattle.candidates.proofs.Leads.{near_end}
use Rattle.candidates.specs.Nodes.{Ascend, HasLsa}
use Rattle.lsa.specs.declared.body.RouterLink.{RouterLink}
use Rattle.lsa.specs.declared.body.LinkKind.{LinkKind}
use Rattle.lsa.specs.declared.body.LinkKind.TheVariants.{PointToPoint, Transit}
use Rattle.candidates.specs.Ways.{DistancesFit, AreWays}
use Rattle.routes.proofs.Determined.{bit_of_member}
use Rattle.routes.specs.Answers.{IsNodeAnswer}
use Rattle.routes.specs.Links.{Leads, LeadsTo}
use Rattle.routes.specs.Paths.{IsWalk, IsWay, Step}
use Rattle.routes.specs.Contents.{Contents}
use Rattle.routes.specs.declared.graph.Way.{Way}
use Rattle.routes.specs.declared.node.Node.{Node}
use Rattle.routes.specs.declared.node.Node.TheVariants.{ANetwork, ARouter}
use Rattle.routes.specs.declared.root.Root.{Root}
use Rattle.candidates.proofs.NodePlaces.{beside, beside_none, of_beside, seek}
use Rattle.candidates.specs.Alone.{HasNoWayOut, leads_nowhere}
use Rattle.candidates.specs.Reached.{alone, way_in}

pub alone_ascends : (root : Root) → Ascend (alone root).nodes
alone_ascends root = λ i j d before within. absurd (omega (arith, before, within))

-- a router's LSA advertises each link from it
by_lsa : (contents : Contents) (root : Root) (router : ℕ) (step : Step Node)
    → Leads contents root (ARouter router) step → HasLsa contents (ARouter router)
by_lsa contents root router step leads =
    near_end contents root (ARouter router) step.target step.cost step.exit leads

module _ (contents : Contents) (root : Root)
    (still : (step : Step Node) → Leads contents root (ARouter root.router) step → ⊥) where
  stays : (walk : List (Step Node)) (to : Node)
      → IsWalk (Leads contents root) (ARouter root.router) walk to → ARouter root.router ≡ to
  stays [] to is = is
  stays (step ∷ rest) to is = absurd (still step is.0)

  own : IsWay (Leads contents root) (ARouter root.router) (ARouter root.router) (record {
    distance = 0;
    hops = 0;
  })
  own = record {
    distance = ([], record { is_walk = refl; least = λ other is. omega arith }, refl);
    hops = λ i. (
      (λ t. absurd (omega (arith, bit_of_member 0 i t, bit_at-zero i))),
      (λ y. absurd (still y.0 y.2.is_walk.0)),
    );
  }

  at_root : (node : Node) (at : ℕ) → slice_get (alone root).nodes at ≡ Some node
      → IsNodeAnswer contents root node (way_in (alone root) node)
  at_root node zero here =
      let Q : Node → Type 0 = λ n. IsNodeAnswer contents root n (way_in (alone root) n) in
      let P : Option Way → Type 0 = λ o. IsNodeAnswer contents root (ARouter root.router) o in
      subst Q (same_Some (ARouter root.router) node here)
      (subst P (sym (beside (alone root).nodes (alone root).ways (alone_ascends root)
      (ARouter root.router) zero refl)) own)
  at_root node (suc k) here = cc

  pub alone_ways : AreWays contents root (way_in (alone root))
  alone_ways node =
      let P : Option Way → Type 0 = λ o. IsNodeAnswer contents root node o in
      let nodes = (alone root).nodes in
      let ways = (alone root).ways in
      elim (seek nodes node) [
        | inl there ↦ at_root node there.0 there.1
        | inr missing ↦ subst P (sym (beside_none nodes ways node missing))
            (λ walk is. missing zero (ap (λ n. Some n) (stays walk node is)))
      ]

pub without_lsa : (contents : Contents) (root : Root) → (HasLsa contents (ARouter root.router) → ⊥)
    → (step : Step Node) → Leads contents root (ARouter root.router) step → ⊥
without_lsa contents root none step leads = none (by_lsa contents root root.router step leads)

-- none of these links is of a kind that leads on
passes : (links : List RouterLink) (link : RouterLink) (kind : LinkKind)
    → list_all (λ (l : RouterLink). leads_nowhere l.kind) links ≡ true → Contains links link
    → link.kind ≡ kind → leads_nowhere kind ≡ true
passes links link kind all among is =
    let P : LinkKind → Type 0 = λ k. leads_nowhere k ≡ true in
    let each = AllPass-from_list_all (λ (l : RouterLink). leads_nowhere l.kind) links all in
    subst P is (All-contains (λ (l : RouterLink). leads_nowhere l.kind ≡ true) links link each
    among)

pub without_way_out : (contents : Contents) (root : Root) → HasNoWayOut contents root.router
    → (step : Step Node) → Leads contents root (ARouter root.router) step → ⊥
without_way_out contents root nowhere step leads = on step.target leads
  where
    on : (target : Node) → LeadsTo contents root (ARouter root.router) target step.cost
        step.exit → ⊥
    on (ARouter b) to = false≢true (passes to.0.its.lsa.links to.0.link PointToPoint
        (nowhere to.0.its.lsa to.0.its.its) to.0.its.among to.0.is_kind)
    on (ANetwork id by) to = false≢true
        (passes to.0.its.lsa.links to.0.link Transit (nowhere to.0.its.lsa to.0.its.its)
        to.0.its.among to.0.is_kind)

near_at : (root : Root) (at : ℕ) (way : Way) → get_or (alone root).ways at None ≡ Some way
    → way.distance < 1073741824
near_at root zero way is = omega (arith, ap (λ (w : Way). w.distance) (same_Some _ way is))
near_at root (suc k) way is = cc

pub alone_near : (root : Root) → DistancesFit (way_in (alone root))
alone_near root = of_beside (λ way. way.distance < 1073741824) (alone root).nodes (alone root).ways
    (near_at root)
