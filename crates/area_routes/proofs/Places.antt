-- The networks whose LSAs have one Link State ID are together among the nodes.
use Rattle.std.proofs.Common.{◌≡◌, ℕ, ◌<◌, ◌≤◌, inl, inr, List, Some, slice_get, refl, sym}
use Rattle.std.proofs.Common.{◌∙◌, ap, subst, arith}
use Rattle.std.proofs.lemmas.Bool.{cases_lt}
use Rattle.std.proofs.lemmas.Cmp.{ranked}
use Rattle.std.proofs.lemmas.Option.{same_Some}
use Rattle.std.specs.Cmp.{nat_cmp_total, tied_itself}
use Rattle.std.specs.FinMap.{nat_cmp-IsAntisymmetric}
use Rattle.std.specs.Ordering.{nat_cmp, ordering_then}
use Rattle.std.specs.declared.cmp.Ordering.TheVariants.{Equal, Greater, Less}
use Rattle.candidates.proofs.KeyNodes.{in_places}
use Rattle.candidates.specs.Graphs.{StandsAt}
use Rattle.candidates.specs.Nodes.{Ascend, node_cmp}
use Rattle.area_routes.specs.GraphLinks.{IsOfId}
use Rattle.routes.specs.declared.node.Node.{Node}
use Rattle.routes.specs.declared.node.Node.TheVariants.{ANetwork, ARouter}

-- none is before that of Router ID 0
none_below : (id by : ℕ) → node_cmp (ANetwork id by) (ANetwork id 0) ≡ Less → ⊥
none_below id by less =
    let e : nat_cmp by 0 ≡ Less =
    sym (ap (λ r. ordering_then r (nat_cmp by 0)) (tied_itself nat_cmp_total id)) ∙ less in
    omega (arith, ranked by 0 Less (sym e))

greater_less : Greater ≡ Less → ⊥
greater_less e = cc

-- what is between two of them is one
is_between : (id by : ℕ) (node : Node) → (node_cmp node (ANetwork id 0) ≡ Less → ⊥)
    → node_cmp node (ANetwork id by) ≡ Less → IsOfId id node
is_between id by (ARouter router) up down = absurd (up refl)
is_between id by (ANetwork its from) up down =
    elim (nat_cmp its id) as
    (λ o. nat_cmp its id ≡ o → (ordering_then o (nat_cmp from 0) ≡ Less → ⊥)
    → ordering_then o (nat_cmp from by) ≡ Less → its ≡ id) [
      | Less ↦ λ _ f g. absurd (f refl)
      | Equal ↦ λ is f g. nat_cmp-IsAntisymmetric its id is
      | Greater ↦ λ _ f g. absurd (greater_less g)
    ] refl up down

module _ (nodes : List Node) (ascend : Ascend nodes) (id first : ℕ) where
  pub none_earlier : ((k : ℕ) (other : Node) → slice_get nodes k ≡ Some other → k < first
      → node_cmp other (ANetwork id 0) ≡ Less) → (by place : ℕ)
      → StandsAt nodes (ANetwork id by) place → first ≤ place
  none_earlier before by place stands =
      elim (cases_lt place first) [
        | inl lt ↦ absurd (none_below id by (before place (ANetwork id by) stands lt))
        | inr past ↦ omega (arith, past)
      ]

  pub none_later : ((k : ℕ) (other : Node) → slice_get nodes k ≡ Some other → first ≤ k
      → node_cmp other (ANetwork id 0) ≡ Less → ⊥) → (end : ℕ) (node : Node) → first ≤ end
      → slice_get nodes end ≡ Some node → (IsOfId id node → ⊥) → (by place : ℕ)
      → StandsAt nodes (ANetwork id by) place → place < end
  none_later beyond end node low here other by place stands =
      elim (cases_lt place end) [
        | inl lt ↦ lt
        | inr past ↦
            elim (cases_lt end place) [
              | inl lt ↦ absurd (other (is_between id by node (beyond end node here low)
                  (in_places nodes ascend end place node (ANetwork id by) here stands lt)))
              | inr not_past ↦
                  let same : end ≡ place = omega (arith, past, not_past) in
                  let P : ℕ → Type 0 = λ k. slice_get nodes k ≡ Some node in
                  let is : node ≡ ANetwork id by =
                  same_Some node (ANetwork id by) (sym (subst P same here) ∙ stands) in
                  absurd (other (subst (IsOfId id) (sym is) refl))
            ]
      ]
