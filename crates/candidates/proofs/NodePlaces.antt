-- The way at a node's index.
use Rattle.std.proofs.Common.{◌≡◌, ℕ, zero, suc, ◌<◌, ◌⊎◌, inl, inr, List, [], ◌∷◌, length, get_or}
use Rattle.std.proofs.Common.{slice_get, Option, None, Some, cond, arith, refl, sym, ◌∙◌, ap, subst}
use Rattle.std.proofs.lemmas.Bool.{cases_lt}
use Rattle.std.proofs.lemmas.Map.Lookups.{exact_pairs, exact_unsigned}
use Rattle.std.proofs.lemmas.Option.{same_Some, slice_get_within}
use Rattle.std.specs.Cmp.{nat_cmp_is, nat_cmp_total, tied_itself}
use Rattle.std.specs.Ordering.{is_eq, nat_cmp, ordering_then}
use Rattle.std.specs.declared.cmp.Ordering.TheVariants.{Equal, Greater, Less}
use Rattle.candidates.proofs.KeyNodes.{before_all, in_places}
use Rattle.candidates.specs.Nodes.{Ascend, node_cmp}
use Rattle.routes.specs.declared.graph.Way.{Way}
use Rattle.routes.specs.declared.node.Node.{Node}
use Rattle.routes.specs.declared.node.Node.TheVariants.{ANetwork, ARouter}
use Rattle.candidates.specs.Reached.{way_beside}

-- ---- the order of nodes

pub itself : (a : Node) → node_cmp a a ≡ Equal
itself (ARouter a) = tied_itself nat_cmp_total a
itself (ANetwork id by) =
    ap (λ r. ordering_then r (nat_cmp by by)) (tied_itself nat_cmp_total id)
    ∙ tied_itself nat_cmp_total by

differ : Equal ≡ Less → ⊥
differ e = cc

pub never_before : (a : Node) → node_cmp a a ≡ Less → ⊥
never_before a e = differ (sym (itself a) ∙ e)

-- numbers of which neither is less
neither : (m n : ℕ) → (nat_cmp m n ≡ Less → ⊥) → (nat_cmp n m ≡ Less → ⊥) → m ≡ n
neither m n left right =
    elim (cases_lt m n) [
      | inl less ↦ absurd (left (sym (nat_cmp_is m n Less less)))
      | inr not_less ↦
          elim (cases_lt n m) [
            | inl more ↦ absurd (right (sym (nat_cmp_is n m Less more)))
            | inr not_more ↦ omega (arith, not_less, not_more)
          ]
    ]

tied : (m n : ℕ) → m ≡ n → nat_cmp m n ≡ Equal
tied m n e = sym (nat_cmp_is m n Equal e)

never_less : Greater ≡ Less → ⊥
never_less e = cc

-- neither of two nodes is before the other
pub same_node : (a b : Node) → (node_cmp a b ≡ Less → ⊥) → (node_cmp b a ≡ Less → ⊥) → a ≡ b
same_node (ARouter a) (ARouter b) left right = ap (λ n. ARouter n) (neither a b left right)
same_node (ARouter a) (ANetwork id by) left right = absurd (left refl)
same_node (ANetwork id by) (ARouter b) left right = absurd (right refl)
same_node (ANetwork id by) (ANetwork other its) left right =
    let ids : id ≡ other = neither id other
    (λ e. left (ap (λ r. ordering_then r (nat_cmp by its)) e))
    (λ e. right (ap (λ r. ordering_then r (nat_cmp its by)) e)) in
    let routers : by ≡ its = neither by its
    (λ e. left (ap (λ r. ordering_then r (nat_cmp by its)) (tied id other ids) ∙ e))
    (λ e. right (ap (λ r. ordering_then r (nat_cmp its by)) (tied other id (sym ids)) ∙ e)) in
    λ i. ANetwork (ids i) (routers i)

pub exact : (a b : Node) → node_cmp a b ≡ Equal → a ≡ b
exact (ARouter a) (ARouter b) e = ap (λ n. ARouter n) (exact_unsigned a b e)
exact (ARouter a) (ANetwork id by) e = let no : Less ≡ Equal = e in cc
exact (ANetwork id by) (ARouter b) e = let no : Greater ≡ Equal = e in cc
exact (ANetwork id by) (ANetwork other its) e =
    let same = exact_pairs nat_cmp nat_cmp exact_unsigned exact_unsigned (id, by) (other, its) e in
    λ i. ANetwork (same i).0 (same i).1

-- ---- whether a node is among others

rest_ascend : (first : Node) (nodes : List Node) → Ascend (first ∷ nodes) → Ascend nodes
rest_ascend first nodes ascend = λ i j d before within. ascend (suc i) (suc j) d
    (omega (arith, before)) (omega (arith, within))

abbrev pub IsAt : List Node → Node → ℕ → Type 0
IsAt nodes node at = slice_get nodes at ≡ Some node

not_at : (first : Node) (nodes : List Node) (node : Node) → (first ≡ node → ⊥)
    → ((at : ℕ) → IsAt nodes node at → ⊥) → (at : ℕ) → IsAt (first ∷ nodes) node at → ⊥
not_at first nodes node apart none zero here = apart (same_Some first node here)
not_at first nodes node apart none (suc k) here = none k here

-- a node is among the nodes, or isn't
pub seek : (nodes : List Node) (node : Node)
    → ((at : ℕ) × IsAt nodes node at) ⊎ ((at : ℕ) → IsAt nodes node at → ⊥)
seek [] node = inr (λ at here. cc)
seek (first ∷ nodes) node =
    let later : (first ≡ node → ⊥) → ((at : ℕ) × IsAt (first ∷ nodes) node at)
    ⊎ ((at : ℕ) → IsAt (first ∷ nodes) node at → ⊥) = λ apart.
    elim (seek nodes node) [
      | inl found ↦ inl (suc found.0, found.1)
      | inr none ↦ inr (not_at first nodes node apart none)
    ] in
    let P : Node → Type 0 = λ n. node_cmp first n ≡ Equal in
    elim (node_cmp first node) as (λ r. node_cmp first node ≡ r
    → ((at : ℕ) × IsAt (first ∷ nodes) node at)
    ⊎ ((at : ℕ) → IsAt (first ∷ nodes) node at → ⊥)) [
      | Less ↦ λ is. later (λ e. let no : Equal ≡ Less = sym (subst P e (itself first)) ∙ is in cc)
      | Equal ↦ λ is. inl (zero, ap (λ n. Some n) (exact first node is))
      | Greater ↦ λ is. later (λ e. let no : Equal ≡ Greater =
          sym (subst P e (itself first)) ∙ is in cc)
    ] refl

-- ---- the way at a node's index

abbrev at_place : List (Option Way) → ℕ → Option Way
at_place ways at = get_or ways at None

pub beside : (nodes : List Node) (ways : List (Option Way)) → Ascend nodes → (node : Node) (at : ℕ)
    → IsAt nodes node at → way_beside nodes ways node ≡ at_place ways at
beside [] ways ascend node at here = cc
beside (first ∷ nodes) [] ascend node at here = refl
beside (first ∷ nodes) (way ∷ ways) ascend node zero here =
    let P : Node → Type 0 = λ n. node_cmp first n ≡ Equal in
    let same : node_cmp first node ≡ Equal = subst P (same_Some first node here) (itself first) in
    ap (λ r. cond (is_eq r) way (way_beside nodes ways node)) same
beside (first ∷ nodes) (way ∷ ways) ascend node (suc k) here =
    let less : node_cmp first node ≡ Less =
    in_places (first ∷ nodes) ascend zero (suc k) first node refl here (omega arith) in
    ap (λ r. cond (is_eq r) way (way_beside nodes ways node)) less
    ∙ beside nodes ways (rest_ascend first nodes ascend) node k here

pub beside_none : (nodes : List Node) (ways : List (Option Way)) (node : Node)
    → ((at : ℕ) → IsAt nodes node at → ⊥) → way_beside nodes ways node ≡ None
beside_none [] ways node none = refl
beside_none (first ∷ nodes) [] node none = refl
beside_none (first ∷ nodes) (way ∷ ways) node none =
    let rest = beside_none nodes ways node (λ at here. none (suc at) here) in
    elim (node_cmp first node) as (λ r. node_cmp first node ≡ r
    → cond (is_eq r) way (way_beside nodes ways node) ≡ None) [
      | Less ↦ λ is. rest
      | Equal ↦ λ is. absurd (none zero (ap (λ n. Some n) (exact first node is)))
      | Greater ↦ λ is. rest
    ] refl

-- what holds of all ways holds of that of a node
pub of_beside : (P : Way → Type 0) (nodes : List Node) (ways : List (Option Way))
    → ((at : ℕ) (way : Way) → at_place ways at ≡ Some way → P way) → (node : Node) (way : Way)
    → way_beside nodes ways node ≡ Some way → P way
of_beside P [] ways all node way is = cc
of_beside P (first ∷ nodes) [] all node way is = cc
of_beside P (first ∷ nodes) (one ∷ ways) all node way is =
    let rest : way_beside nodes ways node ≡ Some way → P way =
    of_beside P nodes ways (λ at w e. all (suc at) w e) node way in
    elim (node_cmp first node) as (λ r. cond (is_eq r) one (way_beside nodes ways node) ≡ Some way
    → P way) [
      | Less ↦ rest
      | Equal ↦ all zero way
      | Greater ↦ rest
    ] is

-- ---- binary search

-- the node at this index is neither before the node nor after it
pub at_its_place : (nodes : List Node) (node other : Node) (at : ℕ)
    → slice_get nodes at ≡ Some other → (node_cmp other node ≡ Less → ⊥)
    → (node_cmp node other ≡ Less → ⊥) → slice_get nodes at ≡ Some node
at_its_place nodes node other at here low high =
    here ∙ ap (λ n. Some n) (same_node other node low high)

-- those before this index are before it, and the one at this index is after it
pub nowhere : (nodes : List Node) → Ascend nodes → (node other : Node) (at : ℕ)
    → slice_get nodes at ≡ Some other → node_cmp node other ≡ Less
    → ((k : ℕ) (n : Node) → slice_get nodes k ≡ Some n → k < at → node_cmp n node ≡ Less)
    → (k : ℕ) → slice_get nodes k ≡ Some node → ⊥
nowhere nodes ascend node other at there after before k here =
    elim (cases_lt k at) [
      | inl low ↦ never_before node (before k node here low)
      | inr not_low ↦
          elim (cases_lt at k) [
            | inl high ↦ never_before node
                (before_all node other node after
                (in_places nodes ascend at k other node there here high))
            | inr last ↦
                let same : k ≡ at = omega (arith, not_low, last) in
                let P : ℕ → Type 0 = λ n. slice_get nodes n ≡ Some node in
                let Q : Node → Type 0 = λ n. node_cmp node n ≡ Less in
                never_before node (subst Q (same_Some other node (sym there ∙ subst P same here))
                after)
          ]
    ]

-- all are before it
pub past : (nodes : List Node) (node : Node) (at : ℕ) → at ≡ length nodes
    → ((k : ℕ) (n : Node) → slice_get nodes k ≡ Some n → k < at → node_cmp n node ≡ Less) → (k : ℕ)
    → slice_get nodes k ≡ Some node → ⊥
past nodes node at end before k here =
    never_before node (before k node here (omega (arith, end, slice_get_within nodes k node here)))
