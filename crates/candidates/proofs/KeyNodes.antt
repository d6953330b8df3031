-- What the LSAs of a database say determines its nodes, in order.
use Rattle.std.proofs.Common.{◌≡◌, ℕ, zero, suc, ◌+◌, ◌<◌, ◌≤◌, ◌++◌, get_or, slice_get, Bool, true}
use Rattle.std.proofs.Common.{false, ◌&&◌, ◌==◌, cond, List, [], ◌∷◌, length, take, Option, None}
use Rattle.std.proofs.Common.{Some, inl, inr, refl, sym, ◌∙◌, ap, subst, arith, eqb-true, eq-eqb}
use Rattle.std.proofs.Common.{Ordering}
use Rattle.std.proofs.lemmas.Bool.{cases_lt, false≢true}
use Rattle.std.proofs.lemmas.List.{take_all, take_more}
use Rattle.std.proofs.lemmas.List.Elements.{filter_map-append}
use Rattle.std.proofs.lemmas.Option.{get_or_from_slice_get, none-some, same_Some, slice_get_within}
use Rattle.std.specs.List.{Contains, cons_option, filter_map}
use Rattle.std.specs.Ordering.{is_lt, nat_cmp, ordering_then}
use Rattle.std.specs.declared.cmp.Ordering.TheVariants.{Equal, Greater, Less}
use Rattle.words.specs.declared.key.Key.{Key}
use Rattle.lsa.specs.declared.body.LsaBody.{LsaBody}
use Rattle.lsa.specs.declared.body.LsaBody.TheVariants as body
use Rattle.lsa.specs.declared.body.NetworkLsa.{NetworkLsa}
use Rattle.lsa.specs.declared.body.RouterLsa.{RouterLsa}
use Rattle.lsdb.specs.Bodies.{AreBodies, InOrder}
use Rattle.lsdb.specs.Keys.{key_cmp}
use Rattle.lsdb.proofs.Keys.{keys_total}
use Rattle.routes.specs.Links.{network_key, router_key}
use Rattle.routes.specs.Contents.{Contents}
use Rattle.routes.specs.declared.node.Node.{Node}
use Rattle.routes.specs.declared.node.Node.TheVariants.{ANetwork, ARouter}
use Rattle.candidates.specs.Nodes.{AreNodes, Ascend, HasLsa, if_network, if_router, network_in}
use Rattle.candidates.specs.Nodes.{node_cmp, node_of, router_in}
use Rattle.candidates.proofs.Lists.{filtered_few, filtered_in, filtered_out, more_pairs, none_pairs}
use Rattle.routes.proofs.Lists.{first_is, later_is}

-- the key of the node's LSA
abbrev pub key_of : Node → Key
key_of (ARouter router) = router_key router
key_of (ANetwork id by) = network_key id by

-- ---- what an LSA says

pub router_said : (o : Option LsaBody) (lsa : RouterLsa) → router_in o ≡ Some lsa
    → o ≡ Some (body.Router lsa)
router_said None lsa e = absurd (none-some lsa e)
router_said (Some (body.Router x)) lsa e = ap (λ y. Some (body.Router y)) (same_Some x lsa e)
router_said (Some (body.Network x)) lsa e = absurd (none-some lsa e)
router_said (Some (body.NetworkSummary x)) lsa e = absurd (none-some lsa e)
router_said (Some (body.RouterSummary x)) lsa e = absurd (none-some lsa e)
router_said (Some (body.External x)) lsa e = absurd (none-some lsa e)

pub network_said : (o : Option LsaBody) (lsa : NetworkLsa) → network_in o ≡ Some lsa
    → o ≡ Some (body.Network lsa)
network_said None lsa e = absurd (none-some lsa e)
network_said (Some (body.Router x)) lsa e = absurd (none-some lsa e)
network_said (Some (body.Network x)) lsa e = ap (λ y. Some (body.Network y)) (same_Some x lsa e)
network_said (Some (body.NetworkSummary x)) lsa e = absurd (none-some lsa e)
network_said (Some (body.RouterSummary x)) lsa e = absurd (none-some lsa e)
network_said (Some (body.External x)) lsa e = absurd (none-some lsa e)

-- ---- keys and nodes

-- the node has an LSA, and the key is its key
record IsNodeOf (contents : Contents) (key : Key) (node : Node) : Type 0 where
  same : key ≡ key_of node
  has : HasLsa contents node

two : (a b : Bool) → a && b ≡ true → (a ≡ true) × (b ≡ true)
two true b e = (refl, e)
two false b e = absurd (false≢true e)

of_router : (contents : Contents) (one : Key × LsaBody) (node : Node) → contents one.0 ≡ Some one.1
    → one.0.ls_type ≡ 1 → one.0.link_state_id ≡ one.0.advertising_router
    → if_router one.0.advertising_router (router_in (Some one.1)) ≡ Some node
    → IsNodeOf contents one.0 node
of_router contents one node says first both e =
    let router = one.0.advertising_router in
    let key : one.0 ≡ router_key router = λ i. record {
      ls_type = first i;
      link_state_id = both i;
      advertising_router = router;
    } in
    elim (router_in (Some one.1)) as (λ o. router_in (Some one.1) ≡ o
    → if_router router o ≡ Some node → IsNodeOf contents one.0 node) [
      | None ↦ λ is p. absurd (none-some node p)
      | Some lsa ↦ λ is p.
          let P : Node → Type 0 = λ n. IsNodeOf contents one.0 n in
          subst P (same_Some (ARouter router) node p) (record {
            same = key;
            has = (lsa, sym (ap contents key) ∙ says ∙ router_said (Some one.1) lsa is);
          })
    ] refl e

of_network : (contents : Contents) (one : Key × LsaBody) (node : Node) → contents one.0 ≡ Some one.1
    → one.0.ls_type ≡ 2 → if_network one.0.link_state_id one.0.advertising_router
    (network_in (Some one.1)) ≡ Some node → IsNodeOf contents one.0 node
of_network contents one node says is_two e =
    let id = one.0.link_state_id in
    let router = one.0.advertising_router in
    let key : one.0 ≡ network_key id router = λ i. record {
      ls_type = is_two i;
      link_state_id = id;
      advertising_router = router;
    } in
    elim (network_in (Some one.1)) as
    (λ o. network_in (Some one.1) ≡ o → if_network id router o ≡ Some node
    → IsNodeOf contents one.0 node) [
      | None ↦ λ is p. absurd (none-some node p)
      | Some lsa ↦ λ is p.
          let P : Node → Type 0 = λ n. IsNodeOf contents one.0 n in
          subst P (same_Some (ANetwork id router) node p) (record {
            same = key;
            has = (lsa, sym (ap contents key) ∙ says ∙ network_said (Some one.1) lsa is);
          })
    ] refl e

is_node : (contents : Contents) (one : Key × LsaBody) (node : Node) → contents one.0 ≡ Some one.1
    → node_of one ≡ Some node → IsNodeOf contents one.0 node
is_node contents one node says e =
    let key = one.0 in
    let r = if_router key.advertising_router (router_in (Some one.1)) in
    let n = if_network key.link_state_id key.advertising_router (network_in (Some one.1)) in
    elim ((key.ls_type == 1) && (key.link_state_id == key.advertising_router)) as
    (λ b. (key.ls_type == 1) && (key.link_state_id == key.advertising_router) ≡ b
    → cond b r (cond (key.ls_type == 2) n None) ≡ Some node → IsNodeOf contents key node) [
      | true ↦ λ is p.
          let tests = two (key.ls_type == 1) (key.link_state_id == key.advertising_router) is in
          of_router contents one node says (eqb-true key.ls_type 1 tests.0)
          (eqb-true key.link_state_id key.advertising_router tests.1) p
      | false ↦ λ _ p.
          elim (key.ls_type == 2) as (λ b. key.ls_type == 2 ≡ b → cond b n None ≡ Some node
          → IsNodeOf contents key node) [
            | true ↦ λ is q. of_network contents one node says (eqb-true key.ls_type 2 is) q
            | false ↦ λ _ q. absurd (none-some node q)
          ] refl p
    ] refl e

-- what the node's LSA says, which makes it a node
record IsSaidOf (contents : Contents) (node : Node) : Type 0 where
  says : LsaBody
  its : contents (key_of node) ≡ Some says
  low : (key_of node).ls_type ≤ 2
  made : node_of (key_of node, says) ≡ Some node

at_key : (contents : Contents) (node : Node) → HasLsa contents node → IsSaidOf contents node
at_key contents (ARouter router) has =
    let same : router == router ≡ true = eq-eqb router router refl in
    record {
      says = body.Router has.0;
      its = has.1;
      low = omega arith;
      made = ap (λ b. cond (true && b) (if_router router (Some has.0)) None) same;
    }
at_key contents (ANetwork id by) has = record {
  says = body.Network has.0;
  its = has.1;
  low = omega arith;
  made = refl;
}

-- nodes are in the order of their keys
twice : (r : Ordering) → ordering_then r r ≡ Less → r ≡ Less
twice Less e = e
twice Equal e = e
twice Greater e = e

in_order : (a b : Node) → key_cmp (key_of a) (key_of b) ≡ Less → node_cmp a b ≡ Less
in_order (ARouter a) (ARouter b) e = twice (nat_cmp a b) e
in_order (ARouter a) (ANetwork id by) e = refl
in_order (ANetwork id by) (ARouter b) e = e
in_order (ANetwork id by) (ANetwork other its) e = e

by_keys : (a b : Node) → node_cmp a b ≡ Less → key_cmp (key_of a) (key_of b) ≡ Less
by_keys (ARouter a) (ARouter b) e = ap (λ r. ordering_then r r) e
by_keys (ARouter a) (ANetwork id by) e = refl
by_keys (ANetwork id by) (ARouter b) e = e
by_keys (ANetwork id by) (ANetwork other its) e = e

pub before_all : (a b c : Node) → node_cmp a b ≡ Less → node_cmp b c ≡ Less → node_cmp a c ≡ Less
before_all a b c p q = in_order a c
    (keys_total.trans (key_of a) (key_of b) (key_of c) (by_keys a b p) (by_keys b c q))

pub lt_true : (r : Ordering) → is_lt r ≡ true → r ≡ Less
lt_true Less e = refl
lt_true Equal e = absurd (false≢true e)
lt_true Greater e = absurd (false≢true e)

pub lt_false : (r : Ordering) → is_lt r ≡ false → r ≡ Less → ⊥
lt_false r e is = false≢true (sym e ∙ ap is_lt is)

-- ---- the search for an index

pub in_places : (nodes : List Node) (ascend : Ascend nodes) (i j : ℕ) (a b : Node)
    → slice_get nodes i ≡ Some a → slice_get nodes j ≡ Some b → i < j → node_cmp a b ≡ Less
in_places nodes ascend i j a b here there lt =
    let P : Node → Type 0 = λ n. node_cmp n (get_or nodes j a) ≡ Less in
    let Q : Node → Type 0 = λ n. node_cmp a n ≡ Less in
    subst Q (get_or_from_slice_get nodes j b a there)
    (subst P (get_or_from_slice_get nodes i a a here)
    (ascend i j a lt (slice_get_within nodes j b there)))

pub go_up : (nodes : List Node) (ascend : Ascend nodes) (node middle : Node) (m : ℕ)
    → slice_get nodes m ≡ Some middle → node_cmp middle node ≡ Less → (k : ℕ) (other : Node)
    → slice_get nodes k ≡ Some other → k < m + 1 → node_cmp other node ≡ Less
go_up nodes ascend node middle m here below k other there low =
    elim (cases_lt k m) [
      | inl lt ↦ before_all other middle node
          (in_places nodes ascend k m other middle there here lt) below
      | inr past ↦
          let e : k ≡ m = omega (arith, past, low) in
          let P : ℕ → Type 0 = λ i. slice_get nodes i ≡ Some other in
          let Q : Node → Type 0 = λ n. node_cmp n node ≡ Less in
          subst Q (same_Some middle other (sym here ∙ subst P e there)) below
    ]

pub go_down : (nodes : List Node) (ascend : Ascend nodes) (node middle : Node) (m : ℕ)
    → slice_get nodes m ≡ Some middle → (node_cmp middle node ≡ Less → ⊥) → (k : ℕ) (other : Node)
    → slice_get nodes k ≡ Some other → m ≤ k → node_cmp other node ≡ Less → ⊥
go_down nodes ascend node middle m here never k other there high below =
    elim (cases_lt m k) [
      | inl lt ↦ never (before_all middle other node
          (in_places nodes ascend m k middle other here there lt) below)
      | inr past ↦
          let e : k ≡ m = omega (arith, past, high) in
          let P : ℕ → Type 0 = λ i. slice_get nodes i ≡ Some other in
          let Q : Node → Type 0 = λ n. node_cmp n node ≡ Less in
          never (subst Q (sym (same_Some middle other (sym here ∙ subst P e there))) below)
    ]

-- ---- the nodes of what LSAs say

abbrev AllSaid : Contents → List (Key × LsaBody) → Type 0
AllSaid contents es = (one : Key × LsaBody) → Contains es one → contents one.0 ≡ Some one.1

first_before : (e : Key × LsaBody) (es : List (Key × LsaBody)) → InOrder (e ∷ es)
    → (one : Key × LsaBody) → Contains es one → key_cmp e.0 one.0 ≡ Less
first_before e es order one (k, within, is) =
    let P : Key × LsaBody → Type 0 = λ x. key_cmp e.0 x.0 ≡ Less in
    subst P is (order zero (suc k) one (omega arith) (omega (arith, within)))

rest_in_order : (e : Key × LsaBody) (es : List (Key × LsaBody)) → InOrder (e ∷ es) → InOrder es
rest_in_order e es order = λ i j d before within. order (suc i) (suc j) d (omega (arith, before))
    (omega (arith, within))

ascend : (contents : Contents) (es : List (Key × LsaBody)) → AllSaid contents es → InOrder es
    → Ascend (filter_map node_of es)
ascend contents [] says order = none_pairs (λ (a : Node) (b : Node). node_cmp a b ≡ Less)
ascend contents (e ∷ es) says order =
    let later : (one : Key × LsaBody) → Contains es one → contents one.0 ≡ Some one.1 =
    λ one among. says one (later_is e es one among) in
    let rest = ascend contents es later (rest_in_order e es order) in
    let these = filter_map node_of es in
    elim (node_of e) as (λ o. node_of e ≡ o → Ascend (cons_option o these)) [
      | None ↦ λ _. rest
      | Some node ↦ λ is.
          more_pairs (λ (a : Node) (b : Node). node_cmp a b ≡ Less) node these
          (λ other among.
          let source = filtered_out node_of es other among in
          let lower = is_node contents e node (says e (first_is e es)) is in
          let upper = is_node contents source.from other (later source.from source.among)
          source.gives
          in
          let P : Key → Type 0 = λ k. key_cmp k (key_of other) ≡ Less in
          let Q : Key → Type 0 = λ k. key_cmp e.0 k ≡ Less in
          in_order node other (subst P lower.same
          (subst Q upper.same (first_before e es order source.from source.among))))
          rest
    ] refl

pub are_nodes : (contents : Contents) (es : List (Key × LsaBody)) → AreBodies (Some 2) contents es
    → AreNodes contents (filter_map node_of es)
are_nodes contents es advertised =
    let says : (one : Key × LsaBody) → Contains es one → contents one.0 ≡ Some one.1 =
    λ one among. ((advertised.each one.0 one.1).0 among).1 in
    record {
      each = λ node. (
        (λ among. let source = filtered_out node_of es node among in
            (is_node contents source.from node (says source.from source.among) source.gives).has),
        (λ has. let at = at_key contents node has in
            filtered_in node_of es (key_of node, at.says) node
            ((advertised.each (key_of node) at.says).1 (at.low, at.its)) at.made),
      );
      ascend = ascend contents es says advertised.ascend;
    }

pub few : (es : List (Key × LsaBody)) (n : ℕ) → length es ≤ n → length (filter_map node_of es) ≤ n
few es n count = omega (arith, filtered_few node_of es, count)

-- ---- the loop over them

pub kept_more : (es : List (Key × LsaBody)) (i : ℕ) (one : Key × LsaBody) → i < length es
    → one ≡ get_or es i one → filter_map node_of (take (i + 1) es) ≡ filter_map node_of (take i es)
    ++ cons_option (node_of one) []
kept_more es i one lt is =
    ap (filter_map node_of) (take_more es i one lt)
    ∙ filter_map-append node_of (take i es) (get_or es i one ∷ [])
    ∙ ap (λ (e : Key × LsaBody). filter_map node_of (take i es) ++ cons_option (node_of e) [])
    (sym is)

pub all_bodies : (nodes : List Node) (seen es : List (Key × LsaBody)) (k : ℕ) → seen ≡ es
    → length seen ≤ k → nodes ≡ filter_map node_of (take k seen) → nodes ≡ filter_map node_of es
all_bodies nodes seen es k same done e = e ∙ ap (filter_map node_of) (take_all k seen done ∙ same)
