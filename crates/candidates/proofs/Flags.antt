-- Area border routers and AS boundary routers in a list that is sorted by their Router IDs.
use Rattle.std.proofs.Common.{◌≡◌, ℕ, zero, suc, ◌+◌, ◌<◌, ◌≤◌, ◌⊎◌, inl, inr, false, List, [], ◌∷◌}
use Rattle.std.proofs.Common.{◌++◌, length, get_or, take, Some, None, refl, sym, ◌∙◌, ap, subst}
use Rattle.std.proofs.Common.{arith}
use Rattle.std.specs.Prelude.{◌↔◌, bit_and}
use Rattle.std.specs.Cmp.{nat_cmp_is, nat_cmp_total}
use Rattle.std.specs.List.{AllPairs, Contains, HoldsAt}
use Rattle.std.specs.List.Sorted.{IsNonDecreasingBy, IsPartitionPoint}
use Rattle.std.specs.Ordering.{is_lt, nat_cmp, ordering_index, ordering_then}
use Rattle.std.specs.declared.cmp.Ordering.{Ordering}
use Rattle.std.specs.declared.cmp.Ordering.TheVariants.{Equal, Greater, Less}
use Rattle.std.proofs.lemmas.Bool.{cases_lt}
use Rattle.std.proofs.lemmas.List.{take_all, take_more}
use Rattle.std.proofs.lemmas.List.Elements.{Contains-append_left, Contains-get_or, Contains-push}
use Rattle.std.proofs.lemmas.List.Elements.{Contains-push_cases}
use Rattle.std.proofs.lemmas.List.Quantifiers.{all_pairs_push}
use Rattle.std.proofs.lemmas.List.Sorted.{searchable_from_sorted}
use Rattle.std.proofs.lemmas.Map.Lookups.{exact_unsigned}
use Rattle.words.specs.declared.key.Key.{Key}
use Rattle.lsa.specs.declared.body.LsaBody.{LsaBody}
use Rattle.lsa.specs.declared.body.LsaBody.TheVariants as body
use Rattle.lsdb.specs.Keys.{key_cmp}
use Rattle.routes.specs.Links.{router_key}
use Rattle.routes.specs.Contents.{Contents}
use Rattle.routes.specs.declared.graph.Way.{Way}
use Rattle.routes.specs.declared.node.Node.TheVariants.{ARouter}
use Rattle.routes.proofs.Lists.{of_cons, of_empty}
use Rattle.candidates.specs.Bodies.{HaveAll}
use Rattle.candidates.specs.Borders.{FlaggedDistancesFit, AreFlagged, AscendByRouter}
use Rattle.candidates.specs.Borders.{IsBorderOrBoundaryFlag}
use Rattle.candidates.specs.Borders.{IsListed}
use Rattle.candidates.specs.Borders.{TellsFlags}
use Rattle.candidates.specs.Gathering.{IsOnly}
use Rattle.candidates.specs.Ways.{DistancesFit, Ways}
use Rattle.candidates.specs.declared.flagged.Flagged.{Flagged}

-- ---- one after another

-- one of them describes it
abbrev pub IsTold : {X : Type 0} → (X → Flagged → Type 0) → List X → Flagged → Type 0
IsTold {X} Q xs r = (x : X) × Contains xs x × Q x r

-- exactly those that are described, sorted
pub record AreTold {X : Type 0} (Q : X → Flagged → Type 0) (xs : List X) (routers : List Flagged) :
    Type 0 where
  pub each : (r : Flagged) → Contains routers r ↔ IsTold Q xs r
  pub ascend : AscendByRouter routers

abbrev Lower : Flagged → Flagged → Type 0
Lower a b = a.router < b.router

module _ {X : Type 0} (Before : X → X → Type 0) where
  before_at : (xs : List X) (i : ℕ) (d : X) → AllPairs Before xs → i < length xs → (y : X)
      → Contains (take i xs) y → Before y (get_or xs i d)
  before_at [] i d all lt y among = absurd (omega (arith, lt))
  before_at (x ∷ xs) zero d all lt y among = absurd (of_empty y among)
  before_at (x ∷ xs) (suc i) d all lt y among =
      elim (of_cons x (take i xs) y among) [
        | inl here ↦ subst (λ z. Before z (get_or xs i d)) here
            (all zero (suc i) d (omega arith) lt)
        | inr later ↦ before_at xs i d (λ a b e low within. all (suc a) (suc b) e
            (omega (arith, low)) (omega (arith, within))) (omega (arith, lt)) y later
      ]

module _ {X : Type 0} (Q : X → Flagged → Type 0) where
  pub all_told : (xs : List X) (i : ℕ) (routers : List Flagged) → length xs ≤ i
      → AreTold Q (take i xs) routers → AreTold Q xs routers
  all_told xs i routers past advertised = let P : List X → Type 0 = λ ys. AreTold Q ys routers in
      subst P (take_all i xs past) advertised

  module _ (xs : List X) (i : ℕ) (x : X) (is : x ≡ get_or xs i x) (lt : i < length xs)
      (routers : List Flagged) (advertised : AreTold Q (take i xs) routers) where
    split : take (i + 1) xs ≡ take i xs ++ x ∷ []
    split = take_more xs i x lt ∙ ap (λ (y : X). take i xs ++ y ∷ []) (sym is)

    still : (r : Flagged) → IsTold Q (take i xs) r → IsTold Q (take (i + 1) xs) r
    still r p = (
      p.0,
      subst (λ ys. Contains ys p.0) (sym split)
          (Contains-append_left (take i xs) (x ∷ []) p.0 p.1),
      p.2,
    )

    here : (r : Flagged) → Q x r → IsTold Q (take (i + 1) xs) r
    here r q = (x, subst (λ ys. Contains ys x) (sym split) (Contains-push (take i xs) x), q)

    either : (r : Flagged) → IsTold Q (take (i + 1) xs) r → IsTold Q (take i xs) r ⊎ Q x r
    either r p =
        elim (Contains-push_cases (take i xs) x p.0 (subst (λ ys. Contains ys p.0) split p.1)) [
          | inl old ↦ inl (p.0, old, p.2)
          | inr same ↦ inr (subst (λ (y : X). Q y r) (sym same) p.2)
        ]

    pub told_same : ((r : Flagged) → Q x r → ⊥) → AreTold Q (take (i + 1) xs) routers
    told_same none = record {
      each = λ r. (
        (λ t. still r ((advertised.each r).0 t)),
        (λ p.
            elim (either r p) [
              | inl old ↦ (advertised.each r).1 old
              | inr q ↦ absurd (none r q)
            ]),
      );
      ascend = advertised.ascend;
    }

    pub told_more : (Before : X → X → Type 0)
        → ((y z : X) (r s : Flagged) → Before y z → Q y r → Q z s → r.router < s.router)
        → AllPairs Before xs → (new : Flagged) → IsOnly (Q x) (Some new)
        → AreTold Q (take (i + 1) xs) (routers ++ new ∷ [])
    told_more Before up order new just = record {
      each = λ r. (
        (λ t.
            elim (Contains-push_cases routers new r t) [
              | inl old ↦ still r ((advertised.each r).0 old)
              | inr same ↦ here r ((just r).1 (sym same))
            ]),
        (λ p.
            elim (either r p) [
              | inl old ↦ Contains-append_left routers (new ∷ []) r ((advertised.each r).1 old)
              | inr q ↦ subst (Contains (routers ++ new ∷ [])) (sym ((just r).0 q))
                  (Contains-push routers new)
            ]),
      );
      ascend = all_pairs_push Lower routers new advertised.ascend (λ k d within.
          let r = get_or routers k d in
          let p = (advertised.each r).0 (Contains-get_or routers k d within) in
          let before : Before p.0 x = subst (Before p.0) (sym is)
          (before_at Before xs i x order lt p.0 p.1) in
          up p.0 x r new before p.2 ((just new).1 refl));
    }

-- ---- by the keys of their LSAs

ids_ascend : (a b : Key) → key_cmp a b ≡ Less → a.ls_type ≡ b.ls_type
    → a.link_state_id ≡ a.advertising_router → b.link_state_id ≡ b.advertising_router
    → a.advertising_router < b.advertising_router
ids_ascend a b before types one two =
    let t : Equal ≡ nat_cmp a.ls_type b.ls_type = nat_cmp_is a.ls_type b.ls_type Equal types in
    elim (cases_lt a.advertising_router b.advertising_router) [
      | inl less ↦ less
      | inr far ↦
          elim (cases_lt b.advertising_router a.advertising_router) [
            | inl more ↦
                let u : Greater ≡ nat_cmp a.link_state_id b.link_state_id =
                nat_cmp_is a.link_state_id b.link_state_id Greater
                (omega (arith, more, one, two)) in
                let greater : Greater ≡ key_cmp a b =
                λ i. ordering_then (t i) (ordering_then (u i)
                (nat_cmp a.advertising_router b.advertising_router)) in
                let no : Greater ≡ Less = greater ∙ before in
                absurd (cc)
            | inr last ↦
                let u : Equal ≡ nat_cmp a.link_state_id b.link_state_id =
                nat_cmp_is a.link_state_id b.link_state_id Equal
                (omega (arith, far, last, one, two)) in
                let v : Equal ≡ nat_cmp a.advertising_router b.advertising_router =
                nat_cmp_is a.advertising_router b.advertising_router Equal
                (omega (arith, far, last)) in
                let equal : Equal ≡ key_cmp a b =
                λ i. ordering_then (t i) (ordering_then (u i) (v i)) in
                let no : Equal ≡ Less = equal ∙ before in
                absurd (cc)
          ]
    ]

module _ (ways : Ways) where
  pub routers_ascend : (a b : Key × LsaBody) (r s : Flagged) → key_cmp a.0 b.0 ≡ Less
      → TellsFlags ways a r → TellsFlags ways b s → r.router < s.router
  routers_ascend a b r s before p q =
      omega (
        arith,
        ids_ascend a.0 b.0 before (p.is_type ∙ sym q.is_type) p.own q.own,
        p.its_router,
        q.its_router,
      )

  pub are_close : (bodies : List (Key × LsaBody)) (routers : List Flagged) → DistancesFit ways
      → AreTold (TellsFlags ways) bodies routers → FlaggedDistancesFit routers
  are_close bodies routers near advertised r among = let p = (advertised.each r).0 among in
      near (ARouter p.0.0.advertising_router) r.way p.2.reached

  pub has_one : (flags flag : ℕ) → IsBorderOrBoundaryFlag flag → bit_and flags flag ≡ flag
      → (bit_and flags 1 ≡ 1) ⊎ (bit_and flags 2 ≡ 2)
  has_one flags flag (inl e) is = inl (subst (λ f. bit_and flags f ≡ f) e is)
  has_one flags flag (inr e) is = inr (subst (λ f. bit_and flags f ≡ f) e is)

  pub are_flagged : (contents : Contents) (bodies : List (Key × LsaBody)) (routers : List Flagged)
      → HaveAll 1 contents bodies → AreTold (TellsFlags ways) bodies routers
      → AreFlagged contents ways routers
  are_flagged contents bodies routers have advertised router flag way is_flag = (
    (λ k.
        let r : Flagged = record { router = router; flags = k.lsa.flags; way = way } in
        let tells : TellsFlags ways (router_key router, body.Router k.lsa) r = record {
          is_type = refl;
          own = refl;
          lsa = k.lsa;
          its = refl;
          has_flag = has_one k.lsa.flags flag is_flag k.has_flag;
          reached = k.reached;
          its_router = refl;
          its_flags = refl;
        } in
        record {
          listed = r;
          among = (advertised.each r).1 (
            (router_key router, body.Router k.lsa),
            have.all (router_key router) (body.Router k.lsa) (omega arith) k.its,
            tells,
          );
          its_router = refl;
          has_flag = k.has_flag;
          its_way = refl;
        }),
    (λ k.
        let p = (advertised.each k.listed).0 k.among in
        let key = p.0.0 in
        let tells = p.2 in
        let by : key.advertising_router ≡ router = sym tells.its_router ∙ k.its_router in
        let own : key.link_state_id ≡ router = tells.own ∙ by in
        let at : key ≡ router_key router = λ i. record {
          ls_type = tells.is_type i;
          link_state_id = own i;
          advertising_router = by i;
        } in
        record {
          lsa = tells.lsa;
          its = ap contents (sym at) ∙ have.each key p.0.1 p.1
              ∙ ap (λ (b : LsaBody). Some b) tells.its;
          has_flag = subst (λ f. bit_and f flag ≡ flag) tells.its_flags k.has_flag;
          reached = ap (λ r. ways (ARouter r)) (sym by) ∙ tells.reached
              ∙ ap (λ (w : Way). Some w) (sym k.its_way);
        }),
  )

-- ---- found by binary search

not_less : (a b : ℕ) → a < b → is_lt (nat_cmp b a) ≡ false
not_less a b less = let e : Greater ≡ nat_cmp b a = nat_cmp_is b a Greater less in
    ap (λ r. is_lt r) (sym e)

pub searchable_by : (routers : List Flagged) (router : ℕ) → AscendByRouter routers
    → IsNonDecreasingBy (λ (y : Flagged). ordering_index (nat_cmp y.router router)) routers
searchable_by routers router up =
    searchable_from_sorted nat_cmp_total (λ (y : Flagged). y.router) routers router
    (λ k d low within. not_less (get_or routers k d).router (get_or routers (k + 1) d).router
    (up k (k + 1) d (omega arith) within))

one_of_id : (routers : List Flagged) → AscendByRouter routers → (r s : Flagged) → Contains routers r
    → Contains routers s → r.router ≡ s.router → r ≡ s
one_of_id routers up r s (i, in_i, is_r) (j, in_j, is_s) e =
    let at_i : get_or routers i s ≡ r = standing routers i s r in_i is_r in
    elim (cases_lt i j) [
      | inl before ↦
          let order : Lower r s = subst (λ a. Lower a s) at_i
          (subst (Lower (get_or routers i s)) is_s (up i j s before in_j)) in
          absurd (omega (arith, order, e))
      | inr far ↦
          elim (cases_lt j i) [
            | inl after ↦
                let order : Lower s r = subst (λ a. Lower a r) (standing routers j r s in_j is_s)
                (subst (Lower (get_or routers j r)) is_r (up j i r after in_i)) in
                absurd (omega (arith, order, e))
            | inr last ↦
                let same : i ≡ j = omega (arith, far, last) in
                sym at_i ∙ ap (λ k. get_or routers k s) same ∙ is_s
          ]
    ]
  where
    standing : (xs : List Flagged) (k : ℕ) (d x : Flagged) → k < length xs → get_or xs k x ≡ x
        → get_or xs k d ≡ x
    standing [] k d x within is = absurd (omega (arith, within))
    standing (y ∷ xs) zero d x within is = is
    standing (y ∷ xs) (suc k) d x within is = standing xs k d x (omega (arith, within)) is

-- the router is among them
abbrev pub IsAmong : List Flagged → ℕ → Flagged → Type 0
IsAmong routers router listed = Contains routers listed × (listed.router ≡ router)

pub just_router : (routers : List Flagged) (router : ℕ) → AscendByRouter routers → (r : Flagged)
    → IsAmong routers router r → IsOnly (IsAmong routers router) (Some r)
just_router routers router up r (among, its) = λ other. (
  λ f. one_of_id routers up other r f.0 among (f.1 ∙ sym its),
  λ e. subst (IsAmong routers router) (sym e) (among, its),
)

pub router_found : (routers : List Flagged) (router : ℕ) → AscendByRouter routers
    → (at : ℕ) (r : Flagged) → at < length routers
    → HoldsAt (λ (y : Flagged). nat_cmp y.router router ≡ Equal) routers at
    → r ≡ get_or routers at r → IsOnly (IsAmong routers router) (Some r)
router_found routers router up at r within holds is =
    let P : Flagged → Type 0 = λ y. nat_cmp y.router router ≡ Equal in
    let among : Contains routers r = (at, within, sym is) in
    let its : r.router ≡ router = exact_unsigned r.router router (subst P (sym is) (holds r)) in
    λ other. (
      λ f. one_of_id routers up other r f.0 among (f.1 ∙ sym its),
      λ e. subst (IsAmong routers router) (sym e) (among, its),
    )

pub router_not_found : (routers : List Flagged) (router : ℕ) (at : ℕ)
    → IsPartitionPoint (λ (y : Flagged). nat_cmp y.router router ≡ Less)
    (λ (y : Flagged). nat_cmp y.router router ≡ Greater) routers at
    → IsOnly (IsAmong routers router) None
router_not_found routers router at parts r f =
    let k = f.0.0 in
    let within : k < length routers = f.0.1 in
    let P : Ordering → Flagged → Type 0 = λ o y. nat_cmp y.router router ≡ o in
    let here : nat_cmp r.router router ≡ Equal = sym (nat_cmp_is r.router router Equal f.1) in
    elim (cases_lt k at) [
      | inl before ↦ let less : nat_cmp r.router router ≡ Less =
          subst (P Less) f.0.2 (parts.0 k r (omega arith) before) in
          absurd (let no : Equal ≡ Less = sym here ∙ less in cc)
      | inr after ↦ let more : nat_cmp r.router router ≡ Greater =
          subst (P Greater) f.0.2 (parts.1 k r (omega (arith, after)) within) in
          absurd (let no : Equal ≡ Greater = sym here ∙ more in cc)
    ]

-- ---- the way to it

module _ (routers : List Flagged) (router flag : ℕ) where
  pub no_way : IsOnly (IsAmong routers router) None → IsOnly (IsListed routers router flag) None
  no_way none = λ way k. none k.listed (k.among, k.its_router)

  pub another_flag : (r : Flagged) → IsOnly (IsAmong routers router) (Some r)
      → (bit_and r.flags flag ≡ flag → ⊥) → IsOnly (IsListed routers router flag) None
  another_flag r just other = λ way k.
      let same : k.listed ≡ r = (just k.listed).0 (k.among, k.its_router) in
      other (subst (λ (l : Flagged). bit_and l.flags flag ≡ flag) same k.has_flag)

  pub its_way : (r : Flagged) → IsOnly (IsAmong routers router) (Some r)
      → bit_and r.flags flag ≡ flag → IsOnly (IsListed routers router flag) (Some r.way)
  its_way r just has = λ way. (
    λ k. k.its_way ∙ ap (λ (l : Flagged). l.way) ((just k.listed).0 (k.among, k.its_router)),
    λ e. let a = (just r).1 refl in record {
      listed = r;
      among = a.0;
      its_router = a.1;
      has_flag = has;
      its_way = e;
    },
  )

pub is_close : (routers : List Flagged) (router : ℕ) (r : Flagged) → FlaggedDistancesFit routers
    → IsOnly (IsAmong routers router) (Some r) → r.way.distance < 1073741824
is_close routers router r close just = close r ((just r).1 refl).0
