-- The stable order by keys is unique.
use Rattle.std.proofs.Common.{◌≡◌, ◌<◌, ℕ, suc, ◌+◌, Bool, true, false, cond, not, ◌&&◌, List, []}
use Rattle.std.proofs.Common.{◌∷◌, length, get_or, refl, sym, ap, subst, ◌∙◌, arith}
use Rattle.std.specs.List.{AllByRecursion, filter}
use Rattle.std.specs.List.Sorted.{IsSortedByKey, IsStableByKey, ties}
use Rattle.std.specs.Cmp.{tied_itself}
use Rattle.std.specs.Ordering.{is_eq, is_gt, is_lt, ordering_reverse}
use Rattle.std.specs.declared.cmp.Ordering.{Ordering}
use Rattle.std.specs.declared.cmp.Ordering.TheVariants.{Less, Equal, Greater}
use Rattle.std.proofs.lemmas.List.Sorted.{ranks_by, sorted_far}
use Rattle.words.specs.declared.key.Key.{Key}
use Rattle.lsdb.specs.Keys.{key_cmp, same_key}
use Rattle.lsdb.proofs.Keys.{keys_exact, keys_total}
use Rattle.event_rules.specs.Packing.{in_key_order, is_after}
use Rattle.event_rules.specs.PackingLaws.{IsAscending}
use Rattle.event_rules.proofs.Packings.{ordered}

-- ---- keys

is_same : (k : Key) → same_key k k ≡ true
is_same k = ap is_eq (tied_itself keys_total k)

below_by : (r : Ordering) (k a b : Key) → key_cmp k a ≡ Less → key_cmp a b ≡ r → is_gt r ≡ false
    → key_cmp k b ≡ Less
below_by Less k a b p q e = keys_total.trans k a b p q
below_by Equal k a b p q e = ap (λ c. key_cmp k c) (sym (keys_exact a b q)) ∙ p
below_by Greater k a b p q e = absurd (cc)

-- less than all keys that aren't less than a greater one
below : (k a b : Key) → key_cmp k a ≡ Less → is_after a b ≡ false → key_cmp k b ≡ Less
below k a b p e = below_by (key_cmp a b) k a b p refl e

reversed : (r : Ordering) → is_lt r ≡ false → is_gt (ordering_reverse r) ≡ false
reversed Less e = absurd (cc)
reversed Equal e = refl
reversed Greater e = refl

not_after : (a b : Key) → is_lt (key_cmp b a) ≡ false → is_after a b ≡ false
not_after a b e = ap is_gt (keys_total.antisymm a b) ∙ reversed (key_cmp b a) e

tie_by : (r : Ordering) → (not (is_lt r) && not (is_lt (ordering_reverse r))) ≡ is_eq r
tie_by Less = refl
tie_by Equal = refl
tie_by Greater = refl

tie : (a b : Key) → (not (is_lt (key_cmp a b)) && not (is_lt (key_cmp b a))) ≡ same_key a b
tie a b = ap (λ r. not (is_lt (key_cmp a b)) && not (is_lt r)) (keys_total.antisymm b a)
    ∙ tie_by (key_cmp a b)

-- ---- lists

empty_has_none : {X : Type 0} (x : X) (xs : List X) → [] ≡ x ∷ xs → ⊥
empty_has_none x xs e = cc

each : {X : Type 0} (P : X → Type 0) (xs : List X)
    → ((i : ℕ) (d : X) → i < length xs → P (get_or xs i d)) → AllByRecursion P xs
each P [] h = tt
each P (x ∷ xs) h = (h 0 x (omega arith), each P xs (λ i d lt. h (suc i) d (omega (arith, lt))))

module _ {X : Type 0} (key : X → Key) where
  same_as : X → List X → List X
  same_as x xs = filter (λ w. same_key (key x) (key w)) xs

  abbrev AreBehind : Key → List X → Type 0
  AreBehind k xs = AllByRecursion (λ w. key_cmp k (key w) ≡ Less) xs

  none_same : (x : X) (xs : List X) → AreBehind (key x) xs → same_as x xs ≡ []
  unfolding same_as
  none_same x [] all = refl
  none_same x (y ∷ ys) all =
      ap (λ r. cond (is_eq r) (y ∷ filter (λ w. same_key (key x) (key w)) ys)
      (filter (λ w. same_key (key x) (key w)) ys)) all.0
      ∙ none_same x ys all.1

  all_behind : (k : Key) (z : X) (zs : List X) → key_cmp k (key z) ≡ Less
      → AllByRecursion (λ w. is_after (key z) (key w) ≡ false) zs → AreBehind k zs
  all_behind k z [] p all = tt
  all_behind k z (w ∷ ws) p all = (below k (key z) (key w) p all.0, all_behind k z ws p all.1)

  same_first : (x : X) (xs : List X) → same_as x (x ∷ xs) ≡ x ∷ same_as x xs
  unfolding same_as
  same_first x xs = ap (λ b. cond b (x ∷ same_as x xs) (same_as x xs)) (is_same (key x))

  -- if the key of x is less than all keys of a list, a list that begins with x has another one of
  -- that key
  apart : (x z : X) (xs zs : List X) → key_cmp (key x) (key z) ≡ Less → IsAscending key (z ∷ zs)
      → same_as x (x ∷ xs) ≡ same_as x (z ∷ zs) → ⊥
  apart x z xs zs less up same =
      empty_has_none x (same_as x xs)
      (sym (none_same x (z ∷ zs) (less, all_behind (key x) z zs less up.0)) ∙ sym same
      ∙ same_first x xs)

  first_same : (a b : X) (more others : List X) → a ∷ more ≡ b ∷ others → a ≡ b
  first_same a b more others e = cc

  rest_same : (p : Bool) (a b : X) (more others : List X)
      → cond p (a ∷ more) more ≡ cond p (b ∷ others) others → more ≡ others
  rest_same true a b more others e = cc
  rest_same false a b more others e = e

  heads : (y z : X) (ys zs : List X) → key y ≡ key z → same_as y (y ∷ ys) ≡ same_as y (z ∷ zs)
      → y ≡ z
  unfolding same_as
  heads y z ys zs is same =
      first_same y z (same_as y ys) (same_as y zs)
      (sym (same_first y ys) ∙ same ∙ ap (λ b. cond b (z ∷ same_as y zs) (same_as y zs))
      (ap (λ k. same_key (key y) k) (sym is) ∙ is_same (key y)))

  tails : (y z : X) (ys zs : List X) → key y ≡ key z
      → ((x : X) → same_as x (y ∷ ys) ≡ same_as x (z ∷ zs)) → (x : X) → same_as x ys ≡ same_as x zs
  unfolding same_as
  tails y z ys zs is same x =
      rest_same (same_key (key x) (key z)) y z (same_as x ys) (same_as x zs)
      (ap (λ k. cond (same_key (key x) k) (y ∷ same_as x ys) (same_as x ys)) (sym is) ∙ same x)

  less_by : (r : Ordering) → ordering_reverse r ≡ Greater → r ≡ Less
  less_by Less e = refl
  less_by Equal e = absurd (cc)
  less_by Greater e = absurd (cc)

  unique : (ys zs : List X) → IsAscending key ys → IsAscending key zs
      → ((x : X) → same_as x ys ≡ same_as x zs) → ys ≡ zs
  unfolding same_as
  unique [] [] up vp same = refl
  unique [] (z ∷ zs) up vp same = absurd
      (empty_has_none z (same_as z zs) (same z ∙ same_first z zs))
  unique (y ∷ ys) [] up vp same = absurd
      (empty_has_none y (same_as y ys) (sym (same y) ∙ same_first y ys))
  unique (y ∷ ys) (z ∷ zs) up vp same =
      by_order (key_cmp (key y) (key z)) refl (unique ys zs up.1 vp.1)
    where
      by_order : (r : Ordering) → key_cmp (key y) (key z) ≡ r
          → (((x : X) → same_as x ys ≡ same_as x zs) → ys ≡ zs) → y ∷ ys ≡ z ∷ zs
      by_order Less e rest = absurd (apart y z ys zs e vp (same y))
      by_order Equal e rest =
          let is : key y ≡ key z = keys_exact (key y) (key z) e in
          let head : y ≡ z = heads y z ys zs is (same y) in
          let tail : ys ≡ zs = rest (tails y z ys zs is same) in
          λ i. head i ∷ tail i
      by_order Greater e rest =
          let less : key_cmp (key z) (key y) ≡ Less =
          less_by (key_cmp (key z) (key y)) (sym (keys_total.antisymm (key y) (key z)) ∙ e) in
          absurd (apart z y zs ys less up (sym (same z)))

  -- ---- the result of a stable sort

  ascending : (xs : List X) → IsSortedByKey key key_cmp xs → IsAscending key xs
  ascending [] up = tt
  ascending (x ∷ xs) up = (
    each (λ w. is_after (key x) (key w) ≡ false) xs
        (λ i d lt. not_after (key x) (key (get_or xs i d))
        (sorted_far (λ a b. is_lt (key_cmp (key a) (key b))) (ranks_by keys_total key) (x ∷ xs) up 0
        (suc i) d (omega arith) (omega (arith, lt)))),
    ascending xs (λ k d low high.
        let next : suc k + 1 ≡ suc (k + 1) = omega arith in
        subst (λ n. is_lt (key_cmp (key (get_or (x ∷ xs) n d)) (key (get_or xs k d))) ≡ false) next
        (up (suc k) d (omega arith) (omega (arith, high)))),
  )

  stays : (x : X) (xs ys : List X) → IsStableByKey key key_cmp xs ys → same_as x ys ≡ same_as x xs
  unfolding same_as
  stays x xs ys stable =
      let same : (w : X) → ties (λ a b. is_lt (key_cmp (key a) (key b))) x w
      ≡ same_key (key x) (key w) = λ w. tie (key x) (key w) in
      sym (λ i. filter (λ w. same w i) ys) ∙ stable x ∙ (λ i. filter (λ w. same w i) xs)

  pub sorted_is : (xs ys : List X) → IsSortedByKey key key_cmp ys → IsStableByKey key key_cmp xs ys
      → ys ≡ in_key_order key xs
  unfolding same_as
  sorted_is xs ys up stable =
      unique ys (in_key_order key xs) (ascending ys up) (ordered key xs).ascending
      (λ x. stays x xs ys stable ∙ sym ((ordered key xs).same (key x)))
