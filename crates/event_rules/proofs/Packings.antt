-- The order and the packing of what is sent.
use Rattle.std.proofs.Common.{◌≡◌, ◌≤◌, ◌<◌, ℕ, ◌+◌, Bool, true, false, cond, List, [], ◌∷◌, ◌++◌}
use Rattle.std.proofs.Common.{map, refl, sym, ap, subst, ◌∙◌, arith, append_assoc, lit≤}
use Rattle.std.proofs.lemmas.Bool.{leb-false, leb-true}
use Rattle.std.specs.Prelude.{nat_le}
use Rattle.std.specs.List.{AllByRecursion, enumerate_from, filter, filter_map, flat_map}
use Rattle.std.specs.Cmp.{tied_itself}
use Rattle.std.specs.Ordering.{is_eq, is_gt, ordering_reverse}
use Rattle.std.specs.declared.cmp.Ordering.{Ordering}
use Rattle.std.specs.declared.cmp.Ordering.TheVariants.{Less, Equal, Greater}
use Rattle.words.specs.declared.key.Key.{Key}
use Rattle.lsdb.specs.Headers.{Header}
use Rattle.lsdb.specs.Keys.{key_cmp, same_key}
use Rattle.lsdb.proofs.Keys.{keys_exact, keys_total}
use Rattle.packet.specs.declared.model.PacketBody.{PacketBody}
use Rattle.received.specs.Links.{Link}
use Rattle.received.specs.AreaStates.{Send, at_interface}
use Rattle.event_rules.specs.declared.model.Out.{Out}
use Rattle.event_rules.specs.Packing.{bodies, fill_on, header_size, in_key_order}
use Rattle.event_rules.specs.Packing.{is_after}
use Rattle.event_rules.specs.Packing.{out_of, outs_at, outs_of, packed_groups, insert_by_key}
use Rattle.event_rules.specs.PackingLaws.{AreByInterface, AreFull, IsAscending, IsFull}
use Rattle.event_rules.specs.PackingLaws.{IsInKeyOrder}
use Rattle.event_rules.specs.PackingLaws.{IsPacking, sizes, total}

-- ---- the order of keys

-- from the results of two comparisons
not_after_by : (r s : Ordering) (x y z : Key) → key_cmp x y ≡ r → key_cmp y z ≡ s → is_gt r ≡ false
    → is_gt s ≡ false → is_gt (key_cmp x z) ≡ false
not_after_by Less Less x y z p q f g = ap is_gt (keys_total.trans x y z p q)
not_after_by Less Equal x y z p q f g =
    ap (λ w. is_gt (key_cmp x w)) (sym (keys_exact y z q)) ∙ ap is_gt p
not_after_by Less Greater x y z p q f g = absurd (cc)
not_after_by Equal s x y z p q f g = ap is_gt (keys_total.congr x y z p) ∙ ap is_gt q ∙ g
not_after_by Greater s x y z p q f g = absurd (cc)

not_after : (x y z : Key) → is_after x y ≡ false → is_after y z ≡ false → is_after x z ≡ false
not_after x y z f g = not_after_by (key_cmp x y) (key_cmp y z) x y z refl refl f g

after_by : (r : Ordering) → is_gt (ordering_reverse r) ≡ true → is_gt r ≡ false
after_by Less e = refl
after_by Equal e = absurd (cc)
after_by Greater e = absurd (cc)

after_not : (x y : Key) → is_after x y ≡ true → is_after y x ≡ false
after_not x y e = after_by (key_cmp y x) (ap is_gt (sym (keys_total.antisymm x y)) ∙ e)

module _ {X : Type 0} (key : X → Key) where
  pub put_all : (P : X → Type 0) (x : X) (ys : List X) → P x → AllByRecursion P ys
      → AllByRecursion P (insert_by_key key x ys)
  put_all P x [] p all = (p, tt)
  put_all P x (y ∷ ys) p all = by_test (is_after (key x) (key y)) (put_all P x ys p all.1)
    where
      by_test : (b : Bool) → AllByRecursion P (insert_by_key key x ys)
          → AllByRecursion P (cond b (y ∷ insert_by_key key x ys) (x ∷ (y ∷ ys)))
      by_test true rest = (all.0, rest)
      by_test false rest = (p, all)

  behind_all : (x y : X) (ys : List X) → is_after (key x) (key y) ≡ false
      → AllByRecursion (λ z. is_after (key y) (key z) ≡ false) ys
      → AllByRecursion (λ z. is_after (key x) (key z) ≡ false) ys
  behind_all x y [] f all = tt
  behind_all x y (z ∷ zs) f all = (
    not_after (key x) (key y) (key z) f all.0,
    behind_all x y zs f all.1,
  )

  put_ascends : (x : X) (ys : List X) → IsAscending key ys
      → IsAscending key (insert_by_key key x ys)
  put_ascends x [] up = (tt, tt)
  put_ascends x (y ∷ ys) up = by_test (is_after (key x) (key y)) refl (put_ascends x ys up.1)
    where
      by_test : (b : Bool) → is_after (key x) (key y) ≡ b → IsAscending key (insert_by_key key x ys)
          → IsAscending key (cond b (y ∷ insert_by_key key x ys) (x ∷ (y ∷ ys)))
      by_test true e rest = (
        put_all (λ z. is_after (key y) (key z) ≡ false) x ys
            (after_not (key x) (key y) e) up.0,
        rest,
      )
      by_test false e rest = ((e, behind_all x y ys e up.0), up)

  ascends : (xs : List X) → IsAscending key (in_key_order key xs)
  ascends [] = tt
  ascends (x ∷ xs) = put_ascends x (in_key_order key xs) (ascends xs)

  -- two keys that are equal to one key aren't one after the other
  tied_both : (k a b : Key) → same_key k a ≡ true → same_key k b ≡ true → is_after a b ≡ false
  tied_both k a b p q =
      let one : k ≡ a = keys_exact k a (equal_is (key_cmp k a) p) in
      let other : k ≡ b = keys_exact k b (equal_is (key_cmp k b) q) in
      (λ i. is_gt (key_cmp (sym one i) (sym other i))) ∙ ap is_gt (tied_itself keys_total k)
    where
      equal_is : (r : Ordering) → is_eq r ≡ true → r ≡ Equal
      equal_is Less e = absurd (cc)
      equal_is Equal e = refl
      equal_is Greater e = absurd (cc)

  swapped : (p q : Bool) (x y : X) (zs : List X) → (p ≡ true → q ≡ true → ⊥)
      → cond p (y ∷ cond q (x ∷ zs) zs) (cond q (x ∷ zs) zs)
      ≡ cond q (x ∷ cond p (y ∷ zs) zs) (cond p (y ∷ zs) zs)
  swapped true true x y zs apart = absurd (apart refl refl)
  swapped true false x y zs apart = refl
  swapped false true x y zs apart = refl
  swapped false false x y zs apart = refl

  put_same : (k : Key) (x : X) (ys : List X)
      → filter (λ z. same_key k (key z)) (insert_by_key key x ys)
      ≡ filter (λ z. same_key k (key z)) (x ∷ ys)
  put_same k x [] = refl
  put_same k x (y ∷ ys) = by_test (is_after (key x) (key y)) refl (put_same k x ys)
    where
      contradiction : true ≡ false → ⊥
      contradiction f = cc

      never : is_after (key x) (key y) ≡ true → same_key k (key y) ≡ true
          → same_key k (key x) ≡ true → ⊥
      never e q p = contradiction (sym e ∙ tied_both k (key x) (key y) p q)

      by_test : (b : Bool) → is_after (key x) (key y) ≡ b
          → filter (λ z. same_key k (key z)) (insert_by_key key x ys)
          ≡ filter (λ z. same_key k (key z)) (x ∷ ys)
          → filter (λ z. same_key k (key z))
          (cond b (y ∷ insert_by_key key x ys) (x ∷ (y ∷ ys)))
          ≡ filter (λ z. same_key k (key z)) (x ∷ (y ∷ ys))
      by_test true e rest =
          ap (λ zs. cond (same_key k (key y)) (y ∷ zs) zs) rest
          ∙ swapped (same_key k (key y)) (same_key k (key x)) x y
          (filter (λ z. same_key k (key z)) ys) (never e)
      by_test false e rest = refl

  keeps : (k : Key) (xs : List X) → filter (λ z. same_key k (key z)) (in_key_order key xs)
      ≡ filter (λ z. same_key k (key z)) xs
  keeps k [] = refl
  keeps k (x ∷ xs) = put_same k x (in_key_order key xs)
      ∙ ap (λ zs. cond (same_key k (key x)) (x ∷ zs) zs) (keeps k xs)

  pub ordered : (xs : List X) → IsInKeyOrder key xs (in_key_order key xs)
  ordered xs = record { ascending = ascends xs; same = λ k. keeps k xs }

-- ---- packing

module _ {X : Type 0} (size : X → ℕ) (start : ℕ) where
  total_more : (xs : List X) (x : X)
      → total size start (xs ++ (x ∷ [])) ≡ total size start xs + size x
  total_more xs x = ap (λ n. start + n) (sum_more xs) ∙ sums
    where
      sums : start + (sizes size xs + size x) ≡ start + sizes size xs + size x
      sums = omega arith

      further : (a b c : ℕ) → a + (b + c) ≡ a + b + c
      further a b c = omega arith

      sum_more : (ys : List X) → sizes size (ys ++ (x ∷ [])) ≡ sizes size ys + size x
      sum_more [] = one (size x)
        where
          one : (n : ℕ) → n + 0 ≡ 0 + n
          one n = omega arith
      sum_more (y ∷ ys) = ap (λ n. size y + n) (sum_more ys)
          ∙ further (size y) (sizes size ys) (size x)

  all_there : (xs taken : List X) (used : ℕ)
      → flat_map (λ p. p) (fill_on size start used taken xs) ≡ taken ++ xs
  all_there [] taken used = refl
  all_there (x ∷ xs) taken used =
      by_test (nat_le (used + size x) 8192) (all_there xs (taken ++ (x ∷ [])) (used + size x))
      (all_there xs (x ∷ []) (start + size x))
    where
      by_test : (b : Bool) → flat_map (λ p. p)
          (fill_on size start (used + size x) (taken ++ (x ∷ [])) xs) ≡ (taken ++ (x ∷ [])) ++ xs
          → flat_map (λ p. p) (fill_on size start (start + size x) (x ∷ []) xs) ≡ x ∷ xs
          → flat_map (λ p. p) (cond b (fill_on size start (used + size x)
          (taken ++ (x ∷ [])) xs) (taken
          ∷ fill_on size start (start + size x) (x ∷ []) xs)) ≡ taken ++ (x ∷ xs)
      by_test true one other = one ∙ append_assoc taken (x ∷ []) xs
      by_test false one other = ap (λ rest. taken ++ rest) other

  -- a packet that is being filled begins with the items it has
  begins_with : (x : X) (t xs : List X) (used : ℕ)
      → (rest : List X) × (more : List (List X))
      × (fill_on size start used (x ∷ t) xs ≡ (x ∷ rest) ∷ more)
  begins_with x t [] used = (t, [], refl)
  begins_with x t (y ∷ ys) used =
      by_test (nat_le (used + size y) 8192) (begins_with x (t ++ (y ∷ [])) ys (used + size y))
    where
      by_test : (b : Bool) → (rest : List X) × (more : List (List X))
          × (fill_on size start (used + size y) (x ∷ (t ++ (y ∷ []))) ys ≡ (x ∷ rest) ∷ more)
          → (rest : List X) × (more : List (List X))
          × (cond b (fill_on size start (used + size y) (x ∷ (t ++ (y ∷ []))) ys)
          ((x ∷ t) ∷ fill_on size start (start + size y) (y ∷ []) ys) ≡ (x ∷ rest)
          ∷ more)
      by_test true one = one
      by_test false one = (t, fill_on size start (start + size y) (y ∷ []) ys, refl)

  starts_with : (x : X) (xs taken : List X) (used : ℕ) → 8192 < total size start taken + size x
      → IsFull size start taken (fill_on size start used (x ∷ []) xs)
  starts_with x xs taken used beyond =
      let first = begins_with x [] xs used in
      subst (λ ps. IsFull size start taken ps) (sym first.2) beyond

  all_within : (xs taken : List X) (used : ℕ) → used ≡ total size start taken → used ≤ 8192
      → AllByRecursion (λ x. start + size x ≤ 8192) xs
      → AllByRecursion (λ p. total size start p ≤ 8192) (fill_on size start used taken xs)
  all_within [] taken used is le fit = (subst (λ n. n ≤ 8192) is le, tt)
  all_within (x ∷ xs) taken used is le fit =
      by_test (nat_le (used + size x) 8192) refl
      (λ more. all_within xs (taken ++ (x ∷ [])) (used + size x)
      (ap (λ n. n + size x) is ∙ sym (total_more taken x)) more fit.1)
      (all_within xs (x ∷ []) (start + size x) (one x) fit.0 fit.1)
    where
      one : (y : X) → start + size y ≡ total size start (y ∷ [])
      one y = ap (λ n. start + n) (zero_behind (size y))
        where
          zero_behind : (n : ℕ) → n ≡ n + 0
          zero_behind n = omega arith

      by_test : (b : Bool) → nat_le (used + size x) 8192 ≡ b
          → (used + size x ≤ 8192 → AllByRecursion (λ p. total size start p ≤ 8192)
          (fill_on size start (used + size x) (taken ++ (x ∷ [])) xs))
          → AllByRecursion (λ p. total size start p ≤ 8192)
          (fill_on size start (start + size x) (x ∷ []) xs)
          → AllByRecursion (λ p. total size start p ≤ 8192)
          (cond b (fill_on size start (used + size x) (taken ++ (x ∷ [])) xs)
          (taken ∷ fill_on size start (start + size x) (x ∷ []) xs))
      by_test true e fits other = fits (leb-true (used + size x) 8192 e)
      by_test false e fits other = (subst (λ n. n ≤ 8192) is le, other)

  all_full : (xs taken : List X) (used : ℕ) → used ≡ total size start taken
      → AreFull size start (fill_on size start used taken xs)
  all_full [] taken used is = (tt, tt)
  all_full (x ∷ xs) taken used is =
      by_test (nat_le (used + size x) 8192) refl
      (all_full xs (taken ++ (x ∷ [])) (used + size x)
      (ap (λ n. n + size x) is ∙ sym (total_more taken x)))
      (all_full xs (x ∷ []) (start + size x) (one x))
    where
      one : (y : X) → start + size y ≡ total size start (y ∷ [])
      one y = ap (λ n. start + n) (zero_behind (size y))
        where
          zero_behind : (n : ℕ) → n ≡ n + 0
          zero_behind n = omega arith

      beyond : nat_le (used + size x) 8192 ≡ false → 8192 < total size start taken + size x
      beyond e = subst (λ n. 8192 < n + size x) is (leb-false (used + size x) 8192 e)

      by_test : (b : Bool) → nat_le (used + size x) 8192 ≡ b
          → AreFull size start (fill_on size start (used + size x) (taken ++ (x ∷ [])) xs)
          → AreFull size start (fill_on size start (start + size x) (x ∷ []) xs)
          → AreFull size start (cond b
          (fill_on size start (used + size x) (taken ++ (x ∷ [])) xs)
          (taken ∷ fill_on size start (start + size x) (x ∷ []) xs))
      by_test true e fits other = fits
      by_test false e fits other = (starts_with x xs taken (start + size x) (beyond e), other)

  alone : (x : X) → start + size x ≡ total size start (x ∷ [])
  alone x = ap (λ n. start + n) (zero_behind (size x))
    where
      zero_behind : (n : ℕ) → n ≡ n + 0
      zero_behind n = omega arith

  pub packs : (xs : List X) → AllByRecursion (λ x. start + size x ≤ 8192) xs
      → IsPacking size start xs (packed_groups size start xs)
  packs [] fit = record { all = refl; within = tt; full = tt }
  packs (x ∷ xs) fit = record {
    all = all_there xs (x ∷ []) (start + size x);
    within = all_within xs (x ∷ []) (start + size x) (alone x) fit.0 fit.1;
    full = all_full xs (x ∷ []) (start + size x) (alone x);
  }

-- ---- interfaces

module _ (own : ℕ) (sends : List Send) where
  from_interface : (k n : ℕ) (link : Link) → k ≤ n → (bs : List PacketBody)
      → AllByRecursion (λ (o : Out). k ≤ o.interface) (map (out_of own n) bs)
  from_interface k n link le [] = tt
  from_interface k n link le (b ∷ bs) = (le, from_interface k n link le bs)

  both_from : (k : ℕ) (ps qs : List Out) → AllByRecursion (λ (o : Out). k ≤ o.interface) ps
      → AllByRecursion (λ (o : Out). k ≤ o.interface) qs
      → AllByRecursion (λ (o : Out). k ≤ o.interface) (ps ++ qs)
  both_from k [] qs p q = q
  both_from k (o ∷ ps) qs p q = (p.0, both_from k ps qs p.1 q)

  all_from : (k n : ℕ) (links : List Link) → k ≤ n
      → AllByRecursion (λ (o : Out). k ≤ o.interface)
      (flat_map (λ (e : ℕ × Link). outs_at own sends e.0 e.1) (enumerate_from n links))
  all_from k n [] le = tt
  all_from k n (link ∷ links) le =
      let more : k ≤ n + 1 = omega (arith, le) in
      both_from k (outs_at own sends n link)
      (flat_map (λ (e : ℕ × Link). outs_at own sends e.0 e.1) (enumerate_from (n + 1) links))
      (from_interface k n link le (bodies link.interface.delay (filter_map (at_interface n) sends)))
      (all_from k (n + 1) links more)

  in_front : (n : ℕ) (bs : List PacketBody) (outs : List Out)
      → AllByRecursion (λ (o : Out). n ≤ o.interface) outs → AreByInterface outs
      → AreByInterface (map (out_of own n) bs ++ outs)
  in_front n [] outs from by = by
  in_front n (b ∷ bs) outs from by =
      let same : n ≤ n = omega arith in (
        both_from n (map (out_of own n) bs) outs (same_interface bs same) from,
        in_front n bs outs from by,
      )
    where
      same_interface : (cs : List PacketBody) → n ≤ n
          → AllByRecursion (λ (o : Out). n ≤ o.interface) (map (out_of own n) cs)
      same_interface [] le = tt
      same_interface (c ∷ cs) le = (le, same_interface cs le)

  by_interface_from : (n : ℕ) (links : List Link)
      → AreByInterface (flat_map (λ (e : ℕ × Link). outs_at own sends e.0 e.1)
      (enumerate_from n links))
  by_interface_from n [] = tt
  by_interface_from n (link ∷ links) =
      let le : n ≤ n + 1 = omega arith in
      in_front n (bodies link.interface.delay (filter_map (at_interface n) sends))
      (flat_map (λ (e : ℕ × Link). outs_at own sends e.0 e.1) (enumerate_from (n + 1) links))
      (all_from n (n + 1) links le) (by_interface_from (n + 1) links)

pub by_interface : (own : ℕ) (links : List Link) (sends : List Send)
    → AreByInterface (outs_of own links sends)
by_interface own links sends = by_interface_from own sends 1 links

pub headers_fit : (hs : List Header) → AllByRecursion (λ h. 24 + header_size h ≤ 8192) hs
headers_fit [] = tt
headers_fit (h ∷ hs) = (lit≤ tt, headers_fit hs)
