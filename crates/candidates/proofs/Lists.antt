-- Lists of what passes a test, and strictly sorted lists.
use Rattle.std.proofs.Common.{◌≡◌, ℕ, zero, suc, ◌+◌, ◌<◌, ◌≤◌, ◌⊎◌, ◌↔◌, inl, inr, List, [], ◌∷◌}
use Rattle.std.proofs.Common.{◌++◌, length, take, get_or, Option, None, Some, refl, sym, ◌∙◌, ap}
use Rattle.std.proofs.Common.{subst, arith}
use Rattle.std.proofs.lemmas.List.Elements.{All-contains, Contains-append_left, Contains-get_or}
use Rattle.std.proofs.lemmas.List.Elements.{Contains-push, Contains-push_cases}
use Rattle.std.proofs.lemmas.List.{take_all, take_more}
use Rattle.std.specs.List.{All, AllPairs, Contains, cons_option, filter_map}
use Rattle.candidates.specs.Graphs.{Adds, OfEach}
use Rattle.routes.proofs.Lists.{first_is, later_is, of_cons, of_empty}

-- ---- what passes a test

module _ {X Y : Type 0} (h : X → Option Y) where
  pub filtered_in : (xs : List X) (x : X) (y : Y) → Contains xs x → h x ≡ Some y
      → Contains (filter_map h xs) y
  filtered_in [] x y among e = absurd (of_empty x among)
  filtered_in (z ∷ xs) x y among e =
      elim (of_cons z xs x among) [
        | inl here ↦
            let P : Option Y → Type 0 = λ o. Contains (cons_option o (filter_map h xs)) y in
            subst P (sym (ap h here ∙ e)) (first_is y (filter_map h xs))
        | inr later ↦
            let rest = filtered_in xs x y later e in
            elim (h z) as (λ o. Contains (cons_option o (filter_map h xs)) y)
            [ None ↦ rest | Some w ↦ later_is w (filter_map h xs) y rest ]
      ]

  pub record Source (xs : List X) (y : Y) : Type 0 where
    pub from : X
    pub among : Contains xs from
    pub gives : h from ≡ Some y

  farther : (z : X) (xs : List X) (y : Y) → Source xs y → Source (z ∷ xs) y
  farther z xs y s = record { from = s.from; among = later_is z xs s.from s.among; gives = s.gives }

  pub filtered_out : (xs : List X) (y : Y) → Contains (filter_map h xs) y → Source xs y
  filtered_out [] y among = absurd (of_empty y among)
  filtered_out (z ∷ xs) y among =
      elim (h z) as (λ o. h z ≡ o → Contains (cons_option o (filter_map h xs)) y
      → Source (z ∷ xs) y) [
        | None ↦ λ e p. farther z xs y (filtered_out xs y p)
        | Some w ↦ λ e p.
            elim (of_cons w (filter_map h xs) y p) [
              | inl here ↦ record {
                from = z;
                among = first_is z xs;
                gives = e ∙ ap (λ v. Some v) here;
              }
              | inr later ↦ farther z xs y (filtered_out xs y later)
            ]
      ] refl among

  pub filtered_few : (xs : List X) → length (filter_map h xs) ≤ length xs
  filtered_few [] = omega arith
  filtered_few (z ∷ xs) =
      let rest = filtered_few xs in
      elim (h z) as (λ o. length (cons_option o (filter_map h xs)) ≤ length (z ∷ xs))
      [ None ↦ omega arith | Some w ↦ omega arith ]

-- ---- lists in order

module _ {X : Type 0} (R : X → X → Type 0) where
  pub none_pairs : AllPairs R []
  none_pairs i j d before within = absurd (omega (arith, within))

  pub more_pairs : (x : X) (xs : List X) → ((y : X) → Contains xs y → R x y) → AllPairs R xs
      → AllPairs R (x ∷ xs)
  more_pairs x xs first rest i zero d before within = absurd (omega (arith, before))
  more_pairs x xs first rest zero (suc j) d before within =
      first (get_or xs j d) (Contains-get_or xs j d (omega (arith, within)))
  more_pairs x xs first rest (suc i) (suc j) d before within =
      rest i j d (omega (arith, before)) (omega (arith, within))

-- ---- elements that are added

module _ {X : Type 0} where
  pub adds_none : (P : X → Type 0) (xs : List X) → ((x : X) → P x → ⊥) → Adds P xs xs
  adds_none P xs never x = ((λ p. inl p), (λ s. elim s [ inl p ↦ p | inr q ↦ absurd (never x q) ]))

  -- two additions, and both together
  pub adds_both : (P Q R : X → Type 0) (xs ys zs : List X) → Adds P xs ys → Adds Q ys zs
      → ((x : X) → R x → P x ⊎ Q x) → ((x : X) → P x → R x) → ((x : X) → Q x → R x) → Adds R xs zs
  adds_both P Q R xs ys zs left right split p q x = (
    (λ among. elim ((right x).0 among) [
      | inl middle ↦ elim ((left x).0 middle) [ inl old ↦ inl old | inr new ↦ inr (p x new) ]
      | inr new ↦ inr (q x new)
    ]),
    (λ s. elim s [
      | inl old ↦ (right x).1 (inl ((left x).1 (inl old)))
      | inr r ↦ elim (split x r) [
        | inl new ↦ (right x).1 (inl ((left x).1 (inr new)))
        | inr new ↦
            (right x).1 (inr new)
      ]
    ]),
  )

  -- the new list in another order
  pub adds_reordered : (P : X → Type 0) (xs ys zs : List X)
      → ((x : X) → Contains zs x ↔ Contains ys x) → Adds P xs ys → Adds P xs zs
  adds_reordered P xs ys zs same a x =
      ((λ among. (a x).0 ((same x).0 among)), (λ s. (same x).1 ((a x).1 s)))

  pub adds_one : (P : X → Type 0) (xs : List X) (y : X) → P y → ((x : X) → P x → x ≡ y)
      → Adds P xs (xs ++ y ∷ [])
  adds_one P xs y is only x = (
    (λ among. elim (Contains-push_cases xs y x among)
        [ inl old ↦ inl old | inr e ↦ inr (subst P e is) ]),
    (λ s. elim s [
      | inl old ↦ Contains-append_left xs (y ∷ []) x old
      | inr p ↦ let Q : X → Type 0 = λ z. Contains (xs ++ y ∷ []) z in
          subst Q (sym (only x p)) (Contains-push xs y)
    ]),
  )

  pub adds_same : (P Q : X → Type 0) (xs ys : List X) → ((x : X) → P x → Q x)
      → ((x : X) → Q x → P x) → Adds P xs ys → Adds Q xs ys
  adds_same P Q xs ys p q a x = (
    (λ among. elim ((a x).0 among) [ inl old ↦ inl old | inr new ↦ inr (p x new) ]),
    (λ s. elim s [ inl old ↦ (a x).1 (inl old) | inr new ↦ (a x).1 (inr (q x new)) ]),
  )

  -- elements that were added to an empty list first, and then from that one
  pub adds_moved : (P : X → Type 0) (own xs ys : List X) → Adds P [] own
      → Adds (λ x. Contains own x) xs ys → Adds P xs ys
  adds_moved P own xs ys first a =
      adds_same (λ x. Contains own x) P xs ys
      (λ x among. elim ((first x).0 among) [ inl none ↦ absurd (of_empty x none) | inr p ↦ p ])
      (λ x p. (first x).1 (inr p)) a

  -- what holds of all old elements and of the added ones holds of all
  pub adds_all : (P Q : X → Type 0) (xs ys : List X) → Adds P xs ys → ((x : X) → P x → Q x)
      → All Q xs → All Q ys
  adds_all P Q xs ys a more all k d lt =
      elim ((a (get_or ys k d)).0 (Contains-get_or ys k d lt)) [
        | inl old ↦ All-contains Q xs (get_or ys k d) all old
        | inr new ↦ more (get_or ys k d)
            new
      ]

  -- one more element of a list was taken
  pub taken_more : (xs : List X) (i : ℕ) (x : X) → i < length xs → x ≡ get_or xs i x → (y : X)
      → Contains (take (i + 1) xs) y → Contains (take i xs) y ⊎ (x ≡ y)
  taken_more xs i x lt is y among =
      let P : List X → Type 0 = λ zs. Contains zs y in
      elim (Contains-push_cases (take i xs) (get_or xs i x) y (subst P (take_more xs i x lt) among))
      [ inl old ↦ inl old | inr e ↦ inr (is ∙ e) ]

  pub taken_less : (xs : List X) (i : ℕ) (x : X) → i < length xs → (y : X) → Contains (take i xs) y
      → Contains (take (i + 1) xs) y
  taken_less xs i x lt y among =
      let P : List X → Type 0 = λ zs. Contains zs y in
      subst P (sym (take_more xs i x lt))
      (Contains-append_left (take i xs) (get_or xs i x ∷ []) y among)

  pub taken_last : (xs : List X) (i : ℕ) (x : X) → i < length xs → x ≡ get_or xs i x
      → Contains (take (i + 1) xs) x
  taken_last xs i x lt is =
      let P : List X → Type 0 = λ zs. Contains zs x in
      let Q : X → Type 0 = λ z. Contains (take i xs ++ z ∷ []) x in
      subst P (sym (take_more xs i x lt)) (subst Q is (Contains-push (take i xs) x))

  -- one more element, and with it the whole addition
  pub adds_more : (P R : X → Type 0) (xs ys : List X) (y : X) → Adds P xs ys → R y
      → ((x : X) → R x → P x ⊎ (x ≡ y)) → ((x : X) → P x → R x) → Adds R xs (ys ++ y ∷ [])
  adds_more P R xs ys y a is split p =
      let Q : X → Type 0 = λ x. x ≡ y in
      adds_both P Q R xs ys (ys ++ y ∷ []) a (adds_one Q ys y refl (λ x e. e)) split p
      (λ x e. subst R (sym e) is)

-- ---- what each element of a list adds

module _ {X Y : Type 0} (Q : Y → X → Type 0) (ys : List Y) where
  abbrev pub OfFront : ℕ → X → Type 0
  OfFront i = OfEach Q (take i ys)

  pub each_none : (xs : List X) → Adds (OfFront 0) xs xs
  each_none xs = adds_none (OfFront 0) xs (λ x o. of_empty o.0 o.1)

  pub each_more : (i : ℕ) (y : Y) (xs bs cs : List X) → i < length ys → y ≡ get_or ys i y
      → Adds (OfFront i) xs bs → Adds (Q y) bs cs → Adds (OfFront (i + 1)) xs cs
  each_more i y xs bs cs lt is a b =
      adds_both (OfFront i) (Q y) (OfFront (i + 1)) xs bs cs a b
      (λ x o. elim (taken_more ys i y lt is o.0 o.1) [
        | inl old ↦ inl (o.0, old, o.2)
        | inr e ↦ let P : Y → Type 0 = λ z. Q z x in inr (subst P (sym e) o.2)
      ])
      (λ x o. (o.0, taken_less ys i y lt o.0 o.1, o.2))
      (λ x q. (y, taken_last ys i y lt is, q))

  pub each_skip : (i : ℕ) (y : Y) (xs bs : List X) → i < length ys → y ≡ get_or ys i y
      → ((x : X) → Q y x → ⊥) → Adds (OfFront i) xs bs → Adds (OfFront (i + 1)) xs bs
  each_skip i y xs bs lt is never a = each_more i y xs bs bs lt is a (adds_none (Q y) bs never)

  pub each_all : (i : ℕ) (xs bs : List X) → length ys ≤ i → Adds (OfFront i) xs bs
      → Adds (OfEach Q ys) xs bs
  each_all i xs bs done a =
      let e : take i ys ≡ ys = take_all i ys done in
      adds_same (OfFront i) (OfEach Q ys) xs bs
      (λ x o. let P : List Y → Type 0 = λ zs. Contains zs o.0 in (o.0, subst P e o.1, o.2))
      (λ x o. let P : List Y → Type 0 = λ zs. Contains zs o.0 in (o.0, subst P (sym e) o.1, o.2)) a
