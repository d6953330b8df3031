-- Routes remain sorted by their prefixes when the one for a prefix is replaced.
use Rattle.std.proofs.Common.{◌≡◌, ℕ, ◌+◌, ◌-◌, ◌<◌, ◌≤◌, ◌⊎◌, inl, inr, List, length, get_or, set}
use Rattle.std.proofs.Common.{Some, None, arith, sym, ◌∙◌, ap, subst}
use Rattle.std.specs.List.{Contains, insert, remove}
use Rattle.std.specs.Prelude.{slice_get}
use Rattle.std.proofs.lemmas.Bool.{cases_eq, cases_lt}
use Rattle.std.proofs.lemmas.List.{get_or-set_other, get_or-set_same, length-set}
use Rattle.std.proofs.lemmas.List.Edits.{get_or-insert_above, get_or-insert_at, get_or-insert_below}
use Rattle.std.proofs.lemmas.List.Edits.{get_or-remove_above, get_or-remove_below, length-insert}
use Rattle.std.proofs.lemmas.List.Edits.{length-remove}
use Rattle.std.proofs.lemmas.List.Quantifiers.{all_pairs_remove}
use Rattle.std.proofs.lemmas.Option.{slice_get-get_or}
use Rattle.words.specs.Prefixes.{Network}
use Rattle.words.specs.declared.route.Route.{Route}
use Rattle.routes.specs.Routes.{IsBefore}
use Rattle.routes.proofs.OneMore.{never_itself}
use Rattle.candidates.specs.Borders.{Ascend}
use Rattle.kept_routes.specs.Placing.{IsGap, IsPlaced, IsThere}

abbrev Before : Route → Route → Type 0
Before a b = IsBefore a.prefix b.prefix

-- ---- at the index of the one for the prefix

module _ (old : List Route) (prefix : Network) (up : Ascend old) (at : ℕ)
    (there : IsThere old prefix at) where
  within : at < length old
  within = there.within

  here : (d : Route) → (get_or old at d).prefix ≡ prefix
  here = there.is_for

  -- no other one is for it
  others : (k : ℕ) (d : Route) → k < length old → (k ≡ at → ⊥) → (get_or old k d).prefix ≡ prefix
      → ⊥
  others k d inside other is =
      elim (cases_lt k at) [
        | inl before ↦ never_itself (get_or old k d).prefix (get_or old at d).prefix
            (is ∙ sym (here d)) (up k at d before within)
        | inr after ↦ never_itself (get_or old at d).prefix (get_or old k d).prefix
            (here d ∙ sym is) (up at k d (omega (arith, after, other)) inside)
      ]

  other : (k : ℕ) (r : Route) → k < length old → (k ≡ at → ⊥) → get_or old k r ≡ r
      → r.prefix ≡ prefix → ⊥
  other k r inside apart is its = others k r inside apart (ap (λ (x : Route). x.prefix) is ∙ its)

  -- the one that is for it is there
  pub stands_there : (r : Route) → Contains old r → r.prefix ≡ prefix → slice_get old at ≡ Some r
  stands_there r (k, inside, is) its =
      elim (cases_eq k at) [
        | inl same ↦ slice_get-get_or old at r within
            ∙ ap (λ (x : Route). Some x) (ap (λ n. get_or old n r) (sym same) ∙ is)
        | inr apart ↦ absurd (other k r inside apart is its)
      ]

  not_at : (k : ℕ) (r : Route) → get_or old k r ≡ r → (r.prefix ≡ prefix → ⊥) → k ≡ at → ⊥
  not_at k r is differs same = differs
      (ap (λ (x : Route). x.prefix) (sym is ∙ ap (λ n. get_or old n r) same) ∙ here r)

  -- ---- removed

  out_forth : (r : Route) → Contains (remove old at) r → Contains old r × (r.prefix ≡ prefix → ⊥)
  out_forth r (k, inside, is) =
      let size = length-remove old at within in
      elim (cases_lt k at) [
        | inl before ↦ let e = sym (get_or-remove_below old at r k before within) ∙ is in (
          (k, omega (arith, inside, size), e),
          other k r (omega (arith, inside, size)) (λ same. omega (arith, same, before)) e,
        )
        | inr after ↦ let e = sym (get_or-remove_above old at r k after within) ∙ is in (
          (k + 1, omega (arith, inside, size), e),
          other (k + 1) r (omega (arith, inside, size)) (λ same. omega (arith, same, after))
              e,
        )
      ]

  out_back : (r : Route) → Contains old r → (r.prefix ≡ prefix → ⊥) → Contains (remove old at) r
  out_back r (k, inside, is) differs =
      let size = length-remove old at within in
      let apart = not_at k r is differs in
      elim (cases_lt k at) [
        | inl before ↦ (
          k,
          omega (arith, before, within, size),
          get_or-remove_below old at r k before within ∙ is,
        )
        | inr after ↦
            let later : at ≤ k - 1 = omega (arith, after, apart) in
            let next : k - 1 + 1 ≡ k = omega (arith, after, apart) in (
              k - 1,
              omega (arith, inside, size, after, apart),
              get_or-remove_above old at r (k - 1) later within ∙ ap (λ n. get_or old n r) next
                  ∙ is,
            )
      ]

  pub taken_out : IsPlaced old (remove old at) prefix None
  taken_out = record {
    each = λ r. (
      (λ t. inl (out_forth r t)),
      (λ w.
          elim w [
            | inl p ↦ out_back r p.0 p.1
            | inr e ↦ absurd (cc)
          ]),
    );
    ascending = all_pairs_remove Before old at within up;
  }

  -- ---- overwritten

  module _ (best : Route) (its : best.prefix ≡ prefix) where
    size : length (set old at best) ≡ length old
    size = length-set old at best

    over_forth : (r : Route) → Contains (set old at best) r
        → (Contains old r × (r.prefix ≡ prefix → ⊥)) ⊎ (Some best ≡ Some r)
    over_forth r (k, inside, is) =
        elim (cases_eq k at) [
          | inl same ↦ inr (ap (λ (x : Route). Some x)
              (sym (get_or-set_same old at best r within)
              ∙ ap (λ n. get_or (set old at best) n r) (sym same) ∙ is))
          | inr apart ↦
              let e = sym (get_or-set_other old at k best r apart) ∙ is in
              inl (
                (k, omega (arith, inside, size), e),
                other k r (omega (arith, inside, size)) apart e,
              )
        ]

    over_back : (r : Route) → (Contains old r × (r.prefix ≡ prefix → ⊥)) ⊎ (Some best ≡ Some r)
        → Contains (set old at best) r
    over_back r (inl ((k, inside, is), differs)) = (
      k,
      omega (arith, inside, size),
      get_or-set_other old at k best r (not_at k r is differs) ∙ is,
    )
    over_back r (inr e) =
        let same : best ≡ r = cc in
        (at, omega (arith, within, size), get_or-set_same old at best r within ∙ same)

    in_order : Ascend (set old at best)
    in_order i j d before inside =
        let there : j < length old = omega (arith, inside, size) in
        elim (cases_eq i at) [
          | inl same ↦
              let P : Route → Type 0 = λ x. IsBefore x.prefix (get_or (set old at best) j d).prefix
              in
              let Q : Route → Type 0 = λ x. IsBefore best.prefix x.prefix in
              let next = get_or-set_other old at j best d (λ e. omega (arith, e, same, before)) in
              let first = ap (λ n. get_or (set old at best) n d) same
              ∙ get_or-set_same old at best d within in
              let R : Network → Type 0 = λ n. IsBefore n (get_or old j d).prefix in
              let order = subst R (here d ∙ sym its) (up at j d (omega (arith, same, before)) there)
              in
              subst P (sym first) (subst Q (sym next) order)
          | inr apart ↦
              let first = get_or-set_other old at i best d apart in
              elim (cases_eq j at) [
                | inl same ↦
                    let P : Route → Type 0 = λ x. IsBefore x.prefix
                    (get_or (set old at best) j d).prefix in
                    let Q : Route → Type 0 = λ x. IsBefore (get_or old i d).prefix x.prefix in
                    let last = ap (λ n. get_or (set old at best) n d) same
                    ∙ get_or-set_same old at best d within in
                    let R : Network → Type 0 = λ n. IsBefore (get_or old i d).prefix n in
                    let order = subst R (here d ∙ sym its)
                    (up i at d (omega (arith, same, before)) within) in
                    subst P (sym first) (subst Q (sym last) order)
                | inr off ↦
                    let P : Route → Type 0 = λ x. IsBefore x.prefix
                    (get_or (set old at best) j d).prefix in
                    let Q : Route → Type 0 = λ x. IsBefore (get_or old i d).prefix x.prefix in
                    subst P (sym first) (subst Q (sym (get_or-set_other old at j best d off))
                    (up i j d before there))
              ]
        ]

    pub written_over : IsPlaced old (set old at best) prefix (Some best)
    written_over = record {
      each = λ r. (over_forth r, over_back r);
      ascending = in_order;
    }

-- ---- if there was none

module _ (old : List Route) (prefix : Network) (up : Ascend old) (at : ℕ)
    (gap : IsGap old prefix at) where
  within_ : at ≤ length old
  within_ = gap.within

  pub differs : (r : Route) → Contains old r → r.prefix ≡ prefix → ⊥
  differs r (k, inside, is) its =
      let same : (get_or old k r).prefix ≡ prefix = ap (λ (x : Route). x.prefix) is ∙ its in
      elim (cases_lt k at) [
        | inl before ↦ never_itself (get_or old k r).prefix prefix same (gap.before k r before)
        | inr behind ↦ never_itself prefix (get_or old k r).prefix (sym same)
            (gap.behind k r behind inside)
      ]

  pub as_it_was : IsPlaced old old prefix None
  as_it_was = record {
    each = λ r. (
      (λ t. inl (t, differs r t)),
      (λ w.
          elim w [
            | inl p ↦ p.0
            | inr e ↦ absurd (cc)
          ]),
    );
    ascending = up;
  }

  module _ (best : Route) (its : best.prefix ≡ prefix) where
    size_ : length (insert old at best) ≡ length old + 1
    size_ = length-insert old at best within_

    in_forth : (r : Route) → Contains (insert old at best) r
        → (Contains old r × (r.prefix ≡ prefix → ⊥)) ⊎ (Some best ≡ Some r)
    in_forth r (k, inside, is) =
        elim (cases_lt k at) [
          | inl before ↦
              let t : Contains old r = (
                k,
                omega (arith, before, within_),
                sym (get_or-insert_below old at best r k before within_) ∙ is,
              ) in
              inl (t, differs r t)
          | inr after ↦
              elim (cases_eq k at) [
                | inl same ↦ inr (ap (λ (x : Route). Some x)
                    (sym (get_or-insert_at old at best r within_)
                    ∙ ap (λ n. get_or (insert old at best) n r) (sym same) ∙ is))
                | inr apart ↦
                    let next : k - 1 + 1 ≡ k = omega (arith, after, apart) in
                    let later : at ≤ k - 1 = omega (arith, after, apart) in
                    let e = sym (get_or-insert_above old at best r (k - 1) later within_)
                    ∙ ap (λ n. get_or (insert old at best) n r) next ∙ is in
                    let t : Contains old r = (k - 1, omega (arith, inside, size_, next), e) in
                    inl (t, differs r t)
              ]
        ]

    in_back : (r : Route) → (Contains old r × (r.prefix ≡ prefix → ⊥)) ⊎ (Some best ≡ Some r)
        → Contains (insert old at best) r
    in_back r (inl ((k, inside, is), _)) =
        elim (cases_lt k at) [
          | inl before ↦ (
            k,
            omega (arith, inside, size_),
            get_or-insert_below old at best r k before within_ ∙ is,
          )
          | inr after ↦ (
            k + 1,
            omega (arith, inside, size_),
            get_or-insert_above old at best r k after within_ ∙ is,
          )
        ]
    in_back r (inr e) =
        let same : best ≡ r = cc in
        (at, omega (arith, within_, size_), get_or-insert_at old at best r within_ ∙ same)

    -- its index is right
    before_it : (k : ℕ) (d : Route) → k < at → IsBefore (get_or old k d).prefix best.prefix
    before_it k d low = subst (λ n. IsBefore (get_or old k d).prefix n) (sym its)
        (gap.before k d low)

    after_it : (k : ℕ) (d : Route) → at ≤ k → k < length old
        → IsBefore best.prefix (get_or old k d).prefix
    after_it k d high inside = subst (λ n. IsBefore n (get_or old k d).prefix) (sym its)
        (gap.behind k d high inside)

    in_place : Ascend (insert old at best)
    in_place i j d before inside =
        let P : Route → Type 0 = λ x. IsBefore x.prefix (get_or (insert old at best) j d).prefix in
        elim (cases_lt j at) [
          | inl low ↦
              let Q : Route → Type 0 = λ x. IsBefore (get_or old i d).prefix x.prefix in
              subst P (sym (get_or-insert_below old at best d i (omega (arith, before, low))
              within_))
              (subst Q (sym (get_or-insert_below old at best d j low within_))
              (up i j d before (omega (arith, low, within_))))
          | inr high ↦
              elim (cases_eq j at) [
                | inl same ↦
                    let Q : Route → Type 0 = λ x. IsBefore (get_or old i d).prefix x.prefix in
                    let last = ap (λ n. get_or (insert old at best) n d) same
                    ∙ get_or-insert_at old at best d within_ in
                    subst P (sym (get_or-insert_below old at best d i (omega (arith, before, same))
                    within_)) (subst Q (sym last) (before_it i d (omega (arith, before, same))))
                | inr apart ↦
                    let next : j - 1 + 1 ≡ j = omega (arith, high, apart) in
                    let later : at ≤ j - 1 = omega (arith, high, apart) in
                    let there : j - 1 < length old = omega (arith, inside, size_, next) in
                    let last : get_or (insert old at best) j d ≡ get_or old (j - 1) d =
                    ap (λ n. get_or (insert old at best) n d) (sym next)
                    ∙ get_or-insert_above old at best d (j - 1) later within_ in
                    elim (cases_lt i at) [
                      | inl below ↦
                          let Q : Route → Type 0 = λ x. IsBefore (get_or old i d).prefix x.prefix in
                          subst P (sym (get_or-insert_below old at best d i below within_))
                          (subst Q (sym last) (up i (j - 1) d (omega (arith, below, later))
                          there))
                      | inr above ↦
                          elim (cases_eq i at) [
                            | inl here ↦
                                let Q : Route → Type 0 = λ x. IsBefore best.prefix x.prefix in
                                let first = ap (λ n. get_or (insert old at best) n d) here
                                ∙ get_or-insert_at old at best d within_ in
                                subst P (sym first) (subst Q (sym last)
                                (after_it (j - 1) d later there))
                            | inr off ↦
                                let back : i - 1 + 1 ≡ i = omega (arith, above, off) in
                                let past : at ≤ i - 1 = omega (arith, above, off) in
                                let Q : Route → Type 0 =
                                λ x. IsBefore (get_or old (i - 1) d).prefix x.prefix in
                                let first : get_or (insert old at best) i d ≡ get_or old (i - 1) d =
                                ap (λ n. get_or (insert old at best) n d) (sym back)
                                ∙ get_or-insert_above old at best d (i - 1) past within_ in
                                subst P (sym first) (subst Q (sym last)
                                (up (i - 1) (j - 1) d (omega (arith, before, back, next))
                                there))
                          ]
                    ]
              ]
        ]

    pub put_in : IsPlaced old (insert old at best) prefix (Some best)
    put_in = record {
      each = λ r. (in_forth r, in_back r);
      ascending = in_place;
    }
