-- Offers added one after another.
use Rattle.std.proofs.Common.{◌≡◌, ℕ, ◌+◌, ◌<◌, ◌≤◌, ◌⊎◌, inl, inr, List, [], ◌∷◌, ◌++◌, length}
use Rattle.std.proofs.Common.{get_or, take, Option, Some, None, sym, ◌∙◌, ap, subst}
use Rattle.std.specs.List.{Contains}
use Rattle.std.proofs.lemmas.List.{take_all, take_more}
use Rattle.std.proofs.lemmas.List.Elements.{Contains-append_left, Contains-push}
use Rattle.std.proofs.lemmas.List.Elements.{Contains-push_cases}
use Rattle.words.specs.declared.key.Key.{Key}
use Rattle.lsa.specs.declared.body.LsaBody.{LsaBody}
use Rattle.routes.specs.declared.offer.Offer.{Offer}
use Rattle.routes.proofs.Lists.{of_empty}
use Rattle.std.specs.Prelude.{IfSome}
use Rattle.candidates.specs.Gathering.{Adds, OfferCostsFit, IsOnly, OfEach}

pub adds_nothing : (xs : List Offer) (P : Offer → Type 0) → ((o : Offer) → P o → ⊥) → Adds xs xs P
adds_nothing xs P none o = (
  λ t. inl t,
  λ w.
      elim w [
        | inl t ↦ t
        | inr p ↦ absurd (none o p)
      ],
)

pub adds_one : (xs : List Offer) (it : Offer) → Adds xs (xs ++ it ∷ []) (λ o. Some it ≡ Some o)
adds_one xs it o = (
  λ t.
      elim (Contains-push_cases xs it o t) [
        | inl old ↦ inl old
        | inr is ↦ inr (ap (λ (x : Offer). Some x) is)
      ],
  λ w.
      elim w [
        | inl t ↦ Contains-append_left xs (it ∷ []) o t
        | inr e ↦ let same : it ≡ o = cc in
            subst (Contains (xs ++ it ∷ [])) same (Contains-push xs it)
      ],
)

pub adds_just : (xs ys : List Offer) (P : Offer → Type 0) (given : Option Offer) → IsOnly P given
    → Adds xs ys (λ o. given ≡ Some o) → Adds xs ys P
adds_just xs ys P None none a o = (
  λ t.
      elim ((a o).0 t) [
        | inl old ↦ inl old
        | inr e ↦ absurd (cc)
      ],
  λ w.
      elim w [
        | inl t ↦ (a o).1 (inl t)
        | inr p ↦ absurd (none o p)
      ],
)
adds_just xs ys P (Some it) just a o = (
  λ t.
      elim ((a o).0 t) [
        | inl old ↦ inl old
        | inr e ↦ let same : o ≡ it = cc in inr ((just o).1 same)
      ],
  λ w.
      elim w [
        | inl t ↦ (a o).1 (inl t)
        | inr p ↦ (a o).1 (inr (ap (λ (x : Offer). Some x) (sym ((just o).0 p))))
      ],
)

-- ---- along a list of sources

module _ {X : Type 0} (Q : X → Offer → Type 0) where
  pub none_yet : (start : List Offer) (xs : List X) → Adds start start (OfEach Q (take 0 xs))
  none_yet start xs = adds_nothing start (OfEach Q []) (λ o p. of_empty p.0 p.1)

  pub one_more : (start now next : List Offer) (xs : List X) (i : ℕ) (x : X) → x ≡ get_or xs i x
      → i < length xs → Adds start now (OfEach Q (take i xs)) → Adds now next (Q x)
      → Adds start next (OfEach Q (take (i + 1) xs))
  one_more start now next xs i x is lt before more o =
      let split : take (i + 1) xs ≡ take i xs ++ x ∷ [] =
      take_more xs i x lt ∙ ap (λ (y : X). take i xs ++ y ∷ []) (sym is) in
      let P : List X → Type 0 = λ ys. OfEach Q ys o in (
        λ t.
            elim ((more o).0 t) [
              | inl old ↦
                  elim ((before o).0 old) [
                    | inl first ↦ inl first
                    | inr p ↦ inr (subst P (sym split)
                        (p.0, Contains-append_left (take i xs) (x ∷ []) p.0 p.1, p.2))
                  ]
              | inr q ↦ inr (subst P (sym split) (x, Contains-push (take i xs) x, q))
            ],
        λ w.
            elim w [
              | inl first ↦ (more o).1 (inl ((before o).1 (inl first)))
              | inr p ↦
                  let s : OfEach Q (take i xs ++ x ∷ []) o = subst P split p in
                  elim (Contains-push_cases (take i xs) x s.0 s.1) [
                    | inl old ↦ (more o).1 (inl ((before o).1 (inr (s.0, old, s.2))))
                    | inr same ↦ (more o).1 (inr (subst (λ (y : X). Q y o) (sym same) s.2))
                  ]
            ],
      )

  pub all_of_them : (start now : List Offer) (xs : List X) (i : ℕ) → length xs ≤ i
      → Adds start now (OfEach Q (take i xs)) → Adds start now (OfEach Q xs)
  all_of_them start now xs i past a =
      let P : List X → Type 0 = λ ys. Adds start now (OfEach Q ys) in
      subst P (take_all i xs past) a

-- the offers of one LSA, by its key and by what it says
pub of_one : (Q : Key × LsaBody → Offer → Type 0) (now next : List Offer) (one : Key × LsaBody)
    (key : Key) (says : LsaBody) → key ≡ one.0 → says ≡ one.1 → Adds now next (Q (key, says))
    → Adds now next (Q one)
of_one Q now next one key says is_key is_says a =
    let same : (key, says) ≡ one = λ i. (is_key i, is_says i) in
    subst (λ (x : Key × LsaBody). Adds now next (Q x)) same a

pub adds_same : (xs ys : List Offer) (P R : Offer → Type 0) → ((o : Offer) → P o → R o)
    → ((o : Offer) → R o → P o) → Adds xs ys P → Adds xs ys R
adds_same xs ys P R forth back a o = (
  λ t.
      elim ((a o).0 t) [
        | inl old ↦ inl old
        | inr p ↦ inr (forth o p)
      ],
  λ w.
      elim w [
        | inl old ↦ (a o).1 (inl old)
        | inr r ↦ (a o).1 (inr (back o r))
      ],
)

pub adds_both : (xs ys zs : List Offer) (P R : Offer → Type 0) → Adds xs ys P → Adds ys zs R
    → Adds xs zs (λ o. P o ⊎ R o)
adds_both xs ys zs P R a b o = (
  λ t.
      elim ((b o).0 t) [
        | inl old ↦
            elim ((a o).0 old) [
              | inl first ↦ inl first
              | inr p ↦ inr (inl p)
            ]
        | inr r ↦ inr (inr r)
      ],
  λ w.
      elim w [
        | inl first ↦ (b o).1 (inl ((a o).1 (inl first)))
        | inr q ↦
            elim q [
              | inl p ↦ (b o).1 (inl ((a o).1 (inr p)))
              | inr r ↦ (b o).1 (inr r)
            ]
      ],
)

-- ---- their costs

pub cheap_more : (xs ys : List Offer) (given : Option Offer) → Adds xs ys (λ o. given ≡ Some o)
    → IfSome given (λ o. o.cost < 2147483648) → OfferCostsFit xs → OfferCostsFit ys
cheap_more xs ys None a few cheap o t =
    elim ((a o).0 t) [
      | inl old ↦ cheap o old
      | inr e ↦ absurd (cc)
    ]
cheap_more xs ys (Some it) a few cheap o t =
    elim ((a o).0 t) [
      | inl old ↦ cheap o old
      | inr e ↦ let same : it ≡ o = cc in subst (λ (x : Offer). x.cost < 2147483648) same few
    ]

pub none_cheap : OfferCostsFit []
none_cheap o t = absurd (of_empty o t)

-- ---- gathered from nothing

pub such : (xs : List Offer) (P : Offer → Type 0) → Adds [] xs P → (o : Offer) → Contains xs o → P o
such xs P a o t =
    elim ((a o).0 t) [
      | inl none ↦ absurd (of_empty o none)
      | inr p ↦ p
    ]

pub all_such : (xs : List Offer) (P : Offer → Type 0) → Adds [] xs P → (o : Offer) → P o
    → Contains xs o
all_such xs P a o p = (a o).1 (inr p)
