-- Equality of keys, and their membership in lists, are decidable.
use Rattle.std.proofs.Common.{◌≡◌, ◌⊎◌, inl, inr, List, [], ◌∷◌, ap, subst}
use Rattle.std.specs.List.{Contains}
use Rattle.std.proofs.lemmas.Bool.{cases_eq}
use Rattle.routes.proofs.Lists.{first_is, later_is, of_cons, of_empty}
use Rattle.words.specs.declared.key.Key.{Key}

same_or_not : (a b : Key) → (a ≡ b) ⊎ (a ≡ b → ⊥)
same_or_not a b =
    elim (cases_eq a.ls_type b.ls_type) [
      | inr other ↦ inr (λ e. other (ap (λ (k : Key). k.ls_type) e))
      | inl ls_type ↦
          elim (cases_eq a.link_state_id b.link_state_id) [
            | inr other ↦ inr (λ e. other (ap (λ (k : Key). k.link_state_id) e))
            | inl link_state_id ↦
                elim (cases_eq a.advertising_router b.advertising_router) [
                  | inr other ↦ inr (λ e. other (ap (λ (k : Key). k.advertising_router) e))
                  | inl advertising_router ↦
                      inl (λ i. record {
                        ls_type = ls_type i;
                        link_state_id = link_state_id i;
                        advertising_router = advertising_router i;
                      })
                ]
          ]
    ]

pub among_or_not : (keys : List Key) (key : Key) → Contains keys key ⊎ (Contains keys key → ⊥)
among_or_not [] key = inr (of_empty key)
among_or_not (first ∷ rest) key =
    elim (same_or_not first key) [
      | inl is ↦ inl (subst (Contains (first ∷ rest)) is (first_is first rest))
      | inr other ↦
          elim (among_or_not rest key) [
            | inl later ↦ inl (later_is first rest key later)
            | inr none ↦
                inr (λ t.
                elim (of_cons first rest key t) [
                  | inl is ↦ other is
                  | inr later ↦ none later
                ])
          ]
    ]
