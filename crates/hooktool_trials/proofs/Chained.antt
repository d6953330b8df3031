-- Chains with one more thing.
use Rattle.std.proofs.Common.{◌+◌, ◌<◌, ◌≤◌, ℕ, List, [], ◌∷◌, ◌++◌, get_or, length, refl}
use Rattle.std.proofs.Common.{subst, sym, take}
use Rattle.std.proofs.lemmas.List.{take_all, take_more}
use Rattle.hooktool_trials.specs.Chains.{Chain}

one_more : {A : Type 0} {S : Type 0} (Leads : A → S → S → Type 0) (things : List A) (thing : A)
    (first next last : S) → Chain Leads things first next → Leads thing next last
    → Chain Leads (things ++ thing ∷ []) first last
one_more {A} {S} Leads [] thing first next last same leads =
    (last, subst (λ (s : S). Leads thing s last) (sym same) leads, refl)
one_more {A} {S} Leads (it ∷ others) thing first next last (middle, begun, more) leads =
    (middle, begun, one_more Leads others thing middle next last more leads)

pub chain_more : {A : Type 0} {S : Type 0} (Leads : A → S → S → Type 0) (things : List A) (i : ℕ)
    (d : A) (first next last : S) → i < length things → Chain Leads (take i things) first next
    → Leads (get_or things i d) next last → Chain Leads (take (i + 1) things) first last
chain_more {A} {S} Leads things i d first next last lt chain leads =
    subst (λ (xs : List A). Chain Leads xs first last) (sym (take_more things i d lt))
    (one_more Leads (take i things) (get_or things i d) first next last chain leads)

pub chain_all : {A : Type 0} {S : Type 0} (Leads : A → S → S → Type 0) (things : List A) (i : ℕ)
    (first last : S) → length things ≤ i → Chain Leads (take i things) first last
    → Chain Leads things first last
chain_all {A} {S} Leads things i first last le chain =
    subst (λ (xs : List A). Chain Leads xs first last) (take_all i things le) chain
