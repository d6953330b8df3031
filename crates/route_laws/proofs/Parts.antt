-- Lists whose elements are checked one by one.
use Rattle.std.proofs.Common.{◌≡◌, ℕ, zero, suc, ◌<◌, ◌&&◌, not, inl, inr, Bool, true, nat_eq}
use Rattle.std.proofs.Common.{eq-eqb, List, [], ◌∷◌, arith, subst}
use Rattle.std.specs.List.{All, AllByRecursion, AllPairs, Contains}
use Rattle.std.proofs.lemmas.Bool.{cases_lt}
use Rattle.std.proofs.lemmas.List.Elements.{All-cons, All-nil}
use Rattle.std.proofs.lemmas.List.Kept.{AllPairs-cons}
use Rattle.words.specs.Prefixes.{IsUnder, Network, network_address}
use Rattle.route_laws.proofs.Entries.{both_true}
use Rattle.route_laws.proofs.Labels.{not_both}
use Rattle.routes.proofs.Lists.{of_cons, of_empty}

pub one_of : {X : Type 0} (P : X → Type 0) (xs : List X) → AllByRecursion P xs → (x : X)
    → Contains xs x → P x
one_of P [] all x t = absurd (of_empty x t)
one_of P (y ∷ ys) all x t =
    elim (of_cons y ys x t) [
      | inl e ↦ subst P e all.0
      | inr later ↦ one_of P ys all.1 x later
    ]

all_of : {X : Type 0} (P : X → Type 0) (xs : List X) → AllByRecursion P xs → All P xs
all_of P [] all = All-nil P
all_of P (x ∷ xs) all = All-cons P x xs all.0 (all_of P xs all.1)

-- the first one is in the relation to each of the others
pub in_front : {X : Type 0} (R : X → X → Type 0) (x : X) (xs : List X) → AllByRecursion (R x) xs
    → AllPairs R xs → AllPairs R (x ∷ xs)
in_front R x xs first rest = AllPairs-cons R x xs (all_of (R x) xs first) rest

pub nobody : {X : Type 0} (R : X → X → Type 0) → AllPairs R []
nobody R i j d before within = absurd (omega (arith, before, within))

-- networks with different addresses
pub apart : (a b : Network) → not (nat_eq a.address b.address) ≡ true → a ≡ b → ⊥
apart a b other e = not_both (nat_eq a.address b.address) other
    (eq-eqb a.address b.address (λ i. (e i).address))

pub not_under : (address : ℕ) (n : Network)
    → not (nat_eq (network_address n.length address) n.address) ≡ true → IsUnder address n → ⊥
not_under address n other u = not_both (nat_eq (network_address n.length address) n.address) other
    (eq-eqb (network_address n.length address) n.address u)

-- a test of all numbers below a bound
abbrev pub all_below : (ℕ → Bool) → ℕ → Bool
all_below p zero = true
all_below p (suc k) = p k && all_below p k

pub one_below : (p : ℕ → Bool) (k : ℕ) → all_below p k ≡ true → (n : ℕ) → n < k → p n ≡ true
one_below p zero e n less = absurd (omega (arith, less))
one_below p (suc k) e n less =
    let both = both_true (p k) (all_below p k) e in
    elim (cases_lt n k) [
      | inl below ↦ one_below p k both.1 n below
      | inr more ↦ let same : k ≡ n = omega (arith, less, more) in
          subst (λ m. p m ≡ true) same both.0
    ]
