-- An address under a mask is in one network.
use Rattle.std.proofs.Common.{◌≡◌, ℕ, ◌-◌, ◌^◌, ◌<◌, ◌≤◌, inl, inr, arith, sym, ◌∙◌, ap}
use Rattle.std.proofs.lemmas.Bool.{cases_lt}
use Rattle.std.proofs.lemmas.Nat.{pow_below}
use Rattle.words.specs.Prefixes.{Network, block, mask_of, network_address}
use Rattle.routes.specs.Offers.{IsPrefix}

block_within : (n : ℕ) → block n ≤ 2 ^ 32
block_within n =
    elim (cases_lt (32 - n) 32) [
      | inl less ↦ let below : 2 ^ (32 - n) < 2 ^ 32 = pow_below (32 - n) 32 less in
          omega (arith, below)
      | inr more ↦ let same : 32 - n ≡ 32 = omega (arith, more) in let e : 2 ^ (32 - n) ≡ 2 ^ 32 =
          ap (λ k. 2 ^ k) same in omega (arith, e)
    ]

no_mask_before : (a b : ℕ) → a < b → b ≤ 32 → mask_of a ≡ mask_of b → ⊥
no_mask_before a b less within e =
    let order : 32 - b < 32 - a = omega (arith, less, within) in
    let below : 2 ^ (32 - b) < 2 ^ (32 - a) = pow_below (32 - b) (32 - a) order in
    omega (arith, below, e, block_within a, block_within b)

same_length : (a b : ℕ) → a ≤ 32 → b ≤ 32 → mask_of a ≡ mask_of b → a ≡ b
same_length a b p q e =
    elim (cases_lt a b) [
      | inl less ↦ absurd (no_mask_before a b less q e)
      | inr more ↦
          elim (cases_lt b a) [
            | inl less ↦ absurd (no_mask_before b a less p (sym e))
            | inr also ↦ omega (arith, more, also)
          ]
    ]

-- a mask gives one prefix
pub one_prefix : (address mask length : ℕ) (p : Network) → length ≤ 32 → mask ≡ mask_of length
    → IsPrefix address mask p → record {
      address = network_address length address;
      length = length;
    } ≡ p
one_prefix address mask length p within is k =
    let e : length ≡ p.length = same_length length p.length within k.0 (sym is ∙ k.1) in
    let f : network_address length address ≡ p.address =
    ap (λ n. network_address n address) e ∙ sym k.2 in
    λ i. record { address = f i; length = e i }
