-- If there is a walk, there is a way: some walk has the least cost, and the interfaces of finitely
-- many first links are a set.
use Rattle.std.proofs.Common.{◌≡◌, ℕ, zero, suc, ◌+◌, ◌-◌, ◌*◌, ◌^◌, ◌<◌, ◌≤◌, ◌↔◌, inl, inr}
use Rattle.std.proofs.Common.{IsTrue, List, ◌∷◌, arith, refl, sym, ◌∙◌, ap, subst, pow-suc}
use Rattle.std.specs.Int.{bit_at}
use Rattle.std.proofs.lemmas.Bool.{cases_lt}
use Rattle.std.proofs.lemmas.Nat.Bits.{bit_at_above, bit_at_cat_high, bit_at_cat_low}
use Rattle.words.specs.Interfaces.{has_interface}
use Rattle.routes.specs.Paths.{IsLeastWalk, IsWalk, IsWay, Step, Way, cost_of}
use Rattle.routes.proofs.Determined.{bit_of_member, is_member}

pub least_walk : {V : Type 0} (leads : V → Step V → Type 0) (from to : V) (n : ℕ)
    (walk : List (Step V)) → cost_of walk ≤ n → IsWalk leads from walk to
    → (((w : List (Step V)) × IsLeastWalk leads from w to) → ⊥) → ⊥
least_walk {V} leads from to zero walk within is none = none (
  walk,
  record {
    is_walk = is;
    least = λ other p. omega (arith, within);
  },
)
least_walk {V} leads from to (suc n) walk within is none =
    none (
      walk,
      record {
        is_walk = is;
        least = λ other p.
            elim (cases_lt (cost_of other) (cost_of walk)) [
              | inl less ↦ absurd (least_walk leads from to n other (omega (arith, less, within)) p
                  none)
              | inr more ↦ more
            ];
      },
    )

-- the numbers below n of which P holds, as a set
pub record Chosen (P : ℕ → Type 0) (n : ℕ) : Type 0 where
  pub hops : ℕ
  pub below : hops < 2 ^ n
  pub members : (i : ℕ) → i < n → IsTrue (has_interface hops i) ↔ P i

last_is : (P : ℕ → Type 0) (n : ℕ) → Chosen P n → P n → Chosen P (suc n)
last_is P n c p =
    let more : ℕ = 1 * 2 ^ n + c.hops in
    record {
      hops = more;
      below = omega (arith, pow-suc 2 n, c.below);
      members = λ i within.
          elim (cases_lt i n) [
            | inl less ↦ (
                let e : bit_at more i ≡ bit_at c.hops i = bit_at_cat_low 1 n c.hops i less in (
                  λ t. (c.members i less).0 (is_member c.hops i (sym e ∙ bit_of_member more i t)),
                  λ q. is_member more i (e ∙ bit_of_member c.hops i ((c.members i less).1 q)),
                ))
            | inr past ↦
                let e : n ≡ i = omega (arith, past, within) in
                let high : bit_at more n ≡ bit_at 1 (n - n) =
                bit_at_cat_high 1 n c.hops n c.below (omega arith) in
                let same : n - n ≡ 0 = omega arith in
                let set : bit_at more n ≡ 1 = high ∙ ap (λ k. bit_at 1 k) same in
                (λ t. subst P e p, λ q. is_member more i (subst (λ k. bit_at more k ≡ 1) e set))
          ];
    }

last_not : (P : ℕ → Type 0) (n : ℕ) → Chosen P n → (P n → ⊥) → Chosen P (suc n)
last_not P n c never = record {
  hops = c.hops;
  below = omega (arith, pow-suc 2 n, c.below);
  members = λ i within.
      elim (cases_lt i n) [
        | inl less ↦ c.members i less
        | inr past ↦
            let e : i ≡ n = omega (arith, past, within) in (
              λ t. absurd (let above : bit_at c.hops i ≡ 0 = bit_at_above c.hops n i c.below past in
                  omega (arith, above, bit_of_member c.hops i t)),
              λ q. absurd (never (subst P e q)),
            )
      ];
}

pub chosen : (P : ℕ → Type 0) (n : ℕ) → (Chosen P n → ⊥) → ⊥
chosen P zero none = none (record {
  hops = 0;
  below = omega arith;
  members = λ i within. absurd (omega (arith, within));
})
chosen P (suc n) none = chosen P n (λ c. none (last_not P n c (λ p. none (last_is P n c p))))

-- if the first links leave by finitely many interfaces
pub way : {V : Type 0} (leads : V → Step V → Type 0) (from to : V) (n : ℕ)
    → ((s : Step V) → leads from s → s.exit < n) → (walk : List (Step V))
    → IsWalk leads from walk to → (((w : Way) × IsWay leads from to w) → ⊥) → ⊥
way {V} leads from to n bounded walk is none =
    let First : ℕ → Type 0 = λ i. (first : Step V) × (rest : List (Step V))
    × IsLeastWalk leads from (first ∷ rest) to × (first.exit ≡ i) in
    least_walk leads from to (cost_of walk) walk (omega arith) is (λ w.
    chosen First n (λ c.
    none (
      record { distance = cost_of w.0; hops = c.hops },
      record {
        distance = (w.0, w.1, refl);
        hops = λ i.
            elim (cases_lt i n) [
              | inl less ↦ c.members i less
              | inr past ↦ (
                λ t. absurd (let above : bit_at c.hops i ≡ 0 =
                    bit_at_above c.hops n i c.below past in
                    omega (arith, above, bit_of_member c.hops i t)),
                λ q. absurd (let low : q.0.exit < n = bounded q.0 q.2.is_walk.0 in
                    omega (arith, low, past, q.3)),
              )
            ];
      },
    )))
