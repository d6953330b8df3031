-- Words that spell no number, or one that is too large.
use Rattle.std.proofs.Common.{◌≡◌, ℕ, ◌<◌, ◌≤◌, ◌^◌, List, [], ◌∷◌, length, Bool, true, false, ◌&&◌}
use Rattle.std.proofs.Common.{refl, ap, arith, None}
use Rattle.std.specs.Str.{all_ascii_digits}
use Rattle.std.proofs.lemmas.Bool.{le-ltb, ne_eqb}
use Rattle.asm.specs.WordNumbers.{is_numeral, natural_of, number_of, distance_of, held}
use Rattle.asm.specs.declared.numeral.Numeral.TheVariants.{Huge}

pub held_huge : (v : ℕ) → 2 ^ 64 ≤ v → held v ≡ Huge
held_huge v h = rw (le-ltb v (2 ^ 64) h) refl

pub number_unsigned : (w : List ℕ) → ((rest : List ℕ) → w ≡ 45 ∷ rest → ⊥)
    → natural_of w ≡ number_of w
number_unsigned [] h = refl
number_unsigned (c ∷ cs) h = rw (ne_eqb c 45 (λ e. h cs (ap (λ d. d ∷ cs) e))) refl

pub distance_none : (w : List ℕ) → ((rest : List ℕ) → w ≡ 43 ∷ rest → ⊥)
    → ((rest : List ℕ) → w ≡ 45 ∷ rest → ⊥) → None ≡ distance_of w
distance_none [] h k = refl
distance_none (c ∷ cs) h k = rw (
  ne_eqb c 43 (λ e. h cs (ap (λ d. d ∷ cs) e)),
  ne_eqb c 45 (λ e. k cs (ap (λ d. d ∷ cs) e)),
) refl

pub both : (a b : Bool) → (a && b) ≡ true → (a ≡ true) × (b ≡ true)
both true true e = (refl, refl)
both true false e = absurd (cc e)
both false b e = absurd (cc e)

pub is_digits : (w : List ℕ) → is_numeral w ≡ true → all_ascii_digits w ≡ true
is_digits w e = (both (all_ascii_digits w) _ e).0

pub is_some : (w : List ℕ) → is_numeral w ≡ true → 0 < length w
is_some [] e = absurd (cc e)
is_some (c ∷ cs) e = omega arith

pub large : (v l : ℕ) → ((0 < l) × (v < 2 ^ 64) → ⊥) → 0 < l → 2 ^ 64 ≤ v
large v l h s = let k : v < 2 ^ 64 → ⊥ = λ q. h (s, q) in grind (arith, k)
