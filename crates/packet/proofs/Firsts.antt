-- The first of some checks that applies.
use Rattle.std.proofs.Common.{◌≡◌, ℕ, Bool, true, false, not, cond, eqb, List, [], ◌∷◌, Some, None}
use Rattle.std.proofs.Common.{refl, ap, ◌∙◌, arith}
use Rattle.std.specs.List.{AllByRecursion}
use Rattle.std.proofs.lemmas.Bool.{eqb-true}
use Rattle.packet.specs.declared.refusal.PacketFault.{PacketFault}
use Rattle.packet.specs.Reading.{first_of}

abbrev pub Fails : Bool × PacketFault → Type 0
Fails t = t.0 ≡ false

pub all_fail : (ts : List (Bool × PacketFault)) → first_of ts ≡ None → AllByRecursion Fails ts
all_fail [] e = tt
all_fail (t ∷ ts) e =
    elim t.0 as (λ b. t.0 ≡ b → cond b (Some t.1) (first_of ts) ≡ None
    → AllByRecursion Fails (t ∷ ts)) [
      | true ↦ λ is e. absurd cc
      | false ↦ λ is e. (is, all_fail ts e)
    ] refl e

pub none_of : (ts : List (Bool × PacketFault)) → AllByRecursion Fails ts → first_of ts ≡ None
none_of [] h = refl
none_of (t ∷ ts) h = rw (h.0) (none_of ts h.1)

pub not_false : (b : Bool) → not b ≡ false → b ≡ true
not_false true e = refl
not_false false e = absurd cc

pub equal_from : (m n : ℕ) → not (eqb m n) ≡ false → m ≡ n
equal_from m n e = eqb-true m n (not_false (eqb m n) e)

eqb_self : (n : ℕ) → eqb n n ≡ true
eqb_self n = grind arith

pub from_equal : (m n : ℕ) → m ≡ n → not (eqb m n) ≡ false
from_equal m n e = ap (λ k. not (eqb k n)) e ∙ ap not (eqb_self n)

pub is_equal : (m n : ℕ) → m ≡ n → eqb m n ≡ true
is_equal m n e = ap (λ k. eqb k n) e ∙ eqb_self n
