use Rattle.std.proofs.Common.{◌≡◌, List, ap, arith, inl, inr, length, refl, sym, ℕ}
use Rattle.std.specs.Prelude.{vec_len}
use Rattle.std.proofs.lemmas.Bool.{eqb-false}
use Rattle.annotations.proofs.Outcomes.{with_turns}
use Rattle.annotations.proofs.counting.try_heads.Goals as goal

pub returns-then-is_empty : goal.returns-then-is_empty
returns-then-is_empty c = with_turns _ _ _ _ _ (inl refl) c.annotate.ensures

pub try_counted-requires-clause-inside : goal.try_counted-requires-clause-inside
try_counted-requires-clause-inside c = elim c.requires.inside [
  | inl none ↦
      let slots = c.args.heads.now.slots in
      let items : length slots.items ≡ 0 = ap (λ (xs : List ℕ). length xs) none in
      let empty : vec_len slots ≡ 0 = omega (arith, items, slots.ok.0) in
      absurd (eqb-false (vec_len slots) 0 (sym c.if-is_empty.ensures) empty)
  | inr inside ↦ inside
]
