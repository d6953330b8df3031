-- The first test that succeeds.
use Rattle.std.proofs.Common.{◌≡◌, Bool, true, false, cond, List, [], ◌∷◌, inl, inr, refl, sym, ◌∙◌}
use Rattle.received.specs.Cases.{Case, case_tests, first_case}
use Rattle.received.specs.Laws.{ExactlyOneCaseApplies, IsFirstOf}

at_test : (b : Bool) (c otherwise : Case) (ts : List (Bool × Case)) (rest : Case)
    → IsFirstOf ts otherwise rest → IsFirstOf ((b, c) ∷ ts) otherwise (cond b c rest)
at_test true c otherwise ts rest is = inl (refl, refl)
at_test false c otherwise ts rest is = inr (refl, is)

first_is_first : (ts : List (Bool × Case)) (otherwise : Case)
    → IsFirstOf ts otherwise (first_case ts otherwise)
first_is_first [] otherwise = refl
first_is_first (t ∷ ts) otherwise =
    at_test t.0 t.1 otherwise ts (first_case ts otherwise) (first_is_first ts otherwise)

not_both : {A : Type 0} (b : Bool) → b ≡ true → b ≡ false → A
not_both b p q = absurd (contradiction (sym p ∙ q))
  where
    contradiction : true ≡ false → ⊥
    contradiction e = cc

one_first : (ts : List (Bool × Case)) (otherwise a b : Case) → IsFirstOf ts otherwise a
    → IsFirstOf ts otherwise b → a ≡ b
one_first [] otherwise a b p q = p ∙ sym q
one_first (t ∷ ts) otherwise a b (inl p) (inl q) = p.1 ∙ sym q.1
one_first (t ∷ ts) otherwise a b (inl p) (inr q) = not_both t.0 p.0 q.0
one_first (t ∷ ts) otherwise a b (inr p) (inl q) = not_both t.0 q.0 p.0
one_first (t ∷ ts) otherwise a b (inr p) (inr q) = one_first ts otherwise a b p.1 q.1

pub exactly_one : ExactlyOneCaseApplies
exactly_one = record {
  applies = λ moment copy sender synchronizing lsa. first_is_first
      (case_tests moment copy sender synchronizing lsa) Case.Older;
  only = one_first;
}
