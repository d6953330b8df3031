-- What is known of a stack whose bytes are visited one by one while a part is overwritten.
use Rattle.std.proofs.Common.{◌≡◌, ◌≢◌, ℕ, zero, suc, ◌+◌, ◌<◌, ◌≤◌, List, [], ◌∷◌, length, get_or}
use Rattle.std.proofs.Common.{set, refl, sym, ◌∙◌, subst, arith, ⊎_elim, get_or-set_other}
use Rattle.std.proofs.Common.{get_or-set_same, length-set}
use Rattle.std.proofs.lemmas.Bool.{cases_lt}
use Rattle.machine.specs.declared.state.StackByte.{StackByte}
use Rattle.machine.specs.Memory.{overwritten_stack}
use Rattle.kinds.specs.declared.state.StackEntry.{StackEntry}
use Rattle.kinds.specs.declared.state.StackEntry.TheVariants.{Unknown}
use Rattle.kinds.specs.Filled.{StaysFilledAt}
use Rattle.kinds.specs.Knows.{KnowsEntryOverwritten}
use Rattle.kinds.specs.Meaning.{EntryHolds, StackHolds}

-- within a list, the default for what is past its end doesn't matter
same_inside : {A : Type 0} (xs : List A) (i : ℕ) (d e : A) → i < length xs
    → get_or xs i d ≡ get_or xs i e
same_inside [] i d e inside = absurd (omega (arith, inside))
same_inside (x ∷ xs) zero d e inside = refl
same_inside (x ∷ xs) (suc i) d e inside = same_inside xs i d e (omega (arith, inside))

module _ {D : Type 0} (contains : D → ℕ → Type 0) (first now : List (StackEntry D))
    (start end at : ℕ)
    (inside entry after : StackEntry D) (within : at < length now)
    (rest : (k : ℕ) → at ≤ k → get_or now k Unknown ≡ get_or first k Unknown)
    (is : entry ≡ get_or now at entry) where
  entry_is : get_or first at Unknown ≡ entry
  entry_is = sym (rest at (omega arith)) ∙ same_inside now at Unknown entry within ∙ sym is

  -- what holds of the bytes so far and of this one holds of one more
  one_more : (P : ℕ → StackEntry D → Type 0) → P at after
      → ((k : ℕ) → k < at → P k (get_or now k Unknown)) → (k : ℕ) → k < at + 1
      → P k (get_or (set now at after) k Unknown)
  one_more P this before k below =
      ⊎_elim
      (λ (low : k < at).
      let other : k ≢ at = omega (arith, low) in
      subst (P k) (sym (get_or-set_other now at k after Unknown other)) (before k low))
      (λ (high : at ≤ k).
      let same : at ≡ k = omega (arith, below, high) in
      subst (λ n. P n (get_or (set now at after) n Unknown)) same
      (subst (P at) (sym (get_or-set_same now at after Unknown within)) this))
      (cases_lt k at)

  pub long_after : length now ≡ length first → length (set now at after) ≡ length first
  long_after long = length-set now at after ∙ long

  pub rest_after : (k : ℕ) → at + 1 ≤ k
      → get_or (set now at after) k Unknown ≡ get_or first k Unknown
  rest_after k above =
      let other : k ≢ at = omega (arith, above) in
      get_or-set_other now at k after Unknown other ∙ rest k (omega (arith, above))

  pub known_after : KnowsEntryOverwritten contains entry at start end inside after
      → ((old bytes : List StackByte) → StackHolds contains first old → start + length bytes ≡ end
      → end ≤ length old → ((k : ℕ) → start ≤ k → k < end
      → EntryHolds contains inside (overwritten_stack old start bytes) k) → (k : ℕ) → k < at
      → EntryHolds contains (get_or now k Unknown) (overwritten_stack old start bytes)
      k) → (old bytes : List StackByte) → StackHolds contains first old
      → start + length bytes ≡ end → end ≤ length old
      → ((k : ℕ) → start ≤ k → k < end
      → EntryHolds contains inside (overwritten_stack old start bytes)
      k) → (k : ℕ) → k < at + 1
      → EntryHolds contains
      (get_or (set now at after) k Unknown)
      (overwritten_stack old start bytes) k
  known_after knows before old bytes known size fits puts =
      one_more (λ k e. EntryHolds contains e (overwritten_stack old start bytes) k)
      (knows old bytes (subst (λ (e : StackEntry D). EntryHolds contains e old at) entry_is
      (known at))
      size fits (puts at))
      (before old bytes known size fits puts)

  pub filled_after : StaysFilledAt at start end inside entry after
      → ((k : ℕ) → k < at → StaysFilledAt k start end inside (get_or first k Unknown)
      (get_or now k Unknown)) → (k : ℕ) → k < at + 1
      → StaysFilledAt k start end inside (get_or first k Unknown)
      (get_or (set now at after) k Unknown)
  filled_after stays =
      one_more (λ k e. StaysFilledAt k start end inside (get_or first k Unknown) e)
      (subst (λ (e : StackEntry D). StaysFilledAt at start end inside e after) (sym entry_is) stays)
