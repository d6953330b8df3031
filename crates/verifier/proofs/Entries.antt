-- The start of a run is as the entry says.
use Rattle.std.proofs.Common.{◌≡◌, ℕ, zero, suc, ◌<◌, ◌≤◌, Bool, true, false, List, [], ◌∷◌, Option}
use Rattle.std.proofs.Common.{Some, refl, sym, subst, ◌∙◌, get_or, length, arith, ⊎_elim}
use Rattle.std.proofs.lemmas.List.{get_or-replicate, length-replicate}
use Rattle.std.proofs.lemmas.Bool.{cases_lt, false≢true}
use Rattle.std.proofs.lemmas.Option.{same_Some}
use Rattle.object.specs.Sets.{has_byte, no_bytes}
use Rattle.machine.specs.declared.state.Pointer.TheVariants as pointers
use Rattle.machine.specs.declared.state.StackByte.TheVariants as stack_bytes
use Rattle.machine.specs.declared.state.State.{State as Machine}
use Rattle.machine.specs.State.{start, held}
use Rattle.kinds.specs.declared.state.Kind.{Kind}
use Rattle.kinds.specs.declared.state.Kind.TheVariants.{Pointer, Unknown}
use Rattle.kinds.specs.declared.state.PointerPlace.TheVariants.{Context}
use Rattle.kinds.specs.declared.statement.SegmentStart.{SegmentStart}
use Rattle.kinds.specs.Meaning.{KindHolds, SegmentStartHolds}
use Rattle.verifier.specs.Places.{segment_start_at}
use Rattle.verifier.specs.Segments.{Enters}

-- r1 points to the context, and nothing else is known
abbrev pub entry_kinds : {D : Type 0} → List (Kind D)
entry_kinds = Unknown ∷ Pointer (Context 0) ∷ []

entry_kind : {D : Type 0} (contains : D → ℕ → Type 0) (r : ℕ)
    → KindHolds contains (get_or (entry_kinds {D = D}) r Unknown) (held start r)
entry_kind contains zero = tt
entry_kind contains (suc zero) = (pointers.Context 0, refl, refl)
entry_kind contains (suc (suc r)) = tt

past_end : (xs : List Bool) (i : ℕ) → length xs ≤ i → get_or xs i false ≡ false
past_end [] i past = refl
past_end (x ∷ xs) zero past = absurd (omega (arith, past))
past_end (x ∷ xs) (suc i) past = past_end xs i (omega (arith, past))

none_stated : (at : ℕ) → has_byte no_bytes at ≡ true → ⊥
none_stated at stated =
    ⊎_elim
    (λ (low : at < 512). false≢true (sym (get_or-replicate 512 at false false low) ∙ stated))
    (λ (high : 512 ≤ at). false≢true
    (sym (past_end no_bytes at (omega (arith, high, length-replicate 512 false))) ∙ stated))
    (cases_lt at 512)

pub entry_holds : {D : Type 0} (contains : D → ℕ → Type 0) (entry : SegmentStart D)
    → entry.statement.now.stack ≡ no_bytes
    → ((r : ℕ) → get_or entry.kinds.items r Unknown ≡ get_or entry_kinds r Unknown)
    → SegmentStartHolds contains entry start
entry_holds contains entry stack kinds = record {
  eleven = refl;
  whole = length-replicate 512 stack_bytes.Nothing;
  frame = refl;
  registers = λ r small. rw (kinds r) (entry_kind contains r);
  stack = λ at stated. absurd (none_stated at (rw stack at stated));
}

-- the statement that is found is the one that is there
pub edge_of : {D : Type 0} (contains : D → ℕ → Type 0)
    (segment_starts : List (Option (SegmentStart D))) (entry found target : SegmentStart D)
    → segment_start_at segment_starts 0 ≡ Some found
    → segment_start_at segment_starts 0 ≡ Some target
    → ((machine : Machine) → SegmentStartHolds contains entry machine
    → Enters contains false entry found machine machine) → (machine : Machine)
    → SegmentStartHolds contains entry machine
    → Enters contains false entry target machine machine
edge_of {D} contains segment_starts entry found target is_found stated enters machine holds =
    subst (λ (t : SegmentStart D). Enters contains false entry t machine machine)
    (same_Some found target (sym is_found ∙ stated)) (enters machine holds)
