-- The first fault in the machine's order is the least one whose condition holds.
use Rattle.std.proofs.Common.{◌≡◌, ◌↔◌, ◌⊎◌, inl, inr, ℕ, ◌<◌, List, [], ◌∷◌, refl, sym, ap, ◌∙◌}
use Rattle.std.proofs.Common.{arith, lit<, Bool, true, false, cond, Some}
use Rattle.isa.specs.declared.instruction.Instruction.{Instruction}
use Rattle.isa.specs.declared.instruction.Instruction.TheVariants as instructions
use Rattle.machine.specs.declared.fault.Fault.{Fault}
use Rattle.machine.specs.declared.fault.Fault.TheVariants.{Outside, HalfWide, Empty, Kind, Bounds}
use Rattle.machine.specs.declared.fault.Fault.TheVariants.{Align, Helper, Argument, Frame, ExitKind}
use Rattle.machine.specs.declared.state.State.{State}
use Rattle.machine.specs.State.{Setting}
use Rattle.machine.specs.Steps.{IsAt}
use Rattle.machine.specs.Faults.{fault_number, commits, first_of, order_of, fault_at, Stuck}
use Rattle.machine.specs.Laws.{call_rank, rank_of, IsLeast}

abbrev Has : Fault → List Fault → Type 0
Has g [] = ⊥
Has g (x ∷ xs) = (x ≡ g) ⊎ Has g xs

abbrev IsSorted : (Fault → ℕ) → List Fault → Type 0
IsSorted rank [] = Unit {0}
IsSorted rank (x ∷ xs) = ((g : Fault) → Has g xs → rank x < rank g) × IsSorted rank xs

module _ (rank : Fault → ℕ) (committed : Fault → Bool) where
  first_holds : (xs : List Fault) (f : Fault) → first_of committed xs ≡ Some f → committed f ≡ true
  first_holds [] f e = cc
  first_holds (x ∷ xs) f e = at (committed x) refl e (first_holds xs f)
    where
      at : (b : Bool) → committed x ≡ b → cond b (Some x) (first_of committed xs) ≡ Some f
          → (first_of committed xs ≡ Some f → committed f ≡ true) → committed f ≡ true
      at true is e rest = let same : x ≡ f = cc in rw same at is
      at false is e rest = rest e

  first_least : (xs : List Fault) (f g : Fault) → IsSorted rank xs → first_of committed xs ≡ Some f
      → Has g xs → rank g < rank f → committed g ≡ false
  first_least [] f g sorted e has lt = elim has [ ]
  first_least (x ∷ xs) f g sorted e has lt =
      at (committed x) refl e has (first_least xs f g sorted.1)
    where
      at : (b : Bool) → committed x ≡ b → cond b (Some x) (first_of committed xs) ≡ Some f
          → (x ≡ g) ⊎ Has g xs → (first_of committed xs ≡ Some f → Has g xs → rank g < rank f
          → committed g ≡ false) → committed g ≡ false
      at false is e (inl same) rest = rw same at is
      at false is e (inr more) rest = rest e more lt
      at true is e (inl same) rest = let self : f ≡ g = cc in let no : rank g < rank g =
          rw self at lt in absurd (omega (arith, no))
      at true is e (inr more) rest =
          let same : x ≡ f = cc in
          let less : rank f < rank g = rw same at (sorted.0 g more) in
          absurd (omega (arith, less, lt))

  first_found : (xs : List Fault) (f : Fault) → IsSorted rank xs → Has f xs → committed f ≡ true
      → ((g : Fault) → rank g < rank f → committed g ≡ false) → first_of committed xs ≡ Some f
  first_found [] f sorted has is least = elim has [ ]
  first_found (x ∷ xs) f sorted has is least =
      at (committed x) refl has (λ more. first_found xs f sorted.1 more is least)
    where
      at : (b : Bool) → committed x ≡ b → (x ≡ f) ⊎ Has f xs
          → (Has f xs → first_of committed xs ≡ Some f)
          → cond b (Some x) (first_of committed xs) ≡ Some f
      at true e (inl same) rest = ap Some same
      at true e (inr more) rest = let no = least x (sorted.0 f more) in cc
      at false e (inl same) rest = let no : committed f ≡ false = rw same at e in cc
      at false e (inr more) rest = rest more

  -- each fault is in the list or not committed
  first_least_iff : (xs : List Fault) → IsSorted rank xs
      → ((g : Fault) → (committed g ≡ false) ⊎ Has g xs) → (f : Fault)
      → (first_of committed xs ≡ Some f) ↔ IsLeast rank committed f
  first_least_iff xs sorted covers f = (to, from)
    where
      to : first_of committed xs ≡ Some f → IsLeast rank committed f
      to e = record { holds = first_holds xs f e; least = λ g lt. pick g lt (covers g) }
        where
          pick : (g : Fault) → rank g < rank f → (committed g ≡ false) ⊎ Has g xs
              → committed g ≡ false
          pick g lt (inl not_so) = not_so
          pick g lt (inr has) = first_least xs f g sorted e has lt

      from : IsLeast rank committed f → first_of committed xs ≡ Some f
      from l = pick (covers f)
        where
          pick : (committed f ≡ false) ⊎ Has f xs → first_of committed xs ≡ Some f
          pick (inl not_so) = let yes = l.holds in cc
          pick (inr has) = first_found xs f sorted has l.holds l.least

abbrev six : List Fault
six = Empty ∷ Kind ∷ Bounds ∷ Align ∷ Frame ∷ ExitKind ∷ []

abbrev four : List Fault
four = Helper ∷ Empty ∷ Kind ∷ Argument ∷ []

six_sorted : IsSorted fault_number six
six_sorted = (after3, (after4, (after5, (after6, (after9, (after10, tt))))))
  where
    after10 : (g : Fault) → Has g [] → 10 < fault_number g
    after10 g h = elim h [ ]

    after9 : (g : Fault) → Has g (ExitKind ∷ []) → 9 < fault_number g
    after9 g (inl e) = rw (← e) (lit< tt)
    after9 g (inr h) = elim h [ ]

    after6 : (g : Fault) → Has g (Frame ∷ ExitKind ∷ []) → 6 < fault_number g
    after6 g (inl e) = rw (← e) (lit< tt)
    after6 g (inr h) = let more = after9 g h in omega (arith, more)

    after5 : (g : Fault) → Has g (Align ∷ Frame ∷ ExitKind ∷ []) → 5 < fault_number g
    after5 g (inl e) = rw (← e) (lit< tt)
    after5 g (inr h) = let more = after6 g h in omega (arith, more)

    after4 : (g : Fault) → Has g (Bounds ∷ Align ∷ Frame ∷ ExitKind ∷ []) → 4 < fault_number g
    after4 g (inl e) = rw (← e) (lit< tt)
    after4 g (inr h) = let more = after5 g h in omega (arith, more)

    after3 : (g : Fault) → Has g (Kind ∷ Bounds ∷ Align ∷ Frame ∷ ExitKind ∷ [])
        → 3 < fault_number g
    after3 g (inl e) = rw (← e) (lit< tt)
    after3 g (inr h) = let more = after4 g h in omega (arith, more)

four_sorted : IsSorted call_rank four
four_sorted = (after0, (after3, (after4, (after8, tt))))
  where
    after8 : (g : Fault) → Has g [] → 8 < call_rank g
    after8 g h = elim h [ ]

    after4 : (g : Fault) → Has g (Argument ∷ []) → 4 < call_rank g
    after4 g (inl e) = rw (← e) (lit< tt)
    after4 g (inr h) = elim h [ ]

    after3 : (g : Fault) → Has g (Kind ∷ Argument ∷ []) → 3 < call_rank g
    after3 g (inl e) = rw (← e) (lit< tt)
    after3 g (inr h) = let more = after4 g h in omega (arith, more)

    after0 : (g : Fault) → Has g (Empty ∷ Kind ∷ Argument ∷ []) → 0 < call_rank g
    after0 g (inl e) = rw (← e) (lit< tt)
    after0 g (inr h) = let more = after3 g h in omega (arith, more)

module _ (committed : Fault → Bool) where
  six_cover : committed Outside ≡ false → committed HalfWide ≡ false → committed Helper ≡ false
      → committed Argument ≡ false → (g : Fault) → (committed g ≡ false) ⊎ Has g six
  six_cover a b c d Outside = inl a
  six_cover a b c d HalfWide = inl b
  six_cover a b c d Empty = inr (inl refl)
  six_cover a b c d Kind = inr (inr (inl refl))
  six_cover a b c d Bounds = inr (inr (inr (inl refl)))
  six_cover a b c d Align = inr (inr (inr (inr (inl refl))))
  six_cover a b c d Helper = inl c
  six_cover a b c d Argument = inl d
  six_cover a b c d Frame = inr (inr (inr (inr (inr (inl refl)))))
  six_cover a b c d ExitKind = inr (inr (inr (inr (inr (inr (inl refl))))))

  four_cover : committed Outside ≡ false → committed HalfWide ≡ false → committed Bounds ≡ false
      → committed Align ≡ false → committed Frame ≡ false → committed ExitKind ≡ false → (g : Fault)
      → (committed g ≡ false) ⊎ Has g four
  four_cover a b c d e f Outside = inl a
  four_cover a b c d e f HalfWide = inl b
  four_cover a b c d e f Empty = inr (inr (inl refl))
  four_cover a b c d e f Kind = inr (inr (inr (inl refl)))
  four_cover a b c d e f Bounds = inl c
  four_cover a b c d e f Align = inl d
  four_cover a b c d e f Helper = inr (inl refl)
  four_cover a b c d e f Argument = inr (inr (inr (inr (inl refl))))
  four_cover a b c d e f Frame = inl e
  four_cover a b c d e f ExitKind = inl f

  plain_least : committed Outside ≡ false → committed HalfWide ≡ false → committed Helper ≡ false
      → committed Argument ≡ false → (f : Fault)
      → (first_of committed six ≡ Some f) ↔ IsLeast fault_number committed f
  plain_least a b c d f = first_least_iff fault_number committed six six_sorted
      (six_cover a b c d) f

least_at : (setting : Setting) (s : State) (i : Instruction) (f : Fault)
    → (first_of (commits setting s i) (order_of i) ≡ Some f) ↔ IsLeast (rank_of i)
    (commits setting s i) f
least_at setting s (instructions.Call number) f =
    first_least_iff call_rank (commits setting s (instructions.Call number)) four four_sorted
    (four_cover (commits setting s (instructions.Call number)) refl refl refl refl refl refl) f
least_at setting s (instructions.Arithmetic w op t src) f =
    plain_least (commits setting s (instructions.Arithmetic w op t src)) refl refl refl refl f
least_at setting s (instructions.Negate w t) f =
    plain_least (commits setting s (instructions.Negate w t)) refl refl refl refl f
least_at setting s (instructions.SignExtend x t src) f =
    plain_least (commits setting s (instructions.SignExtend x t src)) refl refl refl refl f
least_at setting s (instructions.Reorder o w t) f =
    plain_least (commits setting s (instructions.Reorder o w t)) refl refl refl refl f
least_at setting s (instructions.Jump d) f =
    plain_least (commits setting s (instructions.Jump d)) refl refl refl refl f
least_at setting s (instructions.LongJump d) f =
    plain_least (commits setting s (instructions.LongJump d)) refl refl refl refl f
least_at setting s (instructions.Branch w test left right d) f =
    plain_least (commits setting s (instructions.Branch w test left right d)) refl refl refl refl f
least_at setting s instructions.Exit f =
    plain_least (commits setting s instructions.Exit) refl refl refl refl f
least_at setting s (instructions.Load size t base offset) f =
    plain_least (commits setting s (instructions.Load size t base offset)) refl refl refl refl f
least_at setting s (instructions.Store size base offset src) f =
    plain_least (commits setting s (instructions.Store size base offset src)) refl refl refl refl f
least_at setting s (instructions.LoadNumber t number) f =
    plain_least (commits setting s (instructions.LoadNumber t number)) refl refl refl refl f
least_at setting s (instructions.LoadMap t m offset) f =
    plain_least (commits setting s (instructions.LoadMap t m offset)) refl refl refl refl f

pub least_counts : (setting : Setting) (s : State) (i : Instruction) (fault : Fault)
    → IsAt setting s i → Stuck setting s fault ↔ IsLeast (rank_of i) (commits setting s i) fault
least_counts setting s i fault at =
    let is : fault_at setting s ≡ first_of (commits setting s i) (order_of i) = rw at refl in
    let iff = least_at setting s i fault in
    ((λ stuck. iff.0 (sym is ∙ stuck)), (λ least. is ∙ iff.1 least))
