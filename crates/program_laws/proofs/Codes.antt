-- The slot of each instruction in the counted code, and the code that counts the turns.
use Rattle.std.proofs.Common.{◌≡◌, ℕ, zero, suc, ◌+◌, ◌*◌, ◌^◌, ◌%◌, ◌<◌, ℤ, pos, ◌-ℤ◌, List, []}
use Rattle.std.proofs.Common.{◌∷◌, ◌++◌, length, refl, sym, ap, subst, ◌∙◌, Option, Some, None}
use Rattle.std.proofs.Common.{arith, true, false, Bool, length-append, cond}
use Rattle.std.specs.Prelude.{slice_get, position, nat_lt, ◌==◌, not, if◌then◌else◌}
use Rattle.std.proofs.lemmas.Int.{ints}
use Rattle.std.proofs.lemmas.Bool.{eqb-true}
use borrow.Author.Tests.{ltb-true}
use Rattle.std.proofs.lemmas.Option.{slice_get_within}
use Rattle.std.specs.Int.{w64, cast_unsigned}
use Rattle.std.specs.List.{flat_map, position_or_len, AllByRecursion}
use Rattle.isa.specs.declared.instruction.Instruction.{Instruction}
use Rattle.isa.specs.declared.instruction.Instruction.TheVariants as instructions
use Rattle.isa.specs.declared.code.Slot.{Slot}
use Rattle.isa.specs.declared.code.Slot.TheVariants.{Start, SecondHalf}
use Rattle.isa.specs.Code.{slots_of, is_wide, IsInstruction, AreWhole}
use Rattle.isa.specs.Flow.{jump_target, slot_at_distance}
use Rattle.isa.proofs.Starts.{same_instruction}
use Rattle.annotations.specs.CountedCode.{counted_code, place_of, distance_of, distance_between}
use Rattle.annotations.specs.CountedCode.{with_distance_if_given, redirected_from, detour, detours}
use Rattle.annotations.specs.CountedCode.{detour_at}

-- the instruction in the counted code
abbrev pub redirected : ℕ → List ℕ → ℕ → Instruction → Instruction
redirected slots heads slot i =
    with_distance_if_given i (distance_of slots slot (place_of heads slot (jump_target slot i)))

cast_wraps : (from to : ℕ) → to < 2 ^ 63 → from < 2 ^ 63
    → (from + cast_unsigned w64 (pos to -ℤ pos from)) % 2 ^ 64 ≡ to
cast_wraps from to t f = omega (arith, ints)

pub distance_leads : (from to : ℕ) → from + 1 < 2 ^ 63 → to < 2 ^ 63
    → slot_at_distance from (distance_between from to) ≡ to
distance_leads from to f t = cast_wraps (from + 1) to t f

-- an index before the end of the first list
pub got_before : (xs ys : List Slot) (n : ℕ) → n < length xs → slice_get (xs ++ ys) n
    ≡ slice_get xs n
got_before [] ys n lt = absurd (omega arith)
got_before (x ∷ xs) ys zero lt = refl
got_before (x ∷ xs) ys (suc n) lt = got_before xs ys n (omega arith)

-- an index after it
pub got_behind : (xs ys : List Slot) (n : ℕ) → slice_get (xs ++ ys) (length xs + n) ≡ slice_get ys n
got_behind [] ys n = ap (slice_get ys) (omega arith)
got_behind (x ∷ xs) ys n =
    let next : suc (length xs) + n ≡ suc (length xs + n) = omega arith in
    ap (slice_get ((x ∷ xs) ++ ys)) next ∙ got_behind xs ys n

-- code of whole instructions
pub data Whole : List Slot → Type 0 where
  End : Whole []
  Short : (i : Instruction) → IsInstruction i → is_wide i ≡ false → (rest : List Slot) → Whole rest
      → Whole (Start i ∷ rest)
  Wide : (i : Instruction) → IsInstruction i → is_wide i ≡ true → (rest : List Slot) → Whole rest
      → Whole (Start i ∷ SecondHalf ∷ rest)

by_width : (i : Instruction) (fits : IsInstruction i) (wide : Bool) → is_wide i ≡ wide
    → (rest : List Slot) → Whole rest
    → Whole ((Start i ∷ (if wide then SecondHalf ∷ [] else [])) ++ rest)
by_width i fits true e rest whole = Wide i fits e rest whole
by_width i fits false e rest whole = Short i fits e rest whole

pub whole_of : (instructions : List Instruction) → AllByRecursion IsInstruction instructions
    → Whole (flat_map slots_of instructions)
whole_of [] each = End
whole_of (i ∷ instructions) each =
    by_width i each.0 (is_wide i) refl (flat_map slots_of instructions)
    (whole_of instructions each.1)

pub whole_code : (code : List Slot) → AreWhole code → Whole code
whole_code code whole = subst Whole (sym whole.slots_are) (whole_of whole.instructions whole.each)

-- the parts of each instruction fit
pub fits_at : (code : List Slot) → Whole code → (n : ℕ) (i : Instruction) → slice_get code n
    ≡ Some (Start i) → IsInstruction i
fits_at code End n i e = cc
fits_at code (Short x fits w rest whole) zero i e =
    subst IsInstruction (same_instruction x i refl e) fits
fits_at code (Short x fits w rest whole) (suc n) i e = fits_at rest whole n i e
fits_at code (Wide x fits w rest whole) zero i e =
    subst IsInstruction (same_instruction x i refl e) fits
fits_at code (Wide x fits w rest whole) (suc zero) i e = cc
fits_at code (Wide x fits w rest whole) (suc (suc n)) i e = fits_at rest whole n i e

-- ---- the code, one slot later

wide_by : (i : Instruction) (given : Option ℤ) → is_wide (with_distance_if_given i given)
    ≡ is_wide i
wide_by i None = refl
wide_by (instructions.Jump old) (Some new) = refl
wide_by (instructions.LongJump old) (Some new) = refl
wide_by (instructions.Branch width test left right old) (Some new) = refl
wide_by other (Some new) = refl

stays_wide : (slots : ℕ) (heads : List ℕ) (slot : ℕ) (i : Instruction) (wide : Bool) → is_wide i
    ≡ wide → is_wide (redirected slots heads slot i) ≡ wide
stays_wide slots heads slot i wide e =
    wide_by i (distance_of slots slot (place_of heads slot (jump_target slot i))) ∙ e

-- the slots of an instruction of this width, and what follows
slots_by : (i : Instruction) (wide : Bool) (rest : List Slot) → is_wide i ≡ wide
    → slots_of i ++ rest ≡ Start i ∷ ((if wide then SecondHalf ∷ [] else []) ++ rest)
slots_by i wide rest e = ap (λ w. Start i ∷ ((if w then SecondHalf ∷ [] else []) ++ rest)) e

module _ (slots : ℕ) (heads : List ℕ) where
  short_is : (i : Instruction) (rest : List Slot) (first : ℕ) → is_wide i ≡ false
      → redirected_from slots heads first (Start i ∷ rest) ≡ Start (redirected slots heads first i)
      ∷ redirected_from slots heads (first + 1) rest
  short_is i rest first e = slots_by (redirected slots heads first i) false
      (redirected_from slots heads (first + 1) rest) (stays_wide slots heads first i false e)

  wide_is : (i : Instruction) (rest : List Slot) (first : ℕ) → is_wide i ≡ true
      → redirected_from slots heads first (Start i ∷ SecondHalf ∷ rest)
      ≡ Start (redirected slots heads first i) ∷ SecondHalf
      ∷ redirected_from slots heads (first + 1 + 1) rest
  wide_is i rest first e = slots_by (redirected slots heads first i) true
      (redirected_from slots heads (first + 1 + 1) rest) (stays_wide slots heads first i true e)

  pub keeps_length : (code : List Slot) → Whole code → (first : ℕ)
      → length (redirected_from slots heads first code) ≡ length code
  keeps_length code End first = refl
  keeps_length code (Short i fits w rest whole) first = ap length (short_is i rest first w)
      ∙ ap suc (keeps_length rest whole (first + 1))
  keeps_length code (Wide i fits w rest whole) first =
      ap length (wide_is i rest first w)
      ∙ ap (λ n. suc (suc n)) (keeps_length rest whole (first + 1 + 1))

  at_place : (i : Instruction) (a b : ℕ) → a ≡ b → Some (Start (redirected slots heads a i))
      ≡ Some (Start (redirected slots heads b i))
  at_place i a b e = ap (λ k. Some (Start (redirected slots heads k i))) e

  here : (x i : Instruction) (first n : ℕ) → n ≡ 0 → Some (Start x) ≡ Some (Start i)
      → Some (Start (redirected slots heads first x))
      ≡ Some (Start (redirected slots heads (first + n) i))
  here x i first n none e =
      at_place x first (first + n) (omega arith)
      ∙ ap (λ (y : Instruction). Some (Start (redirected slots heads (first + n) y)))
      (same_instruction x i refl e)

  -- each instruction of the code is in the counted code, redirected
  pub stands_at : (code : List Slot) → Whole code → (first n : ℕ) (i : Instruction)
      → slice_get code n ≡ Some (Start i) → slice_get (redirected_from slots heads first code) n
      ≡ Some (Start (redirected slots heads (first + n) i))
  stands_at code End first n i e = cc
  stands_at code (Short x fits w rest whole) first zero i e =
      ap (λ xs. slice_get xs 0) (short_is x rest first w) ∙ here x i first 0 refl e
  stands_at code (Short x fits w rest whole) first (suc n) i e =
      ap (λ xs. slice_get xs (suc n)) (short_is x rest first w)
      ∙ stands_at rest whole (first + 1) n i e
      ∙ at_place i ((first + 1) + n) (first + suc n) (omega arith)
  stands_at code (Wide x fits w rest whole) first zero i e =
      ap (λ xs. slice_get xs 0) (wide_is x rest first w) ∙ here x i first 0 refl e
  stands_at code (Wide x fits w rest whole) first (suc zero) i e = cc
  stands_at code (Wide x fits w rest whole) first (suc (suc n)) i e =
      ap (λ xs. slice_get xs (suc (suc n))) (wide_is x rest first w)
      ∙ stands_at rest whole (first + 1 + 1) n i e
      ∙ at_place i (((first + 1) + 1) + n) (first + suc (suc n)) (omega arith)

-- ---- the code that counts the turns

abbrev is_head : ℕ → ℕ → Bool
is_head to head = head == to

place_by : (to : ℕ) (heads : List ℕ) (place : ℕ) (within : Bool)
    → nat_lt (position_or_len (is_head to) heads) (length heads) ≡ within
    → cond within (Some (position_or_len (is_head to) heads)) None ≡ Some place
    → (position_or_len (is_head to) heads ≡ place) × (place < length heads)
place_by to heads place true e found =
    let same : position_or_len (is_head to) heads ≡ place = cc in
    (same, rw same at (ltb-true (position_or_len (is_head to) heads) (length heads) e))
place_by to heads place false e found = cc

pub place_within : (to : ℕ) (heads : List ℕ) (place : ℕ) → position (λ head. head == to) heads
    ≡ Some place → place < length heads
place_within to heads place e = (place_by to heads place
    (nat_lt (position_or_len (is_head to) heads) (length heads)) refl e).1

detours_length : (answer counter at : ℕ) (heads : List ℕ) → length (detours answer counter at heads)
    ≡ 4 * length heads
detours_length answer counter at [] = refl
detours_length answer counter at (head ∷ heads) =
    omega (arith, detours_length answer counter (at + 4) heads)

module _ (answer counter to k : ℕ) (few : k < 4) where
  detour_by : (head : ℕ) (heads : List ℕ) (at place : ℕ) (same : Bool) → is_head to head ≡ same
      → ((n at' : ℕ) → position_or_len (is_head to) heads ≡ n → n < length heads
      → slice_get (detours answer counter at' heads) (4 * n + k)
      ≡ slice_get (detour answer counter (at' + 4 * n) to) k)
      → cond (not same) (1 + position_or_len (is_head to) heads) 0 ≡ place
      → place < length (head ∷ heads)
      → slice_get (detours answer counter at (head ∷ heads)) (4 * place + k)
      ≡ slice_get (detour answer counter (at + 4 * place) to) k
  detour_by head heads at place true e rest is within =
      let this : head ≡ to = eqb-true head to e in
      let here : 4 * place + k ≡ k = omega arith in
      let same_at : at ≡ at + 4 * place = omega arith in
      ap (slice_get (detours answer counter at (head ∷ heads))) here
      ∙ got_before (detour answer counter at head) (detours answer counter (at + 4) heads) k few
      ∙ ap (λ h. slice_get (detour answer counter at h) k) this
      ∙ ap (λ a. slice_get (detour answer counter a to) k) same_at
  detour_by head heads at place false e rest is within =
      let before : ℕ = position_or_len (is_head to) heads in
      let later : 4 * place + k ≡ 4 + (4 * before + k) = omega arith in
      let there : (at + 4) + 4 * before ≡ at + 4 * place = omega arith in
      let less : before < length heads = omega arith in
      ap (slice_get (detours answer counter at (head ∷ heads))) later
      ∙ got_behind (detour answer counter at head) (detours answer counter (at + 4) heads)
      (4 * before + k)
      ∙ rest before (at + 4) refl less
      ∙ ap (λ a. slice_get (detour answer counter a to) k) there

  detour_in : (heads : List ℕ) (place at : ℕ) → position_or_len (is_head to) heads ≡ place
      → place < length heads → slice_get (detours answer counter at heads) (4 * place + k)
      ≡ slice_get (detour answer counter (at + 4 * place) to) k
  detour_in [] place at is within = absurd (omega arith)
  detour_in (head ∷ heads) place at is within =
      detour_by head heads at place (is_head to head) refl (λ n at' e l. detour_in heads n at' e l)
      is within

-- ---- all of it

module _ (answer counter turns : ℕ) (heads : List ℕ) (code : List Slot) (whole : Whole code) where
  abbrev pub all : List Slot
  all = counted_code answer counter turns heads code

  abbrev later_code : List Slot
  later_code = redirected_from (length code) heads 0 code

  abbrev behind : List Slot
  behind = detours answer counter (length code + 1) heads

  long : length later_code ≡ length code
  long = keeps_length (length code) heads code whole 0

  pub long_as : length all ≡ 1 + length code + 4 * length heads
  long_as = omega (
    arith,
    length-append later_code behind,
    detours_length answer counter (length code + 1) heads,
    long,
  )

  pub later_is : (slot : ℕ) (i : Instruction) → slice_get code slot ≡ Some (Start i)
      → slice_get all (slot + 1) ≡ Some (Start (redirected (length code) heads slot i))
  later_is slot i e =
      let within : slot < length later_code =
      omega (arith, slice_get_within code slot (Start i) e, long) in
      let next : slot + 1 ≡ suc slot = omega arith in
      ap (slice_get all) next ∙ got_before later_code behind slot within
      ∙ stands_at (length code) heads code whole 0 slot i e
      ∙ at_place (length code) heads i (0 + slot) slot (omega arith)

  pub detour_is : (to place k : ℕ) → position (λ head. head == to) heads ≡ Some place → k < 4
      → slice_get all (detour_at (length code) place + k)
      ≡ slice_get (detour answer counter (detour_at (length code) place) to) k
  detour_is to place k e few =
      let found = place_by to heads place
      (nat_lt (position_or_len (is_head to) heads) (length heads)) refl e in
      let there : detour_at (length code) place + k ≡ suc (length later_code + (4 * place + k)) =
      omega (arith, long) in
      ap (slice_get all) there ∙ got_behind later_code behind (4 * place + k)
      ∙ detour_in answer counter to k few heads place (length code + 1) found.0 found.1
