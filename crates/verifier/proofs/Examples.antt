-- Programs that are plain, and programs that aren't, for one reason each.
use Rattle.std.proofs.Common.{◌≡◌, ◌≢◌, ℕ, zero, suc, ◌-◌, ◌^◌, ◌<◌, true, false, List, [], ◌∷◌}
use Rattle.std.proofs.Common.{Some, None, ◌⊎◌, inl, inr, ⊎_elim, refl, sym, ap, subst, ◌∙◌, get_or}
use Rattle.std.proofs.Common.{arith}
use Rattle.std.specs.Prelude.{nat_eq, replicate, pos, negsuc}
use Rattle.std.specs.List.{AllByRecursion}
use Rattle.std.proofs.lemmas.Bool.{cases_eq}
use Rattle.std.proofs.lemmas.Bool.Decides.{nat_tests}
use Rattle.std.proofs.lemmas.List.{get_or-replicate}
use Rattle.std.proofs.lemmas.Option.{none-some, same_Some}
use Rattle.isa.specs.declared.code.Slot.TheVariants.{Start}
use Rattle.isa.specs.declared.instruction.Instruction.{Instruction}
use Rattle.isa.specs.declared.instruction.Instruction.TheVariants as instructions
use Rattle.isa.specs.declared.instruction.Source.TheVariants.{Immediate, Register}
use Rattle.isa.specs.Flow.{Begins, BeginsAt, jump_target, registers_read, slot_after}
use Rattle.machine.specs.Faults.{writes_frame}
use Rattle.object.specs.Numbers.{Numbers}
use Rattle.object.specs.Statements.{StatementParts}
use Rattle.object.specs.declared.kind.StatedKind.{StatedKind}
use Rattle.object.specs.declared.kind.StatedKind.TheVariants as kinds
use Rattle.kinds.specs.Stated.{any_number}
use Rattle.transfer.specs.Plain.{IsPlainInstruction}
use Rattle.verifier.specs.Places.{falls_through}
use Rattle.verifier.specs.SegmentsPlain.{LeadsTo}
use Rattle.verifier.specs.Refusals.{IsStray, IsWellMade, JumpsNowhere}
use Rattle.verifier.specs.SegmentsStated.{statement_at}
use Rattle.isa.proofs.Starts.{same_instruction}
use Rattle.verifier.proofs.SegmentsPlain.{never}
use Rattle.verifier.specs.Examples.{then_exit, endless_code, move_of, only_seven, says, says_byte}
use Rattle.verifier.specs.Examples.{says_term, seven, test_on, tested_code}
use Rattle.verifier.specs.Plain.{IsFilledAt, is_stated, is_written, IsNumberIn, IsPlain}
use Rattle.verifier.specs.Plain.{IsPlainStatement, at_entry, at_statement, said_of}
use Rattle.verifier.proofs.Plain.{nothing_filled}

-- ---- `r0 = 7; if r0 == 0 goto L; L: exit`

abbrev pub stated_at_exit : List StatementParts
stated_at_exit = says 2 any_number 0 ∷ []

each : (P : ℕ → Instruction → Type 0) → P 0 seven → P 1 test_on → P 2 instructions.Exit
    → (slot : ℕ) (i : Instruction) → BeginsAt i tested_code slot → P slot i
each P first second third zero i at = subst (λ k. P 0 k) (same_instruction seven i refl at) first
each P first second third (suc zero) i at =
    subst (λ k. P 1 k) (same_instruction test_on i refl at) second
each P first second third (suc (suc zero)) i at =
    subst (λ k. P 2 k) (same_instruction instructions.Exit i refl at) third
each P first second third (suc (suc (suc slot))) i at = absurd (none-some _ at)

unstated_elsewhere : (slot : ℕ) → slot ≢ 2 → statement_at stated_at_exit slot ≡ None
unstated_elsewhere slot other =
    let apart : nat_eq 2 slot ≡ false = grind (arith, nat_tests) in
    rw apart refl

found : (slot : ℕ) (s : StatementParts) → statement_at stated_at_exit slot ≡ Some s
    → (slot ≡ 2) × (s ≡ says 2 any_number 0)
found slot s is =
    ⊎_elim
    (λ (same : slot ≡ 2).
    let there : statement_at stated_at_exit 2 ≡ Some s =
    subst (λ n. statement_at stated_at_exit n ≡ Some s) same is in
    (same, sym (same_Some _ _ there)))
    (λ (other : slot ≢ 2). absurd (none-some _ (sym (unstated_elsewhere slot other) ∙ is)))
    (cases_eq slot 2)

jumps_to : (slot : ℕ) (i : Instruction) → BeginsAt i tested_code slot → (to : ℕ)
    → jump_target slot i ≡ Some to → to ≡ 2
jumps_to = each (λ slot i. (to : ℕ) → jump_target slot i ≡ Some to → to ≡ 2)
    (λ to is. absurd (none-some _ is)) (λ to is. sym (same_Some _ _ is))
    (λ to is. absurd (none-some _ is))

leads_from : (slot : ℕ) (i : Instruction) → BeginsAt i tested_code slot → LeadsTo slot i 2
    → slot ≡ 1
leads_from = each (λ slot i. LeadsTo slot i 2 → slot ≡ 1)
    (⊎_elim (λ (jumps : None ≡ Some 2). absurd (none-some _ jumps))
    (λ (on : (true ≡ true) × (1 ≡ 2)). absurd (omega (arith, on.1))))
    (λ leads. refl)
    (⊎_elim (λ (jumps : None ≡ Some 2). absurd (none-some _ jumps))
    (λ (on : (false ≡ true) × (3 ≡ 2)). never on.0))

empty_is_number : (said : StatedKind) (numbers : Numbers) → said ≡ kinds.Unstated
    → said ≡ kinds.Number numbers → ⊥
empty_is_number said numbers empty number = cc

stated_plainly : (r : ℕ) → r < 10 → (said_of (says 2 any_number 0) r ≡ kinds.Unstated)
    ⊎ (said_of (says 2 any_number 0) r ≡ any_number)
stated_plainly zero low = inr refl
stated_plainly (suc r) low = inl (get_or-replicate 9 r kinds.Unstated kinds.Unstated
    (omega (arith, low)))

number_is_r0 : (r : ℕ) → IsNumberIn (says 2 any_number 0) r → r ≡ 0
number_is_r0 zero number = refl
number_is_r0 (suc r) number =
    absurd (empty_is_number (get_or (replicate 9 kinds.Unstated) r kinds.Unstated) number.numbers
    (get_or-replicate 9 r kinds.Unstated kinds.Unstated
    (let low = number.low in omega (arith, low)))
    number.says)

third_is_none : Begins tested_code 3 → ⊥
third_is_none begins = none-some _ begins.1

filled_at_test : IsFilledAt tested_code stated_at_exit 1 0
filled_at_test = is_written 0 seven refl refl refl refl

filled_at_exit : IsFilledAt tested_code stated_at_exit 2 0
filled_at_exit = is_stated (says 2 any_number 0) refl (record {
  low = omega arith;
  numbers = record { low = 0; high = 2 ^ 64 - 1; mask = 0; value = 0 };
  says = refl;
})

well_made : (slot : ℕ) → IsWellMade tested_code stated_at_exit slot
well_made slot = record {
  target = ⊎_elim
      (λ (jump : JumpsNowhere tested_code slot).
      jump.nowhere (subst (λ n. Begins tested_code n)
      (sym (jumps_to slot jump.instruction jump.at jump.to jump.jumps))
      (instructions.Exit, refl)))
      (λ (stray : IsStray tested_code stated_at_exit slot).
      ⊎_elim
      (λ (same : slot ≡ 2). stray.nowhere
      (subst (λ n. Begins tested_code n) (sym same) (instructions.Exit, refl)))
      (λ (other : slot ≢ 2). let none = unstated_elsewhere slot other in
      never (rw none at stray.stated))
      (cases_eq slot 2));
  ends = λ off. each (λ at i. slot_after at i ≡ 3 → falls_through i ≡ true → ⊥)
      (λ last on. omega (arith, last)) (λ last on. omega (arith, last)) (λ last on. never on)
      slot off.instruction off.at off.last off.on;
  reached = λ unreached. each (λ before i. (to : ℕ) → slot_after before i ≡ to → falls_through i
      ≡ false
      → Begins tested_code to → ⊥)
      (λ to behind leaves begins. never (sym leaves))
      (λ to behind leaves begins. never (sym leaves))
      (λ to behind leaves begins. third_is_none
      (subst (λ n. Begins tested_code n) (sym behind) begins))
      unreached.cut_off.before unreached.cut_off.instruction unreached.cut_off.at slot
      unreached.cut_off.behind unreached.cut_off.leaves unreached.begins;
  stated = λ unstated.
      let to = jumps_to slot unstated.instruction unstated.at unstated.to unstated.jumps in
      none-some _ (sym (subst (λ n. statement_at stated_at_exit n ≡ None) to unstated.unstated));
}

pub tested_is_plain : IsPlain tested_code 0 stated_at_exit
tested_is_plain = record {
  instructions = each (λ slot i. IsPlainInstruction i) tt tt tt;
  states = λ slot s is. subst (λ x. IsPlainStatement x) (sym (found slot s is).1) (record {
    registers = stated_plainly;
    stack = refl;
    rank = record { first = refl; second = refl };
  });
  made = well_made;
  budget = λ over. let more = over.over in omega (arith, more);
  frame = λ slot writes. each (λ at i. writes_frame i ≡ true → ⊥) (λ is. never is) (λ is. never is)
      (λ is. never is) slot writes.instruction writes.at writes.writes;
  reads = each (λ slot i. AllByRecursion (IsFilledAt tested_code stated_at_exit slot)
      (registers_read i)) tt (filled_at_test, tt) (filled_at_exit, tt);
  filled = λ slot i to s edge r number.
      let there = found to s edge.stated in
      let from = leads_from slot i edge.at (subst (λ n. LeadsTo slot i n) there.0 edge.leads) in
      let r0 = number_is_r0 r (subst (λ x. IsNumberIn x r) there.1 number) in
      inl (rw (from, r0) filled_at_test);
  falls = λ slot i to s edge rank is_rank.
      let there = found to s edge.stated in
      let from = leads_from slot i edge.at (subst (λ n. LeadsTo slot i n) there.0 edge.leads) in
      rw (there.0, there.1, from) (omega arith);
  entry_filled = λ s is r number. none-some _ is;
  entry_falls = λ s is. absurd (none-some _ is);
}

-- ---- programs that aren't plain

pub calls : IsPlain (then_exit (instructions.Call (pos 3))) 0 [] → ⊥
calls plain = plain.instructions 0 (instructions.Call (pos 3)) refl

pub reads_empty : IsPlain (then_exit (move_of 0 (Register 2))) 0 [] → ⊥
reads_empty plain = nothing_filled (then_exit (move_of 0 (Register 2))) [] refl 0 2 refl
    (plain.reads 0 (move_of 0 (Register 2)) refl).0

pub writes_r10 : IsPlain (Start (move_of 10 (Immediate (pos 7))) ∷ then_exit seven) 0 [] → ⊥
writes_r10 plain = plain.frame 0 (record {
  instruction = move_of 10 (Immediate (pos 7));
  at = refl;
  writes = refl;
})

pub is_open : IsPlain (Start seven ∷ []) 0 [] → ⊥
is_open plain = (plain.made 0).ends (record {
  instruction = seven;
  at = refl;
  last = refl;
  on = refl;
})

pub is_long : IsPlain (then_exit seven) 500000 [] → ⊥
is_long plain = plain.budget (record { first = refl; over = omega arith })

pub jumps_unstated : IsPlain tested_code 0 [] → ⊥
jumps_unstated plain = (plain.made 1).stated (record {
  instruction = test_on;
  at = refl;
  to = 2;
  jumps = refl;
  unstated = refl;
})

pub is_unreached : IsPlain (Start seven ∷ then_exit instructions.Exit) 0 [] → ⊥
is_unreached plain = (plain.made 2).reached (record {
  begins = (instructions.Exit, refl);
  cut_off = record {
    before = 1;
    instruction = instructions.Exit;
    at = refl;
    behind = refl;
    leaves = refl;
  };
  unstated = refl;
})

-- ---- statements that aren't plain

pub is_stray : IsPlain (then_exit seven) 0 (says 5 kinds.Unstated 0 ∷ []) → ⊥
is_stray plain = (plain.made 5).target (inr (record {
  stated = refl;
  nowhere = λ begins. none-some _ begins.1;
}))

only_is_empty : only_seven ≡ kinds.Unstated → ⊥
only_is_empty is = cc

abbrev low_of : StatedKind → ℕ
low_of (kinds.Number numbers) = numbers.low
low_of other = 0

pub says_seven : IsPlain (then_exit seven) 0 (says 1 only_seven 0 ∷ []) → ⊥
says_seven plain =
    ⊎_elim
    (λ (empty : only_seven ≡ kinds.Unstated). only_is_empty empty)
    (λ (any : only_seven ≡ any_number). let low : 7 ≡ 0 = ap low_of any in omega (arith, low))
    ((plain.states 1 (says 1 only_seven 0) refl).registers 0 (omega arith))

pub says_a_byte : IsPlain (then_exit seven) 0 (says_byte ∷ []) → ⊥
says_a_byte plain =
    let same : true ≡ false = ap (λ stack. get_or stack 0 false)
    (plain.states 1 says_byte refl).stack in
    never (sym same)

pub says_a_term : IsPlain (then_exit seven) 0 (says_term ∷ []) → ⊥
says_a_term plain = none-some _ (sym (plain.states 1 says_term refl).rank.first)

-- ---- edges that aren't plain

first_number : (s : StatementParts) → said_of s 0 ≡ any_number → IsNumberIn s 0
first_number s says = record {
  low = omega arith;
  numbers = record { low = 0; high = 2 ^ 64 - 1; mask = 0; value = 0 };
  says = says;
}

pub asks_unfilled : IsPlain (Start (move_of 1 (Immediate (pos 7))) ∷ then_exit seven) 0
    (says 1 any_number 0 ∷ []) → ⊥
asks_unfilled plain =
    let code = Start (move_of 1 (Immediate (pos 7))) ∷ then_exit seven in
    ⊎_elim
    (λ (filled : IsFilledAt code (says 1 any_number 0 ∷ []) 0 0). nothing_filled code
    (says 1 any_number 0 ∷ []) refl 0 0 refl filled)
    (λ (written : Some 1 ≡ Some 0). let one = same_Some _ _ written in omega (arith, one))
    (plain.filled 0 (move_of 1 (Immediate (pos 7))) 1 (says 1 any_number 0) (record {
      at = refl;
      leads = inr (refl, refl);
      stated = refl;
    }) 0 (first_number (says 1 any_number 0) refl))

pub asks_at_entry : IsPlain (then_exit seven) 0 (says 0 any_number 0 ∷ []) → ⊥
asks_at_entry plain = plain.entry_filled (says 0 any_number 0) refl 0
    (first_number (says 0 any_number 0) refl)

pub rises : IsPlain (then_exit seven) 0 (says 1 any_number 1 ∷ []) → ⊥
rises plain =
    let falls = plain.falls 0 seven 1 (says 1 any_number 1) (record {
      at = refl;
      leads = inr (refl, refl);
      stated = refl;
    }) 0 (at_entry refl refl refl) in
    omega (arith, falls)

pub rises_at_entry : IsPlain (then_exit seven) 0 (says 0 kinds.Unstated 1 ∷ []) → ⊥
rises_at_entry plain = let falls = plain.entry_falls (says 0 kinds.Unstated 1) refl in
    omega (arith, falls)

pub stays_equal : IsPlain endless_code 0 (says 0 kinds.Unstated 0 ∷ []) → ⊥
stays_equal plain =
    let falls = plain.falls 0 (instructions.Jump (negsuc 0)) 0 (says 0 kinds.Unstated 0) (record {
      at = refl;
      leads = inl refl;
      stated = refl;
    }) 0 (at_statement (says 0 kinds.Unstated 0) refl refl) in
    omega (arith, falls)
