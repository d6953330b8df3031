-- Refusals of small programs.
use Rattle.std.proofs.Common.{◌≡◌, ℕ, zero, suc, ◌<◌, Bool, true, false, cond, List, [], ◌∷◌}
use Rattle.std.proofs.Common.{Some, None, IsSome, inl, ⊎_elim, refl, sym, subst, eqb-true}
use Rattle.std.proofs.Common.{arith}
use Rattle.std.specs.Prelude.{◌==◌, ℤ, pos}
use Rattle.isa.specs.declared.code.Slot.{Slot}
use Rattle.isa.specs.declared.code.Slot.TheVariants.{Start}
use Rattle.isa.specs.declared.hook.Hook.{Hook}
use Rattle.isa.specs.declared.instruction.Instruction.{Instruction}
use Rattle.isa.specs.declared.instruction.Instruction.TheVariants.{Call, Exit}
use Rattle.isa.specs.Flow.{Begins, BeginsAt, jump_target, slot_after}
use Rattle.isa.proofs.Starts.{same_instruction}
use Rattle.machine.specs.Faults.{writes_frame}
use Rattle.machine.specs.Helpers.{helper_of}
use Rattle.transfer.specs.declared.rule.Rule.{Rule}
use Rattle.transfer.specs.declared.rule.Rule.TheVariants as rules
use Rattle.kinds.specs.Stated.{any_number}
use Rattle.verifier.specs.Places.{falls_through}
use Rattle.verifier.specs.SegmentsStated.{statement_at}
use Rattle.verifier.specs.Refusals.{FallsOff, IsBadTarget, IsStray, IsUnreached}
use Rattle.verifier.specs.Refusals.{IsUnstated, IsWellMade, JumpsNowhere, LacksHelperAt, MayRefuse}
use Rattle.verifier.proofs.SegmentsPlain.{never}
use Rattle.verifier.specs.Examples.{then_exit, says, seven, test_on}
use Rattle.program_laws.specs.Refusals.{HelpersAndTheBoundAreChecked, MayRefuseSound}
use Rattle.program_laws.specs.Refusals.{LaterRulesDontCount, RulesCountInTheirOrder}
use Rattle.program_laws.specs.Refusals.{SoundProgramsBreakNoRuleOnCode, astray_code, cut_code}
use Rattle.program_laws.specs.Refusals.{jumping_code}
use Rattle.program_laws.specs.Refusals.{jumping_statements, open_code, test_by, unstated_code}

none_is_some : {A : Type 0} {x : A} → None ≡ Some x → ⊥
none_is_some is = cc

some_is_one : {A : Type 0} {x y : A} → Some x ≡ Some y → x ≡ y
some_is_one is = cc

-- ---- `r0 = 7; exit`

-- a property of its two instructions is one of each instruction that begins at a slot
each : (P : ℕ → Instruction → Type 0) → P 0 seven → P 1 Exit → (slot : ℕ) (i : Instruction)
    → BeginsAt i (then_exit seven) slot → P slot i
each P first second zero i at = subst (λ k. P 0 k) (same_instruction seven i refl at) first
each P first second (suc zero) i at = subst (λ k. P 1 k) (same_instruction Exit i refl at) second
each P first second (suc (suc slot)) i at = absurd (none_is_some at)

jumps_not : (slot : ℕ) (i : Instruction) → BeginsAt i (then_exit seven) slot → (to : ℕ)
    → jump_target slot i ≡ Some to → ⊥
jumps_not = each (λ slot i. (to : ℕ) → jump_target slot i ≡ Some to → ⊥) (λ to is. none_is_some is)
    (λ to is. none_is_some is)

target_is_well : (slot : ℕ) → IsBadTarget (then_exit seven) [] slot → ⊥
target_is_well slot =
    ⊎_elim
    (λ (jump : JumpsNowhere (then_exit seven) slot). jumps_not slot jump.instruction jump.at jump.to
    jump.jumps)
    (λ (stray : IsStray (then_exit seven) [] slot). never stray.stated)

end_is_well : (slot : ℕ) → FallsOff (then_exit seven) slot → ⊥
end_is_well slot off =
    each (λ at i. slot_after at i ≡ 2 → falls_through i ≡ true → ⊥) (λ last on. omega (arith, last))
    (λ last on. never on) slot off.instruction off.at off.last off.on

third_is_none : Begins (then_exit seven) 2 → ⊥
third_is_none begins = none_is_some begins.1

reached_is_well : (slot : ℕ) → IsUnreached (then_exit seven) [] slot → ⊥
reached_is_well slot unreached =
    let cut = unreached.cut_off in
    each (λ before i. (to : ℕ) → slot_after before i ≡ to → falls_through i ≡ false
    → Begins (then_exit seven) to → ⊥)
    (λ to behind leaves begins. never (sym leaves))
    (λ to behind leaves begins. third_is_none
    (subst (λ n. Begins (then_exit seven) n) (sym behind) begins))
    cut.before cut.instruction cut.at slot cut.behind cut.leaves unreached.begins

calls_not : (slot : ℕ) (i : Instruction) → BeginsAt i (then_exit seven) slot → (number : ℤ) → i
    ≡ Call number → ⊥
calls_not = each (λ slot i. (number : ℤ) → i ≡ Call number → ⊥) (λ number is. cc) (λ number is. cc)

writes_not : (slot : ℕ) (i : Instruction) → BeginsAt i (then_exit seven) slot → writes_frame i
    ≡ true → ⊥
writes_not = each (λ slot i. writes_frame i ≡ true → ⊥) (λ is. never is) (λ is. never is)

within_code : (slot : ℕ) (i : Instruction) → BeginsAt i (then_exit seven) slot → slot < 2
within_code = each (λ slot i. slot < 2) (omega arith) (omega arith)

named_of_straight : (hook : Hook) (slot : ℕ) (rule : Rule)
    → MayRefuse hook (then_exit seven) 0 [] slot rule → MayRefuseSound 2 slot rule
named_of_straight hook slot rules.Target may = target_is_well slot may
named_of_straight hook slot rules.FallsOff may = end_is_well slot may
named_of_straight hook slot rules.Unreached may = reached_is_well slot may
named_of_straight hook slot rules.Unstated may =
    jumps_not slot may.instruction may.at may.to may.jumps
named_of_straight hook slot rules.Empty may = within_code slot may.0 may.1
named_of_straight hook slot rules.Kind may = within_code slot may.0 may.1
named_of_straight hook slot rules.Bounds may = within_code slot may.0 may.1
named_of_straight hook slot rules.Align may = within_code slot may.0 may.1
named_of_straight hook slot rules.Helper may =
    calls_not slot (Call may.number) may.at may.number refl
named_of_straight hook slot rules.Argument may = within_code slot may.0 may.1
named_of_straight hook slot rules.NotWithin may = within_code slot may.0 may.1
named_of_straight hook slot rules.Rank may = within_code slot may.0 may.1
named_of_straight hook slot rules.Budget may = let more = may.over in absurd (omega (arith, more))
named_of_straight hook slot rules.ExitKind may = within_code slot may.0 may.1
named_of_straight hook slot rules.Frame may = writes_not slot may.instruction may.at may.writes
named_of_straight hook slot rules.Memory may = may

-- ---- `r0 = 7; if r0 == 0 goto L; exit; L: exit`, with a statement at L

of_jumping : (P : ℕ → Instruction → Type 0) → P 0 seven → P 1 (test_by 1) → P 2 Exit → P 3 Exit
    → (slot : ℕ) (i : Instruction) → BeginsAt i jumping_code slot → P slot i
of_jumping P first second third fourth zero i at =
    subst (λ k. P 0 k) (same_instruction seven i refl at) first
of_jumping P first second third fourth (suc zero) i at =
    subst (λ k. P 1 k) (same_instruction (test_by 1) i refl at) second
of_jumping P first second third fourth (suc (suc zero)) i at =
    subst (λ k. P 2 k) (same_instruction Exit i refl at) third
of_jumping P first second third fourth (suc (suc (suc zero))) i at =
    subst (λ k. P 3 k) (same_instruction Exit i refl at) fourth
of_jumping P first second third fourth (suc (suc (suc (suc slot)))) i at = absurd (none_is_some at)

jumps_to_third : (slot : ℕ) (i : Instruction) → BeginsAt i jumping_code slot → (to : ℕ)
    → jump_target slot i ≡ Some to → to ≡ 3
jumps_to_third = of_jumping (λ slot i. (to : ℕ) → jump_target slot i ≡ Some to → to ≡ 3)
    (λ to is. absurd (none_is_some is)) (λ to is. sym (some_is_one is))
    (λ to is. absurd (none_is_some is)) (λ to is. absurd (none_is_some is))

fourth_begins : Begins jumping_code 3
fourth_begins = (Exit, refl)

only_where : (b : Bool) → IsSome (cond b (Some (says 3 any_number 0)) None) → b ≡ true
only_where true stated = refl
only_where false stated = never stated

-- there is a statement only at slot 3
stray_not : (slot : ℕ) → IsSome (statement_at jumping_statements slot)
    → (Begins jumping_code slot → ⊥) → ⊥
stray_not slot stated nowhere =
    let same : 3 ≡ slot = eqb-true 3 slot (only_where (3 == slot) stated) in
    nowhere (subst (λ n. Begins jumping_code n) same fourth_begins)

jumping_targets : (slot : ℕ) → IsBadTarget jumping_code jumping_statements slot → ⊥
jumping_targets slot =
    ⊎_elim
    (λ (jump : JumpsNowhere jumping_code slot).
    jump.nowhere (subst (λ n. Begins jumping_code n)
    (sym (jumps_to_third slot jump.instruction jump.at jump.to jump.jumps)) fourth_begins))
    (λ (stray : IsStray jumping_code jumping_statements slot). stray_not slot stray.stated
    stray.nowhere)

jumping_ends : (slot : ℕ) → FallsOff jumping_code slot → ⊥
jumping_ends slot off =
    of_jumping (λ at i. slot_after at i ≡ 4 → falls_through i ≡ true → ⊥)
    (λ last on. omega (arith, last)) (λ last on. omega (arith, last)) (λ last on. never on)
    (λ last on. never on)
    slot off.instruction off.at off.last off.on

some_is_no_none : {A : Type 0} {x : A} → Some x ≡ None → ⊥
some_is_no_none is = cc

fifth_is_none : Begins jumping_code 4 → ⊥
fifth_is_none begins = none_is_some begins.1

third_is_stated : statement_at jumping_statements 3 ≡ None → ⊥
third_is_stated none = some_is_no_none none

jumping_reached : (slot : ℕ) → IsUnreached jumping_code jumping_statements slot → ⊥
jumping_reached slot unreached =
    let cut = unreached.cut_off in
    of_jumping (λ before i. (to : ℕ) → slot_after before i ≡ to → falls_through i ≡ false
    → Begins jumping_code to → statement_at jumping_statements to ≡ None → ⊥)
    (λ to behind leaves begins none. never (sym leaves))
    (λ to behind leaves begins none. never (sym leaves))
    (λ to behind leaves begins none. third_is_stated
    (subst (λ n. statement_at jumping_statements n ≡ None) (sym behind) none))
    (λ to behind leaves begins none. fifth_is_none
    (subst (λ n. Begins jumping_code n) (sym behind) begins))
    cut.before cut.instruction cut.at slot cut.behind cut.leaves unreached.begins unreached.unstated

jumping_stated : (slot : ℕ) → IsUnstated jumping_code jumping_statements slot → ⊥
jumping_stated slot unstated =
    third_is_stated
    (subst (λ n. statement_at jumping_statements n ≡ None)
    (jumps_to_third slot unstated.instruction unstated.at unstated.to unstated.jumps)
    unstated.unstated)

jumping_calls : (slot : ℕ) (i : Instruction) → BeginsAt i jumping_code slot → (number : ℤ) → i
    ≡ Call number → ⊥
jumping_calls =
    of_jumping (λ slot i. (number : ℤ) → i ≡ Call number → ⊥) (λ number is. cc) (λ number is. cc)
    (λ number is. cc) (λ number is. cc)

jumping_writes : (slot : ℕ) (i : Instruction) → BeginsAt i jumping_code slot → writes_frame i ≡ true
    → ⊥
jumping_writes = of_jumping (λ slot i. writes_frame i ≡ true → ⊥) (λ is. never is) (λ is. never is)
    (λ is. never is) (λ is. never is)

within_jumping : (slot : ℕ) (i : Instruction) → BeginsAt i jumping_code slot → slot < 4
within_jumping = of_jumping (λ slot i. slot < 4) (omega arith) (omega arith) (omega arith)
    (omega arith)

named_of_jumping : (hook : Hook) (slot : ℕ) (rule : Rule)
    → MayRefuse hook jumping_code 0 jumping_statements slot rule → MayRefuseSound 4 slot rule
named_of_jumping hook slot rules.Target may = jumping_targets slot may
named_of_jumping hook slot rules.FallsOff may = jumping_ends slot may
named_of_jumping hook slot rules.Unreached may = jumping_reached slot may
named_of_jumping hook slot rules.Unstated may = jumping_stated slot may
named_of_jumping hook slot rules.Empty may = within_jumping slot may.0 may.1
named_of_jumping hook slot rules.Kind may = within_jumping slot may.0 may.1
named_of_jumping hook slot rules.Bounds may = within_jumping slot may.0 may.1
named_of_jumping hook slot rules.Align may = within_jumping slot may.0 may.1
named_of_jumping hook slot rules.Helper may =
    jumping_calls slot (Call may.number) may.at may.number refl
named_of_jumping hook slot rules.Argument may = within_jumping slot may.0 may.1
named_of_jumping hook slot rules.NotWithin may = within_jumping slot may.0 may.1
named_of_jumping hook slot rules.Rank may = within_jumping slot may.0 may.1
named_of_jumping hook slot rules.Budget may = let more = may.over in absurd (omega (arith, more))
named_of_jumping hook slot rules.ExitKind may = within_jumping slot may.0 may.1
named_of_jumping hook slot rules.Frame may = jumping_writes slot may.instruction may.at may.writes
named_of_jumping hook slot rules.Memory may = may

pub named_of_sound : SoundProgramsBreakNoRuleOnCode
named_of_sound = record { straight = named_of_straight; jumping = named_of_jumping }

-- ---- `call 1; exit`, and the bound

of_call : (P : Instruction → Type 0) → P (Call (pos 1)) → P Exit → (slot : ℕ) (i : Instruction)
    → BeginsAt i (then_exit (Call (pos 1))) slot → P i
of_call P first second zero i at = subst P (same_instruction (Call (pos 1)) i refl at) first
of_call P first second (suc zero) i at = subst P (same_instruction Exit i refl at) second
of_call P first second (suc (suc slot)) i at = absurd (none_is_some at)

call_is : (a b : ℤ) → Call a ≡ Call b → a ≡ b
call_is a b is = cc

exit_is_no_call : (number : ℤ) → Exit ≡ Call number → ⊥
exit_is_no_call number is = cc

helper_is_there : (hook : Hook) (slot : ℕ)
    (lacks : LacksHelperAt (then_exit (Call (pos 1))) hook slot) → ⊥
helper_is_there hook slot lacks =
    of_call (λ i. (number : ℤ) → i ≡ Call number → helper_of hook number ≡ None → ⊥)
    (λ number is none. none_is_some (sym
    (subst (λ n. helper_of hook n ≡ None) (sym (call_is (pos 1) number is)) none)))
    (λ number is none. exit_is_no_call number is)
    slot (Call lacks.number) lacks.at lacks.number refl lacks.none

pub named_aptly : HelpersAndTheBoundAreChecked
named_aptly = record {
  helper = helper_is_there;
  missing = λ hook. record { number = pos 9; at = refl; none = refl };
  within = λ hook slot may. let more = may.over in omega (arith, more);
  over = λ hook. record { first = refl; over = omega arith };
  there = λ hook slot may. may.first;
}

-- ---- `r0 = 7; if r0 == 0 goto L; L: exit`, without a statement at L

of_three : (middle : Instruction) (P : ℕ → Instruction → Type 0) → P 0 seven → P 1 middle → P 2 Exit
    → (slot : ℕ) (i : Instruction)
    → BeginsAt i (Start seven ∷ Start middle ∷ Start Exit ∷ []) slot → P slot i
of_three middle P first second third zero i at =
    subst (λ k. P 0 k) (same_instruction seven i refl at) first
of_three middle P first second third (suc zero) i at =
    subst (λ k. P 1 k) (same_instruction middle i refl at) second
of_three middle P first second third (suc (suc zero)) i at =
    subst (λ k. P 2 k) (same_instruction Exit i refl at) third
of_three middle P first second third (suc (suc (suc slot))) i at = absurd (none_is_some at)

jumps_to : (slot : ℕ) (i : Instruction) → BeginsAt i unstated_code slot → (to : ℕ)
    → jump_target slot i ≡ Some to → (slot ≡ 1) × (to ≡ 2)
jumps_to = of_three test_on (λ slot i. (to : ℕ) → jump_target slot i ≡ Some to
    → (slot ≡ 1) × (to ≡ 2))
    (λ to is. absurd (none_is_some is)) (λ to is. (refl, sym (some_is_one is)))
    (λ to is. absurd (none_is_some is))

second_targets : (slot : ℕ) → IsBadTarget unstated_code [] slot → ⊥
second_targets slot =
    ⊎_elim
    (λ (jump : JumpsNowhere unstated_code slot).
    jump.nowhere (subst (λ n. Begins unstated_code n)
    (sym (jumps_to slot jump.instruction jump.at jump.to jump.jumps).1) (Exit, refl)))
    (λ (stray : IsStray unstated_code [] slot). never stray.stated)

second_ends : (slot : ℕ) → FallsOff unstated_code slot → ⊥
second_ends slot off =
    of_three test_on (λ at i. slot_after at i ≡ 3 → falls_through i ≡ true → ⊥)
    (λ last on. omega (arith, last))
    (λ last on. omega (arith, last)) (λ last on. never on)
    slot off.instruction off.at off.last off.on

fourth_is_none : Begins unstated_code 3 → ⊥
fourth_is_none begins = none_is_some begins.1

second_reached : (slot : ℕ) → IsUnreached unstated_code [] slot → ⊥
second_reached slot unreached =
    let cut = unreached.cut_off in
    of_three test_on (λ before i. (to : ℕ) → slot_after before i ≡ to → falls_through i ≡ false
    → Begins unstated_code to → ⊥)
    (λ to behind leaves begins. never (sym leaves)) (λ to behind leaves begins. never (sym leaves))
    (λ to behind leaves begins. fourth_is_none
    (subst (λ n. Begins unstated_code n) (sym behind) begins))
    cut.before cut.instruction cut.at slot cut.behind cut.leaves unreached.begins

is_unstated : IsUnstated unstated_code [] 1
is_unstated = record { instruction = test_on; at = refl; to = 2; jumps = refl; unstated = refl }

first_is_well : IsWellMade unstated_code [] 0
first_is_well = record {
  target = second_targets 0;
  ends = second_ends 0;
  reached = second_reached 0;
  stated = λ unstated. let from = (jumps_to 0 unstated.instruction unstated.at unstated.to
      unstated.jumps).0 in omega (arith, from);
}

below : (code : List Slot) → IsWellMade code [] 0 → (before : ℕ) → before < 1
    → IsWellMade code [] before
below code first zero less = first
below code first (suc before) less = absurd (omega (arith, less))

not_made : IsWellMade unstated_code [] 1 → ⊥
not_made made = made.stated is_unstated

pub later_dont_count : LaterRulesDontCount
later_dont_count = record {
  breaks = λ hook. is_unstated;
  unstated = record {
    earlier = below unstated_code first_is_well;
    here = (second_targets 1, second_ends 1, second_reached 1);
  };
  kind = λ first. not_made first.here;
  frame = λ first. not_made first.here;
  within = λ first. not_made (first.here (omega arith));
  rank = λ first. not_made (first.here (omega arith));
  later = λ rule first. not_made (first.earlier 1 (omega arith));
}

-- ---- a slot that breaks each of the four rules

leads_astray : JumpsNowhere astray_code 1
leads_astray = record {
  instruction = test_by 7;
  at = refl;
  to = 9;
  jumps = refl;
  nowhere = λ begins. none_is_some begins.1;
}

astray : IsBadTarget astray_code [] 1
astray = inl leads_astray

falls : FallsOff open_code 0
falls = record { instruction = seven; at = refl; last = refl; on = refl }

cut : IsUnreached cut_code [] 1
cut = record {
  begins = (Exit, refl);
  cut_off = record { before = 0; instruction = Exit; at = refl; behind = refl; leaves = refl };
  unstated = refl;
}

-- ---- the rule that is broken counts

astray_start : (slot : ℕ) (i : Instruction) → BeginsAt i astray_code slot → slot ≡ 0 → (to : ℕ)
    → jump_target slot i ≡ Some to → ⊥
astray_start = of_three (test_by 7)
    (λ slot i. slot ≡ 0 → (to : ℕ) → jump_target slot i ≡ Some to → ⊥)
    (λ from to is. none_is_some is) (λ from to is. omega (arith, from))
    (λ from to is. none_is_some is)

astray_ends : (slot : ℕ) (i : Instruction) → BeginsAt i astray_code slot → slot ≡ 0
    → slot_after slot i ≡ 3 → ⊥
astray_ends = of_three (test_by 7) (λ slot i. slot ≡ 0 → slot_after slot i ≡ 3 → ⊥)
    (λ from last. omega (arith, last)) (λ from last. omega (arith, from))
    (λ from last. omega (arith, from))

none_before : (slot : ℕ) (i : Instruction) → BeginsAt i astray_code slot → slot_after slot i ≡ 0 → ⊥
none_before = of_three (test_by 7) (λ slot i. slot_after slot i ≡ 0 → ⊥)
    (λ behind. omega (arith, behind)) (λ behind. omega (arith, behind))
    (λ behind. omega (arith, behind))

astray_first : IsWellMade astray_code [] 0
astray_first = record {
  target = ⊎_elim
      (λ (jump : JumpsNowhere astray_code 0). astray_start 0 jump.instruction jump.at refl jump.to
      jump.jumps)
      (λ (stray : IsStray astray_code [] 0). never stray.stated);
  ends = λ off. astray_ends 0 off.instruction off.at refl off.last;
  reached = λ unreached. let cut_off = unreached.cut_off in
      none_before cut_off.before cut_off.instruction cut_off.at cut_off.behind;
  stated = λ unstated. astray_start 0 unstated.instruction unstated.at refl unstated.to
      unstated.jumps;
}

of_open : (P : ℕ → Instruction → Type 0) → P 0 seven → (slot : ℕ) (i : Instruction)
    → BeginsAt i open_code slot → P slot i
of_open P first zero i at = subst (λ k. P 0 k) (same_instruction seven i refl at) first
of_open P first (suc slot) i at = absurd (none_is_some at)

open_targets : (slot : ℕ) → IsBadTarget open_code [] slot → ⊥
open_targets slot =
    ⊎_elim
    (λ (jump : JumpsNowhere open_code slot).
    of_open (λ at i. (to : ℕ) → jump_target at i ≡ Some to → ⊥) (λ to is. none_is_some is) slot
    jump.instruction jump.at jump.to jump.jumps)
    (λ (stray : IsStray open_code [] slot). never stray.stated)

of_cut : (P : ℕ → Instruction → Type 0) → P 0 Exit → P 1 Exit → (slot : ℕ) (i : Instruction)
    → BeginsAt i cut_code slot → P slot i
of_cut P first second zero i at = subst (λ k. P 0 k) (same_instruction Exit i refl at) first
of_cut P first second (suc zero) i at = subst (λ k. P 1 k) (same_instruction Exit i refl at) second
of_cut P first second (suc (suc slot)) i at = absurd (none_is_some at)

cut_jumps_not : (slot : ℕ) (i : Instruction) → BeginsAt i cut_code slot → (to : ℕ)
    → jump_target slot i ≡ Some to → ⊥
cut_jumps_not = of_cut (λ slot i. (to : ℕ) → jump_target slot i ≡ Some to → ⊥)
    (λ to is. none_is_some is) (λ to is. none_is_some is)

cut_targets : (slot : ℕ) → IsBadTarget cut_code [] slot → ⊥
cut_targets slot =
    ⊎_elim
    (λ (jump : JumpsNowhere cut_code slot). cut_jumps_not slot jump.instruction jump.at jump.to
    jump.jumps)
    (λ (stray : IsStray cut_code [] slot). never stray.stated)

cut_ends : (slot : ℕ) → FallsOff cut_code slot → ⊥
cut_ends slot off =
    of_cut (λ at i. falls_through i ≡ true → ⊥) (λ on. never on) (λ on. never on) slot
    off.instruction
    off.at off.on

none_before_cut : (slot : ℕ) (i : Instruction) → BeginsAt i cut_code slot → slot_after slot i ≡ 0
    → ⊥
none_before_cut = of_cut (λ slot i. slot_after slot i ≡ 0 → ⊥) (λ behind. omega (arith, behind))
    (λ behind. omega (arith, behind))

cut_first : IsWellMade cut_code [] 0
cut_first = record {
  target = cut_targets 0;
  ends = cut_ends 0;
  reached = λ unreached. let cut_off = unreached.cut_off in
      none_before_cut cut_off.before cut_off.instruction cut_off.at cut_off.behind;
  stated = λ unstated. cut_jumps_not 0 unstated.instruction unstated.at unstated.to unstated.jumps;
}

pub in_their_order : RulesCountInTheirOrder
in_their_order = record {
  astray_breaks = λ hook. astray;
  astray_counts = record { earlier = below astray_code astray_first; here = tt };
  astray_ends = λ first. first.here astray;
  astray_unreached = λ first. first.here.0 astray;
  astray_unstated = λ first. first.here.0 astray;
  astray_kind = λ first. first.here.target astray;
  stated_kind = λ first. first.here.target (inl leads_astray);
  open_breaks = λ hook. falls;
  open_counts = record {
    earlier = λ before less. absurd (omega (arith, less));
    here = open_targets 0;
  };
  open_unreached = λ first. first.here.1 falls;
  open_unstated = λ first. first.here.1 falls;
  open_kind = λ first. first.here.ends falls;
  cut_breaks = λ hook. cut;
  cut_counts = record {
    earlier = below cut_code cut_first;
    here = (cut_targets 1, cut_ends 1);
  };
  cut_unstated = λ first. first.here.2 cut;
  cut_kind = λ first. first.here.reached cut;
}
