-- The definitions of refusals, applied to small programs.
use Rattle.std.specs.Prelude.{◌≡◌, ℕ, ◌<◌, List, [], ◌∷◌, pos}
use Rattle.isa.specs.declared.code.Slot.{Slot}
use Rattle.isa.specs.declared.code.Slot.TheVariants.{Start}
use Rattle.isa.specs.declared.hook.Hook.{Hook}
use Rattle.isa.specs.declared.instruction.Instruction.{Instruction}
use Rattle.isa.specs.declared.instruction.Instruction.TheVariants.{Branch, Call, Exit}
use Rattle.isa.specs.declared.instruction.Source.TheVariants.{Immediate}
use Rattle.isa.specs.declared.instruction.Test.TheVariants.{Equal}
use Rattle.isa.specs.declared.instruction.Width.TheVariants.{Bits64}
use Rattle.object.specs.Statements.{StatementParts}
use Rattle.kinds.specs.Stated.{any_number}
use Rattle.transfer.specs.declared.rule.Rule.{Rule}
use Rattle.transfer.specs.declared.rule.Rule.TheVariants as rules
use Rattle.verifier.specs.Refusals.{IsFirst, MayRefuse}
use Rattle.verifier.specs.Examples.{then_exit, says, seven, test_on}

-- For a sound program: `Memory` at slot 0, and at its slots a rule for which only the domain knows
-- whether it is broken; none of the rules on jumps, statements, the end of the code, helpers, the
-- bound and r10.
abbrev pub MayRefuseSound : (slots : ℕ) → ℕ → Rule → Type 0
MayRefuseSound slots slot rules.Target = ⊥
MayRefuseSound slots slot rules.FallsOff = ⊥
MayRefuseSound slots slot rules.Unreached = ⊥
MayRefuseSound slots slot rules.Unstated = ⊥
MayRefuseSound slots slot rules.Helper = ⊥
MayRefuseSound slots slot rules.Budget = ⊥
MayRefuseSound slots slot rules.Frame = ⊥
MayRefuseSound slots slot rules.Memory = slot ≡ 0
MayRefuseSound slots slot other = slot < slots

-- `if r0 == 0 goto`, the given number of slots after the next one
abbrev pub test_by : ℕ → Instruction
test_by distance = Branch Bits64 Equal 0 (Immediate (pos 0)) (pos distance)

-- `r0 = 7; if r0 == 0 goto L; exit; L: exit`, and the statement at L: a number in r0, the rank 0
abbrev pub jumping_code : List Slot
jumping_code = Start seven ∷ Start (test_by 1) ∷ Start Exit ∷ Start Exit ∷ []

abbrev pub jumping_statements : List StatementParts
jumping_statements = says 3 any_number 0 ∷ []

-- a sound program may not be refused by a rule that depends only on the code and the statements:
-- neither `r0 = 7; exit`, nor one that jumps to a statement
pub record SoundProgramsBreakNoRuleOnCode : Type 0 where
  pub straight : (hook : Hook) (slot : ℕ) (rule : Rule)
      → MayRefuse hook (then_exit seven) 0 [] slot rule → MayRefuseSound 2 slot rule
  pub jumping : (hook : Hook) (slot : ℕ) (rule : Rule)
      → MayRefuse hook jumping_code 0 jumping_statements slot rule → MayRefuseSound 4 slot rule

-- The rules on helpers and on the bound mean what their names say. No rule reports a missing helper
-- for `call 1; exit`, whose helper exists; `call 9; exit` may be refused for that. With the rank
-- 499,999 at its entry, `r0 = 7; exit` may execute exactly 1,000,000 instructions, which is within
-- the bound; with the next rank it exceeds the bound, which is reported at slot 0.
pub record HelpersAndTheBoundAreChecked : Type 0 where
  pub helper : (hook : Hook) (slot : ℕ) → MayRefuse hook (then_exit (Call (pos 1))) 0 [] slot
      rules.Helper
      → ⊥
  pub missing : (hook : Hook) → MayRefuse hook (then_exit (Call (pos 9))) 0 [] 0 rules.Helper
  pub within : (hook : Hook) (slot : ℕ)
      → MayRefuse hook (then_exit seven) 499999 [] slot rules.Budget
      → ⊥
  pub over : (hook : Hook) → MayRefuse hook (then_exit seven) 500000 [] 0 rules.Budget
  pub there : (hook : Hook) (slot : ℕ)
      → MayRefuse hook (then_exit seven) 500000 [] slot rules.Budget
      → slot ≡ 0

-- `r0 = 7; if r0 == 0 goto L; L: exit`, without a statement at L
abbrev pub unstated_code : List Slot
unstated_code = Start seven ∷ Start test_on ∷ Start Exit ∷ []

-- Its second slot breaks a rule, the first one that is broken. So no later rule counts there, not
-- even one on an edge, and none at a later slot.
pub record LaterRulesDontCount : Type 0 where
  pub breaks : (hook : Hook) → MayRefuse hook unstated_code 0 [] 1 rules.Unstated
  pub unstated : IsFirst unstated_code [] 1 rules.Unstated
  pub kind : IsFirst unstated_code [] 1 rules.Kind → ⊥
  pub frame : IsFirst unstated_code [] 1 rules.Frame → ⊥
  pub within : IsFirst unstated_code [] 1 rules.NotWithin → ⊥
  pub rank : IsFirst unstated_code [] 1 rules.Rank → ⊥
  pub later : (rule : Rule) → IsFirst unstated_code [] 2 rule → ⊥

-- `r0 = 7; if r0 == 0 goto +7; exit`, whose jump leads out of the code
abbrev pub astray_code : List Slot
astray_code = Start seven ∷ Start (test_by 7) ∷ Start Exit ∷ []

-- with a statement at the target of the jump
abbrev pub astray_statements : List StatementParts
astray_statements = says 9 any_number 0 ∷ []

-- `r0 = 7`, with nothing after it
abbrev pub open_code : List Slot
open_code = Start seven ∷ []

-- `exit; exit`, without a statement at the second
abbrev pub cut_code : List Slot
cut_code = Start Exit ∷ Start Exit ∷ []

-- The rules on jumps, statements and the end of the code have an order: if a slot breaks the one on
-- targets, none of the three after it counts there; if it breaks the one on the end, neither of the
-- two after it; if it is unreachable, the last doesn't count. No rule on registers counts at any of
-- these slots. The one that is broken does.
pub record RulesCountInTheirOrder : Type 0 where
  pub astray_breaks : (hook : Hook) → MayRefuse hook astray_code 0 [] 1 rules.Target
  pub astray_counts : IsFirst astray_code [] 1 rules.Target
  pub astray_ends : IsFirst astray_code [] 1 rules.FallsOff → ⊥
  pub astray_unreached : IsFirst astray_code [] 1 rules.Unreached → ⊥
  pub astray_unstated : IsFirst astray_code [] 1 rules.Unstated → ⊥
  pub astray_kind : IsFirst astray_code [] 1 rules.Kind → ⊥
  -- the same if only the rule on targets is broken
  pub stated_kind : IsFirst astray_code astray_statements 1 rules.Kind → ⊥
  pub open_breaks : (hook : Hook) → MayRefuse hook open_code 0 [] 0 rules.FallsOff
  pub open_counts : IsFirst open_code [] 0 rules.FallsOff
  pub open_unreached : IsFirst open_code [] 0 rules.Unreached → ⊥
  pub open_unstated : IsFirst open_code [] 0 rules.Unstated → ⊥
  pub open_kind : IsFirst open_code [] 0 rules.Kind → ⊥
  pub cut_breaks : (hook : Hook) → MayRefuse hook cut_code 0 [] 1 rules.Unreached
  pub cut_counts : IsFirst cut_code [] 1 rules.Unreached
  pub cut_unstated : IsFirst cut_code [] 1 rules.Unstated → ⊥
  pub cut_kind : IsFirst cut_code [] 1 rules.Kind → ⊥
