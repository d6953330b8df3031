-- A stuck machine takes no step.
use Rattle.std.proofs.Common.{◌≡◌, ℕ, refl, Bool, false, cond, Some, None}
use Rattle.std.proofs.lemmas.Bool.{ne_eqb}
use Rattle.isa.specs.declared.instruction.Instruction.{Instruction}
use Rattle.isa.specs.declared.instruction.Instruction.TheVariants as instructions
use Rattle.machine.specs.declared.fault.Fault.{Fault}
use Rattle.machine.specs.declared.fault.Fault.TheVariants.{Empty, Kind, Bounds, Align, Frame}
use Rattle.machine.specs.declared.fault.Fault.TheVariants.{ExitKind}
use Rattle.machine.specs.declared.state.State.{State}
use Rattle.machine.specs.Label.{Label}
use Rattle.machine.specs.State.{Setting, held, operand}
use Rattle.machine.specs.Steps.{Does, Step, Exits}
use Rattle.machine.specs.Faults.{commits, first_of, order_of, fault_at, Stuck}
use Rattle.machine.proofs.Readings.{result_reads, number_reads, tested_reads}
use Rattle.machine.proofs.Accesses.{loads_clean, stores_clean, answers_clean}

six : (a b c d e f : Bool) → a ≡ false → b ≡ false → c ≡ false → d ≡ false → e ≡ false → f ≡ false
    → cond a (Some Empty) (cond b (Some Kind)
    (cond c (Some Bounds) (cond d (Some Align)
    (cond e (Some Frame) (cond f (Some ExitKind) None))))) ≡ None
six a b c d e f p q r s t u = rw (p, q, r, s, t, u) refl

pub clean : (i : Instruction) (setting : Setting) (s : State) (label : Label) (next : State)
    → Does i setting s label next → first_of (commits setting s i) (order_of i) ≡ None
clean (instructions.Arithmetic w op t src) setting s l n d =
    six _ _ _ _ _ _ (result_reads w op (held s t) (operand s src) d.filling d.gives)
    (rw d.gives refl) refl refl (ne_eqb t 10 d.writable) refl
clean (instructions.Negate w t) setting s l n d =
    let r = number_reads _ (held s t) d.filling d.gives in
    six _ _ _ _ _ _ r.0 r.1 refl refl (ne_eqb t 10 d.writable) refl
clean (instructions.SignExtend x t src) setting s l n d =
    let r = number_reads _ (held s src) d.filling d.gives in
    six _ _ _ _ _ _ r.0 r.1 refl refl (ne_eqb t 10 d.writable) refl
clean (instructions.Reorder o w t) setting s l n d =
    let r = number_reads _ (held s t) d.filling d.gives in
    six _ _ _ _ _ _ r.0 r.1 refl refl (ne_eqb t 10 d.writable) refl
clean (instructions.Jump distance) setting s l n d = refl
clean (instructions.LongJump distance) setting s l n d = refl
clean (instructions.Branch w test left right distance) setting s l n d =
    let r = tested_reads w test (held s left) (operand s right) d.taken d.gives in
    six _ _ _ _ _ _ r.0 r.1 refl refl refl refl
clean (instructions.Call number) setting s l n d =
    let c = answers_clean d.answered.helper setting.input (held s 1) (held s 2) l d.answer
    d.answered.answers in
    rw d.answered.known (rw (c.full, c.numbers, c.small) refl)
clean instructions.Exit setting s l n d = elim d [ ]
clean (instructions.Load size t base offset) setting s l n
    (p, at, content, loads, writable, after) =
    let c = loads_clean size _ setting.input s l content loads in
    rw at (six _ _ _ _ _ _ c.full c.readable c.within c.aligned (ne_eqb t 10 writable) refl)
clean (instructions.Store size base offset src) setting s l n (p, at, stack, stores, after) =
    let c = stores_clean size _ (operand s src) s l stack stores in
    rw at (six _ _ _ _ _ _ (rw c.full refl) c.placed c.within c.aligned refl refl)
clean (instructions.LoadNumber t number) setting s l n d =
    six _ _ _ _ _ _ refl refl refl refl (ne_eqb t 10 d.0) refl
clean (instructions.LoadMap t m offset) setting s l n d =
    six _ _ _ _ _ _ refl (rw d.1 refl) refl refl (ne_eqb t 10 d.2) refl

pub exclusive : (setting : Setting) (s next : State) (label : Label) (fault : Fault)
    → Step setting s label next → Stuck setting s fault → ⊥
exclusive setting s next label fault step stuck =
    let none : fault_at setting s ≡ None =
    rw step.at (clean step.instruction setting s label next step.does) in
    cc

pub exit_not_stuck : (setting : Setting) (s : State) (word : ℕ) (fault : Fault)
    → Exits setting s word → Stuck setting s fault → ⊥
exit_not_stuck setting s word fault exits stuck =
    let none : fault_at setting s ≡ None = rw exits.at (rw exits.answers refl) in
    cc

pub step_not_exit : (setting : Setting) (s next : State) (label : Label) (word : ℕ)
    → Step setting s label next → Exits setting s word → ⊥
step_not_exit setting s next label word step exits =
    let same : step.instruction ≡ instructions.Exit = cc (step.at, exits.at) in
    let none : Does instructions.Exit setting s label next = rw same at step.does in
    elim none [ ]
