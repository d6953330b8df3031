-- Which rules an instruction may be refused by.
use Rattle.isa.specs.declared.hook.Hook.{Hook}
use Rattle.isa.specs.declared.instruction.Instruction.{Instruction}
use Rattle.transfer.specs.declared.rule.Rule.{Rule}
use Rattle.transfer.specs.declared.rule.Rule.TheVariants as rules
use Rattle.transfer.specs.Rules.{MayName, IsOfUse, IsOfExit}
use Rattle.verifier.specs.Refusals.{IsOfEdge, MayRefuseInstruction}

pub edge_follows : (hook : Hook) (i : Instruction) (rule : Rule) → IsOfEdge rule
    → MayRefuseInstruction hook i rule
edge_follows hook i rules.Target is = is
edge_follows hook i rules.FallsOff is = is
edge_follows hook i rules.Unreached is = is
edge_follows hook i rules.Unstated is = is
edge_follows hook i rules.Empty is = tt
edge_follows hook i rules.Kind is = tt
edge_follows hook i rules.Bounds is = tt
edge_follows hook i rules.Align is = tt
edge_follows hook i rules.Helper is = absurd is
edge_follows hook i rules.Argument is = tt
edge_follows hook i rules.NotWithin is = tt
edge_follows hook i rules.Rank is = tt
edge_follows hook i rules.Budget is = is
edge_follows hook i rules.ExitKind is = tt
edge_follows hook i rules.Frame is = absurd is
edge_follows hook i rules.Memory is = is

pub use_follows : (hook : Hook) (i : Instruction) (rule : Rule) → IsOfUse rule
    → MayRefuseInstruction hook i rule
use_follows hook i rules.Target is = is
use_follows hook i rules.FallsOff is = is
use_follows hook i rules.Unreached is = is
use_follows hook i rules.Unstated is = is
use_follows hook i rules.Empty is = tt
use_follows hook i rules.Kind is = tt
use_follows hook i rules.Bounds is = tt
use_follows hook i rules.Align is = tt
use_follows hook i rules.Helper is = absurd is
use_follows hook i rules.Argument is = tt
use_follows hook i rules.NotWithin is = tt
use_follows hook i rules.Rank is = tt
use_follows hook i rules.Budget is = is
use_follows hook i rules.ExitKind is = tt
use_follows hook i rules.Frame is = absurd is
use_follows hook i rules.Memory is = is

pub named_follows : (hook : Hook) (i : Instruction) (rule : Rule) → MayName hook i rule
    → MayRefuseInstruction hook i rule
named_follows hook i rules.Target is = is
named_follows hook i rules.FallsOff is = is
named_follows hook i rules.Unreached is = is
named_follows hook i rules.Unstated is = is
named_follows hook i rules.Empty is = tt
named_follows hook i rules.Kind is = tt
named_follows hook i rules.Bounds is = tt
named_follows hook i rules.Align is = tt
named_follows hook i rules.Helper is = is
named_follows hook i rules.Argument is = tt
named_follows hook i rules.NotWithin is = tt
named_follows hook i rules.Rank is = tt
named_follows hook i rules.Budget is = is
named_follows hook i rules.ExitKind is = tt
named_follows hook i rules.Frame is = is
named_follows hook i rules.Memory is = is

pub exit_follows : (hook : Hook) (i : Instruction) (rule : Rule) → IsOfExit rule
    → MayRefuseInstruction hook i rule
exit_follows hook i rules.Target is = is
exit_follows hook i rules.FallsOff is = is
exit_follows hook i rules.Unreached is = is
exit_follows hook i rules.Unstated is = is
exit_follows hook i rules.Empty is = tt
exit_follows hook i rules.Kind is = tt
exit_follows hook i rules.Bounds is = tt
exit_follows hook i rules.Align is = tt
exit_follows hook i rules.Helper is = absurd is
exit_follows hook i rules.Argument is = tt
exit_follows hook i rules.NotWithin is = tt
exit_follows hook i rules.Rank is = tt
exit_follows hook i rules.Budget is = is
exit_follows hook i rules.ExitKind is = tt
exit_follows hook i rules.Frame is = absurd is
exit_follows hook i rules.Memory is = is
