use Rattle.std.proofs.Common.{sym, ap, ◌∙◌}
use Rattle.isa.specs.Hooks.{hook_number}
use Rattle.hooks.specs.Shown.{published_operations}
use Rattle.hooks.proofs.Leaves.{leaves-at}
use Rattle.hooks.proofs.value.Programs.answer.Goals as goal

pub run-requires-clause-hook : goal.run-requires-clause-hook
run-requires-clause-hook c =
    c.hook_of-hook.ensures ∙ sym (ap hook_number
    (leaves-at c.hook_of-hook.result (published_operations c.args.self.now) _
    (sym c.slot.ensures ∙ c.in-Some.ensures)))
