use Rattle.std.proofs.Common.{◌≡◌, ◌∙◌, List, [], None, MatchOption, refl, ap, subst, sym}
use Rattle.isa.specs.declared.hook.Hook.TheVariants.{Veto}
use Rattle.isa.specs.Hooks.{hook_number}
use Rattle.machine.specs.Given.{given_by}
use Rattle.machine.specs.Label.{Label}
use Rattle.helpers.proofs.Seats.{makes_none}
use Rattle.hooks.specs.Operations.{RunsTo, default_of, leaves}
use Rattle.hooks.specs.Shown.{published_operations}
use Rattle.hooks.proofs.Leaves.{leaves-at}
use Rattle.hooks.proofs.value.Programs.at_veto.Goals as goal

pub run_in-requires-clause-hook : goal.run_in-requires-clause-hook
run_in-requires-clause-hook c =
    c.requires.asked ∙ sym (ap hook_number
    (leaves-at Veto (published_operations c.args.self.now) _
    (sym c.requires.stands.3 ∙ c.in-Some.ensures)))

pub returns-in-None-clause-answered : goal.returns-in-None-clause-answered
returns-in-None-clause-answered c =
    let input = given_by c.args.input.now in
    let labels : List Label = [] in
    let vacant : leaves Veto (published_operations c.args.self.now) ≡ None =
    sym c.requires.stands.3 ∙ c.in-None.ensures in (
      labels,
      makes_none c.args.seat.now,
      (
        Veto,
        c.requires.asked,
        subst (λ o. MatchOption o ((labels ≡ []) × (0 ≡ default_of Veto input))
            (λ program. RunsTo program input labels 0)) (sym vacant) (refl, refl),
      ),
    )
