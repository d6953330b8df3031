use Rattle.std.proofs.Common.{ℕ, List, subst}
use Rattle.std.specs.Prelude.{IfNone}
use Rattle.hooktool.proofs.Hooked.{unread}
use Rattle.hooktool.specs.Builds.{IsForNoHook}
use Rattle.hooktool.proofs.building.hook_in.Goals as goal

pub returns-in-Ok-clause-none : goal.returns-in-Ok-clause-none
returns-in-Ok-clause-none c =
    subst (λ (name : List ℕ). IfNone c.hook_of.result (IsForNoHook c.args.given name))
    c.in-Ok.ensures.cases.0 c.hook_of.ensures.none

pub returns-in-Err-clause-none : goal.returns-in-Err-clause-none
returns-in-Err-clause-none c =
    unread c.args.given c.args.section.now c.in-Err.ensures.cases.0
