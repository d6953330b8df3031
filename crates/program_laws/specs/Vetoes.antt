-- What a program at `veto` can't do: other routers don't notice its answers.
use Rattle.std.specs.Prelude.{◌≡◌, ℕ, List, []}
use Rattle.words.specs.Numbers.{Moment}
use Rattle.words.specs.declared.route.Route.{Route}
use Rattle.event_rules.specs.Events.{Happens}
use Rattle.event_rules.specs.Routers.{Occurrence, Router}
use Rattle.event_rules.specs.declared.model.Out.{Out}

-- a router without the answers of its last `Install`
abbrev pub without_answers : Router → Router
without_answers r = record r { answers = [] }

-- two `Install`s of one router at one moment, with any answers
abbrev pub VetoesAreNotHeard : Type 0
VetoesAreNotHeard =
    (old : Router) (moment : Moment) (answers others : List (Route × ℕ)) (outs these : List Out)
    (new next : Router)
    → Happens old moment (Occurrence.Install answers) outs new
    → Happens old moment (Occurrence.Install others) these next
    → (outs ≡ these) × (without_answers new ≡ without_answers next)
