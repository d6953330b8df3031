-- The labels of a run determine where it leads and what it answers.
use Rattle.std.proofs.Common.{◌≡◌, ℕ, List, [], ◌∷◌, sym, ◌∙◌, subst}
use Rattle.machine.specs.declared.state.State.{State}
use Rattle.machine.specs.Label.{Label}
use Rattle.machine.specs.State.{Setting, start}
use Rattle.machine.specs.Steps.{Exits}
use Rattle.machine.specs.Runs.{Leads, Ends}
use Rattle.machine.specs.declared.state.Content.TheVariants.{Number}
use Rattle.machine.proofs.Determined.{determined}

pub leads_once : (setting : Setting) (labels : List Label) (s a b : State)
    → Leads setting s labels a → Leads setting s labels b → a ≡ b
leads_once setting [] s a b x y = sym x ∙ y
leads_once setting (label ∷ labels) s a b (m, first, more) (n, second, rest) =
    leads_once setting labels m a b more
    (subst (λ (z : State). Leads setting z labels b)
    (determined setting s label n m second first) rest)

same_answer : (setting : Setting) (s : State) (a b : ℕ) → Exits setting s a → Exits setting s b
    → a ≡ b
same_answer setting s a b x y = let e : Number a ≡ Number b = sym x.answers ∙ y.answers in cc

pub ends_once : (setting : Setting) (n m : ℕ) (labels : List Label) (a b : ℕ)
    → Ends setting n labels a → Ends setting m labels b → a ≡ b
ends_once setting n m labels a b x y =
    same_answer setting y.last a b (subst (λ (z : State). Exits setting z a)
    (leads_once setting labels start x.last y.last x.leads y.leads) x.exits) y.exits
