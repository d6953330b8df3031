-- A program is attached at its own hook.
use Rattle.std.proofs.Common.{◌≡◌, ℕ, ◌==◌, Bool, true, false, cond, List, [], ◌∷◌, ◌++◌, ◌≢◌, fold}
use Rattle.std.proofs.Common.{Option, Some, None, IfSome, refl, sym, ap, ◌∙◌, subst, ⊎_elim}
use Rattle.std.proofs.lemmas.Bool.{eqb-true, eq-eqb}
use Rattle.std.proofs.lemmas.Bool.Decides.{eqb_tells}
use Rattle.std.proofs.lemmas.List.Sums.{fold-append}
use Rattle.isa.specs.declared.hook.Hook.{Hook}
use Rattle.isa.specs.declared.hook.Hook.TheVariants.{Count, Tag, Price, Veto}
use Rattle.isa.specs.Hooks.{hook_number}
use Rattle.hooks.specs.declared.operation.LoaderOperation.{LoaderOperation}
use Rattle.hooks.specs.declared.operation.LoaderOperation.TheVariants.{Attach, Detach}
use Rattle.hooks.specs.Operations.{Program, hook_of, outcome_of, after, leaves}
use Rattle.hooks.specs.Laws.{LastDecides}

hook_at : ℕ → Hook
hook_at n = cond (n == 1) Count (cond (n == 2) Tag (cond (n == 3) Price Veto))

hook_at-number : (h : Hook) → hook_at (hook_number h) ≡ h
unfolding hook_at
hook_at-number Count = refl
hook_at-number Tag = refl
hook_at-number Price = refl
hook_at-number Veto = refl

pub number-injective : (h k : Hook) → hook_number h ≡ hook_number k → h ≡ k
number-injective h k e = sym (hook_at-number h) ∙ (ap hook_at e ∙ hook_at-number k)

abbrev pub AtHook : Hook → Option Program → Type 0
AtHook h o = IfSome o (λ p. p.hook ≡ h)

outcome-at : (h : Hook) (op : LoaderOperation) → hook_of op ≡ h → AtHook h (outcome_of op)
outcome-at h (Attach a) e = e
outcome-at h (Detach k) e = tt

chosen : (b : Bool) (x y : Option Program) (h : Hook) → (b ≡ true → AtHook h x) → AtHook h y
    → AtHook h (cond b x y)
chosen true x y h t f = t refl
chosen false x y h t f = f

after-at : (h : Hook) (o : Option Program) (op : LoaderOperation) → AtHook h o
    → AtHook h (after h o op)
after-at h o op at = chosen (hook_number (hook_of op) == hook_number h) (outcome_of op) o h
    (λ t. outcome-at h op (number-injective (hook_of op) h (eqb-true _ _ t))) at

fold-at : (h : Hook) (o : Option Program) (ops : List LoaderOperation) → AtHook h o
    → AtHook h (fold (after h) o ops)
fold-at h o [] at = at
fold-at h o (op ∷ ops) at = fold-at h (after h o op) ops (after-at h o op at)

pub at-leaves : (h : Hook) (ops : List LoaderOperation) → AtHook h (leaves h ops)
at-leaves h ops = fold-at h None ops tt

pub leaves-at : (h : Hook) (ops : List LoaderOperation) (p : Program) → leaves h ops ≡ Some p
    → p.hook ≡ h
leaves-at h ops p e = subst (AtHook h) e (at-leaves h ops)

leaves-snoc : (h : Hook) (ops : List LoaderOperation) (op : LoaderOperation)
    → leaves h (ops ++ op ∷ []) ≡ after h (leaves h ops) op
leaves-snoc h ops op = fold-append (after h) None ops (op ∷ [])

-- the test of the two hooks' numbers
same_number : (h k : Hook) → h ≡ k → (hook_number h == hook_number k) ≡ true
same_number h k e = eq-eqb (hook_number h) (hook_number k) (ap hook_number e)

other_number : (h k : Hook) → h ≢ k → (hook_number h == hook_number k) ≡ false
other_number h k n = ⊎_elim (λ (t : ((hook_number h == hook_number k) ≡ true)
    × (hook_number h ≡ hook_number k)). absurd (n (number-injective h k t.1)))
    (λ (t : ((hook_number h == hook_number k) ≡ false) × (hook_number h ≢ hook_number k)). t.0)
    (eqb_tells (hook_number h) (hook_number k))

pub last_decides : LastDecides
last_decides ops op h = (
  (λ e. leaves-snoc h ops op ∙ ap (λ b. cond b (outcome_of op) (leaves h ops))
      (same_number (hook_of op) h e)),
  (λ n. leaves-snoc h ops op ∙ ap (λ b. cond b (outcome_of op) (leaves h ops))
      (other_number (hook_of op) h n)),
)
