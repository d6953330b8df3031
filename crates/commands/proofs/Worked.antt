-- Worked command lines, computed.
use Rattle.std.proofs.Common.{◌≡◌, ◌∙◌, ap, subst, refl, arith, ℕ, List, [], ◌∷◌, codes, inl, inr}
use Rattle.std.specs.Prelude.{replicate}
use Rattle.std.specs.Borrow.{Bor}
use Rattle.clap.proofs.OnLiterals.{clap_on_literals}
use Rattle.clap.specs.Faults.{fault_of}
use Rattle.clap.specs.Kinds.{Kinds}
use Rattle.clap.specs.Simple.{App}
use Rattle.clap.specs.Walk.{Text}
use Rattle.commands.proofs.Plain.{run}
use Rattle.commands.proofs.PlainRaw.{raw}
use Rattle.commands.specs.CommandLine.{hook_names, line_with}
use Rattle.commands.specs.Laws.{IsPlain}
use Rattle.commands.specs.Requests.{Asks}
use Rattle.commands.specs.Worked.{AWordIsMissing, AWordTooMany, Fails, AFlagFails, HelpIsShown}
use Rattle.commands.specs.Worked.{NoSeatsFail, NoWordsGetHelp, RawAsks, RunAsks}
use Rattle.commands.specs.Worked.{TooManySeatsFail, UnknownCommandFails, UnknownHookFails}
use Rattle.commands.specs.declared.requests.CommandRequest.TheVariants as requests
use Rattle.isa.specs.declared.hook.Hook.TheVariants as hooks

-- the names of the hooks at one place
abbrev hooks_at : ℕ × ℕ → ℕ × ℕ → ℕ × ℕ → ℕ × ℕ → ℕ × ℕ → Bor (List (Bor Text))
hooks_at at a b c d = record { ref_ptr = at; now = hook_names a b c d }

-- what holds of the line with the names at each address holds of each line
each_line : (words : List Text) (mistakes : Kinds)
    → ((at a b c d : ℕ × ℕ) → fault_of (line_with (hooks_at at a b c d)) words ≡ mistakes)
    → Fails words mistakes
each_line words mistakes holds line own =
    ap (λ (l : App). fault_of l words) (own.6 ∙ ap line_with (named own.0 own.5))
    ∙ holds own.0.ref_ptr own.1 own.2 own.3 own.4
  where
    named : (hooks : Bor (List (Bor Text))) → hooks.now ≡ hook_names own.1 own.2 own.3 own.4
        → hooks ≡ hooks_at hooks.ref_ptr own.1 own.2 own.3 own.4
    named hooks e = ap (λ (names : List (Bor Text)). record {
      ref_ptr = hooks.ref_ptr;
      now = names;
    }) e

pub help : NoWordsGetHelp
unfolding clap_on_literals
help = each_line _ _ (λ at a b c d. refl)

pub too_many : TooManySeatsFail
unfolding clap_on_literals
too_many = each_line _ _ (λ at a b c d. refl)

pub none : NoSeatsFail
unfolding clap_on_literals
none = each_line _ _ (λ at a b c d. refl)

pub unknown : UnknownHookFails
unfolding clap_on_literals
unknown = each_line _ _ (λ at a b c d. refl)

pub missing : AWordIsMissing
unfolding clap_on_literals
missing = each_line _ _ (λ at a b c d. refl)

pub more : AWordTooMany
unfolding clap_on_literals
more = each_line _ _ (λ at a b c d. refl)

pub asked : HelpIsShown
unfolding clap_on_literals
asked = each_line _ _ (λ at a b c d. refl)

pub other_command : UnknownCommandFails
unfolding clap_on_literals
other_command = each_line _ _ (λ at a b c d. refl)

pub flag : AFlagFails
unfolding clap_on_literals
flag = each_line _ _ (λ at a b c d. refl)

pub raw_asks : RawAsks
raw_asks file e line own =
    let plain : IsPlain file.now = rw e (inl (λ (same : ◌≡◌ {A = ℕ} 97 45). omega arith)) in
    let asks = raw line (codes "routerd") (codes "2") hooks.Count file 2 own plain
    ((omega arith, (omega arith, tt)), refl, omega arith, omega arith) in
    subst (λ (t : Text). Asks line (codes "routerd" ∷ codes "raw" ∷ codes "count" ∷ t ∷ codes "2"
    ∷ []) (requests.Raw hooks.Count file 2)) e asks

pub run_asks : RunAsks
run_asks object packet e none line own =
    let plain : IsPlain object.now = rw e (inl (λ (same : ◌≡◌ {A = ℕ} 97 45). omega arith)) in
    let asks = run line (codes "routerd") (codes "-") (codes "-") object (replicate 64 0) packet own
    plain (inr refl) (inr refl) (inl (refl, refl)) (inl (refl, none)) in
    subst (λ (t : Text). Asks line (codes "routerd" ∷ codes "run" ∷ t ∷ codes "-" ∷ codes "-" ∷ [])
    (requests.Run object (replicate 64 0) packet)) e asks
