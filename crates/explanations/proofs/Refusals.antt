-- The text of a refusal.
use Rattle.std.proofs.Common.{◌≡◌, ◌++◌, ℕ, List, Err, append_assoc, codes, decimal}
use Rattle.verifier.specs.declared.error.VerifyError.TheVariants as errors
use Rattle.transfer.specs.Rules.{rule_number}
use Rattle.verifier.specs.declared.refusal.Refusal.{Refusal}
use Rattle.explanations.specs.Told.{TellsVerdict, refused_words}

pub tells_refusal : (refusal : Refusal) (text more : List ℕ) → text ≡ refused_words refusal ++ more
    → TellsVerdict (Err (errors.Refused refusal)) text
tells_refusal refusal text more is = (more, is)

pub refused_text : (refusal : Refusal) (more : List ℕ)
    → codes "refused slot " ++ (decimal refusal.slot
    ++ (codes " rule " ++ (decimal (rule_number refusal.rule) ++ more))) ≡ refused_words refusal
    ++ more
refused_text refusal more = simp append_assoc
