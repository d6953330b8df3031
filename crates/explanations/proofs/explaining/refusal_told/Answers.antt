use Rattle.std.proofs.Common.{◌≡◌, ◌∙◌, ap, string_bytes, ℕ, List, ◌++◌, codes, decimal}
use Rattle.std.proofs.lemmas.Result.{IfOk-weaker}
use Rattle.explanations.specs.Told.{refused_words}
use Rattle.explanations.proofs.Refusals.{refused_text}
use Rattle.explanations.proofs.explaining.refusal_told.Goals as goal

-- src/explaining.rt: the parts of the text, one after the other
pub returns : goal.returns
returns c =
    let more = c.args.more.now in
    let told : ℕ → List ℕ = λ rule. codes "refused slot "
    ++ (decimal c.args.refusal.slot ++ (codes " rule " ++ (decimal rule ++ more))) in
    IfOk-weaker c.format.result (λ text. string_bytes text ≡ told c.number-rule.result)
    (λ text. string_bytes text ≡ refused_words c.args.refusal ++ more)
    (λ text is. is ∙ ap told c.number-rule.ensures ∙ refused_text c.args.refusal more)
    c.format.ensures.ok
