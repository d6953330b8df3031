use Rattle.std.proofs.Common.{◌∙◌, ap, List, lit<}
use Rattle.std.specs.Prelude.{filter}
use Rattle.std.proofs.lemmas.Iterator.Consumers.{YieldsList-end}
use Rattle.std.proofs.lemmas.Iterator.Splits.{YieldsList-from_str_split}
use Rattle.asm.specs.Words.{Word}
use Rattle.asm.specs.Text.{has_bytes}
use Rattle.asm.proofs.reading.words_of.Goals as goal

pub returns : goal.returns
returns c =
    let whole = YieldsList-end (YieldsList-from_str_split 32 c.args.line.now (lit< tt) (cc) (cc)
    (cc)) c.loop-word.yielded _ c.loop-word.yielded_by _ _ c.in-None.is c.next.ensures.steps in
    c.loop-word.invariant ∙ ap (λ (ws : List Word). filter has_bytes ws) whole.0
