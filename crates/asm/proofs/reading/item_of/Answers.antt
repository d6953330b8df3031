use Rattle.std.proofs.Common.{ap, ◌∙◌}
use Rattle.asm.specs.LineViews.{views}
use Rattle.asm.proofs.Items.{reads_found}
use Rattle.asm.proofs.reading.item_of.Goals as goal

pub returns : goal.returns
returns c = reads_found _ _ c.line_of.result
    (ap views c.deref.ensures.value ∙ c.in_ok-words.ensures) c.line_of.ensures.value
    c.line_of.ensures.found
