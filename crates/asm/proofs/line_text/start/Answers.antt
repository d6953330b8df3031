use Rattle.asm.proofs.Spaced.{go_on, on_ok}
use Rattle.asm.proofs.line_text.start.Goals as goal

pub returns : goal.returns
returns c = on_ok c.next_words.result (go_on c.in_ok-first.ensures) c.next_words.ensures
