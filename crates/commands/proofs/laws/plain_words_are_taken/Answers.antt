use Rattle.commands.proofs.Plain.{asm, list, route, run, verify}
use Rattle.commands.proofs.PlainRaw.{raw}
use Rattle.commands.proofs.laws.plain_words_are_taken.Goals as goal

pub returns : goal.returns
returns c = (raw, run, asm, list, verify, route)
