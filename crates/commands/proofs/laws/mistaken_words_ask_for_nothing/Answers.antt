use Rattle.commands.proofs.OneRequest.{mistaken}
use Rattle.commands.proofs.laws.mistaken_words_ask_for_nothing.Goals as goal

pub returns : goal.returns
returns c = mistaken
