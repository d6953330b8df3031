use Rattle.commands.proofs.OneRequest.{one_request}
use Rattle.commands.proofs.laws.words_make_one_request.Goals as goal

pub returns : goal.returns
returns c = one_request
