use Rattle.std.proofs.Common.{sym, ◌∙◌}
use Rattle.object.proofs.laws.object_has_one_spelling.Goals as goal

pub returns : goal.returns
returns c a b object p q = p.spelled ∙ sym q.spelled
