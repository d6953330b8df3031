use Rattle.std.proofs.Common.{refl}
use Rattle.adjacency.proofs.laws.a_worked_conversation.Goals as goal

pub returns : goal.returns
returns c = record {
  is_begun = refl;
  is_initial_description = refl;
  follows = refl;
  leads_not = refl;
  repeats = refl;
  mismatches = refl;
  counts_on = refl;
}
