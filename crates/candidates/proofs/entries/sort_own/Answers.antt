use Rattle.std.proofs.lemmas.List.Sorted.{Contains-permutation, IsPermutation-sym}
use Rattle.candidates.proofs.entries.sort_own.Goals as goal

pub returns : goal.returns
returns c e = (
  λ t. Contains-permutation _ _ e (IsPermutation-sym _ _ c.sort_unstable_by.ensures.permutation) t,
  λ t. Contains-permutation _ _ e c.sort_unstable_by.ensures.permutation t,
)
