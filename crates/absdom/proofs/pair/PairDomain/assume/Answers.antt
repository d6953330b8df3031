use Rattle.absdom.proofs.pair.PairDomain.assume.Goals as goal

pub returns-clause-gives : goal.returns-clause-gives
returns-clause-gives g c = (
  (c.in_ok-left_first.left_first, c.in_ok-left_first.right_first),
  (c.in_ok-left_second.left_second, c.in_ok-left_second.right_second),
  c.in_ok-left_first.ensures.gives,
  c.in_ok-left_second.ensures.gives,
  c.in_ok-left.ensures.gives,
  c.in_ok-right.ensures.gives,
)
