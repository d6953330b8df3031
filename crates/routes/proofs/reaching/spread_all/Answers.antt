use Rattle.std.proofs.Common.{List, arith, length, subst}
use Rattle.std.proofs.lemmas.List.{take_all}
use Rattle.std.specs.List.{All}
use Rattle.routes.specs.declared.hop.Hop.{Hop}
use Rattle.routes.specs.Loops.{IsPassedOn}
use Rattle.routes.proofs.Walks.{all_marked}
use Rattle.routes.proofs.reaching.spread_all.Goals as goal

pub returns-clause-complete : goal.returns-clause-complete
returns-clause-complete c =
    let hops = c.args.hops.now in
    let P : List Hop → Type 0 = λ xs. All (IsPassedOn c.args.start c.spread.new.marks) xs in
    let passed : P hops = subst P (take_all (length hops) hops (omega arith))
    (c.spread.ensures.closed c.loop-test.false) in
    λ k walk. all_marked hops c.args.start c.spread.new.marks passed walk
