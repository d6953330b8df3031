use Rattle.std.proofs.Common.{List, arith, ◌∙◌, subst}
use Rattle.std.proofs.lemmas.List.{take_all}
use Rattle.std.specs.List.{All}
use Rattle.routes.specs.declared.hop.Hop.{Hop}
use Rattle.routes.specs.Loops.{IsMarkedBefore}
use Rattle.routes.proofs.Marks.{all_of_them, one_more}
use Rattle.routes.proofs.marking.mark_all.Goals as goal

pub loop-hop-preserved : goal.loop-hop-preserved
loop-hop-preserved c = one_more c.args.hops.now c.args.costs.now c.loop-hop.marks
    c.mark_loops_before.new.marks c.loop-hop.hop-index _ c.loop-hop-test.true c.loop-hop.invariant
    c.in_ok-mark_loops_before.ensures

pub returns : goal.returns
returns c =
    let hops = c.args.hops.now in
    let P : List Hop → Type 0 = λ xs. All (IsMarkedBefore hops c.args.costs.now c.loop-hop.marks) xs
    in
    let before : P hops = subst P (take_all c.loop-hop.hop-index hops (omega arith))
    c.loop-hop.invariant.before in
    all_of_them hops c.args.costs.now c.loop-hop.marks (c.loop-hop.auto.marks ∙ c.requires.count)
    c.loop-hop.invariant.sound c.loop-hop.invariant.whole before
