use Rattle.std.proofs.Common.{◌≡◌, true, false, sym, ◌∙◌, arith}
use Rattle.std.specs.Ordering.{is_lt}
use Rattle.routes.specs.Orders.{answer_cmp}
use Rattle.routes.proofs.Adjacent.{at_places, one_more, out_of_order}
use Rattle.routes.proofs.order.are_in_order.Goals as goal

pub returns-then-comes_before : goal.returns-then-comes_before
returns-then-comes_before c =
    let xs = c.args.answers.now in
    let n = c.loop-at.at in
    let after = c.index-answers-at.result in
    let less : is_lt (answer_cmp after c.index-answers-at-in-loop-at.result) ≡ true =
    sym c.comes_before.ensures ∙ c.if-comes_before.true in
    let here = at_places answer_cmp xs n after c.index-answers-at-in-loop-at.result after true
    (omega arith) c.index-answers-at.is c.index-answers-at-in-loop-at.is less in (
      (λ t. absurd (let no : false ≡ true = t in cc)),
      (λ sorted. absurd (out_of_order answer_cmp xs n after (omega arith) (omega arith) here
          (λ k d low. sorted k d (omega arith) low))),
    )

pub loop-at-preserved : goal.loop-at-preserved
loop-at-preserved c =
    let xs = c.args.answers.now in
    let n = c.loop-at.at in
    let more : is_lt (answer_cmp c.index-answers-at.result c.index-answers-at-in-loop-at.result)
    ≡ false = sym c.comes_before.ensures ∙ c.if-comes_before.false in
    one_more answer_cmp xs n (omega arith) c.loop-at.invariant
    (λ d. at_places answer_cmp xs n c.index-answers-at.result c.index-answers-at-in-loop-at.result d
    false (omega arith) c.index-answers-at.is c.index-answers-at-in-loop-at.is more)
