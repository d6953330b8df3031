use Rattle.std.proofs.Common.{◌≡◌, true, false, refl, subst}
use Rattle.std.specs.Prelude.{◌↔◌, IsTrue}
use Rattle.routes.proofs.InTurn.{none_lacks, one_lacks}
use Rattle.routes.proofs.LetIn.{lack_by, tells_stale}
use Rattle.routes.specs.Parts.{LacksAnswers}
use Rattle.routes.specs.Tables.{RouteWords}
use Rattle.routes.proofs.answered.is_stale.Goals as goal

pub returns-then-met-candidates : goal.returns-then-met-candidates
returns-then-met-candidates c =
    tells_stale c.args.answers.now c.args.candidates.now false (
      (λ t. absurd (let no : false ≡ true = t in cc)),
      (λ lacks. absurd (none_lacks c.args.answers.now c.args.candidates.now
          c.answered_in_turn-met.result c.if-met-candidates.true c.answered_in_turn-met.ensures.each
          lacks)),
    )

pub returns-then-not-is_answered_from : goal.returns-then-not-is_answered_from
returns-then-not-is_answered_from c contents root are =
    let answers = c.args.answers.now in
    let candidates = c.args.candidates.now in
    let met = c.answered_in_turn-met.result in
    let behind = c.is_answered_from.ensures c.if-not-is_answered_from.true in
    let lacks = one_lacks answers candidates met c.index-candidates-met.result
    c.if-met-candidates.false c.index-candidates-met.is are.ascending
    c.answered_in_turn-met.ensures.each behind in
    tells_stale answers candidates true ((λ t. lacks), (λ any. refl)) contents root are

pub returns-then-are_in_order : goal.returns-then-are_in_order
returns-then-are_in_order c = tells_stale c.args.answers.now c.args.candidates.now
    c.is_stale_by_sorted.result c.is_stale_by_sorted.ensures

pub returns : goal.returns
returns c =
    let b = c.is_stale_by_sorted-2.result in
    let lacks = subst (λ (made : RouteWords). IsTrue b ↔ LacksAnswers made c.args.candidates.now)
    c.deref.ensures.value c.is_stale_by_sorted-2.ensures in
    tells_stale c.args.answers.now c.args.candidates.now b
    (lack_by c.in_ok-ordered.ordered.items c.args.answers.now c.args.candidates.now b
    c.in_ok-ordered.ensures.same lacks)
