use Rattle.std.proofs.Common.{◌<◌, ◌≤◌, true, false, length, refl, arith}
use mathlib.Core.Bool.{false≢true}
use Rattle.std.proofs.lemmas.Bool.{eqb-true}
use Rattle.routes.proofs.InTurn.{all_answered, none_lacks, one_lacks}
use Rattle.routes.proofs.LetIn.{tells_stale}
use Rattle.routes.proofs.InPages.{first_of_part}
use Rattle.routes.proofs.shared.compare_in_turn.Goals as goal

pub bounds-behind-0 : goal.bounds-behind-0
bounds-behind-0 c =
    let size = c.len.ensures in
    c.part_from-behind.ensures.some (omega (arith, c.if-met-len.false, size))

pub returns-then-met-len : goal.returns-then-met-len
returns-then-met-len c =
    let answers = c.args.answers.now in
    let candidates = c.args.candidates.now in
    let met = c.answered_in_pages-met.result in
    let size = c.len.ensures in
    let whole : length candidates ≤ met = omega (arith, c.if-met-len.true, size) in
    let each = c.answered_in_pages-met.ensures in
    record {
      lacks = tells_stale answers candidates false (
        (λ t. absurd (false≢true t)),
        (λ lacks. absurd (none_lacks answers candidates met whole each lacks)),
      );
      only_candidates = λ on.
          let as_long = eqb-true (length answers) c.len-then-met-len.result on in
          let few : length answers ≤ length candidates =
          omega (arith, as_long, c.len-then-met-len.ensures) in
          all_answered answers candidates met few whole each;
    }

pub returns : goal.returns
returns c =
    let answers = c.args.answers.now in
    let candidates = c.args.candidates.now in
    let met = c.answered_in_pages-met.result in
    let route = c.index-behind-0.result in
    let size = c.len.ensures in
    let inside : met < length candidates = omega (arith, c.if-met-len.false, size) in
    let here = first_of_part candidates met c.part_from-behind.result.now route
    c.part_from-behind.ensures inside c.index-behind-0.is in
    let behind = c.is_answered_from.ensures c.if-is_answered_from.false in
    record {
      lacks = λ contents root are.
          let lacks = one_lacks answers candidates met route inside here are.ascending
          c.answered_in_pages-met.ensures behind in
          tells_stale answers candidates true ((λ t. lacks), (λ any. refl)) contents root are;
      only_candidates = λ on. absurd (false≢true on);
    }
